-- The cards of a location that the current player sees.
use Rattle.std.proofs.Common.{◌≡◌, ℕ, zero, suc, ◌<◌, ◌≤◌, ◌==◌, ◌||◌, Bool, true, false, cond, List, [], ◌∷◌, length, map, slice_get, Option, Some, None, refl, sym, ap, ◌∙◌, true≢false, arith}
use Rattle.std.specs.Prelude.{All, filter}
use Rattle.std.specs.List.{list_any}
use Rattle.std.proofs.lemmas.Bool.Decides.{Decides-eqb}
use Rattle.std.proofs.lemmas.List.{length-map, take_all}
use Rattle.std.proofs.lemmas.List.Elements.{All-head, All-tail}
use Rattle.rc_sheet_spec.specs.Sheet.{Class, LocKind, vloc, iloc, hloc, mem}
use Rattle.rc_sheet_spec.specs.WellFormed.{is_mem}
use Rattle.rc_play_spec.specs.Owners.{mover}
use Rattle.rc_play_spec.specs.Shape.{Place, Shape, holds_references}
use Rattle.rc_play_spec.specs.Sees.{sees_kind, sees_place, sees}
use Rattle.rc_play_spec.specs.Table.{AreSeats, is_marked, list_at}
use Rattle.rc_play_spec.specs.Scene.{held, value_in, seen_of}
use Rattle.rc_play_spec.specs.Value.{cut}
use Rattle.rc_ast.specs.Sheet.{sheet_seen}
use Rattle.rc_rules.specs.Control.{frames_seen}
use Rattle.rc_value.specs.declared.scene.Scene.{Scene}
use Rattle.rc_value.specs.Scene.{scene_seen}

-- nobody but a player has a mark
other_seat : (a b : ℕ) (c : Bool) → (a == b) ≡ c → (a ≡ b → ⊥) → c ≡ false
other_seat a b true e differ = absurd (differ ((Decides-eqb a b).0 e))
other_seat a b false e differ = refl

none_like : (players seat : ℕ) (seats : List ℕ) → All (λ other. other < players) seats → players ≤ seat → list_any (λ other. other == seat) seats ≡ false
none_like players seat [] all le = refl
none_like players seat (s ∷ seats) all le =
    let less = All-head (λ other. other < players) s seats all in
    ap (λ b. b || list_any (λ other. other == seat) seats) (other_seat s seat (s == seat) refl (λ e. omega (arith, less, le, e)))
    ∙ none_like players seat seats (All-tail (λ other. other < players) s seats all) le

pub no_mark : (players seat : ℕ) (marks : List (List ℕ)) (id : ℕ) → All (AreSeats players) marks → players ≤ seat → is_marked marks seat id ≡ false
no_mark players seat [] id all le = refl
no_mark players seat (m ∷ marks) zero all le = none_like players seat m (All-head (AreSeats players) m marks all).within le
no_mark players seat (m ∷ marks) (suc id) all le = no_mark players seat marks id (All-tail (AreSeats players) m marks all) le

-- what isn't seen holds no references
unseen_kind : (shape : Shape) (seat : ℕ) (kind : LocKind) (class : Class) (owner : ℕ) → sees_kind shape seat kind class owner ≡ false → is_mem kind ≡ false
unseen_kind shape seat vloc class owner e = refl
unseen_kind shape seat iloc class owner e = refl
unseen_kind shape seat hloc class owner e = refl
unseen_kind shape seat mem class owner e = absurd (true≢false e)

unseen_holds : (shape : Shape) (seat : ℕ) (p : Option Place) → sees_place shape seat p ≡ false → holds_references p ≡ false
unseen_holds shape seat None e = refl
unseen_holds shape seat (Some place) e = unseen_kind shape seat place.kind place.class place.owner e

helds : (at : ℕ) (ids : List ℕ) → map held ids ≡ map (value_in false at) ids
helds at [] = refl
helds at (id ∷ ids) = ap (λ cards. held id ∷ cards) (helds at ids)

pub helds_kept : (b : Bool) (id : ℕ) (ids : List ℕ) →
    map held (cond b (id ∷ ids) ids) ≡ cond b (held id ∷ map held ids) (map held ids)
helds_kept true id ids = refl
helds_kept false id ids = refl

kept_few : (b : Bool) (x : ℕ) (xs : List ℕ) (n : ℕ) → length xs ≤ n → length (cond b (x ∷ xs) xs) ≤ suc n
kept_few true x xs n le = omega (arith, le)
kept_few false x xs n le = omega (arith, le)

filter_few : (P : ℕ → Bool) (ids : List ℕ) → length (filter P ids) ≤ length ids
filter_few P [] = omega arith
filter_few P (id ∷ ids) = kept_few (P id) id (filter P ids) (length ids) (filter_few P ids)

-- those of a location that the current player doesn't see, and that are marked for him
pub known_part : (s : Scene) (at : ℕ) → sees s.table.now.shape s.current.player at ≡ false → length (list_at s.table.now.table at) ≤ 512 →
    map held (filter (is_marked s.table.now.table.marks s.current.player) (list_at s.table.now.table at)) ≡ cut ((scene_seen s).known_at at)
unfolding scene_seen
known_part s at unseen few =
    let shape = s.table.now.shape in
    let table = s.table.now.table in
    let ids = list_at table at in
    let seat = mover (sheet_seen s.sheet.now) (frames_seen s.frames.now) in
    let holds = holds_references (slice_get shape.places at) in
    let known = filter (is_marked table.marks seat) ids in
    let count = length-map known (value_in holds at) in
    let part = filter_few (is_marked table.marks seat) ids in
    ap (λ player. map held (filter (is_marked table.marks player) ids)) s.current_is.0
    ∙ helds at known
    ∙ ap (λ b. map (value_in b at) known) (sym (unseen_holds shape s.current.player (slice_get shape.places at) unseen))
    ∙ sym (take_all 512 (map (value_in holds at) known) (omega (arith, count, part, few)))
    ∙ ap (λ b. cut (map (value_in holds at) (seen_of b table.marks seat ids))) (sym unseen ∙ ap (λ player. sees shape player at) s.current_is.0)
