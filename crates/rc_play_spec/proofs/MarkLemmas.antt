-- Marks that are taken away, and marks that a card gets.
use Rattle.std.proofs.Common.{◌≡◌, ℕ, zero, suc, ◌<◌, ◌==◌, ◌&&◌, ◌||◌, not, Bool, true, false, cond, List, [], ◌∷◌, length, slice_get, slice_set, get_or, replicate, zip, Some, refl, sym, ap, ◌∙◌, subst, arith, length-set, true≢false}
use Rattle.std.specs.Prelude.{All, AllPairs, filter}
use Rattle.std.specs.List.{list_any, AllByRecursion}
use Rattle.std.proofs.lemmas.Bool.Decides.{Decides-eqb}
use Rattle.std.proofs.lemmas.List.Elements.{All-nil, All-head, All-tail, All-set, All-get_or, All-filter, All-from_get_or, filter_passes, recursion_from_All}
use Rattle.std.proofs.lemmas.List.Kept.{AllPairs-filter}
use Rattle.std.proofs.lemmas.Option.{slice_get_within, get_or_from_slice_get}
use Rattle.rc_base.specs.Numbers.{below}
use Rattle.rc_sheet_spec.specs.WellFormed.{is_mem}
use Rattle.rc_play_spec.specs.Shape.{Place, Shape}
use Rattle.rc_play_spec.specs.Sees.{sees_place, sees}
use Rattle.rc_play_spec.specs.Table.{Table, IsSound, AreSeats, HidesMarked, marks_of, is_marked, cleared, list_at, loc_of, set_marks}
use Rattle.rc_play_spec.proofs.TableLemmas.{zip-get, length-zip, get_or-any}
use Rattle.rc_play_spec.proofs.Ids.{below_within, below_pairs}

pub no_seats : (players : ℕ) → AreSeats players []
no_seats players = record { ascending = λ j k d before less. absurd (omega (arith, less)); within = All-nil (λ seat. seat < players) }

-- what holds of each mark of a card held of it before
abbrev pub Fewer : List (List ℕ) → List (List ℕ) → Type 1
Fewer marks marks' = (id : ℕ) (P : ℕ → Type 0) → All P (marks_of marks id) → All P (marks_of marks' id)

pub set_fewer : (marks : List (List ℕ)) (id : ℕ) → Fewer marks (slice_set marks id [])
set_fewer [] id other P all = all
set_fewer (m ∷ marks) zero zero P all = All-nil P
set_fewer (m ∷ marks) zero (suc other) P all = all
set_fewer (m ∷ marks) (suc id) zero P all = all
set_fewer (m ∷ marks) (suc id) (suc other) P all = set_fewer marks id other P all

pub cleared_fewer : (ids : List ℕ) (marks : List (List ℕ)) → Fewer marks (cleared ids marks)
cleared_fewer [] marks other P all = all
cleared_fewer (id ∷ ids) marks other P all = cleared_fewer ids (slice_set marks id []) other P (set_fewer marks id other P all)

pub cleared_length : (ids : List ℕ) (marks : List (List ℕ)) → length (cleared ids marks) ≡ length marks
cleared_length [] marks = refl
cleared_length (id ∷ ids) marks = cleared_length ids (slice_set marks id []) ∙ length-set marks id []

pub cleared_seats : (players : ℕ) (ids : List ℕ) (marks : List (List ℕ)) → All (AreSeats players) marks → All (AreSeats players) (cleared ids marks)
cleared_seats players [] marks all = all
cleared_seats players (id ∷ ids) marks all =
    cleared_seats players ids (slice_set marks id []) (All-set (AreSeats players) marks id [] (no_seats players) all)

-- a card whose marks were taken has none
pub set_none : (marks : List (List ℕ)) (id : ℕ) → marks_of (slice_set marks id []) id ≡ []
set_none [] id = refl
set_none (m ∷ marks) zero = refl
set_none (m ∷ marks) (suc id) = set_none marks id

pub none_marked : (n id : ℕ) → marks_of (replicate n []) id ≡ []
none_marked zero id = refl
none_marked (suc n) zero = refl
none_marked (suc n) (suc id) = none_marked n id

-- the marks of one card, and those of another
pub set_marked : (marks : List (List ℕ)) (id : ℕ) (seats : List ℕ) → id < length marks → marks_of (slice_set marks id seats) id ≡ seats
set_marked [] id seats less = absurd (omega (arith, less))
set_marked (m ∷ marks) zero seats less = refl
set_marked (m ∷ marks) (suc id) seats less = set_marked marks id seats (omega (arith, less))

pub set_other : (marks : List (List ℕ)) (id other : ℕ) (seats : List ℕ) → (id ≡ other → ⊥) → marks_of (slice_set marks id seats) other ≡ marks_of marks other
set_other [] id other seats differ = refl
set_other (m ∷ marks) zero zero seats differ = absurd (differ refl)
set_other (m ∷ marks) zero (suc other) seats differ = refl
set_other (m ∷ marks) (suc id) zero seats differ = refl
set_other (m ∷ marks) (suc id) (suc other) seats differ = set_other marks id other seats (λ e. differ (omega (arith, e)))

module _ (shape : Shape) where
  abbrev pub Unseen : Place → ℕ → Type 0
  Unseen p seat = sees_place shape seat (Some p) ≡ false

  abbrev pub Hides : List (List ℕ) → Place → ℕ → Type 0
  Hides marks p id = All (Unseen p) (marks_of marks id)

  pub hides_fewer : (marks marks' : List (List ℕ)) → Fewer marks marks' → (p : Place) (ids : List ℕ) → All (Hides marks p) ids → All (Hides marks' p) ids
  hides_fewer marks marks' fewer p ids all k d less = fewer (get_or ids k d) (Unseen p) (all k d less)

  pub all_hide_fewer : (marks marks' : List (List ℕ)) → Fewer marks marks' → (ats : List (Place × List ℕ)) → All (HidesMarked shape marks) ats →
      All (HidesMarked shape marks') ats
  all_hide_fewer marks marks' fewer ats all k d less held = hides_fewer marks marks' fewer (get_or ats k d).0 (get_or ats k d).1 (all k d less held)

  pub hides_at : (marks lists : List (List ℕ)) (loc : ℕ) (p : Place) → All (HidesMarked shape marks) (zip shape.places lists) → loc < length shape.places →
      loc < length lists → p ≡ get_or shape.places loc p → is_mem p.kind ≡ false → All (Hides marks p) (get_or lists loc [])
  hides_at marks lists loc p all within within' is =
      subst (HidesMarked shape marks) (zip-get shape.places lists loc p (get_or lists loc []) within within' is (get_or-any lists loc [] within'))
      (All-get_or (HidesMarked shape marks) (zip shape.places lists) loc (p, get_or lists loc []) (length-zip shape.places lists loc within within') all)

  pub none_hides : (marks : List (List ℕ)) (p : Place) (id : ℕ) → marks_of marks id ≡ [] → Hides marks p id
  none_hides marks p id none = subst (All (Unseen p)) (sym none) (All-nil (Unseen p))
