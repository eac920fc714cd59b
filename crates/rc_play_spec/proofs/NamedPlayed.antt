-- What is played has marks in their ranges, one for each variable of an item.
use Rattle.std.proofs.Common.{◌≡◌, ℕ, zero, suc, ◌+◌, ◌<◌, ◌≤◌, ◌==◌, Bool, true, false, not, if◌then◌else◌, List, [], ◌∷◌, ◌++◌, length, get_or, slice_index_or, Option, Some, None, refl, sym, ap, ◌∙◌, subst, arith}
use Rattle.std.specs.Prelude.{All}
use Rattle.std.specs.List.{AllByRecursion, position_or_len}
use Rattle.std.proofs.lemmas.List.{length-map, length-append, map-append}
use Rattle.rc_base.specs.Transcript.{Pick, Record}
use Rattle.rc_sheet_spec.specs.Sheet.{Alt, do_alt, if_alt, any_alt, SheetItem, do_item, stage, choice, SheetItems, no_item, item, game_class, player_class, team_class, no_effect, Sheet}
use Rattle.rc_sheet_spec.specs.WellFormed.{Around, outside, behind, in_stage, IsAlt, AreAlts, IsItem, AreItems, IsWellFormed}
use Rattle.rc_play_spec.specs.Shape.{Shape, face_at, face_eq, face_number}
use Rattle.rc_play_spec.specs.Value.{Scene, Bind, player_bound, card_bound, group_bound, members}
use Rattle.rc_play_spec.specs.Scene.{CardValue, held, noted, id_of}
use Rattle.rc_play_spec.specs.Bound.{IsCardOf, IsBindOf}
use Rattle.rc_play_spec.specs.Owners.{mover}
use Rattle.rc_play_spec.specs.Menu.{alts_in_item, alts_in, alts_at, alt_in, bindings_of, menu_from}
use Rattle.rc_play_spec.specs.Table.{IsSound}
use Rattle.rc_play_spec.specs.About.{About, scene_at}
use Rattle.rc_play_spec.specs.Step.{Config, Stop, decide, is_done, is_limit}
use Rattle.rc_play_spec.specs.Stop.{Stopped}
use Rattle.rc_play_spec.proofs.CardLemmas.{get_each, map_each, read_cards, item_binds}
use Rattle.rc_play_spec.proofs.Faces.{face_eq_self}
use Rattle.std.specs.List.Sorted.{IsPermutation}
use Rattle.rc_sheet_spec.specs.Naming.{sort_of}
use Rattle.rc_base.specs.Numbers.{below}
use Rattle.rc_deck.proofs.EachLemmas.{append_each}
use Rattle.rc_play_spec.specs.Shape.{shape_of}
use Rattle.rc_play_spec.specs.Effects.{Dealing}
use Rattle.rc_play_spec.specs.Play.{items_of, reached}
use Rattle.rc_play_spec.specs.Plan.{Plan, deal_at}
use Rattle.rc_play_spec.proofs.SoundPlays.{reached_sound}
use Rattle.rc_play_spec.specs.Along.{next_stop, marks_from, marks_over}
use Rattle.rc_play_spec.specs.Judged.{play_after}
use Rattle.rc_play_spec.proofs.GoesOn.{reached_append}
use Rattle.rc_play_spec.specs.Bounds.{IsMark, AreMarks}
use Rattle.rc_play_spec.specs.ItemBounds.{first_face, bound_of, bounds_at}
use Rattle.rc_play_spec.specs.Naming.{marks_by, marks_there}

-- ---- how many variables an item binds

abbrev binds_in : Alt → ℕ
binds_in (do_alt effects) = 0
binds_in (if_alt guard effects) = 0
binds_in (any_alt domain bound alt) = 1 + binds_in alt

abbrev BindsFew : Alt → Type 0
BindsFew alt = binds_in alt ≤ 4

module _ (sheet : Sheet) where
  alt_few : (around : Around) (alt : Alt) → around.binders ≤ 4 → IsAlt sheet around alt → around.binders + binds_in alt ≤ 4
  alt_few around (do_alt effects) le is = omega (arith, le)
  alt_few around (if_alt guard effects) le is = omega (arith, le)
  alt_few around (any_alt domain bound alt) le is =
      let more = alt_few (behind sheet around bound (sort_of domain)) alt (omega (arith, is.1.2)) is.2 in omega (arith, more)

  alts_few : (around : Around) (alts : List Alt) → around.binders ≡ 0 → AreAlts sheet around alts → AllByRecursion BindsFew alts
  alts_few around [] none are = tt
  alts_few around (alt ∷ alts) none are =
      let few = alt_few around alt (omega (arith, none)) are.0 in (omega (arith, none, few), alts_few around alts none are.1)

  abbrev AreFew : List (List Alt) → Type 0
  AreFew = AllByRecursion (AllByRecursion BindsFew)

  few_if : (b : Bool) (alts : List Alt) → AllByRecursion BindsFew alts → AreFew (if b then alts ∷ [] else [])
  few_if true alts few = (few, tt)
  few_if false alts few = tt

  mutual
    item_few : (site : ℕ) (around : Around) (i : SheetItem) → around.binders ≡ 0 → IsItem sheet around i → AreFew (alts_in_item site i)
    item_few site around (do_item effects) none is = tt
    item_few site around (stage place game_class end body) none is = absurd is
    item_few site around (stage place player_class end body) none is = items_few site (in_stage player_class around) body none is.2
    item_few site around (stage place team_class end body) none is = items_few site (in_stage team_class around) body none is.2
    item_few site around (choice k alts) none is = few_if (k == site) alts (alts_few around alts none is.2)

    items_few : (site : ℕ) (around : Around) (items : SheetItems) → around.binders ≡ 0 → AreItems sheet around items → AreFew (alts_in site items)
    items_few site around no_item none are = tt
    items_few site around (item i items) none are =
        append_each (AllByRecursion BindsFew) (alts_in_item site i) (alts_in site items) (item_few site around i none are.0) (items_few site around items none are.1)

  choice_few : (site : ℕ) → IsWellFormed sheet → AllByRecursion BindsFew (alts_at sheet site)
  choice_few site formed = get_each (AllByRecursion BindsFew) [] tt (alts_in site sheet.items) 0 (items_few site outside sheet.items refl formed.items)

bindings_long : (scene : Scene CardValue) (vars : List (Bind CardValue)) (alt : Alt) (spots : List ℕ) → length (bindings_of scene vars alt spots) ≤ length vars + binds_in alt
bindings_long scene vars (do_alt effects) spots = omega arith
bindings_long scene vars (if_alt guard effects) spots = omega arith
bindings_long scene vars (any_alt domain bound alt) [] = omega arith
bindings_long scene vars (any_alt domain bound alt) (spot ∷ spots) =
    let bind = slice_index_or (members scene vars domain) spot (player_bound 0) in
    let more = bindings_long scene (vars ++ bind ∷ []) alt spots in
    let long = length-append vars (bind ∷ []) in
    omega (arith, more, long)

-- ---- each in its range

found_case : {A : Type 0} (p : A → Bool) (x : A) (n id : ℕ) (b : Bool) → p x ≡ b → (b ≡ false → n ≤ id) → (if not b then 1 + n else zero) ≤ suc id
found_case p x n id true e more = omega arith
found_case p x n id false e more = let le = more refl in omega (arith, le)

found_before : {A : Type 0} (p : A → Bool) (xs : List A) (id : ℕ) (d : A) → id < length xs → p (get_or xs id d) ≡ true → position_or_len p xs ≤ id
found_before p [] id d lt is = absurd (omega (arith, lt))
found_before p (x ∷ xs) zero d lt is = found_first (p x) is
  where
    found_first : (b : Bool) → b ≡ true → (if not b then 1 + position_or_len p xs else zero) ≤ zero
    found_first true e = omega arith
    found_first false e = absurd cc
found_before p (x ∷ xs) (suc id) d lt is =
    let more = found_before p xs id d (omega (arith, lt)) is in found_case p x (position_or_len p xs) id (p x) refl (λ e. more)

module _ (shape : Shape) (few : length shape.faces ≤ 512) (players : shape.players ≤ 8) where
  number_below : (id : ℕ) → id < length shape.faces → face_number shape id ≤ 511
  number_below id lt =
      let le = found_before (face_eq (face_at shape id)) shape.faces id [] lt (face_eq_self (face_at shape id)) in omega (arith, le, lt, few)

  card_below : (c : CardValue) → IsCardOf shape c → face_number shape (id_of c) ≤ 511
  card_below (held id) is = number_below id is
  card_below (noted loc id) is = number_below id is.1

  first_below : (cards : List CardValue) → All (IsCardOf shape) cards → first_face shape cards ≤ 511
  first_below [] all = omega arith
  first_below (c ∷ cards) all = card_below c (all 0 c (omega arith))

  bound_in_range : (b : Bind CardValue) → IsBindOf shape b → IsMark (bound_of shape b)
  bound_in_range (player_bound n) is = omega (arith, is, players)
  bound_in_range (card_bound c) is = card_below c is
  bound_in_range (group_bound cards) is = first_below cards is

module _ (about : About) (fits : about.shape.players ≡ about.sheet.players) (well : IsWellFormed about.sheet) (few : length about.shape.faces ≤ 512) where
  pub marks_in_range : (site x : ℕ) (c : Config) → IsSound about.shape c.table → AreMarks (bounds_at about site x c)
  marks_in_range site x c sound =
      let scene = scene_at about c.table c.control.frames in
      let alts = alts_at about.sheet site in
      let chosen = slice_index_or (menu_from scene alts) x (record { alt = 0; spots = [] }) in
      let alt = alt_in alts chosen.alt in
      let all = item_binds about.shape scene (read_cards about.shape c.table sound.ids (mover about.sheet c.control.frames)) fits (let some = well.limits.some_players in omega (arith, some, fits)) [] tt alt chosen.spots in
      let deep = get_each BindsFew (do_alt no_effect) (omega arith) alts chosen.alt (choice_few about.sheet site well) in
      let long = bindings_long scene [] alt chosen.spots in
      let same = length-map (bindings_of scene [] alt chosen.spots) (bound_of about.shape) in
      let players : about.shape.players ≤ 8 = let most = well.limits.players in omega (arith, most, fits) in
      (omega (arith, deep, long, same), map_each (IsBindOf about.shape) IsMark (bound_of about.shape) (bound_in_range about.shape few players) (bindings_of scene [] alt chosen.spots) all)

  pub marks_by_range : (x : ℕ) (stop : Stop) (c : Config) → IsSound about.shape c.table → AreMarks (marks_by about x stop c)
  marks_by_range x (decide seat site) c sound = marks_in_range site x c sound
  marks_by_range x is_done c sound = (omega arith, tt)
  marks_by_range x is_limit c sound = (omega arith, tt)

-- ---- over a whole text

module _ (about : About) (dealing : ℕ → Dealing ℕ) (plan : Plan) (perms : (deal k size : ℕ) → IsPermutation (below size) ((dealing deal).order k size))
    (fits : about.shape ≡ shape_of about.sheet) (well : IsWellFormed about.sheet) (few : length about.shape.faces ≤ 512) where
  there_in_range : (m : ℕ) (front : List Pick) (p : Pick) (o : Option (Stopped ℕ)) → play_after about dealing plan m front ≡ o → AreMarks (marks_there about o p)
  there_in_range m front p None is = (omega arith, tt)
  there_in_range m front p (Some at) is =
      marks_by_range about (ap (λ (s : Shape). s.players) fits) well few p.item at.stop at.config
      (reached_sound about (dealing (deal_at plan m).deal) fits well (perms (deal_at plan m).deal) (items_of front) 0 at is)

  next_play : (m : ℕ) (front : List Pick) (p : Pick) → next_stop about dealing plan m (play_after about dealing plan m front) p ≡ play_after about dealing plan m (front ++ p ∷ [])
  next_play m front p =
      sym (ap (λ items. reached about (dealing (deal_at plan m).deal) items 0) (map-append (λ (p : Pick). p.item) front (p ∷ []))
      ∙ reached_append about (dealing (deal_at plan m).deal) (items_of front) (p.item ∷ []) 0)

  picks_in_range : (m : ℕ) (front picks : List Pick) → AllByRecursion AreMarks (marks_from about dealing plan m (play_after about dealing plan m front) picks)
  picks_in_range m front [] = tt
  picks_in_range m front (p ∷ picks) = (
    there_in_range m front p (play_after about dealing plan m front) refl,
    subst (λ o. AllByRecursion AreMarks (marks_from about dealing plan m o picks)) (sym (next_play m front p)) (picks_in_range m (front ++ p ∷ []) picks),
  )

  pub matches_in_range : (m : ℕ) (matches : List Record) → AllByRecursion AreMarks (marks_over about dealing plan m matches)
  matches_in_range m [] = tt
  matches_in_range m (r ∷ matches) =
      append_each AreMarks (marks_from about dealing plan m (play_after about dealing plan m []) r.picks) (marks_over about dealing plan (m + 1) matches)
      (picks_in_range m [] r.picks) (matches_in_range (m + 1) matches)
