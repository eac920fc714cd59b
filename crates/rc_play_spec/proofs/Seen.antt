-- The mover sees what the sight rule lets stand, and so the menu is a function of the view.
use Rattle.std.proofs.Common.{◌≡◌, ℕ, zero, suc, ◌+◌, ◌==◌, Bool, true, false, not, cond, if◌then◌else◌, List, [], ◌∷◌, ◌++◌, length, get_or, take, map, slice_get, Option, Some, None, refl, sym, ap, ap₂, ◌∙◌, true≢false}
use Rattle.std.specs.Prelude.{filter, filter_map, flat_map, option_map, unwrap_or}
use Rattle.std.specs.List.{AllByRecursion}
use Rattle.std.proofs.lemmas.Bool.Decides.{Decides-eqb}
use Rattle.std.proofs.lemmas.List.{length-map}
use mathlib.Core.Path.{fun_ext}
use Rattle.rc_base.specs.Deck.{Face}
use Rattle.rc_deck.proofs.EachLemmas.{append_each, parts_of_append}
use Rattle.rc_sheet_spec.specs.Sheet.{LocKind, vloc, iloc, hloc, mem, Who, game, current_player, current_team, team_of_current, team_of_var, who_var, Loc, Alt, SheetItem, do_item, stage, choice, SheetItems, no_item, item, Sheet}
use Rattle.rc_sheet_spec.specs.Naming.{class_of}
use Rattle.rc_sheet_spec.specs.Sight.{locs_in_alt, locs_in_item, locs_in_items, is_seen_by_mover, is_named_and_seen, is_in_sight, IsInSight}
use Rattle.rc_play_spec.specs.Control.{Control}
use Rattle.rc_play_spec.specs.Owners.{mover}
use Rattle.rc_play_spec.specs.Shape.{Place, Shape, places, face_at, face_number, holds_references}
use Rattle.rc_play_spec.specs.Sees.{sees_kind, sees_place}
use Rattle.rc_play_spec.specs.Table.{Table, list_at, is_marked}
use Rattle.rc_play_spec.specs.Value.{Known, Scene, Bind, who_value, loc_place, cards_there, known_there}
use Rattle.rc_play_spec.specs.Scene.{CardValue, id_of, value_in, seen_of, ids_seen, scene_of}
use Rattle.rc_play_spec.specs.Menu.{item_of, alts_in_item, alts_in, alts_at, from_each, spots_of, menu_of}
use Rattle.rc_play_spec.specs.View.{Sight, known_face, sight_of, sights_of, view_of, seen_cards, known_cards, view_scene}
use Rattle.rc_play_spec.proofs.Natural.{scene_from, spots_same}
use Rattle.rc_play_spec.proofs.Faces.{same_face}
use Rattle.rc_play_spec.proofs.Places.{place_stands}

-- the sight rule, location by location
kept_at : {X : Type 0} (p : X → Bool) (x : X) (xs : List X) → (filter (λ x. not (p x)) xs ≡ [] → AllByRecursion (λ x. p x ≡ true) xs) →
    (b : Bool) → p x ≡ b → cond (not b) (x ∷ filter (λ x. not (p x)) xs) (filter (λ x. not (p x)) xs) ≡ [] → AllByRecursion (λ x. p x ≡ true) (x ∷ xs)
kept_at p x xs rest true is e = (is, rest e)
kept_at p x xs rest false is e = absurd (cc)

kept : {X : Type 0} (p : X → Bool) (xs : List X) → filter (λ x. not (p x)) xs ≡ [] → AllByRecursion (λ x. p x ≡ true) xs
kept p [] e = tt
kept p (x ∷ xs) e = kept_at p x xs (kept p xs) (p x) refl e

-- and so in each choice
module _ (P : Loc → Type 0) where
  abbrev Keeps : List Alt → Type 0
  Keeps alts = AllByRecursion P (flat_map locs_in_alt alts)

  keep_if : (b : Bool) (alts : List Alt) → Keeps alts → AllByRecursion Keeps (if b then alts ∷ [] else [])
  keep_if true alts ok = (ok, tt)
  keep_if false alts ok = tt

  mutual
    choices_keep_item : (site : ℕ) (i : SheetItem) → AllByRecursion P (locs_in_item i) → AllByRecursion Keeps (alts_in_item site i)
    choices_keep_item site (do_item effects) ok = tt
    choices_keep_item site (stage place class end body) ok = choices_keep site body ok
    choices_keep_item site (choice number alts) ok = keep_if (number == site) alts ok

    choices_keep : (site : ℕ) (is : SheetItems) → AllByRecursion P (locs_in_items is) → AllByRecursion Keeps (alts_in site is)
    choices_keep site no_item ok = tt
    choices_keep site (item i is) ok =
        let h = parts_of_append P (locs_in_item i) (locs_in_items is) ok in
        append_each Keeps (alts_in_item site i) (alts_in site is) (choices_keep_item site i h.0) (choices_keep site is h.1)

  first_keeps : (choices : List (List Alt)) → AllByRecursion Keeps choices → Keeps (get_or choices 0 [])
  first_keeps [] ok = tt
  first_keeps (alts ∷ choices) ok = ok.0

module _ (sheet : Sheet) (shape : Shape) (table : Table) (control : Control) (fits : shape.places ≡ places sheet) where
  abbrev seat : ℕ
  seat = mover sheet control.frames

  abbrev known : Known
  known = record { sheet = sheet; shape = shape; numbers = table.numbers; frames = control.frames }

  abbrev at : ℕ → List CardValue
  at n = map (value_in (holds_references (slice_get shape.places n)) n) (list_at table n)

  abbrev seen_here : ℕ → List CardValue
  seen_here n = map (value_in (holds_references (slice_get shape.places n)) n) (ids_seen shape table seat n)

  abbrev sights : List Sight
  sights = sights_of shape table.marks seat shape.places table.lists

  abbrev at' : ℕ → List ℕ
  at' n = seen_cards (slice_get sights n)

  abbrev seen_here' : ℕ → List ℕ
  seen_here' n = known_cards (slice_get sights n)

  abbrev face' : ℕ → Face
  face' n = face_at shape n

  abbrev f : CardValue → ℕ
  f c = face_number shape (id_of c)

  abbrev s : Scene CardValue
  s = scene_from known at seen_here (λ c. face' (f c))

  abbrev t : Scene ℕ
  t = scene_from known at' seen_here' face'

  -- what is seen of one list
  abbrev sight_at : Option Place → List ℕ → Sight
  sight_at p ids = sight_of shape table.marks seat (sees_place shape seat p) ids

  get_sight : (ps : List Place) (lists : List (List ℕ)) (k : ℕ) →
      slice_get (sights_of shape table.marks seat ps lists) k ≡ option_map (sight_at (slice_get ps k)) (slice_get lists k)
  get_sight ps [] k = refl
  get_sight [] (ids ∷ lists) zero = refl
  get_sight [] (ids ∷ lists) (suc k) = get_sight [] lists k
  get_sight (p ∷ ps) (ids ∷ lists) zero = refl
  get_sight (p ∷ ps) (ids ∷ lists) (suc k) = get_sight ps lists k

  id_back : (refs : Bool) (n id : ℕ) → id_of (value_in refs n id) ≡ id
  id_back true n id = refl
  id_back false n id = refl

  -- a list read with what stands for none, and with none
  abbrev ids_in : Option (List ℕ) → List ℕ
  ids_in None = []
  ids_in (Some ids) = ids

  ids_at : (lists : List (List ℕ)) (n : ℕ) → ids_in (slice_get lists n) ≡ get_or lists n []
  ids_at [] n = refl
  ids_at (ids ∷ lists) zero = refl
  ids_at (ids ∷ lists) (suc n) = ids_at lists n

  numbers_back : (refs : Bool) (n : ℕ) (ids : List ℕ) → map (face_number shape) ids ≡ map f (map (value_in refs n) ids)
  numbers_back refs n [] = refl
  numbers_back refs n (id ∷ ids) = ap₂ ◌∷◌ (ap (face_number shape) (sym (id_back refs n id))) (numbers_back refs n ids)

  -- one list that the seat sees
  seen_list : (refs : Bool) (n : ℕ) (b : Bool) (o : Option (List ℕ)) → b ≡ true →
      seen_cards (option_map (sight_of shape table.marks seat b) o) ≡ map f (map (value_in refs n) (ids_in o))
  seen_list refs n b None is = refl
  seen_list refs n true (Some ids) is = numbers_back refs n ids
  seen_list refs n false (Some ids) is = absurd (true≢false (sym is))

  -- one list, seen or not, has its length
  sight_length : (b : Bool) (ids : List ℕ) → length (seen_cards (Some (sight_of shape table.marks seat b ids))) ≡ length ids
  sight_length true ids = length-map ids (face_number shape)
  sight_length false ids =
      length-map (map (known_face shape table.marks seat) ids) (λ o. unwrap_or o 0) ∙ length-map ids (known_face shape table.marks seat)

  list_length : (refs : Bool) (n : ℕ) (p : Option Place) (o : Option (List ℕ)) →
      length (seen_cards (option_map (sight_at p) o)) ≡ length (map (value_in refs n) (ids_in o))
  list_length refs n p None = refl
  list_length refs n p (Some ids) = sight_length (sees_place shape seat p) ids ∙ sym (length-map ids (value_in refs n))

  lengths : (place : Option ℕ) → length (cards_there t place) ≡ length (cards_there s place)
  lengths None = refl
  lengths (Some n) =
      ap (λ o. length (seen_cards o)) (get_sight shape.places table.lists n)
      ∙ list_length (holds_references (slice_get shape.places n)) n (slice_get shape.places n) (slice_get table.lists n)
      ∙ ap (λ ids. length (map (value_in (holds_references (slice_get shape.places n)) n) ids)) (ids_at table.lists n)

  -- what is known of a list
  known_step : (id : ℕ) (ids : List ℕ) → filter_map (λ o. o) (map (known_face shape table.marks seat) ids) ≡ map (face_number shape) (filter (is_marked table.marks seat) ids) →
      (b : Bool) → filter_map (λ o. o) ((if b then Some (face_number shape id) else None) ∷ map (known_face shape table.marks seat) ids)
      ≡ map (face_number shape) (cond b (id ∷ filter (is_marked table.marks seat) ids) (filter (is_marked table.marks seat) ids))
  known_step id ids rest true = ap (λ ns. face_number shape id ∷ ns) rest
  known_step id ids rest false = rest

  known_numbers : (ids : List ℕ) → filter_map (λ o. o) (map (known_face shape table.marks seat) ids) ≡ map (face_number shape) (filter (is_marked table.marks seat) ids)
  known_numbers [] = refl
  known_numbers (id ∷ ids) = known_step id ids (known_numbers ids) (is_marked table.marks seat id)

  known_list : (refs : Bool) (n : ℕ) (b : Bool) (o : Option (List ℕ)) →
      known_cards (option_map (sight_of shape table.marks seat b) o) ≡ map f (map (value_in refs n) (seen_of b table.marks seat (ids_in o)))
  known_list refs n true None = refl
  known_list refs n false None = refl
  known_list refs n true (Some ids) = numbers_back refs n ids
  known_list refs n false (Some ids) = known_numbers ids ∙ numbers_back refs n (filter (is_marked table.marks seat) ids)

  pub knows : (place : Option ℕ) → known_there t place ≡ map f (known_there s place)
  knows None = refl
  knows (Some n) =
      ap known_cards (get_sight shape.places table.lists n)
      ∙ known_list (holds_references (slice_get shape.places n)) n (sees_place shape seat (slice_get shape.places n)) (slice_get table.lists n)
      ∙ ap (λ ids. map f (map (value_in (holds_references (slice_get shape.places n)) n) (seen_of (sees_place shape seat (slice_get shape.places n)) table.marks seat ids)))
      (ids_at table.lists n)

  equal_true : (n : ℕ) → (n == n) ≡ true
  equal_true n = (Decides-eqb n n).1 refl

  -- what may stand is seen
  mover_sees : (kind : LocKind) (who : Who) (vars : List (Bind CardValue)) → is_seen_by_mover kind who ≡ true →
      sees_kind shape seat kind (class_of who) (who_value known vars who) ≡ true
  mover_sees vloc who vars e = refl
  mover_sees mem who vars e = refl
  mover_sees hloc who vars e = absurd (true≢false (sym e))
  mover_sees iloc current_player vars e = equal_true seat
  mover_sees iloc team_of_current vars e = equal_true (who_value known vars team_of_current)
  mover_sees iloc game vars e = absurd (true≢false (sym e))
  mover_sees iloc current_team vars e = absurd (true≢false (sym e))
  mover_sees iloc (team_of_var k) vars e = absurd (true≢false (sym e))
  mover_sees iloc (who_var k) vars e = absurd (true≢false (sym e))

  abbrev Ok : Loc → Type 0
  Ok loc = is_in_sight sheet.locs loc ≡ true

  seen_at : (loc : Loc) (vars : List (Bind CardValue)) → Ok loc → (o : Option ℕ) → loc_place known vars loc ≡ o →
      cards_there t o ≡ map f (cards_there s o)
  seen_at loc vars ok None is = refl
  seen_at loc vars ok (Some n) is =
      let h = place_stands sheet (class_of loc.who) sheet.locs loc.name (who_value known vars loc.who) n is in
      let named = ap (λ o. is_named_and_seen o loc.who) (sym h.1) ∙ ok in
      let sees_it = ap (λ class. sees_kind shape seat h.0.kind class (who_value known vars loc.who)) h.2 ∙ mover_sees h.0.kind loc.who vars named in
      let there = ap (λ ps. slice_get ps n) fits ∙ h.3 in
      ap seen_cards (get_sight shape.places table.lists n ∙ ap (λ p. option_map (sight_at p) (slice_get table.lists n)) there)
      ∙ seen_list (holds_references (slice_get shape.places n)) n (sees_kind shape seat h.0.kind h.0.class (who_value known vars loc.who)) (slice_get table.lists n) sees_it
      ∙ ap (λ ids. map f (map (value_in (holds_references (slice_get shape.places n)) n) ids)) (ids_at table.lists n)

  seen : (loc : Loc) (vars : List (Bind CardValue)) → Ok loc → cards_there t (loc_place known vars loc) ≡ map f (cards_there s (loc_place known vars loc))
  seen loc vars ok = seen_at loc vars ok (loc_place known vars loc) refl

  paths_same : (n : ℕ) (alts : List Alt) → AllByRecursion Ok (flat_map locs_in_alt alts) →
      from_each (spots_of t []) n alts ≡ from_each (spots_of s []) n alts
  paths_same n [] ok = refl
  paths_same n (alt ∷ alts) ok =
      let h = parts_of_append Ok (locs_in_alt alt) (flat_map locs_in_alt alts) ok in
      ap₂ (λ spots paths. map (λ x. n ∷ x) spots ++ paths)
      (spots_same known at seen_here at' seen_here' face' f Ok seen lengths knows [] [] refl alt h.0) (paths_same (n + 1) alts h.1)

  same_scene : scene_of sheet shape table control.frames ≡ s
  same_scene = ap (λ face. scene_from known at seen_here face) (fun_ext (λ c. sym (same_face shape (id_of c))))

  pub menu_of_view : (site : ℕ) → IsInSight sheet →
      menu_of (scene_of sheet shape table control.frames) site ≡ menu_of (view_scene sheet shape (view_of shape seat table control)) site
  menu_of_view site rule =
      let keep = choices_keep Ok site sheet.items (kept (is_in_sight sheet.locs) (locs_in_items sheet.items) rule) in
      ap (λ scene. menu_of scene site) same_scene
      ∙ ap (λ paths. map item_of (take 256 paths)) (sym (paths_same 0 (alts_at sheet site) (first_keeps Ok (alts_in site sheet.items) keep)))

-- one seat's views of two states, of which it is the mover
pub equal_views_equal_menus : (sheet : Sheet) (shape : Shape) (table table' : Table) (control control' : Control) (site : ℕ) →
    shape.places ≡ places sheet → IsInSight sheet →
    view_of shape (mover sheet control.frames) table control ≡ view_of shape (mover sheet control.frames) table' control' →
    menu_of (scene_of sheet shape table control.frames) site ≡ menu_of (scene_of sheet shape table' control'.frames) site
equal_views_equal_menus sheet shape table table' control control' site fits rule e =
    menu_of_view sheet shape table control fits site rule
    ∙ ap (λ view. menu_of (view_scene sheet shape view) site)
    (e ∙ ap (λ c. view_of shape (mover sheet c.frames) table' control') (ap (λ view. view.control) e))
    ∙ sym (menu_of_view sheet shape table' control' fits site rule)
