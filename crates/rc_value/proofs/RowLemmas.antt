-- Rows of ids, and the cards that they stand for.
use Rattle.std.proofs.Common.{◌≡◌, ℕ, ◌≤◌, ◌-◌, suc, Bool, true, false, List, [], ◌∷◌, length, map, slice_get, slice_index_or, ℤ, pos, Option, Some, None, option_map, arith, refl, sym, ap, ◌∙◌}
use mathlib.Core.Path.{fun_ext}
use Rattle.std.specs.List.{filter}
use Rattle.std.proofs.lemmas.List.{length-map, take_all}
use Rattle.rc_base.specs.Numbers.{below}
use Rattle.rc_base.specs.Deck.{value_at}
use Rattle.rc_play_spec.specs.Ends.{last_of}
use Rattle.rc_play_spec.specs.Scene.{CardValue, held, id_of, value_in}
use Rattle.rc_play_spec.specs.Shape.{face_at}
use Rattle.rc_play_spec.specs.Value.{attr_of_any, cut, worth, worth_of_any}
use Rattle.rc_rules.specs.Lookup.{rows_seen, value_row}
use Rattle.rc_rules.proofs.Rows.{in_row, row_below}
use Rattle.rc_value.specs.declared.scene.Scene.{Scene}
use Rattle.rc_value.specs.declared.wanted.SoughtValue.{SoughtValue}
use Rattle.rc_value.specs.Over.{over}
use Rattle.rc_value.specs.Scene.{scene_seen}
use Rattle.rc_value.specs.Seen.{read_in}
use Rattle.rc_value.specs.Wanted.{meets, wanted_value}
use Rattle.rc_value.proofs.OverLemmas.{over-map}
use Rattle.rc_value.proofs.Steps.{count-map}

id_in : (b : Bool) (loc id : ℕ) → id_of (value_in b loc id) ≡ id
id_in true loc id = refl
id_in false loc id = refl

ids_in : (b : Bool) (loc : ℕ) (ids : List ℕ) → map id_of (map (value_in b loc) ids) ≡ ids
ids_in b loc [] = refl
ids_in b loc (id ∷ ids) = ap (λ i. i ∷ map id_of (map (value_in b loc) ids)) (id_in b loc id) ∙ ap (λ is. id ∷ is) (ids_in b loc ids)

pub all_count : (b : Bool) (loc : ℕ) (ids : List ℕ) → length ids ≤ 512 → map (value_in b loc) ids ≡ cut (map (value_in b loc) ids)
all_count b loc ids few = sym (take_all 512 (map (value_in b loc) ids) (omega (arith, length-map ids (value_in b loc))))

pub ids_are : (b : Bool) (loc : ℕ) (ids : List ℕ) → length ids ≤ 512 → ids ≡ map id_of (cut (map (value_in b loc) ids))
ids_are b loc ids few = sym (ids_in b loc ids) ∙ ap (map id_of) (all_count b loc ids few)

pub last_found : (xs : List ℕ) → slice_get xs (length xs - 1) ≡ last_of xs
last_found [] = refl
last_found (x ∷ []) = refl
last_found (x ∷ y ∷ xs) =
    let e : length (x ∷ y ∷ xs) - 1 ≡ suc (length (y ∷ xs) - 1) = omega arith in
    ap (slice_get (x ∷ y ∷ xs)) e ∙ last_found (y ∷ xs)

-- a card's value and worth hang on its id alone
abbrev some_or : ℕ → Option ℕ → ℕ
some_or d None = d
some_or d (Some x) = x

pub attr_by_id : (s : Scene) (name id : ℕ) (v : Option ℕ) (card : Option CardValue) → Some id ≡ option_map id_of card →
    v ≡ value_at (face_at s.table.now.shape id) name → v ≡ attr_of_any (scene_seen s) name card
unfolding scene_seen
attr_by_id s name id v None e is = absurd (cc)
attr_by_id s name id v (Some c) e is = is ∙ ap (λ o. value_at (face_at s.table.now.shape (some_or id o)) name) e

pub attr_of_none : (s : Scene) (name : ℕ) (card : Option CardValue) → None ≡ option_map id_of card → None ≡ attr_of_any (scene_seen s) name card
attr_of_none s name None e = refl
attr_of_none s name (Some c) e = absurd (cc)

pub worth_by_id : (s : Scene) (points id : ℕ) (v : ℤ) (card : Option CardValue) → Some id ≡ option_map id_of card →
    v ≡ worth (scene_seen s) points (held id) → v ≡ worth_of_any (scene_seen s) points card
unfolding scene_seen
worth_by_id s points id v None e is = absurd (cc)
worth_by_id s points id v (Some c) e is = is ∙ ap (λ o. worth (scene_seen s) points (held (some_or id o))) e

pub worth_of_none : (s : Scene) (points : ℕ) (card : Option CardValue) → None ≡ option_map id_of card → pos 0 ≡ worth_of_any (scene_seen s) points card
worth_of_none s points None e = refl
worth_of_none s points (Some c) e = absurd (cc)

-- the row of an attribute's values
pub row_value : (s : Scene) (name id : ℕ) (row : List (Option ℕ)) → Some row ≡ slice_get (rows_seen s.lookup.now.values.items) name →
    slice_index_or row id None ≡ value_at (face_at s.table.now.shape id) name
row_value s name id row here =
    let faces = s.table.now.shape.faces in
    let rows = s.lookup.now.values.items in
    let there : Some row ≡ slice_get (map (value_row faces) (below (length rows))) name = here ∙ ap (λ xs. slice_get xs name) s.looked_up.values in
    ap (λ r. slice_index_or r id None) (row_below (value_row faces) (length rows) name row there)
    ∙ in_row (λ face. value_at face name) [] None refl faces id

pub met_in_row : (s : Scene) (w : SoughtValue) (c : CardValue) (row : List (Option ℕ)) → Some row ≡ slice_get (rows_seen s.lookup.now.values.items) w.name →
    meets w (slice_index_or row (id_of c) None) ≡ wanted_value (scene_seen s) w c
unfolding scene_seen
met_in_row s w c row here = ap (meets w) (row_value s w.name (id_of c) row here)

pub over_met : (any : Bool) (s : Scene) (w : SoughtValue) (row : List (Option ℕ)) (ids : List ℕ) (cards : List CardValue) →
    Some row ≡ slice_get (rows_seen s.lookup.now.values.items) w.name → ids ≡ map id_of cards →
    over any (λ id. meets w (slice_index_or row id None)) ids ≡ over any (wanted_value (scene_seen s) w) cards
over_met any s w row ids cards here are =
    ap (over any (λ id. meets w (slice_index_or row id None))) are ∙ over-map any (λ id. meets w (slice_index_or row id None)) id_of cards
    ∙ ap (λ f. over any f cards) (fun_ext (λ c. met_in_row s w c row here))

pub count_met : (s : Scene) (w : SoughtValue) (row : List (Option ℕ)) (ids : List ℕ) (cards : List CardValue) →
    Some row ≡ slice_get (rows_seen s.lookup.now.values.items) w.name → ids ≡ map id_of cards →
    length (filter (λ id. meets w (slice_index_or row id None)) ids) ≡ length (filter (wanted_value (scene_seen s) w) cards)
count_met s w row ids cards here are =
    ap (λ is. length (filter (λ id. meets w (slice_index_or row id None)) is)) are
    ∙ count-map (λ id. meets w (slice_index_or row id None)) id_of cards
    ∙ ap (λ f. length (filter f cards)) (fun_ext (λ c. met_in_row s w c row here))

-- the ids of what stands in a location
pub ids_read : (mem : Option ℕ) (ids : List ℕ) → ids ≡ map id_of (map (read_in mem) ids)
ids_read None [] = refl
ids_read None (id ∷ ids) = ap (λ is. id ∷ is) (ids_read None ids)
ids_read (Some loc) [] = refl
ids_read (Some loc) (id ∷ ids) = ap (λ is. id ∷ is) (ids_read (Some loc) ids)

-- the worth of each
worths_held : (s : Scene) (points : ℕ) (cards : List CardValue) →
    map (λ id. worth (scene_seen s) points (held id)) (map id_of cards) ≡ map (worth (scene_seen s) points) cards
unfolding scene_seen
worths_held s points [] = refl
worths_held s points (c ∷ cards) = ap (λ ns. worth (scene_seen s) points c ∷ ns) (worths_held s points cards)

pub worths_by_id : (s : Scene) (points : ℕ) (ids : List ℕ) (cards : List CardValue) → ids ≡ map id_of cards →
    map (λ id. worth (scene_seen s) points (held id)) ids ≡ map (worth (scene_seen s) points) cards
worths_by_id s points ids cards are = ap (map (λ id. worth (scene_seen s) points (held id))) are ∙ worths_held s points cards
