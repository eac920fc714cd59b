-- References stay where they are, and cards go.
use Rattle.std.proofs.Common.{◌≡◌, ℕ, zero, suc, ◌<◌, ◌≤◌, true, false, List, [], ◌∷◌, length, take, map, slice_get, All, refl, ap, ◌∙◌, subst, arith}
use Rattle.std.specs.Prelude.{fold}
use Rattle.std.proofs.lemmas.List.{length-map, take_all}
use Rattle.std.proofs.lemmas.List.Elements.{recursion_from_All}
use Rattle.rc_play_spec.specs.Shape.{Shape, holds_references}
use Rattle.rc_play_spec.specs.Scene.{value_in}
use Rattle.rc_play_spec.specs.Table.{Table, IsSound, list_at, put_top}
use Rattle.rc_play_spec.specs.Value.{cut}
use Rattle.rc_table.proofs.WhereaboutLemmas.{all_cards}
use Rattle.rc_undo.specs.Piled.{topped, piled}

-- references stay
noted_stay : (shape : Shape) (to loc n : ℕ) (t : Table) (ids : List ℕ) → topped shape to t (take n (map (value_in true loc) ids)) ≡ t
noted_stay shape to loc zero t ids = refl
noted_stay shape to loc (suc n) t [] = refl
noted_stay shape to loc (suc n) t (id ∷ ids) = noted_stay shape to loc n t ids

pub references_stay : (shape : Shape) (to from : ℕ) (t : Table) → holds_references (slice_get shape.places from) ≡ true →
    piled shape to from t ≡ t
references_stay shape to from t are =
    ap (λ b. topped shape to t (cut (map (value_in b from) (list_at t from)))) are ∙ noted_stay shape to from 512 t (list_at t from)

-- and cards go there
held_go : (shape : Shape) (to loc : ℕ) (t : Table) (ids : List ℕ) →
    topped shape to t (map (value_in false loc) ids) ≡ fold (λ table id. put_top shape id to table) t ids
held_go shape to loc t [] = refl
held_go shape to loc t (id ∷ ids) = held_go shape to loc (put_top shape id to t) ids

pub cards_go : (shape : Shape) (to from : ℕ) (t : Table) → holds_references (slice_get shape.places from) ≡ false → length (list_at t from) ≤ 512 →
    piled shape to from t ≡ fold (λ table id. put_top shape id to table) t (list_at t from)
cards_go shape to from t are few =
    let ids = list_at t from in
    let long = length-map ids (value_in false from) in
    ap (λ b. topped shape to t (cut (map (value_in b from) ids))) are
    ∙ ap (topped shape to t) (take_all 512 (map (value_in false from) ids) (omega (arith, few, long)))
    ∙ held_go shape to from t ids

pub sole_there : (shape : Shape) (t : Table) (loc id : ℕ) → IsSound shape t → list_at t loc ≡ id ∷ [] → id < length shape.faces
sole_there shape t loc id sound is =
    (recursion_from_All (λ id. id < length shape.faces) (id ∷ []) (subst (All (λ id. id < length shape.faces)) is (all_cards shape t sound loc))).0
