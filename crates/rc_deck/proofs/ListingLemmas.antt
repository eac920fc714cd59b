-- A face with each face of some branches.
use Rattle.std.proofs.Common.{◌≡◌, ℕ, ◌+◌, ◌≤◌, ◌<◌, List, [], ◌∷◌, ◌++◌, length, get_or, drop, map, sym, ap, ◌∙◌}
use Rattle.std.proofs.lemmas.List.{append-nil, map-append, at_drop_more, at_drop_all}
use Rattle.rc_base.specs.Deck.{Face}
use Rattle.rc_deck.specs.declared.tree.Branch.{Branch}
use Rattle.rc_deck.specs.Tree.{branches_in, value_of, inner_of}
use Rattle.rc_deck.specs.Product.{behind, faces_of_groups, faces_of_branches}
use Rattle.rc_deck.proofs.ProductLemmas.{behind-push}

-- a face with each face of the branches
abbrev pub extended : Face → ℕ → List Branch → List Face
extended face attr branches = behind face (faces_of_branches attr (branches_in branches))

-- a face with each face that takes the branch
abbrev pub extended_by : Face → ℕ → Branch → List Face
extended_by face attr b = behind (face ++ (attr, value_of b) ∷ []) (faces_of_groups (inner_of b))

-- the first branch gives the first faces
extended-cons : (face : Face) (attr : ℕ) (b : Branch) (bs : List Branch) → extended face attr (b ∷ bs) ≡ extended_by face attr b ++ extended face attr bs
extended-cons face attr b bs =
    let below = faces_of_groups (inner_of b) in
    map-append (λ list. face ++ list) (map (λ list. (attr, value_of b) ∷ list) below) (faces_of_branches attr (branches_in bs))
    ∙ ap (λ ls. ls ++ extended face attr bs) (sym (behind-push face (attr, value_of b) below))

-- and so where the branches are some others, from a place on, and a last one
pub extended-drop : (face : Face) (attr : ℕ) (others : List Branch) (i : ℕ) (b last : Branch) → i < length others → b ≡ get_or others i b →
    extended face attr (drop i others ++ last ∷ []) ≡ extended_by face attr b ++ extended face attr (drop (i + 1) others ++ last ∷ [])
extended-drop face attr others i b last lt is =
    at_drop_more (λ bs. extended face attr (bs ++ last ∷ [])) others i b lt
    ∙ ap (λ x. extended face attr (x ∷ (drop (i + 1) others ++ last ∷ []))) (sym is)
    ∙ extended-cons face attr b (drop (i + 1) others ++ last ∷ [])

-- and where the last one alone is left
pub extended-last : (face : Face) (attr : ℕ) (others : List Branch) (i : ℕ) (last : Branch) → length others ≤ i →
    extended face attr (drop i others ++ last ∷ []) ≡ extended_by face attr last
extended-last face attr others i last le =
    at_drop_all (λ bs. extended face attr (bs ++ last ∷ [])) others i le
    ∙ extended-cons face attr last [] ∙ append-nil (extended_by face attr last)
