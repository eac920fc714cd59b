-- Parts that stand in turn for values of which something holds.
use Rattle.std.proofs.Common.{List, [], ◌∷◌, All}
use Rattle.std.proofs.lemmas.List.Elements.{All-nil, All-cons}
use Rattle.rc_base.specs.Tree.{Tree, Trees, nil, cons}
use Rattle.rc_play_spec.specs.PlanStands.{InTurn}

pub both_in_turn : {A : Type 0} (Both Stands : A → Tree → Type 0) (Holds : A → Type 0)
    → ((a : A) (tree : Tree) → Both a tree → Stands a tree × Holds a) → (list : List A) (parts : Trees) → InTurn Both list parts
    → InTurn Stands list parts × All Holds list
both_in_turn Both Stands Holds split [] nil both = (tt, All-nil Holds)
both_in_turn Both Stands Holds split [] (cons tree parts) both = absurd both
both_in_turn Both Stands Holds split (a ∷ others) nil both = absurd both
both_in_turn Both Stands Holds split (a ∷ others) (cons tree parts) both =
    let here = split a tree both.0 in
    let rest = both_in_turn Both Stands Holds split others parts both.1 in
    ((here.0, rest.0), All-cons Holds a others here.1 rest.1)
