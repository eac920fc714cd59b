-- The fault that is found in the first list that a source spells is the first of its round.
use Rattle.std.proofs.Common.{◌≡◌, ℕ, ◌+◌, ◌-◌, List, [], ◌∷◌, ◌++◌, length, Some, inl, inr, refl, sym, subst, arith}
use Rattle.std.specs.List.{flat_map}
use Rattle.std.proofs.lemmas.List.{append_assoc, append-nil}
use Rattle.rc_base.specs.Token.{Token, closing, between}
use Rattle.rc_base.specs.Tree.{Tree, word, list, Trees, nil, cons, spelling, spellings}
use Rattle.rc_base.specs.Placed.{starts, all_starts, Rise, IsPlaced}
use Rattle.rc_base.specs.Spelled.{Spelled}
use Rattle.rc_form.proofs.Ascending.{Ascends, Ascends-room, Ascends-tokens_from}
use Rattle.rc_form.proofs.Placed.{Rise-lower}
use Rattle.rc_check.specs.declared.grammar.Symbol.TheVariants as symbol
use Rattle.rc_check.specs.declared.fault.SheetFault.{SheetFault}
use Rattle.rc_check.specs.Faults.{faults, first}
use Rattle.rc_check.proofs.ShapeInOrder.{Ordered-faults, Ordered-first}
use Rattle.rc_check.specs.FirstFault.{IsFirstFault}
use Rattle.rc_check.specs.SecondFaults.{second_faults, or_fault, sheet_fault}
use Rattle.rc_check.proofs.InOrder.{first_is_least}

-- what follows from the tokens behind a tree, wherever that ends
abbrev Follows : ℕ → List Token → List ℕ → Type 0
Follows high behind more = (next : ℕ) → Ascends next high behind → Rise next high more

mutual
  -- the starts of a tree whose tokens ascend, with more starts behind them
  Rise-tree : (tree : Tree) (low high : ℕ) (behind : List Token) (more : List ℕ)
      → Ascends low high (spelling tree ++ behind) → Follows high behind more → Rise low high (starts tree ++ more)
  Rise-tree (word bytes from to) low high behind more ascends follows = (ascends.0, follows (from + 1) ascends.1)
  Rise-tree (list parts from to) low high behind more ascends follows =
      let within = subst (Ascends (from + 1) high) (append_assoc (spellings parts) (closing (to - 1) ∷ []) behind) ascends.1 in (
        ascends.0,
        Rise-trees parts (from + 1) high (closing (to - 1) ∷ behind) more within (λ next closes.
            Rise-lower next (to - 1 + 1) high more (let above = closes.0 in omega arith) (follows (to - 1 + 1) closes.1)),
      )

  Rise-trees : (trees : Trees) (low high : ℕ) (behind : List Token) (more : List ℕ)
      → Ascends low high (spellings trees ++ behind) → Follows high behind more → Rise low high (all_starts trees ++ more)
  Rise-trees nil low high behind more ascends follows = follows low ascends
  Rise-trees (cons tree trees) low high behind more ascends follows =
      subst (Rise low high) (sym (append_assoc (starts tree) (all_starts trees) more))
      (Rise-tree tree low high (spellings trees ++ behind) (all_starts trees ++ more)
      (subst (Ascends low high) (append_assoc (spelling tree) (spellings trees) behind) ascends)
      (λ next ascends_on. Rise-trees trees next high behind more ascends_on follows))

-- the first list that a text spells is placed in it
placed_first : (text : List ℕ) (want : ℕ) (tree : Tree) (others : List Tree) (rest : ℕ) → Spelled text want (tree ∷ others) rest
    → IsPlaced (length text) tree
placed_first text want tree others rest spelled =
    let high = length text in
    let behind = flat_map spelling others ++ spelled.later in
    let all = subst (Ascends 0 high) spelled.spells (Ascends-tokens_from between 0 high text (omega arith)) in
    let here = subst (Ascends 0 high) (append_assoc (spelling tree) (flat_map spelling others) spelled.later) all in
    subst (Rise 0 high) (append-nil (starts tree))
    (Rise-tree tree 0 high behind [] here (λ next ascends. Ascends-room next high behind ascends))

-- what is found is the first of the first round, or of the second where the first has none
found_first : (size : ℕ) (tree : Tree) (found : SheetFault) → IsPlaced size tree → sheet_fault tree ≡ Some found → IsFirstFault tree found
found_first size tree found placed is = by (faults symbol.Sheet tree) refl is
  where
    by : (round : List SheetFault) → faults symbol.Sheet tree ≡ round → or_fault (first round) (first (second_faults tree)) ≡ Some found
        → IsFirstFault tree found
    by [] none is = inr (none, first_is_least size tree found placed is)
    by (fault ∷ others) some is =
        let told : first (faults symbol.Sheet tree) ≡ Some found = subst (λ round. first round ≡ Some found) (sym some) is in
        inl (Ordered-first 0 (faults symbol.Sheet tree) found (Ordered-faults symbol.Sheet tree size placed) told)

pub first_found : (text : List ℕ) (want : ℕ) (tree : Tree) (others : List Tree) (rest : ℕ) (found : SheetFault)
    → Spelled text want (tree ∷ others) rest → sheet_fault tree ≡ Some found → IsFirstFault tree found
first_found text want tree others rest found spelled is =
    found_first (length text) tree found (placed_first text want tree others rest spelled) is
