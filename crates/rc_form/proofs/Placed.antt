-- Where the parts of the forms begin that are read.
use Rattle.std.proofs.Common.{ℕ, ◌+◌, ◌-◌, ◌≤◌, List, [], ◌∷◌, ◌++◌, length, sym, subst, arith}
use Rattle.std.specs.List.{All, flat_map}
use Rattle.std.proofs.lemmas.List.{append_assoc, append-nil}
use Rattle.std.proofs.lemmas.List.Elements.{All-nil, All-cons}
use Rattle.rc_base.specs.Token.{Token, closing, between}
use Rattle.rc_base.specs.Tree.{Tree, word, list, Trees, nil, cons, spelling, spellings}
use Rattle.rc_base.specs.Placed.{starts, all_starts, Rise, IsPlaced}
use Rattle.rc_base.specs.Spelled.{Spelled}
use Rattle.rc_form.specs.Form.{tree_of, trees_of}
use Rattle.rc_form.specs.declared.form.Form.{Form}
use Rattle.rc_form.proofs.Ascending.{Ascends, Ascends-lower, Ascends-room, Ascends-tokens_from}

-- what rises from a number on rises from a lower one on
pub Rise-lower : (low from high : ℕ) (numbers : List ℕ) → low ≤ from → Rise from high numbers → Rise low high numbers
Rise-lower low from high [] below rise = omega arith
Rise-lower low from high (n ∷ numbers) below rise = (let above = rise.0 in omega arith, rise.1)

-- what follows from the tokens behind some others, wherever those end
abbrev Follows : ℕ → List Token → List ℕ → Type 0
Follows high behind more = (next : ℕ) → Ascends next high behind → Rise next high more

mutual
  -- the starts of a tree whose tokens ascend, with more starts behind them
  Rise-tree : (tree : Tree) (low high : ℕ) (behind : List Token) (more : List ℕ)
      → Ascends low high (spelling tree ++ behind) → Follows high behind more → Rise low high (starts tree ++ more)
  Rise-tree (word bytes from to) low high behind more ascends follows = (ascends.0, follows (from + 1) ascends.1)
  Rise-tree (list parts from to) low high behind more ascends follows =
      let within = subst (Ascends (from + 1) high) (append_assoc (spellings parts) (closing (to - 1) ∷ []) behind) ascends.1 in (
        ascends.0,
        Rise-trees parts (from + 1) high (closing (to - 1) ∷ behind) more within (λ next closes.
            Rise-lower next (to - 1 + 1) high more (let above = closes.0 in omega arith) (follows (to - 1 + 1) closes.1)),
      )

  -- the same of several trees
  Rise-trees : (trees : Trees) (low high : ℕ) (behind : List Token) (more : List ℕ)
      → Ascends low high (spellings trees ++ behind) → Follows high behind more → Rise low high (all_starts trees ++ more)
  Rise-trees nil low high behind more ascends follows = follows low ascends
  Rise-trees (cons tree trees) low high behind more ascends follows =
      subst (Rise low high) (sym (append_assoc (starts tree) (all_starts trees) more))
      (Rise-tree tree low high (spellings trees ++ behind) (all_starts trees ++ more)
      (subst (Ascends low high) (append_assoc (spelling tree) (spellings trees) behind) ascends)
      (λ next ascends_on. Rise-trees trees next high behind more ascends_on follows))

-- tokens that ascend leave room behind them
Follows-none : (high : ℕ) (behind : List Token) → Follows high behind []
Follows-none high behind next ascends = Ascends-room next high behind ascends

-- the tokens behind a tree ascend too
mutual
  Ascends-behind : (tree : Tree) (low high : ℕ) (behind : List Token)
      → Ascends low high (spelling tree ++ behind) → Ascends low high behind
  Ascends-behind (word bytes from to) low high behind ascends =
      Ascends-lower low (from + 1) high behind (let above = ascends.0 in omega arith) ascends.1
  Ascends-behind (list parts from to) low high behind ascends =
      let within = subst (Ascends (from + 1) high) (append_assoc (spellings parts) (closing (to - 1) ∷ []) behind) ascends.1 in
      let closes = All-behind parts (from + 1) high (closing (to - 1) ∷ behind) within in
      Ascends-lower low (to - 1 + 1) high behind (let above = ascends.0 in let more = closes.0 in omega arith) closes.1

  All-behind : (trees : Trees) (low high : ℕ) (behind : List Token)
      → Ascends low high (spellings trees ++ behind) → Ascends low high behind
  All-behind nil low high behind ascends = ascends
  All-behind (cons tree trees) low high behind ascends =
      All-behind trees low high behind (Ascends-behind tree low high (spellings trees ++ behind)
      (subst (Ascends low high) (append_assoc (spelling tree) (spellings trees) behind) ascends))

-- one tree of a text
IsPlaced-tree : (tree : Tree) (high : ℕ) (behind : List Token) → Ascends 0 high (spelling tree ++ behind) → IsPlaced high tree
IsPlaced-tree tree high behind ascends =
    subst (Rise 0 high) (append-nil (starts tree)) (Rise-tree tree 0 high behind [] ascends (Follows-none high behind))

-- each form is placed, where the tokens of all ascend
All-placed-forms : (forms : List Form) (high : ℕ) (later : List Token)
    → Ascends 0 high (flat_map spelling (trees_of forms) ++ later) → All (λ form. IsPlaced high (tree_of form)) forms
All-placed-forms [] high later ascends = All-nil (λ form. IsPlaced high (tree_of form))
All-placed-forms (form ∷ forms) high later ascends =
    let tree = tree_of form in
    let here = subst (Ascends 0 high) (append_assoc (spelling tree) (flat_map spelling (trees_of forms)) later) ascends in
    All-cons (λ form. IsPlaced high (tree_of form)) form forms (IsPlaced-tree tree high _ here)
    (All-placed-forms forms high later (Ascends-behind tree 0 high _ here))

-- each form that a text spells is placed in it
pub All-placed : (text : List ℕ) (want : ℕ) (forms : List Form) (rest : ℕ) → Spelled text want (trees_of forms) rest
    → All (λ form. IsPlaced (length text) (tree_of form)) forms
All-placed text want forms rest spelled =
    All-placed-forms forms (length text) spelled.later
    (subst (Ascends 0 (length text)) spelled.spells (Ascends-tokens_from between 0 (length text) text (omega arith)))
