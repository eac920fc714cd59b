-- The faults of the second round stand in the order of the text.
use Rattle.std.proofs.Common.{◌≡◌, ℕ, ◌+◌, ◌*◌, ◌≤◌, ◌<◌, inl, inr, Bool, true, false, List, [], ◌∷◌, ◌++◌, Option, Some, None, refl, sym, subst, arith}
use Rattle.std.specs.List.{All}
use Rattle.std.proofs.lemmas.List.{append_assoc, append-nil}
use Rattle.std.proofs.lemmas.List.Elements.{All-nil, All-cons, All-weaker}
use Rattle.rc_base.specs.Tree.{Tree, word, list, Trees, nil, cons}
use Rattle.rc_base.specs.Placed.{starts, all_starts, Rise, IsPlaced}
use Rattle.rc_form.proofs.Placed.{Rise-lower}
use Rattle.rc_check.specs.Faults.{first, rule_of}
use Rattle.rc_check.specs.FirstOf.{rank, ComesBefore, IsFirstOf}
use Rattle.rc_check.specs.SecondParts.{Standing, Part, with_form, parts_at, parts_in, parts_of, standing_in, standing_alone, offset_of}
use Rattle.rc_check.specs.SecondFaults.{is_twice, is_unknown, is_wrong_kind, is_too_many, lacks_cards, fault_where, faults_of, faults_behind, second_faults}
use Rattle.rc_check.specs.declared.grammar.Rule.{Rule}
use Rattle.rc_check.specs.declared.fault.SheetKind.{SheetKind}
use Rattle.rc_check.specs.declared.fault.SheetKind.TheVariants.{Shape, Number, Twice, Unknown, WrongKind, TooMany, NoCards}
use Rattle.rc_check.specs.declared.fault.SheetFault.{SheetFault}
use Rattle.rc_check.proofs.ShapeInOrder.{Rise-behind}

-- THE PARTS

-- the offsets of parts rise, and none is below this one
abbrev Rises : ℕ → List Part → Type 0
Rises low [] = Unit {0}
Rises low (part ∷ parts) = (low ≤ offset_of part) × Rises (offset_of part + 1) parts

-- what follows from the starts behind a tree, from wherever they rise
abbrev Follows : ℕ → List ℕ → List Part → Type 0
Follows high more others = (next : ℕ) → Rise next high more → Rises next others

-- a list of a form or of none, and then others
list_choice : (found : Option Rule) (inner : Rule → List Part) (at : Standing) (parts : Trees) (from low high : ℕ) (more : List ℕ)
    (others : List Part) → low ≤ from → Rise (from + 1) high (all_starts parts ++ more) → Follows high more others
    → ((rule : Rule) → Rises (from + 1) (inner rule ++ others)) → Rises low (with_form at parts from inner found ++ others)
list_choice None inner at parts from low high more others above rise follows within =
    follows low (Rise-lower low (from + 1) high more (omega arith) (Rise-behind (all_starts parts) more (from + 1) high rise))
list_choice (Some rule) inner at parts from low high more others above rise follows within =
    (above, within rule)

mutual
  -- the parts of a tree, and then others
  Rises-tree : (at : Option Standing) (tree : Tree) (low high : ℕ) (more : List ℕ) (others : List Part)
      → Rise low high (starts tree ++ more) → Follows high more others → Rises low (parts_at at tree ++ others)
  Rises-tree (Some at) (word bytes from to) low high more others rise follows =
      (rise.0, follows (from + 1) rise.1)
  Rises-tree (Some at) (list parts from to) low high more others rise follows =
      list_choice (rule_of at.place parts) (λ rule. parts_in at rule parts 0 parts) at parts from low high more others
      rise.0 rise.1 follows
      (λ rule. Rises-trees parts at rule parts 0 (from + 1) high more others rise.1 follows)
  Rises-tree None (word bytes from to) low high more others rise follows =
      follows low (Rise-lower low (from + 1) high more (let above = rise.0 in omega arith) rise.1)
  Rises-tree None (list parts from to) low high more others rise follows =
      follows low (Rise-behind (starts (list parts from to)) more low high rise)

  -- the same of a form's parts
  Rises-trees : (trees : Trees) (at : Standing) (rule : Rule) (all : Trees) (index low high : ℕ)
      (more : List ℕ) (others : List Part)
      → Rise low high (all_starts trees ++ more) → Follows high more others
      → Rises low (parts_in at rule all index trees ++ others)
  Rises-trees nil at rule all index low high more others rise follows = follows low rise
  Rises-trees (cons tree trees) at rule all index low high more others rise follows =
      let here = standing_in at rule all index in
      let apart = subst (Rise low high) (append_assoc (starts tree) (all_starts trees) more) rise in
      subst (Rises low) (sym (append_assoc (parts_at here tree) (parts_in at rule all (index + 1) trees) others))
      (Rises-tree here tree low high (all_starts trees ++ more) (parts_in at rule all (index + 1) trees ++ others) apart
      (λ next rise_on. Rises-trees trees at rule all (index + 1) next high more others rise_on follows))

-- all parts of a tree that is placed
Rises-parts : (tree : Tree) (high : ℕ) → IsPlaced high tree → Rises 0 (parts_of tree)
Rises-parts tree high placed =
    subst (Rises 0) (append-nil (parts_of tree))
    (Rises-tree (Some standing_alone) tree 0 high [] [] (subst (Rise 0 high) (sym (append-nil (starts tree))) placed)
    (λ next rise. tt))

-- THEIR FAULTS

-- when a fault is told: by its offset, and at one offset by its kind
abbrev turn : SheetFault → ℕ
turn fault = 7 * fault.at + rank fault.kind

-- the turns don't fall, and none is below this one
abbrev Ordered : ℕ → List SheetFault → Type 0
Ordered low [] = Unit {0}
Ordered low (fault ∷ faults) = (low ≤ turn fault) × Ordered (turn fault) faults

-- what isn't below a turn isn't below a lower one
Ordered-lower : (low from : ℕ) (faults : List SheetFault) → low ≤ from → Ordered from faults → Ordered low faults
Ordered-lower low from [] below ordered = tt
Ordered-lower low from (fault ∷ faults) below ordered = (let above = ordered.0 in omega arith, ordered.1)

-- none of these faults is below the turn
All-ordered : (low : ℕ) (faults : List SheetFault) → Ordered low faults → All (λ fault. low ≤ turn fault) faults
All-ordered low [] ordered = All-nil (λ fault. low ≤ turn fault)
All-ordered low (fault ∷ faults) ordered =
    All-cons (λ fault. low ≤ turn fault) fault faults ordered.0
    (All-ordered low faults (Ordered-lower low (turn fault) faults ordered.0 ordered.1))

-- the fault by a test, and then others
Ordered-where : (b : Bool) (kind : SheetKind) (part : Part) (low : ℕ) (others : List SheetFault)
    → low ≤ 7 * offset_of part + rank kind → Ordered (7 * offset_of part + rank kind) others
    → Ordered low (fault_where b kind part ++ others)
Ordered-where true kind part low others above ordered = (above, ordered)
Ordered-where false kind part low others above ordered =
    Ordered-lower low (7 * offset_of part + rank kind) others above ordered

-- the faults of a part, and then others
Ordered-part : (all earlier : List Part) (part : Part) (low : ℕ) (others : List SheetFault) → low ≤ 7 * offset_of part
    → Ordered (7 * (offset_of part + 1)) others → Ordered low (faults_of all earlier part ++ others)
Ordered-part all earlier part low others above ordered =
    let here = 7 * offset_of part in
    let twice = fault_where (is_twice earlier part) Twice part in
    let unknown = fault_where (is_unknown all earlier part) Unknown part in
    let wrong = fault_where (is_wrong_kind earlier part) WrongKind part in
    let many = fault_where (is_too_many all earlier part) TooMany part in
    let cards = fault_where (lacks_cards all part) NoCards part in
    simp append_assoc
    (Ordered-where (is_twice earlier part) Twice part low (unknown ++ (wrong ++ (many ++ (cards ++ others)))) (omega arith)
    (Ordered-where (is_unknown all earlier part) Unknown part (here + 2) (wrong ++ (many ++ (cards ++ others))) (omega arith)
    (Ordered-where (is_wrong_kind earlier part) WrongKind part (here + 3) (many ++ (cards ++ others)) (omega arith)
    (Ordered-where (is_too_many all earlier part) TooMany part (here + 4) (cards ++ others) (omega arith)
    (Ordered-where (lacks_cards all part) NoCards part (here + 5) others (omega arith)
    (Ordered-lower (here + 6) (7 * (offset_of part + 1)) others (omega arith) ordered))))))

-- the faults of parts that rise
Ordered-behind : (all earlier parts : List Part) (low : ℕ) → Rises low parts → Ordered (7 * low) (faults_behind all earlier parts)
Ordered-behind all earlier [] low rises = tt
Ordered-behind all earlier (part ∷ parts) low rises =
    let above = rises.0 in
    Ordered-part all earlier part (7 * low) (faults_behind all (earlier ++ part ∷ []) parts) (omega arith)
    (Ordered-behind all (earlier ++ part ∷ []) parts (offset_of part + 1) rises.1)

-- a kind has one of seven ranks
rank_below : (kind : SheetKind) → rank kind < 7
rank_below Shape = omega arith
rank_below Number = omega arith
rank_below Twice = omega arith
rank_below Unknown = omega arith
rank_below WrongKind = omega arith
rank_below TooMany = omega arith
rank_below NoCards = omega arith

-- a fault whose turn isn't below that of another doesn't come before it
none_before : (fault other : SheetFault) → turn fault ≤ turn other → ComesBefore other fault → ⊥
none_before fault other above (inl before) = let most = rank_below other.kind in omega arith
none_before fault other above (inr before) =
    let same = before.0 in let less = before.1 in omega arith

-- the first of faults in order is the first of them all
Ordered-first : (low : ℕ) (faults : List SheetFault) (fault : SheetFault) → Ordered low faults → first faults ≡ Some fault
    → IsFirstOf faults fault
Ordered-first low [] fault ordered is = absurd cc
Ordered-first low (here ∷ faults) fault ordered is =
    let same : here ≡ fault = cc in
    subst (IsFirstOf (here ∷ faults)) same (record {
      found = (0, omega arith, refl);
      least = All-weaker (λ other. turn here ≤ turn other) (λ other. ComesBefore other here → ⊥) (none_before here)
          (here ∷ faults) (All-ordered (turn here) (here ∷ faults) (omega arith, ordered.1));
    })

-- no fault comes before the first of a form that is placed
pub first_is_least : (size : ℕ) (tree : Tree) (fault : SheetFault) → IsPlaced size tree → first (second_faults tree) ≡ Some fault
    → IsFirstOf (second_faults tree) fault
first_is_least size tree fault placed is =
    Ordered-first 0 (second_faults tree) fault
    (Ordered-behind (parts_of tree) [] (parts_of tree) 0 (Rises-parts tree size placed)) is
