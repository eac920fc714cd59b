-- The faults of a form stand in the order of the text.
use Rattle.std.proofs.Common.{◌≡◌, ℕ, ◌+◌, ◌≤◌, ◌<◌, inl, inr, Bool, true, false, cond, List, [], ◌∷◌, ◌++◌, Option, Some, None, refl, sym, subst, arith}
use Rattle.std.specs.List.{All}
use Rattle.std.specs.Option.{option_map, option_to_list}
use Rattle.std.proofs.lemmas.List.{append_assoc, append-nil}
use Rattle.std.proofs.lemmas.List.Elements.{All-nil, All-cons, All-weaker}
use Rattle.rc_base.specs.Tree.{Tree, word, list, Trees, nil, cons}
use Rattle.rc_base.specs.Placed.{starts, all_starts, Rise, IsPlaced}
use Rattle.rc_form.proofs.Placed.{Rise-lower}
use Rattle.rc_check.specs.FirstOf.{ComesBefore, IsFirstOf}
use Rattle.rc_check.specs.Faults.{first, faults, faults_at, place_at, faults_in, told_faults, fault_place, first_start, start_of, atom_kind, some_form_fits, fits, lacks_players, count, rule_of, shape}
use Rattle.rc_check.specs.declared.fault.SheetKind.{SheetKind}
use Rattle.rc_check.specs.declared.fault.SheetFault.{SheetFault}
use Rattle.rc_check.specs.declared.grammar.Symbol.{Symbol}
use Rattle.rc_check.specs.declared.grammar.Rule.{Rule}

-- the offsets rise, and none is below this one
abbrev pub Ordered : ℕ → List SheetFault → Type 0
Ordered low [] = Unit {0}
Ordered low (fault ∷ faults) = (low ≤ fault.at) × Ordered (fault.at + 1) faults

-- what isn't below an offset isn't below a lower one
Ordered-lower : (low from : ℕ) (faults : List SheetFault) → low ≤ from → Ordered from faults → Ordered low faults
Ordered-lower low from [] below ordered = tt
Ordered-lower low from (fault ∷ faults) below ordered = (let above = ordered.0 in omega arith, ordered.1)

-- none of these faults is below the offset
All-ordered : (low : ℕ) (faults : List SheetFault) → Ordered low faults → All (λ fault. low ≤ fault.at) faults
All-ordered low [] ordered = All-nil (λ fault. low ≤ fault.at)
All-ordered low (fault ∷ faults) ordered =
    let above = ordered.0 in
    All-cons (λ fault. low ≤ fault.at) fault faults above
    (All-ordered low faults (Ordered-lower low (fault.at + 1) faults (omega arith) ordered.1))

-- a fault doesn't come before itself, nor one behind it
none_before : (fault other : SheetFault) → fault.at < other.at → ComesBefore other fault → ⊥
none_before fault other behind (inl before) = omega arith
none_before fault other behind (inr before) = let same = before.0 in omega arith

not_itself : (fault : SheetFault) → ComesBefore fault fault → ⊥
not_itself fault (inl before) = omega arith
not_itself fault (inr before) = let less = before.1 in omega arith

-- the first of faults in order is the first of them all
pub Ordered-first : (low : ℕ) (faults : List SheetFault) (fault : SheetFault) → Ordered low faults → first faults ≡ Some fault
    → IsFirstOf faults fault
Ordered-first low [] fault ordered is = absurd cc
Ordered-first low (here ∷ faults) fault ordered is =
    let same : here ≡ fault = cc in
    subst (IsFirstOf (here ∷ faults)) same (record {
      found = (0, omega arith, refl);
      least = All-cons (λ other. ComesBefore other here → ⊥) here faults (not_itself here)
          (All-weaker (λ other. here.at + 1 ≤ other.at) (λ other. ComesBefore other here → ⊥)
          (λ other behind. none_before here other (omega arith)) faults (All-ordered (here.at + 1) faults ordered.1));
    })

-- the numbers behind some rise too
pub Rise-behind : (before numbers : List ℕ) (low high : ℕ) → Rise low high (before ++ numbers) → Rise low high numbers
Rise-behind [] numbers low high rise = rise
Rise-behind (n ∷ before) numbers low high rise =
    Rise-lower low (n + 1) high numbers (let above = rise.0 in omega arith) (Rise-behind before numbers (n + 1) high rise.1)

-- what follows from the starts behind a tree, from wherever they rise
abbrev pub Follows : ℕ → List ℕ → List SheetFault → Type 0
Follows high more others = (next : ℕ) → Rise next high more → Ordered next others

-- one fault at a start, and then others
one_fault : (fault : SheetFault) (low high : ℕ) (more : List ℕ) (others : List SheetFault) → low ≤ fault.at
    → Rise (fault.at + 1) high more → Follows high more others → Ordered low (fault ∷ others)
one_fault fault low high more others above rise follows =
    (above, follows (fault.at + 1) rise)

-- at most one fault at a start, and then others
atom_fault : (kind : Option SheetKind) (from low high : ℕ) (more : List ℕ) (others : List SheetFault) → low ≤ from
    → Rise (from + 1) high more → Follows high more others
    → Ordered low (option_to_list (option_map (λ kind. record { kind = kind; at = from }) kind) ++ others)
atom_fault None from low high more others above rise follows =
    Ordered-lower low (from + 1) others (omega arith) (follows (from + 1) rise)
atom_fault (Some kind) from low high more others above rise follows =
    one_fault (record { kind = kind; at = from }) low high more others above rise follows

-- a tree's starts begin with its own
Rise-start : (tree : Tree) (low high : ℕ) (more : List ℕ) → Rise low high (starts tree ++ more)
    → (low ≤ start_of tree) × Rise (start_of tree + 1) high more
Rise-start (word bytes from to) low high more rise = rise
Rise-start (list parts from to) low high more rise = (rise.0, Rise-behind (all_starts parts) more (from + 1) high rise.1)

-- the fault of a list that is to be no form, at the first of its parts behind the head
first_part : (parts : Trees) (from low high : ℕ) (more : List ℕ) (others : List SheetFault) → low ≤ from
    → Rise (from + 1) high (all_starts parts ++ more) → Follows high more others
    → Ordered low (shape (first_start from parts) ∷ others)
first_part nil from low high more others above rise follows = one_fault (shape from) low high more others above rise follows
first_part (cons tree trees) from low high more others above rise follows =
    let here = Rise-start tree (from + 1) high (all_starts trees ++ more) (subst (Rise (from + 1) high) (append_assoc (starts tree) (all_starts trees) more) rise) in
    let above' = here.0 in
    one_fault (shape (start_of tree)) low high more others (omega arith) (Rise-behind (all_starts trees) more (start_of tree + 1) high here.1) follows

-- the same for a test's two ways
either_fault : (b : Bool) (x y low : ℕ) (others : List SheetFault) → Ordered low (shape x ∷ others) → Ordered low (shape y ∷ others)
    → Ordered low (shape (cond b x y) ∷ others)
either_fault true x y low others first second = first
either_fault false x y low others first second = second

no_form : (place : Symbol) (parts : Trees) (from low high : ℕ) (more : List ℕ) (others : List SheetFault) → low ≤ from
    → Rise (from + 1) high (all_starts parts ++ more) → Follows high more others
    → Ordered low (shape (fault_place place from parts) ∷ others)
no_form place nil from low high more others above rise follows = one_fault (shape from) low high more others above rise follows
no_form place (cons head parts) from low high more others above rise follows =
    let behind = Rise-behind (starts head) (all_starts parts ++ more) (from + 1) high (subst (Rise (from + 1) high) (append_assoc (starts head) (all_starts parts) more) rise) in
    either_fault (some_form_fits place head (count (cons head parts))) (first_start from parts) from low others
    (first_part parts from low high more others above behind follows)
    (one_fault (shape from) low high more others above (Rise-behind (all_starts parts) more (from + 1) high behind) follows)

-- the faults of a list that is to be a form
rule_choice : (has_count lacks : Bool) (inner others : List SheetFault) (from low : ℕ) → low ≤ from → Ordered (from + 1) (inner ++ others)
    → Ordered (from + 1) others → Ordered low ((cond has_count (cond lacks (shape from ∷ inner) inner) (shape from ∷ [])) ++ others)
rule_choice true true inner others from low above within behind = (above, within)
rule_choice true false inner others from low above within behind =
    Ordered-lower low (from + 1) (inner ++ others) (omega arith) within
rule_choice false lacks inner others from low above within behind = (above, behind)

told_choice : (rule : Option Rule) (inner : Rule → List SheetFault) (place : Symbol) (parts : Trees) (from low high : ℕ) (more : List ℕ)
    (others : List SheetFault) → low ≤ from → Rise (from + 1) high (all_starts parts ++ more) → Follows high more others
    → ((rule : Rule) → Ordered (from + 1) (inner rule ++ others)) → Ordered low (told_faults place from parts inner rule ++ others)
told_choice None inner place parts from low high more others above rise follows within =
    no_form place parts from low high more others above rise follows
told_choice (Some rule) inner place parts from low high more others above rise follows within =
    rule_choice (fits (count parts) rule) (lacks_players rule parts) (inner rule) others from low above (within rule)
    (follows (from + 1) (Rise-behind (all_starts parts) more (from + 1) high rise))

mutual
  -- the faults of a tree, and then others
  pub Ordered-tree : (place : Option Symbol) (tree : Tree) (low high : ℕ) (more : List ℕ) (others : List SheetFault)
      → Rise low high (starts tree ++ more) → Follows high more others → Ordered low (faults_at place tree ++ others)
  Ordered-tree (Some place) (word bytes from to) low high more others rise follows =
      atom_fault (atom_kind place bytes) from low high more others rise.0 rise.1 follows
  Ordered-tree (Some place) (list parts from to) low high more others rise follows =
      told_choice (rule_of place parts) (λ rule. faults_in rule (count parts) 0 parts) place parts from low high more others rise.0 rise.1 follows
      (λ rule. Ordered-trees parts rule (count parts) 0 (from + 1) high more others rise.1 follows)
  Ordered-tree None (word bytes from to) low high more others rise follows =
      follows low (Rise-lower low (from + 1) high more (let above = rise.0 in omega arith) rise.1)
  Ordered-tree None (list parts from to) low high more others rise follows =
      follows low (Rise-behind (starts (list parts from to)) more low high rise)

  -- the same of a form's parts
  Ordered-trees : (trees : Trees) (rule : Rule) (n index low high : ℕ) (more : List ℕ) (others : List SheetFault)
      → Rise low high (all_starts trees ++ more) → Follows high more others → Ordered low (faults_in rule n index trees ++ others)
  Ordered-trees nil rule n index low high more others rise follows = follows low rise
  Ordered-trees (cons tree trees) rule n index low high more others rise follows =
      let place = place_at rule n index in
      let apart = subst (Rise low high) (append_assoc (starts tree) (all_starts trees) more) rise in
      subst (Ordered low) (sym (append_assoc (faults_at place tree) (faults_in rule n (index + 1) trees) others))
      (Ordered-tree place tree low high (all_starts trees ++ more) (faults_in rule n (index + 1) trees ++ others) apart
      (λ next rise_on. Ordered-trees trees rule n (index + 1) next high more others rise_on follows))

-- nothing follows
Follows-none : (high : ℕ) → Follows high [] []
Follows-none high next rise = tt

-- all faults of a tree that is placed
pub Ordered-faults : (place : Symbol) (tree : Tree) (high : ℕ) → IsPlaced high tree → Ordered 0 (faults place tree)
Ordered-faults place tree high placed =
    subst (Ordered 0) (append-nil (faults place tree)) (Ordered-tree (Some place) tree 0 high [] [] (subst (Rise 0 high) (sym (append-nil (starts tree))) placed) (Follows-none high))
