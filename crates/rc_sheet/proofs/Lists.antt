-- What is read off a list, by the form that it has, and the parts of lists.
use denote.Param.Weighed.{most}
use Rattle.std.proofs.Common.{◌≡◌, ℕ, max, ◌+◌, ◌-◌, ◌<◌, ◌≤◌, List, [], ◌∷◌, length, get_or, take, drop, Option, Some, Result, Ok, Err, sym, ap, ◌∙◌, arith}
use Rattle.std.proofs.lemmas.List.{take_all}
use Rattle.rc_base.specs.Tree.{Tree, list, Trees, nil, cons}
use Rattle.rc_form.specs.Form.{tree_of, trees_of, trees_in, packed}
use Rattle.rc_form.specs.declared.form.Form.{Form}
use Rattle.rc_form.specs.declared.form.Form.TheVariants.{List as ListOf}
use Rattle.rc_form.specs.declared.form.Form.TheViews.{sized-List}
use Rattle.rc_form.specs.declared.form.Form.{size-Form}
use Rattle.rc_form.specs.declared.form.Parts.{Parts, size-Parts, size_is-Parts}
use Rattle.rc_form.specs.declared.form.Span.{Span}
use Rattle.rc_form.proofs.FormLemmas.{tree_of_list}
use Rattle.rc_check.specs.declared.grammar.Symbol.{Symbol}
use Rattle.rc_check.specs.declared.grammar.Rule.{Rule}
use Rattle.rc_sheet.specs.ReadNames.{◌>>=◌, rule_at}
use Rattle.rc_sheet.specs.Gives.{Gives}
use Rattle.rc_sheet.specs.declared.fail.Unread.{Unread}
use Rattle.rc_sheet.specs.declared.fail.Unread.TheVariants.{Meaningless, Memory}

-- what gives a reading gives an equal one
pub gives_same : {X Y : Type 0} (view : X → Y) (result : Result X Unread) (reading other : Option Y)
    → other ≡ reading → Gives view result reading → Gives view result other
gives_same view (Ok x) reading other same gives = same ∙ gives
gives_same view (Err Memory) reading other same gives = tt
gives_same view (Err Meaningless) reading other same gives = same ∙ gives

-- What is read off a list is what its form says, which is read off its parts: `rules` as the reading has it, `forms` as the
-- reader takes it apart.
pub list_gives : {X Y : Type 0} (view : X → Y) (reading : Tree → Option Y) (place : Symbol)
    (rules forms : ℕ → Rule → Trees → Option Y)
    → ((parts : Trees) (from to : ℕ) → reading (list parts from to) ≡ (rule_at place parts >>= λ rule. rules from rule parts))
    → ((from : ℕ) (rule : Rule) (parts : Trees) → rules from rule parts ≡ forms from rule parts)
    → (form : Form) (items : Parts) (span : Span) (rule : Rule) (parts : List Form) (result : Result X Unread)
    → form ≡ ListOf items span → trees_of parts ≡ trees_in items → rule_at place (packed (trees_of parts)) ≡ Some rule
    → Gives view result (forms span.from rule (packed (trees_of parts))) → Gives view result (reading (tree_of form))
list_gives view reading place rules forms opens same form items span rule parts result is parts_is has gives =
    let trees : Trees = packed (trees_in items) in
    let found = ap (λ trees. rule_at place (packed trees)) (sym parts_is) ∙ has in
    let opened = ap reading (tree_of_list form items span is) ∙ opens trees span.from span.to in
    let first = ap (λ found. found >>= λ rule. rules span.from rule trees) found in
    let last = same span.from rule trees ∙ ap (λ trees. forms span.from rule (packed trees)) (sym parts_is) in
    gives_same view result _ _ (opened ∙ first ∙ last) gives

-- the parts of a list are less deep than the list
pub parts_fall : (form : Form) (items : Parts) (span : Span) (parts : List Form) → form ≡ ListOf items span
    → parts ≡ items.forms.now → most size-Form parts < size-Form form
parts_fall form items span parts is parts_is =
    let depth : size-Form (ListOf items span) ≡ max (size-Parts items) 0 + 1 = sized-List items span in
    let inner : size-Parts items ≡ max (most size-Form items.forms.now) 0 + 1 = size_is-Parts items in
    let same : size-Form form ≡ size-Form (ListOf items span) = ap size-Form is in
    let parts_same : most size-Form parts ≡ most size-Form items.forms.now = ap (most size-Form) parts_is in
    omega arith

-- what gives the reading of a list's parts, where its trees are these
pub gives_parts : {X Y : Type 0} (view : X → Y) (result : Result X Unread) (reading : Trees → Option Y) {parts trees : Trees}
    → parts ≡ trees → Gives view result (reading trees) → Gives view result (reading parts)
gives_parts view result reading are gives = gives_same view result _ _ (ap reading are) gives

-- the trees of two parts, of three and of four
pub two_parts : (forms : List Form) (b : Form) → 2 ≤ length forms → length forms < 3 → b ≡ get_or forms 1 b
    → packed (trees_of forms) ≡ cons (tree_of (get_or forms 0 b)) (cons (tree_of b) nil)
two_parts [] b most least b_is = absurd (omega arith)
two_parts (a ∷ []) b most least b_is = absurd (omega arith)
two_parts (a ∷ b' ∷ []) b most least b_is = cc
two_parts (a ∷ b' ∷ c ∷ forms) b most least b_is = absurd (omega arith)

pub three_parts : (forms : List Form) (b c : Form) → 3 ≤ length forms → length forms < 4
    → b ≡ get_or forms 1 b → c ≡ get_or forms 2 c
    → packed (trees_of forms) ≡ cons (tree_of (get_or forms 0 b)) (cons (tree_of b) (cons (tree_of c) nil))
three_parts [] b c most least b_is c_is = absurd (omega arith)
three_parts (a ∷ []) b c most least b_is c_is = absurd (omega arith)
three_parts (a ∷ b' ∷ []) b c most least b_is c_is = absurd (omega arith)
three_parts (a ∷ b' ∷ c' ∷ []) b c most least b_is c_is = cc
three_parts (a ∷ b' ∷ c' ∷ d ∷ forms) b c most least b_is c_is = absurd (omega arith)

pub four_parts : (forms : List Form) (b c d : Form) → 4 ≤ length forms → length forms < 5
    → b ≡ get_or forms 1 b → c ≡ get_or forms 2 c → d ≡ get_or forms 3 d
    → packed (trees_of forms) ≡ cons (tree_of (get_or forms 0 b)) (cons (tree_of b) (cons (tree_of c) (cons (tree_of d) nil)))
four_parts [] b c d most least b_is c_is d_is = absurd (omega arith)
four_parts (a ∷ []) b c d most least b_is c_is d_is = absurd (omega arith)
four_parts (a ∷ b' ∷ []) b c d most least b_is c_is d_is = absurd (omega arith)
four_parts (a ∷ b' ∷ c' ∷ []) b c d most least b_is c_is d_is = absurd (omega arith)
four_parts (a ∷ b' ∷ c' ∷ d' ∷ []) b c d most least b_is c_is d_is = cc
four_parts (a ∷ b' ∷ c' ∷ d' ∷ e ∷ forms) b c d most least b_is c_is d_is = absurd (omega arith)

-- what is read off the parts behind a head
pub behind_head : {Y : Type 0} (reading all : Trees → Option Y)
    → ((head : Tree) (parts : Trees) → reading (cons head parts) ≡ all parts)
    → (forms : List Form) → 1 ≤ length forms
    → reading (packed (trees_of forms)) ≡ all (packed (trees_of (take (length forms - 1) (drop 1 forms))))
behind_head reading all behind [] some = absurd (omega arith)
behind_head reading all behind (head ∷ forms) some =
    let rest : take (length (head ∷ forms) - 1) (drop 1 (head ∷ forms)) ≡ forms = take_all _ forms (omega arith) in
    behind (tree_of head) (packed (trees_of forms)) ∙ ap (λ forms. all (packed (trees_of forms))) (sym rest)
