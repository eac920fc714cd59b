-- The attributes that may stand before the parts of a form.
use Rattle.std.proofs.Common.{◌≡◌, ℕ, suc, zero, ◌+◌, ◌<◌, List, [], ◌++◌, length, get_or, refl, sym, ap, ◌∙◌, arith, append_assoc, append-nil}
use Rattle.rc_base.specs.Tree.{Trees, nil, cons}
use Rattle.rc_form.specs.Form.{tree_of, trees_of, packed}
use Rattle.rc_form.specs.declared.form.Form.{Form}
use Rattle.rc_form.proofs.FormLemmas.{count_packed}
use Rattle.rc_check.specs.SecondParts.{part_at, front, attributes_of, attributes_among, inner_attributes, above_in, attributes_behind}
use Rattle.rc_check.specs.Entered.{entered}
use Rattle.rc_check.proofs.PartLemmas.{part_there}
use Rattle.rc_check.specs.Faults.{count}
use Rattle.rc_check.specs.declared.grammar.Rule.{Rule}
use Rattle.rc_check.specs.declared.grammar.Rule.TheVariants as rule

-- no part stands before the first
pub none_before : (parts : Trees) → attributes_among (front 0 parts) ≡ []
none_before nil = refl
none_before (cons tree trees) = refl

pub at_start : (rule : Rule) (parts : Trees) → inner_attributes rule parts 0 ≡ entered rule parts
at_start rule.Group parts = refl
at_start rule.Deck parts = none_before parts
at_start rule.Branch parts = none_before parts
at_start rule parts = refl

-- the attributes of one part more
among_more : (parts : Trees) (index : ℕ) → index < count parts
    → attributes_among (front (suc index) parts) ≡ attributes_among (front index parts) ++ attributes_of (part_at index parts)
among_more nil index lt = absurd (omega (arith, lt))
among_more (cons tree trees) zero lt = ap (λ more. attributes_of tree ++ more) (none_before trees)
    ∙ append-nil (attributes_of tree)
among_more (cons tree trees) (suc index) lt =
    ap (λ more. attributes_of tree ++ more) (among_more trees index (omega (arith, lt)))
    ∙ sym (append_assoc (attributes_of tree) (attributes_among (front index trees)) (attributes_of (part_at index trees)))

inner_more : (rule : Rule) (parts : Trees) (index : ℕ) → index < count parts
    → inner_attributes rule parts (suc index) ≡ inner_attributes rule parts index ++ attributes_behind rule (part_at index parts)
inner_more rule.Deck parts index lt = among_more parts index lt
inner_more rule.Branch parts index lt = among_more parts index lt
inner_more rule.Group parts index lt = refl
inner_more rule parts index lt = refl

-- which attributes may stand before the next part
pub above_more : (above : List (List ℕ)) (rule : Rule) (forms : List Form) (index : ℕ) (part : Form) → index < length forms
    → part ≡ get_or forms index part
    → above_in above rule (packed (trees_of forms)) index ++ attributes_behind rule (tree_of part)
    ≡ above_in above rule (packed (trees_of forms)) (index + 1)
above_more above rule forms index part lt is =
    let parts = packed (trees_of forms) in
    let same : part_at index parts ≡ tree_of part = part_there forms index part lt ∙ ap tree_of (sym is) in
    let next : suc index ≡ index + 1 = omega arith in
    append_assoc above (inner_attributes rule parts index) (attributes_behind rule (tree_of part))
    ∙ ap (λ tree. above ++ (inner_attributes rule parts index ++ attributes_behind rule tree)) (sym same)
    ∙ ap (λ more. above ++ more)
    (sym (inner_more rule parts index (omega (arith, lt, count_packed forms))) ∙ ap (inner_attributes rule parts) next)
