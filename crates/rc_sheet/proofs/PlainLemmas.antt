-- What an alternative says that has no other in it, and an item, and the end of a stage, by their parts.
use Rattle.std.proofs.Common.{◌≡◌, ◌∙◌, ◌<◌, ◌≤◌, List, [], length, get_or, IsTrue, Option, refl, ap, arith}
use Rattle.std.specs.Prelude.{option_map}
use Rattle.rc_base.specs.Tree.{Trees}
use Rattle.rc_form.specs.Form.{tree_of, trees_of, packed}
use Rattle.rc_form.specs.declared.form.Form.{Form}
use Rattle.rc_sheet_spec.specs.Sheet.{do_alt, if_alt, SheetItem, do_item}
use Rattle.rc_sheet_spec.specs.Naming.{Naming, Scope}
use Rattle.rc_check.specs.Faults.{fits}
use Rattle.rc_check.specs.declared.grammar.Rule.{Rule}
use Rattle.rc_check.specs.declared.grammar.Rule.TheVariants as rules
use Rattle.rc_sheet.specs.ReadNames.{both}
use Rattle.rc_sheet.specs.ReadExpressions.{test_at}
use Rattle.rc_sheet.specs.ReadEffects.{effects_at, plain_alt, alts_at}
use Rattle.rc_sheet.specs.ReadItems.{Begun, choice_of, end_rule, plain_item}
use Rattle.rc_sheet.proofs.Lists.{two_parts, behind_head}
use Rattle.rc_sheet.proofs.Parts.{rest, behind_two}
use Rattle.rc_sheet.proofs.Readings.{fits_known}

pub do_alt_read : (naming : Naming) (scope : Scope) (parts : List Form) (rule : Rule)
    → IsTrue (fits (length parts) rule) → rule ≡ rules.Do
    → plain_alt naming scope rule (packed (trees_of parts)) ≡ option_map do_alt (effects_at naming scope (rest 1 parts))
do_alt_read naming scope parts rule sized is =
    let fit = fits_known (length parts) rule rules.Do sized is in
    let few : 1 ≤ length parts = grind arith in
    ap (λ rule. plain_alt naming scope rule (packed (trees_of parts))) is
    ∙ behind_head (plain_alt naming scope rules.Do) (λ effects. option_map do_alt (effects_at naming scope effects))
    (λ head parts. refl) parts few

pub if_alt_read : (naming : Naming) (scope : Scope) (parts : List Form) (rule : Rule) (t : Form)
    → IsTrue (fits (length parts) rule) → rule ≡ rules.If → t ≡ get_or parts 1 t
    → plain_alt naming scope rule (packed (trees_of parts))
    ≡ option_map (λ p. if_alt p.0 p.1) (both (test_at naming scope (tree_of t)) (effects_at naming scope (rest 2 parts)))
if_alt_read naming scope parts rule t sized is at =
    let fit = fits_known (length parts) rule rules.If sized is in
    let few : 1 < length parts = grind arith in
    ap (λ rule. plain_alt naming scope rule (packed (trees_of parts))) is
    ∙ ap (plain_alt naming scope rules.If) (behind_two parts t few at)

pub end_read : (naming : Naming) (parts : List Form) (rule : Rule) (t : Form)
    → IsTrue (fits (length parts) rule) → rule ≡ rules.End → t ≡ get_or parts 1 t
    → end_rule naming rule (packed (trees_of parts)) ≡ test_at naming [] (tree_of t)
end_read naming parts rule t sized is at =
    let fit = fits_known (length parts) rule rules.End sized is in
    let two : length parts ≡ 2 = grind arith in
    ap (λ rule. end_rule naming rule (packed (trees_of parts))) is
    ∙ ap (end_rule naming rules.End) (two_parts parts t (omega (arith, two)) (omega (arith, two)) at)

pub do_item_read : (naming : Naming) (begun : Begun) (parts : List Form) (rule : Rule)
    → IsTrue (fits (length parts) rule) → rule ≡ rules.Do
    → plain_item naming begun rule (packed (trees_of parts))
    ≡ option_map (λ effects. (do_item effects, begun)) (effects_at naming [] (rest 1 parts))
do_item_read naming begun parts rule sized is =
    let fit = fits_known (length parts) rule rules.Do sized is in
    let few : 1 ≤ length parts = grind arith in
    let read : Trees → Option (SheetItem × Begun) =
    λ effects. option_map (λ effects. (do_item effects, begun)) (effects_at naming [] effects) in
    ap (λ rule. plain_item naming begun rule (packed (trees_of parts))) is
    ∙ behind_head (plain_item naming begun rules.Do) read (λ head parts. refl) parts few

pub choice_read : (naming : Naming) (begun : Begun) (parts : List Form) (rule : Rule)
    → IsTrue (fits (length parts) rule) → rule ≡ rules.Choice
    → plain_item naming begun rule (packed (trees_of parts)) ≡ choice_of begun (alts_at naming (rest 1 parts))
choice_read naming begun parts rule sized is =
    let fit = fits_known (length parts) rule rules.Choice sized is in
    let few : 1 ≤ length parts = grind arith in
    ap (λ rule. plain_item naming begun rule (packed (trees_of parts))) is
    ∙ behind_head (plain_item naming begun rules.Choice) (λ alts. choice_of begun (alts_at naming alts))
    (λ head parts. refl) parts few
