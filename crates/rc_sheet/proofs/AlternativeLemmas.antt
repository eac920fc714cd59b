-- What an alternative with an alternative in it says, by its parts.
use Rattle.std.proofs.Common.{◌≡◌, ◌∙◌, ℕ, List, length, get_or, IsTrue, Some, sym, ap, arith}
use Rattle.std.specs.Prelude.{option_map}
use Rattle.rc_form.specs.Form.{tree_of, trees_of, packed}
use Rattle.rc_form.specs.declared.form.Form.{Form}
use Rattle.rc_sheet_spec.specs.Sheet.{Domain, any_alt}
use Rattle.rc_sheet_spec.specs.Naming.{Naming, Scope, bind, sort_of}
use Rattle.rc_check.specs.Faults.{fits}
use Rattle.rc_check.specs.declared.grammar.Symbol.TheVariants as symbol
use Rattle.rc_check.specs.declared.grammar.Rule.{Rule}
use Rattle.rc_check.specs.declared.grammar.Rule.TheVariants as rules
use Rattle.rc_sheet.specs.ReadNames.{both, rule_at, binder_at}
use Rattle.rc_sheet.specs.ReadEffects.{domain_at, alt_at, alt_rule, alt_of_list}
use Rattle.rc_sheet.proofs.Parts.{four_parts}
use Rattle.rc_sheet.proofs.Readings.{of_rule, fits_known, behind_both}

pub any_read : (naming : Naming) (scope inner : Scope) (parts : List Form) (rule : Rule) (over variable form : Form)
    (domain : Domain) (bound : ℕ)
    → rule_at symbol.Alternative (packed (trees_of parts)) ≡ Some rule → IsTrue (fits (length parts) rule) → rule ≡ rules.AnyOf
    → over ≡ get_or parts 1 over → variable ≡ get_or parts 2 variable → form ≡ get_or parts 3 form
    → both (domain_at naming scope (tree_of over)) (binder_at naming.names.vars scope (tree_of variable)) ≡ Some (domain, bound)
    → inner ≡ bind naming scope bound (sort_of domain)
    → option_map (λ alt. any_alt domain bound alt) (alt_at naming inner (tree_of form))
    ≡ alt_of_list naming scope (packed (trees_of parts))
any_read naming scope inner parts rule over variable form domain bound given sized is at also last members inside =
    let fit = fits_known (length parts) rule rules.AnyOf sized is in
    let four : length parts ≡ 4 = grind arith in
    let read = λ (domain : Domain) (bound : ℕ). option_map (λ alt. any_alt domain bound alt)
    (alt_at naming (bind naming scope bound (sort_of domain)) (tree_of form)) in
    ap (λ inner. option_map (λ alt. any_alt domain bound alt) (alt_at naming inner (tree_of form))) inside
    ∙ behind_both (domain_at naming scope (tree_of over))
    (binder_at naming.names.vars scope (tree_of variable)) read domain bound members
    ∙ sym (of_rule symbol.Alternative (packed (trees_of parts))
    (λ rule. alt_rule naming scope rule (packed (trees_of parts))) rule rules.AnyOf given is
    ∙ ap (alt_rule naming scope rules.AnyOf) (four_parts parts over variable form four at also last))
