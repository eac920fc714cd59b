-- What an effect says, by its parts.
use Rattle.std.proofs.Common.{◌≡◌, ◌∙◌, ℕ, ◌<◌, ◌≤◌, List, [], ◌∷◌, length, get_or, IsTrue, Some, sym, ap, arith}
use Rattle.std.specs.Prelude.{option_map}
use Rattle.rc_base.specs.Tree.{nil, cons}
use Rattle.rc_form.specs.Form.{tree_of, trees_of, packed}
use Rattle.rc_form.specs.declared.form.Form.{Form}
use Rattle.rc_sheet_spec.specs.Sheet.{Domain, when, repeat, for_each, move, move_all, remember, forget, shuffle, peek, set_to, increase, decrease}
use Rattle.rc_sheet_spec.specs.Naming.{Naming, Scope, bind, sort_of}
use Rattle.rc_check.specs.Faults.{fits}
use Rattle.rc_check.specs.declared.grammar.Symbol.TheVariants as symbol
use Rattle.rc_check.specs.declared.grammar.Rule.{Rule}
use Rattle.rc_check.specs.declared.grammar.Rule.TheVariants as rules
use Rattle.rc_sheet.specs.ReadNames.{both, rule_at, binder_at, owner_at, loc_at, num_at}
use Rattle.rc_sheet.specs.ReadExpressions.{card_at, coll_at, int_at, test_at, range_at}
use Rattle.rc_sheet.specs.ReadEffects.{effect_rule, effect_of_list, effects_at, number_rule, plain_rule, spot_at}
use Rattle.rc_sheet.proofs.Lists.{two_parts, three_parts}
use Rattle.rc_sheet.proofs.Parts.{rest, behind_two, behind_three}
use Rattle.rc_sheet.proofs.Readings.{of_rule, fits_known, behind_both}

pub if_read : (naming : Naming) (scope : Scope) (parts : List Form) (rule : Rule) (t : Form)
    → rule_at symbol.Effect (packed (trees_of parts)) ≡ Some rule → IsTrue (fits (length parts) rule) → rule ≡ rules.If
    → t ≡ get_or parts 1 t
    → option_map (λ p. when p.0 p.1) (both (test_at naming scope (tree_of t)) (effects_at naming scope (rest 2 parts)))
    ≡ effect_of_list naming scope (packed (trees_of parts))
if_read naming scope parts rule t given sized is at =
    let fit = fits_known (length parts) rule rules.If sized is in
    let few : 1 < length parts = grind arith in
    sym (of_rule symbol.Effect (packed (trees_of parts))
    (λ rule. effect_rule naming scope rule (packed (trees_of parts))) rule rules.If given is
    ∙ ap (effect_rule naming scope rules.If) (behind_two parts t few at))

pub repeat_read : (naming : Naming) (scope : Scope) (parts : List Form) (rule : Rule) (times : Form)
    → rule_at symbol.Effect (packed (trees_of parts)) ≡ Some rule → IsTrue (fits (length parts) rule) → rule ≡ rules.Repeat
    → times ≡ get_or parts 1 times
    → option_map (λ p. repeat p.0 p.1) (both (int_at naming scope (tree_of times)) (effects_at naming scope (rest 2 parts)))
    ≡ effect_of_list naming scope (packed (trees_of parts))
repeat_read naming scope parts rule times given sized is at =
    let fit = fits_known (length parts) rule rules.Repeat sized is in
    let few : 1 < length parts = grind arith in
    sym (of_rule symbol.Effect (packed (trees_of parts))
    (λ rule. effect_rule naming scope rule (packed (trees_of parts))) rule rules.Repeat given is
    ∙ ap (effect_rule naming scope rules.Repeat) (behind_two parts times few at))

pub each_read : (naming : Naming) (scope inner : Scope) (parts : List Form) (rule : Rule) (range variable : Form)
    (domain : Domain) (bound : ℕ)
    → rule_at symbol.Effect (packed (trees_of parts)) ≡ Some rule → IsTrue (fits (length parts) rule) → rule ≡ rules.Each
    → range ≡ get_or parts 1 range → variable ≡ get_or parts 2 variable
    → both (range_at naming scope (tree_of range)) (binder_at naming.names.vars scope (tree_of variable)) ≡ Some (domain, bound)
    → inner ≡ bind naming scope bound (sort_of domain)
    → option_map (λ effects. for_each domain bound effects) (effects_at naming inner (rest 3 parts))
    ≡ effect_of_list naming scope (packed (trees_of parts))
each_read naming scope inner parts rule range variable domain bound given sized is at also members inside =
    let fit = fits_known (length parts) rule rules.Each sized is in
    let few : 2 < length parts = grind arith in
    let read = λ (domain : Domain) (bound : ℕ). option_map (λ effects. for_each domain bound effects)
    (effects_at naming (bind naming scope bound (sort_of domain)) (rest 3 parts)) in
    ap (λ inner. option_map (λ effects. for_each domain bound effects) (effects_at naming inner (rest 3 parts))) inside
    ∙ behind_both (range_at naming scope (tree_of range))
    (binder_at naming.names.vars scope (tree_of variable)) read domain bound members
    ∙ sym (of_rule symbol.Effect (packed (trees_of parts))
    (λ rule. effect_rule naming scope rule (packed (trees_of parts))) rule rules.Each given is
    ∙ ap (effect_rule naming scope rules.Each) (behind_three parts range variable few at also))

-- the trees of four parts, of which the last two are told
last_two : (parts : List Form) (third fourth : Form) → length parts ≡ 4 → third ≡ get_or parts 2 third
    → fourth ≡ get_or parts 3 fourth
    → packed (trees_of parts)
    ≡ cons (tree_of (get_or parts 0 third)) (cons (tree_of (get_or parts 1 third)) (cons (tree_of third) (cons (tree_of fourth) nil)))
last_two [] third fourth exact is also = absurd (omega arith)
last_two (a ∷ []) third fourth exact is also = absurd (omega arith)
last_two (a ∷ b ∷ []) third fourth exact is also = absurd (omega arith)
last_two (a ∷ b ∷ c ∷ []) third fourth exact is also = absurd (omega arith)
last_two (a ∷ b ∷ c ∷ d ∷ []) third fourth exact is also = cc
last_two (a ∷ b ∷ c ∷ d ∷ e ∷ parts) third fourth exact is also = absurd (omega arith)

pub move_said : (naming : Naming) (scope : Scope) (parts : List Form) (rule : Rule) (card spot : Form)
    → IsTrue (fits (length parts) rule) → rule ≡ rules.Move → card ≡ get_or parts 1 card → spot ≡ get_or parts 2 spot
    → plain_rule naming scope rule (packed (trees_of parts))
    ≡ option_map (λ p. move p.0 p.1.0 p.1.1) (both (card_at naming scope (tree_of card)) (spot_at naming scope (tree_of spot)))
move_said naming scope parts rule card spot sized is card_is spot_is =
    let fit = fits_known (length parts) rule rules.Move sized is in
    let exact : length parts ≡ 3 = grind arith in
    ap (λ rule. plain_rule naming scope rule (packed (trees_of parts))) is
    ∙ ap (plain_rule naming scope rules.Move) (three_parts parts card spot (omega (arith, exact)) (omega (arith, exact)) card_is spot_is)

pub move_all_said : (naming : Naming) (scope : Scope) (parts : List Form) (rule : Rule) (cards spot : Form)
    → IsTrue (fits (length parts) rule) → rule ≡ rules.MoveAll → cards ≡ get_or parts 2 cards → spot ≡ get_or parts 3 spot
    → plain_rule naming scope rule (packed (trees_of parts))
    ≡ option_map (λ p. move_all p.0 p.1.0 p.1.1) (both (coll_at naming scope (tree_of cards)) (spot_at naming scope (tree_of spot)))
move_all_said naming scope parts rule cards spot sized is cards_is spot_is =
    let fit = fits_known (length parts) rule rules.MoveAll sized is in
    let exact : length parts ≡ 4 = grind arith in
    ap (λ rule. plain_rule naming scope rule (packed (trees_of parts))) is
    ∙ ap (plain_rule naming scope rules.MoveAll) (last_two parts cards spot exact cards_is spot_is)

pub remember_said : (naming : Naming) (scope : Scope) (parts : List Form) (rule : Rule) (card spot : Form)
    → IsTrue (fits (length parts) rule) → rule ≡ rules.Remember → card ≡ get_or parts 1 card → spot ≡ get_or parts 2 spot
    → plain_rule naming scope rule (packed (trees_of parts))
    ≡ option_map (λ p. remember p.0 p.1.0 p.1.1) (both (card_at naming scope (tree_of card)) (spot_at naming scope (tree_of spot)))
remember_said naming scope parts rule card spot sized is card_is spot_is =
    let fit = fits_known (length parts) rule rules.Remember sized is in
    let exact : length parts ≡ 3 = grind arith in
    ap (λ rule. plain_rule naming scope rule (packed (trees_of parts))) is
    ∙ ap (plain_rule naming scope rules.Remember) (three_parts parts card spot (omega (arith, exact)) (omega (arith, exact)) card_is spot_is)

pub forget_said : (naming : Naming) (scope : Scope) (parts : List Form) (rule : Rule) (card : Form)
    → IsTrue (fits (length parts) rule) → rule ≡ rules.Forget → card ≡ get_or parts 1 card
    → plain_rule naming scope rule (packed (trees_of parts))
    ≡ option_map forget (card_at naming scope (tree_of card))
forget_said naming scope parts rule card sized is card_is =
    let fit = fits_known (length parts) rule rules.Forget sized is in
    let exact : length parts ≡ 2 = grind arith in
    ap (λ rule. plain_rule naming scope rule (packed (trees_of parts))) is
    ∙ ap (plain_rule naming scope rules.Forget) (two_parts parts card (omega (arith, exact)) (omega (arith, exact)) card_is)

pub shuffle_said : (naming : Naming) (scope : Scope) (parts : List Form) (rule : Rule) (loc : Form)
    → IsTrue (fits (length parts) rule) → rule ≡ rules.Shuffle → loc ≡ get_or parts 1 loc
    → plain_rule naming scope rule (packed (trees_of parts))
    ≡ option_map shuffle (loc_at naming scope (tree_of loc))
shuffle_said naming scope parts rule loc sized is loc_is =
    let fit = fits_known (length parts) rule rules.Shuffle sized is in
    let exact : length parts ≡ 2 = grind arith in
    ap (λ rule. plain_rule naming scope rule (packed (trees_of parts))) is
    ∙ ap (plain_rule naming scope rules.Shuffle) (two_parts parts loc (omega (arith, exact)) (omega (arith, exact)) loc_is)

pub peek_said : (naming : Naming) (scope : Scope) (parts : List Form) (rule : Rule) (cards owner : Form)
    → IsTrue (fits (length parts) rule) → rule ≡ rules.Peek → cards ≡ get_or parts 1 cards → owner ≡ get_or parts 2 owner
    → plain_rule naming scope rule (packed (trees_of parts))
    ≡ option_map (λ p. peek p.0 p.1) (both (coll_at naming scope (tree_of cards)) (owner_at scope (tree_of owner)))
peek_said naming scope parts rule cards owner sized is cards_is owner_is =
    let fit = fits_known (length parts) rule rules.Peek sized is in
    let exact : length parts ≡ 3 = grind arith in
    ap (λ rule. plain_rule naming scope rule (packed (trees_of parts))) is
    ∙ ap (plain_rule naming scope rules.Peek)
    (three_parts parts cards owner (omega (arith, exact)) (omega (arith, exact)) cards_is owner_is)

pub set_said : (naming : Naming) (scope : Scope) (parts : List Form) (rule : Rule) (num value : Form)
    → IsTrue (fits (length parts) rule) → rule ≡ rules.Set → num ≡ get_or parts 1 num → value ≡ get_or parts 2 value
    → number_rule naming scope rule (packed (trees_of parts))
    ≡ option_map (λ p. set_to p.0 p.1) (both (num_at naming scope (tree_of num)) (int_at naming scope (tree_of value)))
set_said naming scope parts rule num value sized is num_is value_is =
    let fit = fits_known (length parts) rule rules.Set sized is in
    let exact : length parts ≡ 3 = grind arith in
    ap (λ rule. number_rule naming scope rule (packed (trees_of parts))) is
    ∙ ap (number_rule naming scope rules.Set) (three_parts parts num value (omega (arith, exact)) (omega (arith, exact)) num_is value_is)

pub increase_said : (naming : Naming) (scope : Scope) (parts : List Form) (rule : Rule) (num value : Form)
    → IsTrue (fits (length parts) rule) → rule ≡ rules.Increase → num ≡ get_or parts 1 num → value ≡ get_or parts 2 value
    → number_rule naming scope rule (packed (trees_of parts))
    ≡ option_map (λ p. increase p.0 p.1) (both (num_at naming scope (tree_of num)) (int_at naming scope (tree_of value)))
increase_said naming scope parts rule num value sized is num_is value_is =
    let fit = fits_known (length parts) rule rules.Increase sized is in
    let exact : length parts ≡ 3 = grind arith in
    ap (λ rule. number_rule naming scope rule (packed (trees_of parts))) is
    ∙ ap (number_rule naming scope rules.Increase) (three_parts parts num value (omega (arith, exact)) (omega (arith, exact)) num_is value_is)

pub decrease_said : (naming : Naming) (scope : Scope) (parts : List Form) (rule : Rule) (num value : Form)
    → IsTrue (fits (length parts) rule) → rule ≡ rules.Decrease → num ≡ get_or parts 1 num → value ≡ get_or parts 2 value
    → number_rule naming scope rule (packed (trees_of parts))
    ≡ option_map (λ p. decrease p.0 p.1) (both (num_at naming scope (tree_of num)) (int_at naming scope (tree_of value)))
decrease_said naming scope parts rule num value sized is num_is value_is =
    let fit = fits_known (length parts) rule rules.Decrease sized is in
    let exact : length parts ≡ 3 = grind arith in
    ap (λ rule. number_rule naming scope rule (packed (trees_of parts))) is
    ∙ ap (number_rule naming scope rules.Decrease) (three_parts parts num value (omega (arith, exact)) (omega (arith, exact)) num_is value_is)
