-- Only forms with two fixed words are told by the second.
use Rattle.std.proofs.Common.{◌≡◌, Bool, true, false, ◌&&◌, not, List, [], ◌∷◌, Option, Some, None, is_none, refl, arith}
use Rattle.std.proofs.lemmas.Grind.{common_steps}
use Rattle.std.specs.List.{filter, find}
use Rattle.rc_base.specs.Tree.{Tree, Trees}
use Rattle.rc_check.specs.Faults.{begins, is_told, second_word, has_second_word}
use Rattle.rc_check.specs.declared.keyword.Keyword.{Keyword}
use Rattle.rc_check.specs.declared.grammar.Rule.{Rule}

nothing_told : (b : Bool) (second : Option Keyword) (others : Trees) → not (is_none second) ≡ false → (b && is_told second others) ≡ false
nothing_told true None others e = refl
nothing_told false None others e = refl
nothing_told b (Some keyword) others e = search e

abbrev Finds : Tree → Trees → List Rule → Option Rule
Finds head others = find (λ rule. begins head rule && is_told (second_word rule) others)

one_more : (head : Tree) (others : Trees) (r : Rule) (rules : List Rule) (b : Bool) → has_second_word r ≡ b
    → Finds head others (filter has_second_word rules) ≡ Finds head others rules
    → Finds head others (filter has_second_word (r ∷ rules)) ≡ Finds head others (r ∷ rules)
one_more head others r rules true e rest = grind (arith, common_steps, e, rest)
one_more head others r rules false e rest = let gone = nothing_told (begins head r) (second_word r) others e in grind (arith, common_steps, e, gone, rest)

pub found_among : (head : Tree) (others : Trees) (rules : List Rule)
    → find (λ rule. begins head rule && is_told (second_word rule) others) (filter has_second_word rules)
    ≡ find (λ rule. begins head rule && is_told (second_word rule) others) rules
found_among head others [] = refl
found_among head others (r ∷ rules) = one_more head others r rules (has_second_word r) refl (found_among head others rules)
