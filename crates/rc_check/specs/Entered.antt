-- What a form adds to the attributes above it before its first part.
use Rattle.std.specs.Prelude.{ℕ, List, [], ◌∷◌}
use Rattle.rc_base.specs.Tree.{Trees}
use Rattle.rc_check.specs.SecondParts.{word_in}
use Rattle.rc_check.specs.declared.grammar.Rule.{Rule}
use Rattle.rc_check.specs.declared.grammar.Rule.TheVariants as rule

-- the attribute of a group
abbrev pub entered : Rule → Trees → List (List ℕ)
entered rule.Group parts = word_in 0 parts ∷ []
entered rule parts = []
