-- The owners, sorts and scopes that a form writes.
use Rattle.std.specs.Prelude.{ℕ, ◌+◌, if◌then◌else◌, List, [], ◌∷◌, ◌++◌, Option, Some}
use Rattle.rc_base.specs.Tree.{Tree, word, list}
use Rattle.rc_sheet_spec.specs.Sheet.{Class, game_class, player_class, team_class, Sort}
use Rattle.rc_sheet_spec.specs.WellFormed.{Around}
use Rattle.rc_check.specs.Faults.{is_word, rule_of}
use Rattle.rc_check.specs.declared.keyword.Keyword.TheVariants as keyword
use Rattle.rc_check.specs.declared.grammar.Symbol.TheVariants as symbol
use Rattle.rc_check.specs.declared.grammar.Rule.{Rule}
use Rattle.rc_check.specs.declared.grammar.Rule.TheVariants as rule

-- the class of an owner as it is written
abbrev pub class_of_rule : Option Rule → Class
class_of_rule (Some rule.CurrentPlayer) = player_class
class_of_rule found = team_class

abbrev pub class_at : Tree → Class
class_at (word bytes from to) = if is_word keyword.Game bytes then game_class else player_class
class_at (list parts from to) = class_of_rule (rule_of symbol.Owner parts)

-- what is around the body of a binder
abbrev pub bound_in : Around → List ℕ → Sort → Around
bound_in around bytes sort =
    record around { scope = around.scope ++ record { word = bytes; sort = sort } ∷ []; binders = around.binders + 1 }
