-- What stands behind the setup gives nothing: no players, teams, attributes, values or point maps, and no deck.
use Rattle.std.specs.Prelude.{Bool, true, false}
use Rattle.rc_check.specs.SecondParts.{Role, given_value}
use Rattle.rc_check.specs.declared.grammar.Symbol.{Symbol}
use Rattle.rc_check.specs.declared.grammar.Symbol.TheVariants as symbol
use Rattle.rc_check.specs.declared.grammar.Rule.{Rule}
use Rattle.rc_check.specs.declared.grammar.Rule.TheVariants as rule

-- neither a form at this place gives anything, nor one that stands in it
abbrev pub gives_nothing : Symbol → Bool
gives_nothing symbol.Sheet = false
gives_nothing symbol.Setup = false
gives_nothing symbol.Line = false
gives_nothing symbol.Team = false
gives_nothing symbol.Deck = false
gives_nothing symbol.Group = false
gives_nothing symbol.Branches = false
gives_nothing symbol.Branch = false
gives_nothing symbol.Entries = false
gives_nothing symbol.Entry = false
gives_nothing symbol.Values = false
gives_nothing place = true

-- neither this form gives anything, nor one that stands in it
abbrev pub form_gives_nothing : Rule → Bool
form_gives_nothing rule.Game = false
form_gives_nothing rule.Setup = false
form_gives_nothing rule.CreatePlayers = false
form_gives_nothing rule.CreateTeams = false
form_gives_nothing rule.CreateDeck = false
form_gives_nothing rule.PutPoints = false
form_gives_nothing rule.Team = false
form_gives_nothing rule.Deck = false
form_gives_nothing rule.Group = false
form_gives_nothing rule.Branches = false
form_gives_nothing rule.Branch = false
form_gives_nothing rule.Entries = false
form_gives_nothing rule.Entry = false
form_gives_nothing rule.Values = false
form_gives_nothing rule = true

-- nor an atom of this role
abbrev pub is_given : Role → Bool
is_given given_value = true
is_given role = false
