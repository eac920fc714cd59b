-- Parts that are at no fault of the second round, whatever is around them, and leave nothing behind.
use Rattle.std.specs.Prelude.{Bool, true, false, not, ◌&&◌, bytes_eq, Option, Some, None}
use Rattle.rc_base.specs.Tree.{Tree, word, list, Trees}
use Rattle.rc_sheet_spec.specs.Sheet.{same_class}
use Rattle.rc_check.specs.SecondParts.{Role, used_attribute, used_value, used_map, given_value, second_side}
use Rattle.rc_check.specs.SecondNames.{mention_of, first_mention, OwnedMention, some_of}
use Rattle.rc_check.specs.SecondFaults.{is_misplaced, sorts_at}
use Rattle.rc_check.specs.Summary.{Owned, Summary}
use Rattle.rc_check.specs.declared.grammar.Symbol.{Symbol}
use Rattle.rc_check.specs.declared.grammar.Symbol.TheVariants as symbol
use Rattle.rc_check.specs.declared.grammar.Rule.{Rule}
use Rattle.rc_check.specs.declared.grammar.Rule.TheVariants as rule

-- ATOMS

-- an atom of this role names nothing that the setup gives, and is no second side
abbrev pub names_nothing : Role → Bool
names_nothing used_attribute = false
names_nothing used_value = false
names_nothing used_map = false
names_nothing given_value = false
names_nothing second_side = false
names_nothing role = true

-- the place is that of a member of a team
abbrev pub is_member : Symbol → Bool
is_member symbol.Member = true
is_member place = false

-- nor does the place take a member of a team or a variable
abbrev pub is_quiet : Tree → Symbol → Role → Bool
is_quiet (word bytes from to) place role = names_nothing role && not (is_member place) && not (some_of (sorts_at place))
is_quiet (list parts from to) place role = false

-- FORMS

-- none of the tests is about this form, and it leaves nothing behind
abbrev pub is_plain : Rule → Bool
is_plain rule.Setup = false
is_plain rule.CreatePlayers = false
is_plain rule.CreateTeams = false
is_plain rule.CreateDeck = false
is_plain rule.PutPoints = false
is_plain rule.Group = false
is_plain rule.Entry = false
is_plain rule.PlayerStage = false
is_plain rule.TeamStage = false
is_plain rule.Choice = false
is_plain rule.AnyOf = false
is_plain rule.Repeat = false
is_plain rule.Each = false
is_plain rule.Next = false
is_plain rule.Reverse = false
is_plain rule.Location = false
is_plain rule.Counter = false
is_plain rule.CurrentPlayer = false
is_plain rule.CurrentTeam = false
is_plain rule.Filter = false
is_plain rule.Known = false
is_plain rule.ForAll = false
is_plain rule.ForAny = false
is_plain rule = true

-- the first mention of the name has the same kind and class
abbrev pub is_like : OwnedMention → Option OwnedMention → Bool
is_like mention None = false
is_like mention (Some first) = bytes_eq mention.kind first.kind && same_class mention.class first.class

abbrev pub is_repeated : Owned → OwnedMention → Bool
is_repeated owned mention = is_like mention (first_mention mention.name owned.firsts)

-- the form itself, where it isn't the second side of an equation
abbrev pub is_settled_first : Summary → Role → Rule → Trees → Bool
is_settled_first seen role rule.Location parts =
    is_repeated seen.locations (mention_of parts) && not (is_misplaced role (mention_of parts))
is_settled_first seen role rule.Counter parts = is_repeated seen.numbers (mention_of parts)
is_settled_first seen role rule parts = is_plain rule

-- a form of this role is at no fault and leaves nothing behind
abbrev pub is_settled : Summary → Role → Rule → Trees → Bool
is_settled seen second_side rule parts = false
is_settled seen role rule parts = is_settled_first seen role rule parts
