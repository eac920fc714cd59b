-- What is read of the matches.
use Rattle.std.specs.Prelude.{◌≡◌, Bool, true, map}
use Rattle.rc_base.specs.Tree.{Tree, Trees, start_of}
use Rattle.rc_sheet_spec.specs.Rows.{◌▸◌, End, Some, Row, Atom}
use Rattle.rc_play_spec.specs.PlanStands.{InTurn}
use Rattle.rc_rules.specs.Plan.{deal_seen}
use Rattle.rc_plan.specs.Reads.{IsDeal, IsFrom}
use Rattle.rc_plan.specs.declared.matches.Match.{Match}
use Rattle.rc_plan.specs.declared.matches.Match.TheVariants.{One, From}
use Rattle.rc_plan.specs.declared.matches.Matches.{Matches}
use Rattle.rc_plan.specs.declared.matches.Matches.TheVariants.{Listed, From as CountedFrom}

-- what a list among the matches says; a `from` stands alone
abbrev pub IsMatch : Bool → Match → Tree → Type 0
IsMatch alone (One deal) form = IsDeal (deal_seen deal) form
IsMatch alone (From first count) form = (alone ≡ true) × IsFrom (deal_seen first) count form

-- what the parts behind `matches` say
abbrev pub AreMatchParts : Matches → Trees → Type 0
AreMatchParts (Listed deals) parts = InTurn IsDeal (map deal_seen deals.items) parts
AreMatchParts (CountedFrom first count at) parts =
    ((λ form. IsFrom (deal_seen first) count form × (start_of form ≡ at)) ▸ End) parts

abbrev pub AreMatches : Matches → Tree → Type 0
AreMatches matches = Row (Atom "matches" ▸ Some (AreMatchParts matches))
