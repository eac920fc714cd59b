use Rattle.std.proofs.Common.{[], ◌∷◌, subst}
use Rattle.rc_check.specs.SecondParts.{form}
use Rattle.rc_check.specs.declared.grammar.Rule.TheVariants as rule
use Rattle.rc_resolve.specs.Naming.{naming_of}
use Rattle.rc_sheet.proofs.MapsInTurn.{AreInTurn, in_turn_of_both, maps_in_turn}
use Rattle.rc_sheet.proofs.laws.setup.maps_are_in_turn.Goals as goal

pub returns : goal.returns
returns c =
    record {
      turn = λ tree earlier later at parts from shaped sound same.
          let maps = (naming_of tree).names.maps in
          (in_turn_of_both maps [] earlier (form at rule.PutPoints parts from ∷ later)
          (subst (AreInTurn maps []) same (maps_in_turn tree shaped sound))).1.0;
    }
