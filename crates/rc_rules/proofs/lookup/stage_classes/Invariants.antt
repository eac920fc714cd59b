use Rattle.std.proofs.Common.{◌≡◌, ◌≤◌, length, take}
use Rattle.rc_play_spec.specs.Owners.{classes_in}
use Rattle.rc_ast.specs.Sheet.{sheet_seen}
use Rattle.rc_rules.proofs.lookup.stage_classes.Given as goal

abbrev pub invariant-loop-number : goal.invariant-loop-number
invariant-loop-number l =
    let classes = classes_in (sheet_seen l.sheet).items in
    record {
      told : l.list.items ≡ take l.number classes;
      within : l.number ≤ length classes;
    }
