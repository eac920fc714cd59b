use Rattle.rc_ast.specs.Sheet.{sheet_seen}
use Rattle.rc_value.proofs.scene.Scene.with_current.Goals as goal

pub invariant_of-result : goal.invariant_of-result
invariant_of-result c =
    let well = c.requires.well in
    let limits = well.limits in
    record {
      readable =
          record {
            locations = limits.locations;
            numbers = limits.numbers;
            clamped = λ k entries within i entry there. (well.entries k entries within i entry there).1;
            choices = λ site. c.expressions_bind_few.ensures.choices (sheet_seen c.args.sheet.now) site well;
          };
      looked_up = c.requires.looked_up;
      current_is = c.requires.current_is;
    }
