use Rattle.std.proofs.Common.{subst, arith}
use Rattle.rc_sheet.specs.Reader.{Numbers}
use Rattle.rc_sheet.proofs.reader.Reader.new.Goals as goal

pub invariant_of-result : goal.invariant_of-result
invariant_of-result c =
    record {
      attrs = c.requires.attrs;
      values = c.requires.values;
      maps = c.requires.maps;
      locs = c.requires.locs;
      nums = c.requires.nums;
      vars = grind (arith);
      numbers = subst (λ words. Numbers words c.in_ok-variables.variables) c.deref.ensures.value c.in_ok-variables.ensures;
    }
