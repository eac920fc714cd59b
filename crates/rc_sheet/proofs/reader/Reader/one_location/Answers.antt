use Rattle.std.proofs.Common.{arith}
use Rattle.rc_ast.specs.Names.{loc_seen}
use Rattle.rc_sheet.specs.ReadParts.{one_loc}
use Rattle.rc_sheet.proofs.Lists.{gives_parts, two_parts}
use Rattle.rc_sheet.proofs.reader.Reader.one_location.Goals as goal

pub returns : goal.returns
returns c =
    gives_parts loc_seen c.location.result (one_loc c.args.self.now c.args.scope.now)
    (two_parts c.args.parts.now c.loc-item.result (omega arith) (omega arith) c.loc-item.is) c.location.ensures
