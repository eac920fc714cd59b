use Rattle.std.proofs.Common.{refl}
use Rattle.rc_undo.specs.Undo.{tables}
use Rattle.rc_flat.proofs.MomentLemmas.{marked_back}
use Rattle.rc_flat.proofs.state.State.go_back.Goals as goal

pub returns-clause-there : goal.returns-clause-there
returns-clause-there c =
    λ about code.
    marked_back about code (tables c.args.self.now.board) c.go_back.ensures.back.0
    (record { board = c.go_back.new.self; control = c.args.mark.control; place = c.args.mark.place; menu = c.args.self.now.menu; current = c.args.self.now.current }) c.args.mark
    c.go_back.ensures.back.1.behind refl refl c.go_back.ensures.count
