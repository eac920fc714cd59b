use Rattle.std.proofs.Common.{sym, ◌∙◌, inr}
use Rattle.rc_play_spec.specs.Redraw.{mems_of}
use Rattle.rc_redraw.proofs.Blends.{none_kept}
use Rattle.rc_redraw.proofs.filling.keep_pattern.Goals as goal

pub returns-else-some : goal.returns-else-some
returns-else-some c =
    let none = sym c.requires.some ∙ c.if-some.false in
    inr (c.clear.ensures.items, none_kept (mems_of c.args.shape.now.places) c.args.sights.now c.args.seen.now none)
