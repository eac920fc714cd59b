use Rattle.std.proofs.Common.{sym}
use Rattle.rc_draw.proofs.KeyLemmas.{words_of_numbered}
use Rattle.rc_draw.proofs.sequence.words_of_numbered.Goals as goal

pub returns : goal.returns
returns c =
    sym (words_of_numbered c.args.a c.args.b c.args.c c.args.upper c.args.number
    c.ranges.a.fits c.ranges.b.fits c.ranges.c.fits c.ranges.upper.fits c.ranges.number.fits)
