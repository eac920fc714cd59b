use Rattle.std.proofs.Common.{refl}
use Rattle.std.proofs.lemmas.Fmt.{decimal_digit}
use Rattle.rc_text.proofs.write.short_line.Goals as goal

pub returns : goal.returns
returns c =
    rw (
      decimal_digit c.args.seat c.requires.seat,
      decimal_digit c.args.site c.requires.site,
      decimal_digit c.args.item c.requires.item,
      decimal_digit c.args.size c.requires.size,
    ) refl
