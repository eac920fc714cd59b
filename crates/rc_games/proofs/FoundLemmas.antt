-- What is found under the same ask.
use Rattle.std.proofs.Common.{◌≡◌, true, sym, ap, ◌∙◌}
use Rattle.rc_play_spec.specs.About.{About}
use Rattle.rc_play_spec.specs.Tally.{Ask, tally}
use Rattle.rc_cache.specs.Same.{same_ask}
use Rattle.rc_cache.specs.SameLaws.{asks_decide}

-- equal asks of one about have equal totals
pub same_totals : (about about' : About) (ask ask' : Ask) → about' ≡ about → same_ask ask ask' ≡ true → tally about' ask' ≡ tally about ask
same_totals about about' ask ask' own same = ap (λ a. tally a ask') own ∙ ap (tally about) (sym ((asks_decide ask ask').0 same))
