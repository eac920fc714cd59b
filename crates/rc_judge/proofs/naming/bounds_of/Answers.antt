use Rattle.std.proofs.Common.{length, map, subst, sym, ap, ◌∙◌}
use Rattle.rc_base.specs.Transcript.{Record}
use Rattle.rc_judge.specs.Seen.{IfLegal}
use Rattle.rc_text.specs.BoundSeen.{AreFor}
use Rattle.rc_judge.proofs.Fits.{counts_seen}
use Rattle.rc_judge.proofs.naming.bounds_of.Goals as goal

pub returns-clause-fits : goal.returns-clause-fits
returns-clause-fits c =
    let matches = c.args.text.now.matches.items in
    let copies = c.in_ok-text_of.text_of.matches.items in
    let fits = subst (λ n. IfLegal n (λ bounds. AreFor matches bounds.items)) c.in-Legal.is c.in_ok-bounds.ensures.fits in
    fits ∙ sym (counts_seen matches) ∙ ap (λ t. map (λ (r : Record). length r.picks) t.matches) (sym c.in_ok-text_of.ensures) ∙ counts_seen copies
