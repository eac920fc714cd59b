use Rattle.std.proofs.Common.{◌≡◌, length, sym, ap, ◌∙◌, arith}
use Rattle.std.specs.Prelude.{fold}
use Rattle.std.specs.Hash as fed
use Rattle.std.specs.Hash.FoldHasher as folding
use Rattle.std.proofs.lemmas.List.{drop_all}
use Rattle.rc_cache.specs.Digest.{known_fed}
use Rattle.rc_cache.proofs.digest.feed_known.Goals as goal

pub returns : goal.returns
returns c =
    let numbers = c.args.numbers.now in
    let at = c.loop-at.at-counter in
    let past = drop_all at numbers c.loop-at-test.false in
    let end : length numbers ≡ at = omega (arith, c.loop-at-test.false, c.loop-at.auto.at-counter-end) in
    c.hash-3.ensures ∙ ap (λ n. fold folding.write c.loop-at.state (fed.usize n)) end
    ∙ sym (ap (λ xs. fold folding.write c.loop-at.state (known_fed at xs)) past) ∙ c.loop-at.invariant
    ∙ ap (λ s. fold folding.write s (known_fed 0 numbers)) (c.hash-2.ensures ∙ ap (λ s. fold folding.write s (fed.usize (length numbers))) c.hash.ensures)
