use Rattle.std.proofs.Common.{◌≡◌, ◌≤◌, [], ◌∷◌, ◌++◌, length, map, drop, length-drop, arith, ap, ◌∙◌}
use Rattle.rc_deck.proofs.RangeLemmas.{below_length}
use Rattle.rc_claims.specs.Claims.{fresh}
use Rattle.rc_claims.proofs.CutLemmas.{one_cut, last_cut}
use Rattle.rc_claims.proofs.claims.Claims.cut.Goals as goal

pub loop-init : goal.loop-init
loop-init c =
    let holders = c.requires.all.0 in
    record {
      own = c.requires.own;
      none = c.requires.all.1;
      left = omega (arith, ap length holders, below_length c.args.passes);
      all = ap (λ l. l ++ map (fresh c.args.self.now.table) c.args.whole.holders) c.new-all.ensures.items ∙ ap (map (fresh c.args.self.now.table)) holders;
    }

pub loop-preserved : goal.loop-preserved
loop-preserved c =
    let table = c.args.self.now.table in
    let left = c.split-one.ensures.left in
    let is = c.loop.invariant in
    let some' : 2 ≤ length c.loop.whole.holders = omega (arith, is.left, c.loop-test.true) in
    record {
      own = ap (λ p. p.table) left ∙ is.own;
      none = ap (λ p. p.numbers) left;
      left = omega (arith, is.left, some', ap (λ p. length p.holders) left, length-drop 1 c.loop.whole.holders);
      all =
          ap (λ l. l ++ map (fresh table) c.split-one.new.pass.holders) (c.in-Ok.ensures.items)
          ∙ ap (λ p. (c.loop.all.items ++ c.split-one.result ∷ []) ++ map (fresh table) p.holders) left
          ∙ ap (λ p. (c.loop.all.items ++ p ∷ []) ++ map (fresh table) (drop 1 c.loop.whole.holders)) c.split-one.ensures.right
          ∙ one_cut table c.loop.all.items c.loop.whole is.own (omega (arith, some'))
          ∙ is.all;
    }

pub split-one-requires-clause-two : goal.split-one-requires-clause-two
split-one-requires-clause-two c = omega (arith, c.loop.invariant.left, c.loop-test.true)

pub returns-in-Ok-push : goal.returns-in-Ok-push
returns-in-Ok-push c =
    let is = c.loop.invariant in
    let one : length c.loop.whole.holders ≡ 1 = omega (arith, is.left, c.loop-test.false, c.loop.auto.counter-end c.requires.some) in
    c.in-Ok-push.ensures.items ∙ last_cut c.args.self.now.table c.loop.all.items c.loop.whole is.own is.none one ∙ is.all
