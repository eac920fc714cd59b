use Rattle.std.proofs.Common.{◌≡◌, [], ◌∷◌, Ok, ap, ◌∙◌, subst, rules}
use Rattle.std.specs.List.{AllByRecursion}
use Rattle.rc_series.specs.Gathered.{AreTurns, Gathers, IsOwn}
use Rattle.rc_series.proofs.GatherLemmas.{nothing_left, gathers_first, gathers_more, gathers_all}
use Rattle.rc_series.proofs.gathering.gather.Goals as goal

pub loop-rest-init : goal.loop-rest-init
loop-rest-init g c =
    let turn = c.in-Ok.turn in
    let rest = c.remove.new.self.items in
    let split : c.args.turns.items ≡ Ok turn ∷ rest = search rules in
    let own = subst (AllByRecursion (IsOwn c.args.claims.now.table)) split c.requires.own in
    let is = c.in-Ok-begin.ensures in
    record {
      own = own.1;
      pass = ap (λ p. p.table) is.0 ∙ own.0;
      so_far =
          λ noted about plan workers are.
          gathers_first g.C.Chooser.name g.C.Chooser.counts noted about plan workers turn rest c.in-Ok-begin.gathered
          (subst (AreTurns g.C.Chooser.name g.C.Chooser.counts noted about plan workers) split are) is.0 is.1 is.2;
    }

pub loop-rest-preserved : goal.loop-rest-preserved
loop-rest-preserved g c =
    let turn = c.in-Ok-remove.turn in
    let rest = c.remove-in-loop-rest.new.self.items in
    let split : c.loop-rest.rest.items ≡ Ok turn ∷ rest = search rules in
    let own = subst (AllByRecursion (IsOwn c.args.claims.now.table)) split c.loop-rest.invariant.own in
    let is = c.in-Ok-add.ensures in
    record {
      own = own.1;
      pass = ap (λ p. p.table) is.pass ∙ c.loop-rest.invariant.pass;
      so_far =
          λ noted about plan workers are.
          gathers_more g.C.Chooser.name g.C.Chooser.counts noted about plan workers turn rest c.loop-rest.gathered c.in-Ok-add.more
          (subst (λ left. Gathers g.C.Chooser.name g.C.Chooser.counts noted about plan workers left c.loop-rest.gathered) split (c.loop-rest.invariant.so_far noted about plan workers are))
          is.pass is.records is.choosers;
    }

pub returns-clause-gathered : goal.returns-clause-gathered
returns-clause-gathered g c noted about plan workers are =
    let none : c.loop-rest.rest.items ≡ [] = nothing_left c.loop-rest.rest.items (search rules) in
    gathers_all g.C.Chooser.name g.C.Chooser.counts noted about plan workers c.loop-rest.gathered
    (subst (λ left. Gathers g.C.Chooser.name g.C.Chooser.counts noted about plan workers left c.loop-rest.gathered) none (c.loop-rest.invariant.so_far noted about plan workers are))
