use Rattle.std.proofs.Common.{◌≡◌, ◌≤◌, ℕ, ◌+◌, length, List, [], ◌∷◌, ◌++◌, get_or, sym, ap, ◌∙◌, subst, arith}
use Rattle.std.proofs.lemmas.List.{length-append}
use Rattle.rc_play_spec.specs.House.{points_in}
use Rattle.rc_rules.specs.Plan.{plan_seen}
use Rattle.rc_rules.specs.Record.{record_seen}
use Rattle.rc_measure.proofs.CodeLemmas.{push_bound, push_each}
use Rattle.rc_measure.proofs.leads.next_points.Goals as goal

pub loop-k-preserved : goal.loop-k-preserved
loop-k-preserved c =
    let inv = c.loop-k.invariant in
    let value = λ (j : ℕ). get_or c.args.points.now j 0 + points_in (plan_seen c.args.plan.now) j (record_seen c.args.played.now) in
    let added : get_or c.args.points.now c.loop-k.k 0 + c.points_in.result ≡ value c.loop-k.k = ap (λ n. get_or c.args.points.now c.loop-k.k 0 + n) c.points_in.ensures.points in
    let items : c.push.new.self.items ≡ c.loop-k.next.items ++ (get_or c.args.points.now c.loop-k.k 0 + c.points_in.result) ∷ [] = c.in_ok-push.ensures.items in
    record {
      is = λ j less. ap (λ (ps : List ℕ). get_or ps j 0) items
          ∙ push_each value c.loop-k.next.items (get_or c.args.points.now c.loop-k.k 0 + c.points_in.result) c.loop-k.k inv.len inv.is added j less;
      len = omega (arith, ap (length {A = ℕ}) items, length-append c.loop-k.next.items ((get_or c.args.points.now c.loop-k.k 0 + c.points_in.result) ∷ []), inv.len);
      small = λ most all j. subst (λ (ps : List ℕ). get_or ps j 0 ≤ most + 2040) (sym items)
          (push_bound c.loop-k.next.items (get_or c.args.points.now c.loop-k.k 0 + c.points_in.result) (most + 2040) (inv.small most all)
          (omega (arith, all c.loop-k.k, c.points_in.ensures.small)) j);
    }
