use Rattle.std.proofs.Common.{◌≡◌, ℕ, ◌+◌, ◌++◌, map, drop, Some, true, false}
use Rattle.rc_play_spec.specs.Plan.{Plan, deal_at}
use Rattle.rc_play_spec.specs.Keyed.{dealing_of}
use Rattle.rc_play_spec.specs.Along as along
use Rattle.rc_rules.specs.Control.{stop_seen, stopped_of}
use Rattle.rc_rules.specs.Record.{pick_seen}
use Rattle.rc_rules.specs.Machine.{IsWhereItStops}
use Rattle.rc_judge.proofs.playing.picks_along.Given as goal

-- judging the choices that are left, from where the play stands, is judging all; and so it is with notes of what they bind
abbrev pub invariant-loop-pick : goal.invariant-loop-pick
invariant-loop-pick g l = record {
  fresh : g.M.Machine.spent l.machine ≡ false;
  same : g.M.Machine.about l.machine ≡ g.M.Machine.about l.initial.machine;
  stands : IsWhereItStops (g.M.Machine.about l.machine) (stop_seen l.stop) (g.M.Machine.config l.machine);
  dealing : dealing_of l.dealer.deal ≡ dealing_of l.initial.dealer.deal;
  line : l.line ≡ l.fn.from + l.pick-index;
  on : (plan : Plan) (m : ℕ) → dealing_of (deal_at plan m).deal ≡ dealing_of l.initial.dealer.deal →
      along.picks_along (g.M.Machine.about l.initial.machine) dealing_of plan m l.line (Some (stopped_of l.stop (g.M.Machine.config l.machine) l.dealer.count))
      (g.N.Margin.told l.margin) (map pick_seen (drop l.pick-index l.picks))
      ≡ along.picks_along (g.M.Machine.about l.initial.machine) dealing_of plan m l.fn.from (Some (stopped_of l.fn.start (g.M.Machine.config l.initial.machine) l.initial.dealer.count))
      (g.N.Margin.told l.initial.margin) (map pick_seen l.picks);
  noted : g.N.Margin.notes ≡ true → (plan : Plan) (m : ℕ) → dealing_of (deal_at plan m).deal ≡ dealing_of l.initial.dealer.deal →
      g.N.Margin.here l.margin ++ along.marks_from (g.M.Machine.about l.initial.machine) dealing_of plan m (Some (stopped_of l.stop (g.M.Machine.config l.machine) l.dealer.count))
      (map pick_seen (drop l.pick-index l.picks))
      ≡ g.N.Margin.here l.initial.margin ++ along.marks_from (g.M.Machine.about l.initial.machine) dealing_of plan m
      (Some (stopped_of l.fn.start (g.M.Machine.config l.initial.machine) l.initial.dealer.count)) (map pick_seen l.picks);
  before : g.N.Margin.before l.margin ≡ g.N.Margin.before l.initial.margin;
}
