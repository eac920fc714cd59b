use Rattle.std.proofs.Common.{◌≡◌, ◌-◌, ◌<◌, map, take, length, arith, ap, ◌∙◌}
use Rattle.std.proofs.lemmas.List.{length-map, length-take}
use Rattle.rc_value.specs.Seen.{bind_seen}
use Rattle.rc_value.proofs.Lists.{rebound}
use Rattle.rc_value.proofs.scope.Bindings.rebind.Goals as goal

pub returns : goal.returns
returns c = λ vars m e.
    let s = c.self.inside in
    let n : length (map bind_seen (take s.count s.binds)) ≡ length c.args.self.now = ap length c.self.view_is in
    let some : 0 < s.count = omega (arith, n, c.requires, length-map (take s.count s.binds) bind_seen, length-take s.count s.binds) in
    rebound bind_seen s.binds s.count (s.count - 1) c.args.bind vars m (omega (arith, some)) (omega (arith, some, c.self.invariant.0, c.self.invariant.1))
    (c.self.view_is ∙ e)
