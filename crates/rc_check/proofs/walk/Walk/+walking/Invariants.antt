use Rattle.std.proofs.Common.{◌≡◌, ℕ, drop}
use Rattle.rc_form.specs.Form.{trees_of, packed}
use Rattle.rc_check.specs.SecondParts.{around_in, parts_in, above_in}
use Rattle.rc_check.specs.Seen.{inner_seen, standing_seen}
use Rattle.rc_check.specs.Summary.{check_all}
use Rattle.rc_check.proofs.walk.Walk.+walking.Given as goal

-- The attributes are those that may stand before the next part, and checking what is left from here is checking all parts from the
-- start. What is around the parts stays.
abbrev pub invariant-parts-loop-index : goal.invariant-parts-loop-index
invariant-parts-loop-index l =
    let all = packed (trees_of l.parts) in
    let at = standing_seen l.at l.fn.self.above in
    (l.self.above ≡ above_in l.fn.self.above l.rule all l.index)
    × (check_all l.whole l.self.seen (parts_in at l.rule all l.index (packed (trees_of (drop l.index l.parts))))
    ≡ check_all l.whole l.fn.self.seen (parts_in at l.rule all 0 all))
    × ((index : ℕ) → inner_seen l.at.around.now l.inner index ≡ around_in l.at.around.now l.rule all index)
