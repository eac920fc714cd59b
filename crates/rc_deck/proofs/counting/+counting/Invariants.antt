use Rattle.std.proofs.Common.{◌≡◌, ◌+◌, ◌*◌, ◌≤◌, min, drop}
use Rattle.rc_deck.specs.Tree.{groups_in, branches_in}
use Rattle.rc_base.specs.Deck.{face_count, branch_count}
use Rattle.rc_deck.proofs.counting.+counting.Given as goal

abbrev pub invariant-count_branches-loop-branch : goal.invariant-count_branches-loop-branch
invariant-count_branches-loop-branch l = record {
  capped : l.count ≤ l.cap;
  counted : min l.cap (l.count + branch_count (branches_in (drop l.branch-index l.branch-items)))
      ≡ min l.cap (branch_count (branches_in l.branch-items));
}

abbrev pub invariant-count_groups-loop-group : goal.invariant-count_groups-loop-group
invariant-count_groups-loop-group l = record {
  capped : l.count ≤ l.cap;
  counted : min l.cap (l.count * face_count (groups_in (drop l.group-index l.group-items)))
      ≡ min l.cap (face_count (groups_in l.group-items));
}
