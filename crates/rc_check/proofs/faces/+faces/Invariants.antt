use Rattle.std.proofs.Common.{◌≡◌, ◌≤◌, ◌+◌, ◌*◌, min, drop}
use Rattle.rc_form.specs.Form.{trees_of, packed}
use Rattle.rc_check.specs.SecondNames.{written_faces, written_branches}
use Rattle.rc_check.proofs.faces.+faces.Given as goal

-- the count so far and the branches that are left make what all branches make, as far as it is counted
abbrev pub invariant-branch_count-loop-branch : goal.invariant-branch_count-loop-branch
invariant-branch_count-loop-branch l =
    (l.count ≤ 513) × (min (l.count + written_branches (packed (trees_of (drop l.branch-index l.branches)))) 513
    ≡ min (written_branches (packed (trees_of l.branches))) 513)

-- the same of groups
abbrev pub invariant-face_count-loop-group : goal.invariant-face_count-loop-group
invariant-face_count-loop-group l =
    (l.count ≤ 513) × (min (l.count * written_faces (packed (trees_of (drop l.group-index l.groups)))) 513
    ≡ min (written_faces (packed (trees_of l.groups))) 513)
