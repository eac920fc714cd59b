-- The parts of a group, and the faces of one group and of one branch.
use Rattle.std.specs.Prelude.{ℕ, List, [], Option, Some, None}
use Rattle.rc_base.specs.Tree.{Tree, Trees, word, list, cons, nil}
use Rattle.rc_check.specs.SecondParts.{attributes_among}
use Rattle.rc_check.specs.SecondNames.{written_faces, written_branches}

-- where a list has two parts, and the second is a list: the first part, and the parts of the second
abbrev pub group_parts : Tree → Option (Tree × Trees)
group_parts (list (cons attr (cons (list branches from to) nil)) from' to') = Some (attr, branches)
group_parts tree = None

-- what a group of these parts multiplies the faces by
abbrev pub faces_by_parts : Option (Tree × Trees) → ℕ
faces_by_parts None = 1
faces_by_parts (Some group) = written_branches group.1

abbrev pub faces_by : Tree → ℕ
faces_by tree = faces_by_parts (group_parts tree)

-- what a branch adds to them
abbrev pub branch_by : Tree → ℕ
branch_by (word bytes from to) = 1
branch_by (list groups from to) = written_faces groups

-- the attributes of the groups in a branch
abbrev pub attributes_in : Tree → List (List ℕ)
attributes_in (word value from to) = []
attributes_in (list groups from to) = attributes_among groups
