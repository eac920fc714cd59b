-- What is offered alike of all members of a domain.
use Rattle.std.specs.Prelude.{◌≡◌, ℕ, ◌≤◌, Bool, true, false, List, length, Option, IfSome}
use Rattle.rc_base.specs.Limits.{most_in_collection}
use Rattle.rc_sheet_spec.specs.Sheet.{CollExpr, Alt, do_alt, if_alt, any_alt, each_group}
use Rattle.rc_play_spec.specs.Value.{Scene as PureScene, Bind as PureBind, coll_value, groups_by}
use Rattle.rc_play_spec.specs.Scene.{CardValue}
use Rattle.rc_flow.specs.Reads.{reads_test}

-- whether a guard reads the variable at a place, as far as it is asked: one behind further variables may
abbrev pub may_read_in : ℕ → Alt → Bool
may_read_in place (do_alt effects) = false
may_read_in place (if_alt guard effects) = reads_test place guard
may_read_in place (any_alt domain bound alt) = true

-- how many groups of cards there are, if that is known
abbrev pub AreGroupsOf : PureScene CardValue → List (PureBind CardValue) → CollExpr → ℕ → Option ℕ → Type 0
AreGroupsOf s vars cards name known =
    IfSome known (λ n. (n ≤ most_in_collection) × (n ≡ length (groups_by s name (coll_value s vars cards))))

-- the same of the domain of an alternative
abbrev pub AreGroups : PureScene CardValue → List (PureBind CardValue) → Alt → Option ℕ → Type 0
AreGroups s vars alt known = (cards : CollExpr) (name bound : ℕ) (inner : Alt) →
    alt ≡ any_alt (each_group cards name) bound inner → AreGroupsOf s vars cards name known
