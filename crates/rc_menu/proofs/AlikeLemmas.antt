-- Groups that are the same for each member of a domain around them.
use Rattle.std.proofs.Common.{◌≡◌, ℕ, ◌≤◌, List, length, sym, ap, ◌∙◌}
use Rattle.std.specs.Prelude.{Some}
use Rattle.rc_sheet_spec.specs.Sheet.{CollExpr, Alt as PureAlt, any_alt, each_group}
use Rattle.rc_play_spec.specs.Scene.{CardValue}
use Rattle.rc_play_spec.specs.Value.{Scene as PureScene, Bind as PureBind, coll_value, groups_by}
use Rattle.rc_menu.specs.Alike.{AreGroups}

-- what the domain of an alternative groups, and by what
grouped : CollExpr → PureAlt → CollExpr
grouped other (any_alt (each_group cards name) bound inner) = cards
grouped other alt = other

grouped_by : ℕ → PureAlt → ℕ
grouped_by other (any_alt (each_group cards name) bound inner) = name
grouped_by other alt = other

pub known_inside : (s : PureScene CardValue) (vars vars' : List (PureBind CardValue)) (alt : PureAlt) (cards : CollExpr) (name bound : ℕ) (inner : PureAlt) (n : ℕ) →
    alt ≡ any_alt (each_group cards name) bound inner → n ≤ 512 → n ≡ length (groups_by s name (coll_value s vars cards)) →
    coll_value s vars cards ≡ coll_value s vars' cards → AreGroups s vars' alt (Some n)
unfolding grouped_by grouped
known_inside s vars vars' alt cards name bound inner n is few e same cards' name' bound' inner' is' =
    let both : any_alt (each_group cards name) bound inner ≡ any_alt (each_group cards' name') bound' inner' = sym is ∙ is' in (
      few,
      e ∙ ap (λ xs. length (groups_by s name xs)) same
          ∙ ap (λ x. length (groups_by s x (coll_value s vars' cards))) (ap (grouped_by name) both)
          ∙ ap (λ x. length (groups_by s name' (coll_value s vars' x))) (ap (grouped cards) both),
    )
