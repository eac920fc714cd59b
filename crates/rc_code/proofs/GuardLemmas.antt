-- Guards, from what is known of their parts.
use Rattle.std.proofs.Common.{◌≡◌, ℕ, IfSome, Option, None, Some, sym, ap, ◌∙◌, subst}
use Rattle.rc_sheet_spec.specs.Sheet.{Effects, Domain, Test, each_card, cards_in, if_alt, any_alt}
use Rattle.rc_sheet_spec.specs.Sheet.{Alt as PureAlt}
use Rattle.rc_ast.specs.declared.expressions.Loc.{Loc}
use Rattle.rc_ast.specs.Names.{loc_seen}
use Rattle.rc_code.specs.declared.guards.Guard.{Guard}
use Rattle.rc_code.specs.Guards.{guard_meant, IsFixedGuard, IsGuardOf}

-- the guard of an alternative of a domain's members, whatever word its variable has
abbrev IsGuardIn : Domain → PureAlt → Guard → Type 0
IsGuardIn domain alt guard = (bound : ℕ) → IsGuardOf (any_alt domain bound alt) guard

pub guards : (loc : Loc) (t : Test) (effects : Effects) (alt : PureAlt) → alt ≡ if_alt t effects → (o : Option Guard) →
    IfSome o (λ guard. guard.loc ≡ loc) → IfSome o (λ guard. guard_meant guard ≡ t) → IfSome o IsFixedGuard →
    IfSome o (IsGuardIn (each_card (cards_in (loc_seen loc))) alt)
guards loc t effects alt is None place same fixed = tt
guards loc t effects alt is (Some guard) place same fixed = λ bound.
    let here = ap (λ at. any_alt (each_card (cards_in (loc_seen at))) bound alt) (sym place) in
    let all = ap (any_alt (each_card (cards_in (loc_seen guard.loc))) bound) (is ∙ ap (λ test. if_alt test effects) (sym same)) in
    (bound, effects, here ∙ all, fixed)

pub guards_bound : (domain : Domain) (bound : ℕ) (inner alt : PureAlt) → alt ≡ any_alt domain bound inner → (o : Option Guard) →
    IfSome o (IsGuardIn domain inner) → IfSome o (IsGuardOf alt)
guards_bound domain bound inner alt is None guard = tt
guards_bound domain bound inner alt is (Some one) guard = subst (λ alt. IsGuardOf alt one) (sym is) (guard bound)
