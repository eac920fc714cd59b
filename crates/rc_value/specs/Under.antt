-- Parts of a well formed sheet, under variables: as many as the binders around the part have, or one more, since the score has
-- one without a binder.
use Rattle.std.specs.Prelude.{◌+◌, ◌≤◌, length}
use Rattle.rc_base.specs.Limits.{most_variables}
use Rattle.rc_sheet_spec.specs.Sheet.{CardExpr, CollExpr, IntExpr, Test, Domain, Effect, Effects, Alt, Sheet}
use Rattle.rc_sheet_spec.specs.WellFormed.{Around, IsCard, IsColl, IsInt, IsTest, IsDomain, IsEffect, AreEffects, IsAlt}
use Rattle.rc_play_spec.specs.Scene.{Vars}

abbrev pub IsCardUnder : Sheet → Vars → CardExpr → Type 0
IsCardUnder sheet vars card = (around : Around) × (around.binders ≤ most_variables) × (length vars ≤ around.binders + 1)
    × IsCard sheet around card

abbrev pub IsCollUnder : Sheet → Vars → CollExpr → Type 0
IsCollUnder sheet vars cards = (around : Around) × (around.binders ≤ most_variables)
    × (length vars ≤ around.binders + 1) × IsColl sheet around cards

abbrev pub IsIntUnder : Sheet → Vars → IntExpr → Type 0
IsIntUnder sheet vars int =
    (around : Around) × (around.binders ≤ most_variables) × (length vars ≤ around.binders + 1) × IsInt sheet around int

abbrev pub IsTestUnder : Sheet → Vars → Test → Type 0
IsTestUnder sheet vars t =
    (around : Around) × (around.binders ≤ most_variables) × (length vars ≤ around.binders + 1) × IsTest sheet around t

abbrev pub IsEffectUnder : Sheet → Vars → Effect → Type 0
IsEffectUnder sheet vars e =
    (around : Around) × (around.binders ≤ most_variables) × (length vars ≤ around.binders + 1) × IsEffect sheet around e

abbrev pub AreEffectsUnder : Sheet → Vars → Effects → Type 0
AreEffectsUnder sheet vars effects =
    (around : Around) × (around.binders ≤ most_variables) × (length vars ≤ around.binders + 1)
    × AreEffects sheet around effects

abbrev pub IsAltUnder : Sheet → Vars → Alt → Type 0
IsAltUnder sheet vars alt =
    (around : Around) × (around.binders ≤ most_variables) × (length vars ≤ around.binders + 1) × IsAlt sheet around alt

-- a domain of an alternative
abbrev pub IsDomainUnder : Sheet → Vars → Domain → Type 0
IsDomainUnder sheet vars domain =
    (around : Around) × (around.binders ≤ most_variables) × (length vars ≤ around.binders + 1)
    × IsDomain sheet around domain
