-- Texts of plans, to try the definitions on.
use Prim.Native.String.{String}
use Rattle.std.specs.Prelude.{ℕ, List, [], ◌∷◌, codes, Option, Some}
use Rattle.rc_base.specs.Tree.{Tree}
use Rattle.rc_sheet_spec.specs.Examples.{form_of}
use Rattle.rc_play_spec.specs.Plan.{Strategy, scripted, random, rollout, Deal, Plan}
use Rattle.rc_play_spec.specs.Faults.{plan_faults}
use Rattle.rc_play_spec.specs.PlanFault.{first}
use Rattle.rc_play_spec.specs.declared.plan_fault.PlanKind.{PlanKind}
use Rattle.rc_play_spec.specs.declared.plan_fault.PlanFault.{PlanFault}

abbrev pub plan_form : String → Tree
plan_form text = form_of (codes text)

-- the fault that is told of a text for two players, and one that is to be told
abbrev pub told : String → Option PlanFault
told text = first (plan_faults 2 (plan_form text))

abbrev pub one : PlanKind → ℕ → Option PlanFault
one kind at = Some (record { kind = kind; at = at })

abbrev pub deal_of : ℕ → ℕ → Deal
deal_of deal seats = record { deal = deal; seats = seats }

-- a plan of three strategies and two matches
abbrev pub three_strategies : List Strategy
three_strategies = scripted (1 ∷ 20 ∷ []) ∷ random 7 ∷ rollout 4 2 ∷ []

abbrev pub two_matches : Plan
two_matches = record { strategies = three_strategies; matches = deal_of 3 4 ∷ deal_of 5 6 ∷ []; turns = 100 }
