use Rattle.std.proofs.Common.{◌∙◌, ap, refl, ℕ, ◌+◌, List, ◌∷◌}
use Rattle.std.specs.Prelude.{Vec}
use Rattle.std.specs.Global.{Global}
use Rattle.rc_sheet.specs.ReadSetup.{team_at, teams_at}
use Rattle.rc_sheet.proofs.InTurn.{so_far, goes_on, is_done}
use Rattle.rc_sheet.proofs.players.teams_at.Goals as goal

pub loop-form-preserved : goal.loop-form-preserved
loop-form-preserved c =
    let forms = c.args.forms.now in
    let i = c.loop-form.form-index in
    ap (λ front. so_far (λ (team : Vec ℕ Global). team.items) ◌∷◌ teams_at front forms (i + 1)) c.in_ok-push.ensures.items
    ∙ goes_on (λ (team : Vec ℕ Global). team.items) ◌∷◌ team_at teams_at (λ tree trees. refl) c.loop-form.list.items forms i
    c.form-item.result c.in_ok-team_at.field-0 _ c.loop-form-test.true c.form-item.is c.in_ok-team_at.ensures
    c.loop-form.invariant

pub returns : goal.returns
returns c =
    is_done (λ (team : Vec ℕ Global). team.items) ◌∷◌ (λ (teams : List (List ℕ)). teams) teams_at (λ a later. refl) refl
    c.loop-form.list.items c.args.forms.now c.loop-form.form-index _ c.loop-form-test.false c.loop-form.invariant
