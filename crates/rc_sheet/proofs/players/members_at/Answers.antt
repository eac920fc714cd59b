use Rattle.std.proofs.Common.{◌∙◌, ap, refl, ℕ, ◌+◌, List, ◌∷◌, Some}
use Rattle.std.proofs.lemmas.List.{map-id}
use Rattle.rc_sheet.specs.ReadSetup.{count_at, members_at}
use Rattle.rc_sheet.proofs.InTurn.{so_far, goes_on, is_done}
use Rattle.rc_sheet.proofs.players.members_at.Goals as goal

pub loop-form-preserved : goal.loop-form-preserved
loop-form-preserved c =
    let forms = c.args.forms.now in
    let i = c.loop-form.form-index in
    ap (λ front. so_far (λ (n : ℕ). n) ◌∷◌ members_at front forms (i + 1)) c.in_ok-push.ensures.items
    ∙ goes_on (λ (n : ℕ). n) ◌∷◌ (count_at 0 7) members_at (λ tree trees. refl) c.loop-form.members.items forms i
    c.form-item.result c.in_ok-count_at.field-0 _ c.loop-form-test.true c.form-item.is c.in_ok-count_at.ensures
    c.loop-form.invariant

pub returns : goal.returns
returns c =
    let front = c.loop-form.members.items in
    is_done (λ (n : ℕ). n) ◌∷◌ (λ (ns : List ℕ). ns) members_at (λ a later. refl) refl front c.args.forms.now
    c.loop-form.form-index _ c.loop-form-test.false c.loop-form.invariant
    ∙ ap (λ ns. Some ns) (map-id front)
