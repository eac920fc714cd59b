use Rattle.std.proofs.Common.{◌≡◌, ◌∷◌, [], List, Some, refl, subst}
use Rattle.rc_form.specs.Form.{tree_of}
use Rattle.rc_sheet_spec.specs.Sheet.{Alt}
use Rattle.rc_ast.specs.Items.{alt_seen}
use Rattle.rc_sheet.specs.ReadEffects.{alt_at, alts_at}
use Rattle.rc_sheet.proofs.InTurn.{goes_on, is_done}
use Rattle.rc_sheet.proofs.reader.Reader.alternatives.Goals as goal

pub loop-form-preserved : goal.loop-form-preserved
loop-form-preserved c =
    let naming = c.args.self.now in
    let form = c.form-item.result in
    let alt = c.in_ok-alternative.field-0 in
    let read : alt_at naming [] (tree_of form) ≡ Some (alt_seen alt) =
    subst (λ scope. alt_at naming scope (tree_of form) ≡ Some (alt_seen alt)) c.empty-scope.ensures c.in_ok-alternative.ensures in
    rw c.in_ok-push.ensures.items
    (goes_on alt_seen (λ alt alts. alt ∷ alts) (alt_at naming []) (alts_at naming) (λ tree trees. refl) c.loop-form.all.items
    c.args.forms.now c.loop-form.form-index form alt _ c.loop-form-test.true c.form-item.is read c.loop-form.invariant)

pub returns : goal.returns
returns c =
    is_done alt_seen (λ alt alts. alt ∷ alts) (λ (alts : List Alt). alts) (alts_at c.args.self.now) (λ alt later. refl) refl
    c.loop-form.all.items c.args.forms.now c.loop-form.form-index _ c.loop-form-test.false c.loop-form.invariant
