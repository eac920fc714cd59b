use Rattle.std.proofs.Common.{None, Some, ap, sym, ◌∙◌, subst, refl}
use Rattle.rc_play_spec.specs.Fields.{◌>>=◌}
use Rattle.rc_play_spec.specs.Lines.{chosen, chosen_in, told_in}
use Rattle.rc_play_spec.proofs.FieldLemmas.{bind_is}
use Rattle.rc_rules.specs.Record.{pick_seen}
use Rattle.rc_text.specs.BoundSeen.{option_seen}
use Rattle.rc_text.specs.Choices.{pick_in}
use Rattle.rc_text.specs.Finds.{Finds}
use Rattle.rc_text.specs.LineSeen.{marked_seen}
use Rattle.rc_text.proofs.FirstLines.{chosen_by_parts, with_told}
use Rattle.rc_text.proofs.lines.chosen_in.Goals as goal

pub returns-in_err-pick-clause-found : goal.returns-in_err-pick-clause-found
returns-in_err-pick-clause-found c =
    let named = c.args.named in
    let bytes = c.args.bytes.now in
    subst (λ r. Finds marked_seen r (chosen_in named bytes)) (sym c.from_residual.ensures)
    (chosen_by_parts named bytes ∙ ap (λ o. o >>= with_told named) c.in_err-pick.ensures)

pub returns-in_err-bounds-clause-found : goal.returns-in_err-bounds-clause-found
returns-in_err-bounds-clause-found c =
    let named = c.args.named in
    let bytes = c.args.bytes.now in
    let pick = pick_seen c.in_ok-pick.pick in
    subst (λ r. Finds marked_seen r (chosen_in named bytes)) (sym c.from_residual-in_err-bounds.ensures)
    (chosen_by_parts named bytes
    ∙ bind_is (pick_in bytes) (with_told named) (pick, c.in_ok-pick.rest.now) None c.in_ok-pick.ensures
    (ap (λ o. o >>= λ marks. Some (chosen pick, marks)) c.in_err-bounds.ensures.found))

pub returns-clause-found : goal.returns-clause-found
returns-clause-found c =
    let named = c.args.named in
    let bytes = c.args.bytes.now in
    let pick = pick_seen c.in_ok-pick.pick in
    let rest = c.in_ok-pick.rest.now in
    let marks = option_seen c.in_ok-bounds.bounds in
    chosen_by_parts named bytes
    ∙ bind_is (pick_in bytes) (with_told named) (pick, rest) (Some (chosen pick, marks)) c.in_ok-pick.ensures
    (bind_is (told_in named rest) (λ marks. Some (chosen pick, marks)) marks (Some (chosen pick, marks))
    c.in_ok-bounds.ensures.found refl)
