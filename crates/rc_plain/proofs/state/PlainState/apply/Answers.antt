use Rattle.std.proofs.Common.{ap, sym, ◌∙◌, ◌<◌, subst, Some}
use Rattle.rc_sheet_spec.specs.Sheet.{choice}
use Rattle.rc_ast.specs.Items.{alts_seen}
use Rattle.rc_plain.proofs.KeptLemmas.{so_many, item_kept}
use Rattle.rc_plain.proofs.state.PlainState.apply.Goals as goal

pub swap_remove-item-requires : goal.swap_remove-item-requires
swap_remove-item-requires g c =
    subst (λ n. c.args.item < n) (sym (so_many c.args.about.now c.args.self.now c.requires.ready c.requires.decision)) c.requires.offered

pub choose-requires-clause-here : goal.choose-requires-clause-here
choose-requires-clause-here g c =
    let decision = c.requires.decision in
    let offered = (c.requires.ready.kept decision.1 decision.2.decision.stands).offered in
    (decision.1, offered.there ∙ ap (λ alts. Some (choice decision.1 alts)) (sym (c.alts-alts.ensures.alts decision.1 _ offered.there)))

pub choose-requires-clause-fits : goal.choose-requires-clause-fits
choose-requires-clause-fits g c =
    let decision = c.requires.decision in
    c.alts-alts.ensures.fits decision.1 _ (c.requires.ready.kept decision.1 decision.2.decision.stands).offered.there

pub choose-requires-clause-offered : goal.choose-requires-clause-offered
choose-requires-clause-offered g c = (
  c.args.item,
  item_kept c.args.about.now c.args.self.now c.requires.ready c.requires.decision (alts_seen c.alts-alts.result.now) c.alts-alts.ensures.alts
      c.args.item c.requires.offered c.swap_remove-item.result c.swap_remove-item.ensures.value,
)

pub returns-clause-leads : goal.returns-clause-leads
returns-clause-leads g c =
    c.choose.ensures.leads c.args.item
    (item_kept c.args.about.now c.args.self.now c.requires.ready c.requires.decision (alts_seen c.alts-alts.result.now) c.alts-alts.ensures.alts
    c.args.item c.requires.offered c.swap_remove-item.result c.swap_remove-item.ensures.value)
