use Rattle.std.proofs.Common.{[], map, Some, slice_index_or, ap, sym, ◌∙◌, ◌<◌, length, subst, refl}
use Rattle.rc_sheet_spec.specs.Sheet.{choice}
use Rattle.rc_sheet_spec.specs.WellFormed.{outside}
use Rattle.rc_play_spec.specs.About.{scene_at}
use Rattle.rc_play_spec.specs.ItemBounds.{bound_of}
use Rattle.rc_play_spec.specs.Menu.{alt_in, bindings_of}
use Rattle.rc_ast.specs.Items.{alts_seen}
use Rattle.rc_table.specs.Laid.{Laid}
use Rattle.rc_rules.specs.Control.{frames_seen}
use Rattle.rc_plain.proofs.KeptLemmas.{so_many}
use Rattle.rc_plain.proofs.NamingLemmas.{bounds_kept}
use Rattle.rc_plain.proofs.PathLemmas.{item_outside}
use Rattle.rc_plain.proofs.state.PlainState.bounds.Goals as goal

pub bounds-as_slice-item : goal.bounds-as_slice-item
bounds-as_slice-item c =
    subst (λ n. c.args.item < n) (ap length (sym c.as_slice.ensures.value))
    (subst (λ n. c.args.item < n)
    (sym (so_many c.args.about.now c.args.self.now c.requires.ready c.requires.decision)) c.requires.offered)

pub bounds_in-requires-clause-well : goal.bounds_in-requires-clause-well
bounds_in-requires-clause-well c =
    let decision = c.requires.decision in
    let offered = (c.requires.ready.kept decision.1 decision.2.decision.stands).offered in
    let here =
    offered.there
    ∙ ap (λ alts. Some (choice decision.1 alts)) (sym (c.alts-alts.ensures.alts decision.1 _ offered.there)) in
    let is = item_outside c.args.about.now.sheet c.args.self.now.path _ outside refl
    c.sheet-sheet.ensures.well.items here in
    (is.0, is.1, is.2.2)

pub returns : goal.returns
returns c =
    let about = c.args.about.now in
    let item = c.index-as_slice-item.result in
    c.bounds_in.ensures
    ∙ ap (λ (t : Laid). map (bound_of about.shape)
    (bindings_of (scene_at about t.table (frames_seen c.args.self.now.control.frames.items)) []
    (alt_in (alts_seen c.alts-alts.result.now) item.alt) item.spots.items))
    c.table.ensures
    ∙ bounds_kept c.args.about.now c.args.self.now c.requires.ready c.requires.decision
    (alts_seen c.alts-alts.result.now) c.alts-alts.ensures.alts
    c.args.item c.requires.offered c.index-as_slice-item.result
    (c.index-as_slice-item.is
    ∙ ap (λ items. slice_index_or items c.args.item c.index-as_slice-item.result) c.as_slice.ensures.value)
