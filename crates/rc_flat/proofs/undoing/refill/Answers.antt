use Rattle.std.proofs.Common.{List, [], Option, Some, ap, sym, ◌∙◌, slice_get}
use Rattle.rc_sheet_spec.specs.Sheet.{Alt}
use Rattle.rc_play_spec.specs.Menu.{alts_at}
use Rattle.rc_code.specs.Instruction.{Instruction, offer}
use Rattle.std.specs.Prelude.{unwrap_or}
use Rattle.rc_play_spec.specs.About.{menu_at}
use Rattle.rc_table.specs.Laid.{Laid}
use Rattle.rc_rules.specs.Control.{control_seen}
use Rattle.rc_code.specs.Seen.{list_seen}
use Rattle.rc_flat.proofs.undoing.refill.Goals as goal

abbrev alts_in : Option Instruction → List Alt
alts_in (Some (offer site alts blocks inside)) = alts
alts_in other = []

pub choice_there-choice-requires : goal.choice_there-choice-requires
choice_there-choice-requires c =
    let offered = c.requires.on.offered c.in-Some.site c.in-Some.is in (
      c.in-Some.site,
      alts_at c.args.about.now.sheet c.in-Some.site,
      offered.blocks,
      offered.inside,
      ap (slice_get (list_seen c.args.code.now)) c.next.ensures ∙ offered.there,
    )

pub fill_offers_at-requires-clause-offers : goal.fill_offers_at-requires-clause-offers
fill_offers_at-requires-clause-offers c =
    let offered = c.requires.on.offered c.in-Some.site c.in-Some.is in
    ap alts_in (sym c.choice_there-choice.ensures.1 ∙ ap (slice_get (list_seen c.args.code.now)) c.next.ensures ∙ offered.there)

pub returns-clause-ready : goal.returns-clause-ready
returns-clause-ready c =
    let control = control_seen c.args.state.now.control in
    record {
      laid = c.requires.laid;
      play = c.requires.on.play;
      current = c.current_now-state.ensures;
      kept = λ site is.
          record {
            offered = c.requires.on.offered site is;
            menu = c.fill_offers_at.ensures
                ∙ ap (λ (laid : Laid). menu_at c.args.about.now c.in-Some.site laid.table control) c.table.ensures
                ∙ ap (λ o. menu_at c.args.about.now (unwrap_or o 0) c.args.state.now.board.laid.table control) (sym c.in-Some.is ∙ is);
          };
    }
