use Rattle.std.proofs.Common.{◌≡◌, ◌<◌, length, refl, sym, ap, ◌∙◌, subst}
use Rattle.rc_play_spec.specs.About.{About, menu_at}
use Rattle.rc_play_spec.specs.Decision.{at_site}
use Rattle.rc_table.specs.Laid.{Laid}
use Rattle.rc_view.specs.Seen.{view_seen}
use Rattle.rc_flat.specs.Moments.{IsMoment}
use Rattle.rc_flat.proofs.GoingLemmas.{home_stays}
use Rattle.rc_search.specs.Rounds.{dealt_on}
use Rattle.rc_search.proofs.RootLemmas.{can_decide, dealt_for, deals_still, offered_there, stands_so}
use Rattle.rc_search.proofs.root.deal_root.Goals as goal

pub deal_to-requires-clause-laid : goal.deal_to-requires-clause-laid
deal_to-requires-clause-laid c =
    let about = c.args.about.now in
    let view = view_seen c.args.view.now in
    let dealt : c.table.result.now ≡ dealt_on about c.args.way.now view =
    c.table.ensures
    ∙ dealt_for about c.args.way.now view c.deal_key-key.result c.args.redraws.now c.deal.new.self c.requires.deals c.deal.ensures.redealt c.deal_key-key.ensures in
    ap (λ (l : Laid). l.shape) dealt ∙ sym (ap (λ (a : About). a.shape) c.requires.goes.same)

pub deal_to-requires-clause-moment : goal.deal_to-requires-clause-moment
deal_to-requires-clause-moment c =
    let about = c.args.about.now in
    let view = view_seen c.args.view.now in
    let dealt : c.table.result.now ≡ dealt_on about c.args.way.now view =
    c.table.ensures
    ∙ dealt_for about c.args.way.now view c.deal_key-key.result c.args.redraws.now c.deal.new.self c.requires.deals c.deal.ensures.redealt c.deal_key-key.ensures in
    let goes = c.requires.goes in
    let root = at_site about goes.table view.control in
    let can = can_decide about about c.args.way.now view c.table.result.now view.control c.menu_sizes_are_functions_of_views.ensures.redrawn
    c.sheet-sheet.ensures.shape c.sheet-sheet.ensures.sight c.requires.at refl dealt refl in (
      root,
      subst (λ (a : About). IsMoment a c.args.machine.now.code root c.args.root.now) (sym goes.same) goes.there,
      λ site is.
          subst (λ (a : About). 0 < length (menu_at a site c.table.result.now.table view.control)) (sym goes.same)
          (offered_there about c.table.result.now.table view.control can site is),
    )

pub returns-clause-deals : goal.returns-clause-deals
returns-clause-deals c =
    deals_still c.args.about.now (view_seen c.args.view.now) c.deal_key-key.result c.args.redraws.now c.deal.new.self c.requires.deals c.deal.ensures.redealt

pub returns-clause-stands : goal.returns-clause-stands
returns-clause-stands c =
    let about = c.args.about.now in
    let view = view_seen c.args.view.now in
    let dealt : c.table.result.now ≡ dealt_on about c.args.way.now view =
    c.table.ensures
    ∙ dealt_for about c.args.way.now view c.deal_key-key.result c.args.redraws.now c.deal.new.self c.requires.deals c.deal.ensures.redealt c.deal_key-key.ensures in
    let goes = c.requires.goes in
    let root = at_site about goes.table view.control in
    let is = c.deal_to.ensures in
    stands_so about about c.args.way.now view c.table.result.now view.control c.menu_sizes_are_functions_of_views.ensures.redrawn
    c.sheet-sheet.ensures.shape c.sheet-sheet.ensures.sight c.requires.at refl dealt refl c.deal_to.new.self (is.stays.about ∙ goes.same)
    (is.at root (subst (λ (a : About). IsMoment a c.args.machine.now.code root c.args.root.now) (sym goes.same) goes.there)) is.fresh
    (home_stays _ _ is.stays goes.home)

pub returns-clause-root : goal.returns-clause-root
returns-clause-root c =
    let is = c.deal_to.ensures in
    let m = c.deal_to.new.self in
    subst (λ (a : About). IsMoment a m.code m.config c.deal_to.new.moment) (is.stays.about ∙ c.requires.goes.same) is.moment
