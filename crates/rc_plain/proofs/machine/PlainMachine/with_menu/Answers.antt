use Rattle.std.proofs.Common.{List, length, Some, ap, sym, ◌∙◌, ◌<◌, subst, arith}
use Rattle.std.specs.Prelude.{unwrap_or}
use Rattle.rc_sheet_spec.specs.Sheet.{choice}
use Rattle.rc_play_spec.specs.About.{menu_at}
use Rattle.rc_play_spec.specs.Menu.{alts_at}
use Rattle.rc_play_spec.specs.Step.{Part}
use Rattle.rc_play_spec.specs.Decision.{left_at}
use Rattle.rc_play_spec.specs.Fits.{FitsSite}
use Rattle.rc_play_spec.proofs.SiteLemmas.{same_site, some_alts}
use Rattle.rc_table.specs.Laid.{Laid}
use Rattle.rc_rules.specs.Control.{control_seen}
use Rattle.rc_plain.specs.Plain.{Plain}
use Rattle.rc_plain.specs.State.{KeepsMenu}
use Rattle.rc_plain.proofs.MachineLemmas.{site_plays}
use Rattle.rc_plain.proofs.machine.PlainMachine.with_menu.Goals as goal

pub path_of-path-requires : goal.path_of-path-requires
path_of-path-requires c =
    let about = c.args.about in
    let control = control_seen c.args.control in
    let decides = c.requires.decides in
    let site =
    same_site c.args.control.site decides.site c.site_of-site.result decides.fits.stands c.site_of-site.ensures in
    some_alts about c.args.board.laid.table control.frames (alts_at about.sheet c.site_of-site.result)
    (subst (λ n. 0 < length (menu_at about n c.args.board.laid.table control)) site decides.some)

pub fill_menu_at-requires-clause-alts : goal.fill_menu_at-requires-clause-alts
fill_menu_at-requires-clause-alts c =
    let found = c.path_of-path.ensures in
    c.alts-alts.ensures.alts c.site_of-site.result found.alts found.there
    ∙ sym (c.sites_fix_choices.ensures.alternatives c.args.about.sheet c.site_of-site.result found.alts
    c.path_of-path.result c.sheet-sheet.ensures.well.numbered.sites found.here found.there)

pub invariant_of-result : goal.invariant_of-result
invariant_of-result c =
    let about = c.args.about in
    let control = control_seen c.args.control in
    let decides = c.requires.decides in
    let site = c.site_of-site.result in
    let below = decides.below in
    let found = c.path_of-path.ensures in
    let sites = c.sheet-sheet.ensures.well.numbered.sites in
    let same = same_site c.args.control.site decides.site site decides.fits.stands c.site_of-site.ensures in
    let m : Plain =
    record { about = about; path = c.path_of-path.result; table = c.args.board.laid.table; control = control } in
    record {
      laid = c.requires.laid;
      quiet = c.requires.quiet;
      play = site_plays m site found.stands (subst (λ n. FitsSite about n control) same decides.fits)
          (c.sites_fix_choices.ensures.left about.sheet site found.alts c.path_of-path.result sites
          found.here found.there)
          (omega (arith, below));
      current = c.current_in-current.ensures;
      kept = λ other is. subst (KeepsMenu about _)
          (same_site c.args.control.site site other c.site_of-site.ensures is) (record {
            offered = record {
              there = found.there
                  ∙ ap (λ alts. Some (choice site alts))
                  (sym (c.sites_fix_choices.ensures.alternatives about.sheet site found.alts c.path_of-path.result sites
                  found.here found.there));
              some = subst (λ n. 0 < length (menu_at about n c.args.board.laid.table control)) same decides.some;
            };
            menu = c.fill_menu_at.ensures ∙ ap (λ (t : Laid). menu_at about site t.table control) c.table.ensures;
          });
    }

pub returns-clause-at : goal.returns-clause-at
returns-clause-at c =
    let about = c.args.about in
    let site = c.site_of-site.result in
    let found = c.path_of-path.ensures in
    let left =
    c.sites_fix_choices.ensures.left about.sheet site found.alts c.path_of-path.result
    c.sheet-sheet.ensures.well.numbered.sites found.here found.there in
    ap (λ (parts : List Part). record {
      left = parts;
      table = c.args.board.laid.table;
      control =
          control_seen c.args.control;
    })
    (sym left ∙ ap (λ o. left_at about.sheet (unwrap_or o 0)) (sym c.site_of-site.ensures))
