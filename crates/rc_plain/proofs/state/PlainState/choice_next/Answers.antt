use Rattle.std.proofs.Common.{ap, sym, ◌∙◌, length, Some, subst, arith}
use Rattle.std.proofs.lemmas.Bool.{eqb-true, eqb-false}
use Rattle.std.proofs.lemmas.List.{length-map}
use Rattle.rc_sheet_spec.specs.Sheet.{choice}
use Rattle.rc_play_spec.specs.Menu.{menu_from}
use Rattle.rc_play_spec.specs.About.{scene_at, menu_at}
use Rattle.rc_play_spec.specs.Step.{goes}
use Rattle.rc_table.specs.Laid.{Laid}
use Rattle.rc_play_spec.specs.Path.{stage_in}
use Rattle.rc_ast.specs.Items.{alts_seen}
use Rattle.rc_rules.specs.Menu.{item_seen}
use Rattle.rc_plain.specs.Paths.{IsPath}
use Rattle.rc_plain.specs.Plain.{config_of}
use Rattle.rc_plain.specs.State.{plain_of}
use Rattle.rc_plain.proofs.PathLemmas.{not_round}
use Rattle.rc_plain.proofs.StepCases.{moved, skip_leads}
use Rattle.rc_plain.proofs.PlayLemmas.{goes_on, past_is_path, still}
use Rattle.rc_plain.proofs.KeptLemmas.{one_site}
use Rattle.rc_plain.proofs.state.PlainState.choice_next.Goals as goal

pub returns-then-is_empty-clause-leads : goal.returns-then-is_empty-clause-leads
returns-then-is_empty-clause-leads c =
    let about = c.args.about.now in
    let m = plain_of about c.args.self.now in
    let alts = alts_seen c.args.alts.now in
    let here = not_round about.sheet m.path c.requires.ready.play.stands (ap stage_in c.requires.here) in
    let same =
    c.sites_fix_choices.ensures.alternatives about.sheet c.args.site alts m.path
    c.sheet-sheet.ensures.well.numbered.sites here c.requires.here in
    let none = eqb-true _ _ (sym c.is_empty.ensures ∙ c.if-is_empty.true) in
    let menu =
    c.fill_menu_at.ensures ∙ ap (λ (t : Laid). menu_at about c.args.site t.table m.control) c.table.ensures in
    λ dealing k.
    skip_leads m dealing k c.args.site alts here c.requires.here
    (ap (λ xs. length (menu_from (scene_at about m.table m.control.frames) xs)) (sym same)
    ∙ ap length (sym menu) ∙ length-map c.fill_menu_at.new.menu.items item_seen ∙ none)
    ∙ ap (λ path. goes k (config_of (moved m path m.table m.control))) (sym c.pass.ensures)

pub returns-then-is_empty-clause-ready : goal.returns-then-is_empty-clause-ready
returns-then-is_empty-clause-ready c =
    let about = c.args.about.now in
    let m = plain_of about c.args.self.now in
    let play = c.requires.ready.play in
    record {
      laid = c.requires.ready.laid;
      quiet = c.requires.ready.quiet;
      play = goes_on m play c.pass.new.self m.table m.control still 0 0
          (subst (IsPath about.sheet) (sym c.pass.ensures) (past_is_path m play)) play.turn play.counts
          (returns-then-is_empty-clause-leads c still 0);
      current = c.requires.ready.current;
      kept = λ other is.
          let offered = (c.requires.ready.kept other is).offered in
          let some = offered.some in
          let same =
          ap (λ site. length (menu_at about site m.table m.control))
          (one_site m c.args.site other _ c.requires.here offered) in
          let menu =
          c.fill_menu_at.ensures ∙ ap (λ (t : Laid). menu_at about c.args.site t.table m.control) c.table.ensures in
          let none = ap length menu in
          let empty = length-map c.fill_menu_at.new.menu.items item_seen in
          let zero = eqb-true _ _ (sym c.is_empty.ensures ∙ c.if-is_empty.true) in
          absurd (omega (arith, some, same, none, empty, zero));
    }

pub decide-requires-clause-ready : goal.decide-requires-clause-ready
decide-requires-clause-ready c =
    let about = c.args.about.now in
    let m = plain_of about c.args.self.now in
    record {
      laid = c.requires.ready.laid;
      quiet = c.requires.ready.quiet;
      play = c.requires.ready.play;
      current = c.requires.ready.current;
      kept = λ other is.
          let offered = (c.requires.ready.kept other is).offered in
          record {
            offered = offered;
            menu = c.fill_menu_at.ensures
                ∙ ap (λ (t : Laid). menu_at about c.args.site t.table m.control) c.table.ensures
                ∙ ap (λ site. menu_at about site m.table m.control)
                (one_site m c.args.site other _ c.requires.here offered);
          };
    }

pub decide-requires-clause-here : goal.decide-requires-clause-here
decide-requires-clause-here c =
    let about = c.args.about.now in
    let m = plain_of about c.args.self.now in
    let here = not_round about.sheet m.path c.requires.ready.play.stands (ap stage_in c.requires.here) in
    let same =
    c.sites_fix_choices.ensures.alternatives about.sheet c.args.site _ m.path
    c.sheet-sheet.ensures.well.numbered.sites here c.requires.here in
    let menu =
    c.fill_menu_at.ensures ∙ ap (λ (t : Laid). menu_at about c.args.site t.table m.control) c.table.ensures in
    let many = ap length menu in
    let all = length-map c.fill_menu_at.new.menu.items item_seen in
    let not_zero = eqb-false _ _ (sym c.is_empty.ensures ∙ c.if-is_empty.false) in
    record {
      offered = record {
        there = c.requires.here ∙ ap (λ alts. Some (choice c.args.site alts)) (sym same);
        some = omega (arith, many, all, not_zero);
      };
      menu = menu;
    }
