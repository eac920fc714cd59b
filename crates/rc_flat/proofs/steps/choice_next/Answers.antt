use Rattle.std.proofs.Common.{◌+◌, length, drop, Some, ap, sym, ◌∙◌, subst, arith}
use Rattle.std.proofs.lemmas.Bool.{eqb-true, eqb-false}
use Rattle.std.proofs.lemmas.List.{length-map}
use Rattle.rc_play_spec.specs.Menu.{menu_from}
use Rattle.rc_play_spec.specs.About.{scene_at, menu_at}
use Rattle.rc_play_spec.specs.Step.{goes}
use Rattle.rc_table.specs.Laid.{Laid}
use Rattle.rc_rules.specs.Menu.{item_seen}
use Rattle.rc_code.specs.Instruction.{offer}
use Rattle.rc_code.specs.Seen.{list_seen}
use Rattle.rc_flat.specs.Flat.{config_of}
use Rattle.rc_flat.specs.State.{flat_of}
use Rattle.rc_flat.proofs.StepCases.{moved, skip_leads}
use Rattle.rc_flat.specs.Places.{IsPlace}
use Rattle.rc_flat.proofs.PlayLemmas.{still}
use Rattle.rc_flat.proofs.PlaceLemmas.{goes_on, went_place}
use Rattle.rc_flat.proofs.OfferedLemmas.{one_site}
use Rattle.rc_flat.proofs.steps.choice_next.Goals as goal

pub returns-then-is_empty-clause-leads : goal.returns-then-is_empty-clause-leads
returns-then-is_empty-clause-leads c =
    let about = c.args.about.now in
    let m = flat_of about (list_seen c.args.code.now) c.args.state.now in
    let filled = c.fill_offers_at.ensures ∙ ap (λ (laid : Laid). menu_at about c.args.site laid.table m.control) c.table.ensures in
    let alts = c.args.alts.now in
    let here = c.requires.here in
    let choice = c.requires.implements.choices m.place.next c.args.site alts here.0 c.args.inside here.1 in
    let none = eqb-true _ _ (sym c.is_empty.ensures ∙ c.if-is_empty.true) in
    λ dealing k.
    skip_leads m dealing k c.args.site alts here.0 c.args.inside c.requires.round here.1 c.behind.result
    (c.behind.ensures ∙ ap (λ n. drop (n + 1 + c.args.inside) m.code) c.next-next.ensures)
    (ap (λ xs. length (menu_from (scene_at about m.table m.control.frames) xs)) choice.same
    ∙ ap length (sym filled) ∙ length-map c.fill_offers_at.new.menu.items item_seen ∙ none)
    ∙ ap (λ path. goes k (config_of (moved m path m.table m.control))) (sym c.go_to.ensures)

pub returns-then-is_empty-clause-ready : goal.returns-then-is_empty-clause-ready
returns-then-is_empty-clause-ready c =
    let about = c.args.about.now in
    let m = flat_of about (list_seen c.args.code.now) c.args.state.now in
    let filled = c.fill_offers_at.ensures ∙ ap (λ (laid : Laid). menu_at about c.args.site laid.table m.control) c.table.ensures in
    let here = c.requires.here in
    let play = c.requires.ready.play in
    record {
      laid = c.requires.ready.laid;
      play = goes_on m play c.go_to.new.self m.table m.control still 0 0
          (subst (IsPlace m.code) (sym c.go_to.ensures) (went_place m play c.behind.result)) play.turn play.counts
          (returns-then-is_empty-clause-leads c still 0);
      current = c.requires.ready.current;
      kept = λ other is.
          let offered = (c.requires.ready.kept other is).offered in
          let some = offered.some in
          let same = ap (λ site. length (menu_at about site m.table m.control)) (one_site m c.args.site other c.args.alts.now here.0 c.args.inside here.1 offered) in
          let none = ap length filled in
          let empty = length-map c.fill_offers_at.new.menu.items item_seen in
          let zero = eqb-true _ _ (sym c.is_empty.ensures ∙ c.if-is_empty.true) in
          absurd (omega (arith, some, same, none, empty, zero));
    }

pub decide-requires-clause-here : goal.decide-requires-clause-here
decide-requires-clause-here c =
    let m = flat_of c.args.about.now (list_seen c.args.code.now) c.args.state.now in
    let filled = c.fill_offers_at.ensures ∙ ap (λ (laid : Laid). menu_at c.args.about.now c.args.site laid.table m.control) c.table.ensures in
    let alts = c.args.alts.now in
    let here = c.requires.here in
    let choice = c.requires.implements.choices m.place.next c.args.site alts here.0 c.args.inside here.1 in
    let many = ap length filled in
    let all = length-map c.fill_offers_at.new.menu.items item_seen in
    let not_zero = eqb-false _ _ (sym c.is_empty.ensures ∙ c.if-is_empty.false) in
    record {
      offered = record {
        here = c.requires.round;
        blocks = here.0;
        inside = c.args.inside;
        there = here.1 ∙ ap (λ alts. Some (offer c.args.site alts here.0 c.args.inside)) choice.same;
        some = omega (arith, many, all, not_zero);
      };
      menu = filled;
    }

pub decide-requires-clause-seat : goal.decide-requires-clause-seat
decide-requires-clause-seat c = c.requires.ready.current.0

pub decide-requires-clause-ready : goal.decide-requires-clause-ready
decide-requires-clause-ready c =
    let about = c.args.about.now in
    let m = flat_of about (list_seen c.args.code.now) c.args.state.now in
    let here = c.requires.here in
    let filled = c.fill_offers_at.ensures ∙ ap (λ (laid : Laid). menu_at about c.args.site laid.table m.control) c.table.ensures in
    record {
      laid = c.requires.ready.laid;
      play = c.requires.ready.play;
      current = c.requires.ready.current;
      kept = λ other is.
          let offered = (c.requires.ready.kept other is).offered in
          record {
            offered = offered;
            menu = filled ∙ ap (λ site. menu_at about site m.table m.control) (one_site m c.args.site other c.args.alts.now here.0 c.args.inside here.1 offered);
          };
    }
