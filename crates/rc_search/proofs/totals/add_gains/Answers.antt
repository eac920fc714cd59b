use Rattle.std.proofs.Common.{◌≡◌, ◌+◌, ◌-◌, ◌*◌, ◌<◌, ◌≤◌, length, get_or, map, sym, ap, ◌∙◌, subst, arith}
use Rattle.std.specs.Prelude.{All}
use Rattle.rc_base.specs.Numbers.{below}
use Rattle.rc_play_spec.specs.Strategy.{menu_size}
use Rattle.rc_play_spec.specs.Search.{total}
use Rattle.rc_view.specs.Seen.{view_seen}
use Rattle.rc_flat.specs.Machine.{Machine}
use Rattle.rc_flat.proofs.GoingLemmas.{stays_then, home_stays}
use Rattle.rc_rollout.proofs.StandingLemmas.{short_menu}
use Rattle.rc_search.specs.declared.dealer.Way.{Way}
use Rattle.rc_search.specs.Looking.{tried_with}
use Rattle.rc_search.specs.Rival.{rival_seen}
use Rattle.rc_search.specs.Rounds.{in_rounds, root_on, gain_on, tried_on}
use Rattle.rc_search.proofs.LookLemmas.{moment_on, told_then, told_few, tried_more}
use Rattle.rc_search.proofs.RootLemmas.{own_moment, root_again}
use Rattle.rc_search.proofs.TotalLemmas.{long, total_there, one_more, small_push, get_any}
use Rattle.rc_search.proofs.totals.add_gains.Goals as goal

pub overflow_cast-place : goal.overflow_cast-place
overflow_cast-place g c =
    let about = c.args.about.now in
    let view = view_seen c.args.view.now in
    let size = long about (rival_seen c.args.rival.now) c.args.seed view c.args.round c.args.found.now.totals.items c.requires.before in
    let few = short_menu about view c.menu_sizes_are_functions_of_views.ensures.redrawn c.menus_list_what_is_offered.ensures.few
    c.sheet-sheet.ensures.shape c.sheet-sheet.ensures.sight c.requires.at in
    omega (arith, c.loop-item-test.true, size, few)

pub gain_of-requires-clause-seat : goal.gain_of-requires-clause-seat
gain_of-requires-clause-seat g c = ap (λ (w : Way). w.seat) c.requires.way

pub gain_of-requires-clause-few : goal.gain_of-requires-clause-few
gain_of-requires-clause-few g c =
    told_few c.args.found.now.applied c.loop-item.found.applied c.args.steps.now c.loop-item.steps c.loop-item.invariant.told

pub stand_at-requires : goal.stand_at-requires
stand_at-requires g c =
    let is = c.loop-item.invariant in
    record {
      home = home_stays _ _ is.stays c.requires.stands.home;
      there = (
        c.args.machine.now.config,
        moment_on c.args.machine.now c.loop-item.machine c.args.machine.now.config c.args.root.now is.stays (own_moment c.args.about.now c.args.machine.now c.args.root.now c.requires.stands.same c.requires.root),
        λ none. ap (λ (m : Machine). m.config) (is.first none),
      );
      fresh = λ none. ap (λ (m : Machine). m.spent) (is.first none) ∙ c.requires.stands.fresh;
    }

pub gain_of-requires-clause-stands : goal.gain_of-requires-clause-stands
gain_of-requires-clause-stands g c =
    let is = c.loop-item.invariant in
    let at : c.stand_at.new.machine.config ≡ c.args.machine.now.config = c.stand_at.ensures.at c.args.machine.now.config
    (moment_on c.args.machine.now c.loop-item.machine c.args.machine.now.config c.args.root.now is.stays (own_moment c.args.about.now c.args.machine.now c.args.root.now c.requires.stands.same c.requires.root))
    (λ none. ap (λ (m : Machine). m.config) (is.first none)) in
    root_again c.args.about.now c.args.way.now (view_seen c.args.view.now) c.args.machine.now c.stand_at.new.machine c.requires.stands
    (stays_then c.args.machine.now c.loop-item.machine c.stand_at.new.machine is.stays c.stand_at.ensures.stays) at c.stand_at.ensures.fresh

pub gain_of-requires-clause-offered : goal.gain_of-requires-clause-offered
gain_of-requires-clause-offered g c =
    let size = long c.args.about.now (rival_seen c.args.rival.now) c.args.seed (view_seen c.args.view.now) c.args.round c.args.found.now.totals.items c.requires.before in
    omega (arith, c.loop-item-test.true, size)

pub loop-item-preserved : goal.loop-item-preserved
loop-item-preserved g c =
    let about = c.args.about.now in
    let rival = rival_seen c.args.rival.now in
    let view = view_seen c.args.view.now in
    let seed = c.args.seed in
    let round = c.args.round in
    let way = c.args.way.now in
    let depth = c.args.rival.now.depth - 1 in
    let root = root_on about way view in
    let item = c.loop-item.item in
    let is = c.loop-item.invariant in
    let old = c.args.found.now.totals.items in
    let size = long about rival seed view round old c.requires.before in
    let lt : item < menu_size about view = omega (arith, c.loop-item-test.true, size) in
    let value = c.index.result.now in
    let as_long = ap length is.kept in
    let read : value ≡ get_or c.loop-item.found.totals.items item 0 =
    c.index.ensures ∙ get_any c.loop-item.found.totals.items item value 0 (omega (arith, c.loop-item-test.true, as_long)) in
    let there = read ∙ ap (λ xs. get_or xs item 0) is.kept ∙ total_there about rival seed view round item old c.requires.before lt in
    let gains = c.in_ok-gain.ensures.gain ∙ ap (λ w. gain_on about w view depth item) c.requires.way in
    let small = c.requires.small item 0 (omega (arith, c.loop-item-test.true)) in
    let same = ap (λ xs. get_or xs item 0) is.kept in
    let more = tried_more about way depth root 0 item in
    let exact = is.exact in
    let bounded = is.bounded in
    let bounded' = c.in_ok-gain.ensures.bounded in
    record {
      stays = stays_then c.args.machine.now c.stand_at.new.machine c.gain_of.new.machine (stays_then c.args.machine.now c.loop-item.machine c.stand_at.new.machine is.stays c.stand_at.ensures.stays) c.in_ok-gain.ensures.stays;
      first = λ none. absurd (omega (arith, none));
      rooms = c.in_ok-gain.ensures.rooms;
      kept = is.kept;
      more = c.in_ok-push.ensures.items ∙ one_more about rival seed view round item value c.in_ok-gain.gain c.loop-item.more.items is.more there gains;
      small = subst (λ xs. All (λ n. n ≤ 255 * (round + 1)) xs) (sym c.in_ok-push.ensures.items)
          (small_push (255 * (round + 1)) c.loop-item.more.items (value + c.in_ok-gain.gain) is.small (omega (arith, small, same, read)));
      within = omega (arith, lt);
      exact = λ plain. let a = exact plain in let b = c.in_ok-gain.ensures.exact plain in omega (arith, a, b, more);
      bounded = omega (arith, bounded, bounded', more);
      told = told_then c.args.found.now.applied c.loop-item.found.applied c.gain_of.new.applied c.args.steps.now c.loop-item.steps c.gain_of.new.steps is.told c.in_ok-gain.ensures.told;
    }

pub returns-clause-after : goal.returns-clause-after
returns-clause-after g c =
    let about = c.args.about.now in
    let rival = rival_seen c.args.rival.now in
    let view = view_seen c.args.view.now in
    let size = long about rival c.args.seed view c.args.round c.args.found.now.totals.items c.requires.before in
    let within = c.loop-item.invariant.within in
    let all : c.loop-item.item ≡ menu_size about view = omega (arith, c.loop-item-test.false, size, within) in
    c.loop-item.invariant.more ∙ ap (λ n. map (total about (in_rounds (c.args.round + 1) rival) c.args.seed view) (below n)) all

pub returns-clause-exact : goal.returns-clause-exact
returns-clause-exact g c = λ plain.
    let about = c.args.about.now in
    let rival = rival_seen c.args.rival.now in
    let view = view_seen c.args.view.now in
    let way = c.args.way.now in
    let depth = c.args.rival.now.depth - 1 in
    let size = long about rival c.args.seed view c.args.round c.args.found.now.totals.items c.requires.before in
    let within = c.loop-item.invariant.within in
    let all : c.loop-item.item ≡ menu_size about view = omega (arith, c.loop-item-test.false, size, within) in
    let whole = ap (tried_with about way depth (root_on about way view) 0) all ∙ ap (λ w. tried_on about w view depth) c.requires.way in
    let exact = c.loop-item.invariant.exact plain in
    omega (arith, whole, exact)

pub returns-clause-bounded : goal.returns-clause-bounded
returns-clause-bounded g c =
    let about = c.args.about.now in
    let rival = rival_seen c.args.rival.now in
    let view = view_seen c.args.view.now in
    let way = c.args.way.now in
    let depth = c.args.rival.now.depth - 1 in
    let size = long about rival c.args.seed view c.args.round c.args.found.now.totals.items c.requires.before in
    let within = c.loop-item.invariant.within in
    let all : c.loop-item.item ≡ menu_size about view = omega (arith, c.loop-item-test.false, size, within) in
    let whole = ap (tried_with about way depth (root_on about way view) 0) all ∙ ap (λ w. tried_on about w view depth) c.requires.way in
    let bounded = c.loop-item.invariant.bounded in
    omega (arith, whole, bounded)
