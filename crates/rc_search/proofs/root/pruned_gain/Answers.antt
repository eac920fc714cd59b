use Rattle.std.proofs.Common.{◌≡◌, ◌+◌, ◌≤◌, IfOk, OnOk, sym, ap, ◌∙◌, subst, arith}
use Rattle.rc_play_spec.specs.Draws.{key32, drawn_for, search_redraws}
use Rattle.rc_play_spec.specs.Redraw.{redraw}
use Rattle.rc_view.specs.Seen.{view_seen}
use Rattle.rc_play_spec.specs.SearchValue.{most_points}
use Rattle.rc_play_spec.proofs.Alternate.{two_teams}
use Rattle.rc_sheet_spec.specs.Sheet.{Sheet}
use Rattle.rc_search.specs.Sides.{AreSides}
use Rattle.rc_search.specs.Shuffling.{dealing_on}
use Rattle.rc_search.specs.Looking.{value_behind, tried_behind}
use Rattle.rc_search.specs.Pruning.{bounded_to}
use Rattle.rc_search.specs.Rounds.{gain_on}
use Rattle.rc_search.proofs.root.pruned_gain.Goals as goal

pub behind_within-requires-clause-player : goal.behind_within-requires-clause-player
behind_within-requires-clause-player g c = let plays = c.requires.at.player in let seat = c.requires.seat in omega (arith, plays, seat)

pub behind_within-requires-clause-top : goal.behind_within-requires-clause-top
behind_within-requires-clause-top g c =
    let most = c.most_points-most.ensures ∙ ap (λ s. most_points s c.args.way.now.seat) c.sheet-sheet.ensures.same in omega (arith, most)

pub returns-clause-gain : goal.returns-clause-gain
returns-clause-gain g c =
    let about = c.args.about.now in
    let way = c.args.way.now in
    let view = view_seen c.args.view.now in
    let plays = c.requires.at.player in
    let seat = c.requires.seat in
    let most = c.most_points-most.ensures ∙ ap (λ s. most_points s way.seat) c.sheet-sheet.ensures.same in
    let law = two_teams about (dealing_on way) way.seat c.requires.at.site c.args.depth 0 c.args.item
    (redraw about.shape view (key32 way.key (drawn_for way.seat search_redraws) way.seed way.round)) view.control
    c.sheet-sheet.ensures.shape c.sheet-sheet.ensures.well c.requires.two (omega (arith, plays, seat)) c.requires.at.fits in
    let there = ap (λ here. value_behind about way c.args.depth here 0 c.args.item) c.requires.stands.there in
    let same = law.0 in
    let few = law.1 in
    let is : bounded_to 0 c.most_points-most.result (value_behind about way c.args.depth c.args.machine.now.config 0 c.args.item)
    ≡ gain_on about way view c.args.depth c.args.item = omega (arith, same, few, there, most) in
    subst (λ n. IfOk c.behind_within.result (λ found. found ≡ n)) is c.behind_within.ensures.value

pub returns-clause-bounded : goal.returns-clause-bounded
returns-clause-bounded g c =
    subst (λ here. OnOk c.behind_within.result (c.behind_within.new.steps
    ≤ c.args.steps.now + 1 + tried_behind c.args.about.now c.args.way.now c.args.depth here 0 c.args.item)) c.requires.stands.there c.behind_within.ensures.counted

pub most_points-most-requires-clause-sides : goal.most_points-most-requires-clause-sides
most_points-most-requires-clause-sides g c = subst (λ (s : Sheet). AreSides s c.args.sides.now.items) (sym c.sheet-sheet.ensures.same) c.requires.sides
