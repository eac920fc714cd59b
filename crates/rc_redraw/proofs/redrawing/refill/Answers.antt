use Rattle.std.proofs.Common.{sym, ap, ◌∙◌, subst, arith}
use Rattle.std.proofs.lemmas.Bool.{eqb-true, eqb-false}
use Rattle.rc_play_spec.specs.Table.{IsSound}
use Rattle.rc_table.specs.Laid.{relaid}
use Rattle.rc_table.specs.Refilled.{CanRefill, refilled}
use Rattle.rc_redraw.proofs.Blends.{spread_none, spread_some}
use Rattle.rc_redraw.proofs.redrawing.refill.Goals as goal

pub refill-requires-clause-enough : goal.refill-requires-clause-enough
refill-requires-clause-enough c =
    let none = eqb-true _ _ (sym c.is_empty.ensures ∙ c.if-is_empty.true) in
    let same = spread_none c.args.pattern.now c.args.ids.now none in
    subst (λ ids. CanRefill c.args.locs.now ids c.args.table.now.table.lists) same c.requires.enough

pub refill-requires-clause-sound : goal.refill-requires-clause-sound
refill-requires-clause-sound c =
    let none = eqb-true _ _ (sym c.is_empty.ensures ∙ c.if-is_empty.true) in
    let same = spread_none c.args.pattern.now c.args.ids.now none in
    let table = c.args.table.now in
    subst (λ ids. IsSound table.shape (refilled c.args.locs.now ids table.table)) same c.requires.sound

pub blend-requires-clause-enough : goal.blend-requires-clause-enough
blend-requires-clause-enough c =
    let some = eqb-false _ _ (sym c.is_empty.ensures ∙ c.if-is_empty.false) in
    let exact = c.requires.exact (omega (arith, some)) in
    omega (arith, exact)

pub refill-requires-else-is_empty-clause-enough : goal.refill-requires-else-is_empty-clause-enough
refill-requires-else-is_empty-clause-enough c =
    let some = eqb-false _ _ (sym c.is_empty.ensures ∙ c.if-is_empty.false) in
    let same = spread_some c.args.pattern.now c.args.ids.now (omega (arith, some)) ∙ sym c.blend.ensures.blended in
    subst (λ ids. CanRefill c.args.locs.now ids c.args.table.now.table.lists) same c.requires.enough

pub refill-requires-else-is_empty-clause-sound : goal.refill-requires-else-is_empty-clause-sound
refill-requires-else-is_empty-clause-sound c =
    let some = eqb-false _ _ (sym c.is_empty.ensures ∙ c.if-is_empty.false) in
    let same = spread_some c.args.pattern.now c.args.ids.now (omega (arith, some)) ∙ sym c.blend.ensures.blended in
    let table = c.args.table.now in
    subst (λ ids. IsSound table.shape (refilled c.args.locs.now ids table.table)) same c.requires.sound

pub returns-then-is_empty-clause-refilled : goal.returns-then-is_empty-clause-refilled
returns-then-is_empty-clause-refilled c =
    let none = eqb-true _ _ (sym c.is_empty.ensures ∙ c.if-is_empty.true) in
    let same = spread_none c.args.pattern.now c.args.ids.now none in
    let table = c.args.table.now in
    c.refill.ensures.refilled ∙ ap (λ ids. relaid table (refilled c.args.locs.now ids table.table)) (sym same)

pub returns-else-is_empty-clause-refilled : goal.returns-else-is_empty-clause-refilled
returns-else-is_empty-clause-refilled c =
    let some = eqb-false _ _ (sym c.is_empty.ensures ∙ c.if-is_empty.false) in
    let same = spread_some c.args.pattern.now c.args.ids.now (omega (arith, some)) ∙ sym c.blend.ensures.blended in
    let table = c.args.table.now in
    c.refill-else-is_empty.ensures.refilled ∙ ap (λ ids. relaid table (refilled c.args.locs.now ids table.table)) (sym same)
