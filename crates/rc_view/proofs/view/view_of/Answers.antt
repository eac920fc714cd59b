use Rattle.std.proofs.Common.{refl, sym, subst}
use Rattle.rc_play_spec.specs.Table.{IsSound}
use Rattle.rc_play_spec.specs.View.{view_of as view_of_state}
use Rattle.rc_rules.specs.Control.{control_seen}
use Rattle.rc_view.specs.Key.{HasKey}
use Rattle.rc_view.specs.Laws.{IsViewIn}
use Rattle.rc_view.proofs.KeyLemmas.{views_equal}
use Rattle.rc_view.proofs.InShape.{view_is_in, view_has_key}
use Rattle.rc_view.proofs.view.view_of.Goals as goal

pub returns-clause-key : goal.returns-clause-key
returns-clause-key c =
    let shape = c.args.shape.now in
    let table = c.args.table.now.table in
    let control = control_seen c.args.control.now in
    let sound = subst (λ s. IsSound s table) c.requires.laid c.shape-shape.ensures.sound in
    subst HasKey (sym (views_equal _ (view_of_state shape c.args.seat table control) refl c.copy.ensures c.in_ok-numbers.ensures c.in_ok-sights.ensures))
    (view_has_key shape c.args.seat table control c.players-players.ensures.limits sound)

pub returns-clause-within : goal.returns-clause-within
returns-clause-within c = λ has each.
    let shape = c.args.shape.now in
    let table = c.args.table.now.table in
    let control = control_seen c.args.control.now in
    let sound = subst (λ s. IsSound s table) c.requires.laid c.shape-shape.ensures.sound in
    subst (IsViewIn shape)
    (sym (views_equal _ (view_of_state shape c.args.seat table control) refl c.copy.ensures c.in_ok-numbers.ensures c.in_ok-sights.ensures))
    (view_is_in shape c.args.seat table control c.players-players.ensures.limits sound has each)
