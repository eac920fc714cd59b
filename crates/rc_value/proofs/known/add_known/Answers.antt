use Rattle.std.proofs.Common.{◌++◌, map, sym, ap, ◌∙◌, subst, ◌≤◌, length, append-nil, arith}
use Rattle.std.proofs.lemmas.List.{length-map, take_all}
use Rattle.std.specs.List.{filter}
use Rattle.rc_play_spec.specs.Scene.{held}
use Rattle.rc_play_spec.specs.Sees.{sees}
use Rattle.rc_play_spec.specs.Table.{is_marked}
use Rattle.rc_play_spec.specs.Value.{cut, known_there}
use Rattle.rc_value.specs.Cards.{value_seen, values_seen}
use Rattle.rc_value.specs.Scene.{scene_seen}
use Rattle.rc_value.proofs.KnownLemmas.{known_part}
use Rattle.rc_value.proofs.known.add_known.Goals as goal

pub returns-clause-cards : goal.returns-clause-cards
returns-clause-cards c =
    let s = c.args.scene.now in
    c.add_marked.ensures.cards
    ∙ ap (λ ids. cut (values_seen c.args.out.now.items ++ map held
    (filter (is_marked s.table.now.table.marks s.current.player) ids))) c.list.ensures.list
    ∙ ap (λ xs. cut (values_seen c.args.out.now.items ++ xs)) (
    known_part s c.in-Some.at
    (ap (λ shape. sees shape s.current.player c.in-Some.at) (sym c.shape.ensures.shape) ∙ sym c.sees.ensures
    ∙ c.if-sees.false)
    (subst (λ ids. length ids ≤ 512) c.list.ensures.list c.list.ensures.few)
    ∙ ap (λ p. cut (known_there (scene_seen s) p)) (sym c.in-Some.is ∙ c.loc_at.ensures)
    )

pub returns-in_default-clause-cards : goal.returns-in_default-clause-cards
returns-in_default-clause-cards c =
    let s = c.args.scene.now in
    let old = values_seen c.args.out.now.items in
    let n = length-map c.args.out.now.items value_seen in
    let few = c.len-count.ensures.fits in
    let count = c.len-count.ensures.value in
    sym (take_all 512 old (omega arith)) ∙ ap cut (sym (append-nil old))
    ∙ ap (λ p. cut (old ++ cut (known_there (scene_seen s) p))) (sym c.in_default.is ∙ c.loc_at.ensures)
