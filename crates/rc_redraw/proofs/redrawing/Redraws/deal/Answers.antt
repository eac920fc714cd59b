use Rattle.std.proofs.Common.{◌≡◌, ◌≤◌, length, ap, sym, ◌∙◌, subst, arith}
use Rattle.rc_play_spec.specs.Draws.{permuted}
use Rattle.rc_play_spec.specs.Redraw.{redrawn, mems_of, seen_faces, seen_of}
use Rattle.rc_play_spec.specs.Table.{IsSound}
use Rattle.rc_play_spec.specs.View.{view_of}
use Rattle.rc_table.specs.Laid.{Laid}
use Rattle.rc_view.specs.Seen.{view_seen}
use Rattle.rc_redraw.specs.Hiding.{spread, blanks}
use Rattle.rc_redraw.specs.Redraws.{Redrawn, redealt}
use Rattle.rc_redraw.proofs.Anew.{dealt, patterns-blanks}
use Rattle.rc_redraw.proofs.Blends.{kept_exact}
use Rattle.rc_table.proofs.WhereaboutEdits.{refilled}
use Rattle.rc_redraw.proofs.redrawing.Redraws.deal.Goals as goal

pub refill-requires-clause-exact : goal.refill-requires-clause-exact
refill-requires-clause-exact c = λ some.
    let r : Redrawn =
    record {
      shape = c.self.inside.desk.table.shape;
      view = view_seen c.self.inside.view.now;
      table = c.self.inside.desk.table.table;
    } in
    let kept = c.self.invariant in
    let key = c.args.key.now in
    let count = c.seen_places_take_the_smallest.ensures.rest r.shape r.view kept.of in
    let smallest = (c.seen_places_take_the_smallest.ensures.smallest r.shape r.view kept.of).0.0 in
    let known : length (seen_faces (mems_of r.shape.places) r.view.sights) ≤ length (seen_of r.shape r.view) = omega (arith, smallest) in
    let long = ap length c.deref-4.ensures.value ∙ c.shuffle.ensures.each ∙ ap length c.deref.ensures.value in
    let blank = patterns-blanks (mems_of r.shape.places) r.view.sights (seen_of r.shape r.view) known in
    let each = ap length kept.rest in
    let same = ap length c.deref-3.ensures.value in
    ap blanks c.deref-3.ensures.value
    ∙ kept_exact c.self.inside.desk.pattern.items _ (length c.deref-4.result.now) kept.known
    (omega (arith, blank, count, each, long)) (omega (arith, some, same))

pub refill-requires-clause-enough : goal.refill-requires-clause-enough
refill-requires-clause-enough c =
    let r : Redrawn =
    record {
      shape = c.self.inside.desk.table.shape;
      view = view_seen c.self.inside.view.now;
      table = c.self.inside.desk.table.table;
    } in
    let kept = c.self.invariant in
    let key = c.args.key.now in
    let count = c.seen_places_take_the_smallest.ensures.rest r.shape r.view kept.of in
    let smallest = (c.seen_places_take_the_smallest.ensures.smallest r.shape r.view kept.of).0.0 in
    let known : length (seen_faces (mems_of r.shape.places) r.view.sights) ≤ length (seen_of r.shape r.view) = omega (arith, smallest) in
    let long = ap length c.deref-4.ensures.value ∙ c.shuffle.ensures.each ∙ ap length c.deref.ensures.value in
    let ids = c.deref-4.ensures.value ∙ c.shuffle.ensures.permuted ∙ ap (permuted key) c.deref.ensures.value in
    let content = ap (λ p. spread p c.deref-4.result.now) c.deref-3.ensures.value in
    let new = dealt r key _ _ _ _ _ _ _ _ kept known count c.deref-2.ensures.value ids long content in
    new.0

pub refill-requires-clause-sound : goal.refill-requires-clause-sound
refill-requires-clause-sound c =
    let r : Redrawn =
    record {
      shape = c.self.inside.desk.table.shape;
      view = view_seen c.self.inside.view.now;
      table = c.self.inside.desk.table.table;
    } in
    let kept = c.self.invariant in
    let key = c.args.key.now in
    let count = c.seen_places_take_the_smallest.ensures.rest r.shape r.view kept.of in
    let smallest = (c.seen_places_take_the_smallest.ensures.smallest r.shape r.view kept.of).0.0 in
    let known : length (seen_faces (mems_of r.shape.places) r.view.sights) ≤ length (seen_of r.shape r.view) = omega (arith, smallest) in
    let long = ap length c.deref-4.ensures.value ∙ c.shuffle.ensures.each ∙ ap length c.deref.ensures.value in
    let ids = c.deref-4.ensures.value ∙ c.shuffle.ensures.permuted ∙ ap (permuted key) c.deref.ensures.value in
    let content = ap (λ p. spread p c.deref-4.result.now) c.deref-3.ensures.value in
    let new = dealt r key _ _ _ _ _ _ _ _ kept known count c.deref-2.ensures.value ids long content in
    subst (IsSound r.shape) (sym new.1) (c.redrawn_tables_are_sound.ensures r.shape r.view key kept.of)

pub invariant_of-self : goal.invariant_of-self
invariant_of-self c =
    let r : Redrawn =
    record {
      shape = c.self.inside.desk.table.shape;
      view = view_seen c.self.inside.view.now;
      table = c.self.inside.desk.table.table;
    } in
    let kept = c.self.invariant in
    let key = c.args.key.now in
    let count = c.seen_places_take_the_smallest.ensures.rest r.shape r.view kept.of in
    let smallest = (c.seen_places_take_the_smallest.ensures.smallest r.shape r.view kept.of).0.0 in
    let known : length (seen_faces (mems_of r.shape.places) r.view.sights) ≤ length (seen_of r.shape r.view) = omega (arith, smallest) in
    let long = ap length c.deref-4.ensures.value ∙ c.shuffle.ensures.each ∙ ap length c.deref.ensures.value in
    let ids = c.deref-4.ensures.value ∙ c.shuffle.ensures.permuted ∙ ap (permuted key) c.deref.ensures.value in
    let content = ap (λ p. spread p c.deref-4.result.now) c.deref-3.ensures.value in
    let new = dealt r key _ _ _ _ _ _ _ _ kept known count c.deref-2.ensures.value ids long content in
    let is = c.refill.ensures.refilled ∙ ap (λ table. record { shape = r.shape; table = table }) new.1 in
    let same = c.refill.ensures.each in
    let old = ap length c.deref_mut.ensures.value in
    let room = c.self.inside.desk.content in
    let filled = ap length (refilled room.len room.items c.refill.new.content room.ok.0 (same ∙ old)) in
    rw is
    (record {
      of = kept.of;
      hiding = kept.hiding;
      known = kept.known;
      long = omega (arith, filled, same, old, kept.long);
      rest = kept.rest;
      few = kept.few;
      each = c.shuffle.ensures.each ∙ ap length c.deref.ensures.value;
      is = ap (redrawn r.shape r.view) (sym (c.shuffle.ensures.permuted ∙ ap (permuted key) (c.deref.ensures.value ∙ kept.rest)));
    })

pub returns-clause-redealt : goal.returns-clause-redealt
returns-clause-redealt c =
    let r : Redrawn =
    record {
      shape = c.self.inside.desk.table.shape;
      view = view_seen c.self.inside.view.now;
      table = c.self.inside.desk.table.table;
    } in
    let kept = c.self.invariant in
    let key = c.args.key.now in
    let count = c.seen_places_take_the_smallest.ensures.rest r.shape r.view kept.of in
    let smallest = (c.seen_places_take_the_smallest.ensures.smallest r.shape r.view kept.of).0.0 in
    let known : length (seen_faces (mems_of r.shape.places) r.view.sights) ≤ length (seen_of r.shape r.view) = omega (arith, smallest) in
    let long = ap length c.deref-4.ensures.value ∙ c.shuffle.ensures.each ∙ ap length c.deref.ensures.value in
    let ids = c.deref-4.ensures.value ∙ c.shuffle.ensures.permuted ∙ ap (permuted key) c.deref.ensures.value in
    let content = ap (λ p. spread p c.deref-4.result.now) c.deref-3.ensures.value in
    let new = dealt r key _ _ _ _ _ _ _ _ kept known count c.deref-2.ensures.value ids long content in
    let is = c.refill.ensures.refilled ∙ ap (λ table. record { shape = r.shape; table = table }) new.1 in
    ap (λ (laid : Laid). record { shape = laid.shape; view = r.view; table = laid.table }) is ∙ ap (redealt key) c.self.view_is

pub returns-clause-sound : goal.returns-clause-sound
returns-clause-sound c =
    let r : Redrawn =
    record {
      shape = c.self.inside.desk.table.shape;
      view = view_seen c.self.inside.view.now;
      table = c.self.inside.desk.table.table;
    } in
    let kept = c.self.invariant in
    let key = c.args.key.now in
    let count = c.seen_places_take_the_smallest.ensures.rest r.shape r.view kept.of in
    let smallest = (c.seen_places_take_the_smallest.ensures.smallest r.shape r.view kept.of).0.0 in
    let known : length (seen_faces (mems_of r.shape.places) r.view.sights) ≤ length (seen_of r.shape r.view) = omega (arith, smallest) in
    let long = ap length c.deref-4.ensures.value ∙ c.shuffle.ensures.each ∙ ap length c.deref.ensures.value in
    let ids = c.deref-4.ensures.value ∙ c.shuffle.ensures.permuted ∙ ap (permuted key) c.deref.ensures.value in
    let content = ap (λ p. spread p c.deref-4.result.now) c.deref-3.ensures.value in
    let new = dealt r key _ _ _ _ _ _ _ _ kept known count c.deref-2.ensures.value ids long content in
    let is = c.refill.ensures.refilled ∙ ap (λ table. record { shape = r.shape; table = table }) new.1 in
    subst (λ (laid : Laid). IsSound laid.shape laid.table) (sym is) (c.redrawn_tables_are_sound.ensures r.shape r.view key kept.of)

pub returns-clause-view : goal.returns-clause-view
returns-clause-view c =
    let r : Redrawn =
    record {
      shape = c.self.inside.desk.table.shape;
      view = view_seen c.self.inside.view.now;
      table = c.self.inside.desk.table.table;
    } in
    let kept = c.self.invariant in
    let key = c.args.key.now in
    let count = c.seen_places_take_the_smallest.ensures.rest r.shape r.view kept.of in
    let smallest = (c.seen_places_take_the_smallest.ensures.smallest r.shape r.view kept.of).0.0 in
    let known : length (seen_faces (mems_of r.shape.places) r.view.sights) ≤ length (seen_of r.shape r.view) = omega (arith, smallest) in
    let long = ap length c.deref-4.ensures.value ∙ c.shuffle.ensures.each ∙ ap length c.deref.ensures.value in
    let ids = c.deref-4.ensures.value ∙ c.shuffle.ensures.permuted ∙ ap (permuted key) c.deref.ensures.value in
    let content = ap (λ p. spread p c.deref-4.result.now) c.deref-3.ensures.value in
    let new = dealt r key _ _ _ _ _ _ _ _ kept known count c.deref-2.ensures.value ids long content in
    let is = c.refill.ensures.refilled ∙ ap (λ table. record { shape = r.shape; table = table }) new.1 in
    subst (λ (laid : Laid). view_of laid.shape r.view.seat laid.table r.view.control ≡ r.view) (sym is)
    (c.redrawn_tables_keep_the_view.ensures.view r.shape r.view key kept.of)
