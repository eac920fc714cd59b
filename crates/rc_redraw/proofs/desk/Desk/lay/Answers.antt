use Rattle.std.proofs.Common.{◌<◌, arith, All, ◌≡◌, ◌++◌, ℕ, List, [], ◌∙◌, sym, ap, ap₂, subst, length, map}
use Rattle.std.proofs.lemmas.List.{length-map}
use Rattle.rc_play_spec.specs.Redraw.{mems_of, seen_faces, seen_ids, seen_of, unused, hidden_count, filled, peeked, marks_for, marks_seen, redrawn}
use Rattle.rc_play_spec.specs.Smallest.{AreEnough}
use Rattle.rc_play_spec.specs.Shape.{Shape}
use Rattle.rc_play_spec.specs.Table.{IsSound}
use Rattle.rc_table.specs.Laid.{Laid}
use Rattle.rc_view.specs.Seen.{sight_seen, view_seen}
use Rattle.rc_view.specs.declared.sight.Sight.{Sight}
use Rattle.rc_table.specs.Marks.{seats_in}
use Rattle.std.specs.List.{list_any}
use Rattle.rc_redraw.specs.Hiding.{hiding_from, knows, patterns, IsKept}
use Rattle.rc_redraw.proofs.Anew.{ascending_sound}
use Rattle.rc_play_spec.proofs.Counting.{same, passing-is}
use Rattle.rc_play_spec.proofs.Ids.{seen_ids-within}
use Rattle.rc_redraw.proofs.Laying.{knowing-player}
use Rattle.rc_redraw.proofs.FillSteps.{each_seen}
use Rattle.rc_redraw.proofs.desk.Desk.lay.Goals as goal

pub lay_out-requires-clause-each : goal.lay_out-requires-clause-each
lay_out-requires-clause-each c =
    ap length c.deref-2.ensures.value ∙ sym (length-map c.args.view.now.sights.items sight_seen)
    ∙ each_seen c.args.shape.now.value (view_seen c.args.view.now) c.requires.sound ∙ ap (λ (s : Shape). length s.places) (sym c.deref.ensures)

pub lay_out-requires-clause-few : goal.lay_out-requires-clause-few
lay_out-requires-clause-few c =
    let shape = c.args.shape.now.value in
    let few = c.seen_places_take_the_smallest.ensures.few shape (view_seen c.args.view.now) c.requires.sound in
    subst (λ (s : Shape). AreEnough s (seen_faces (mems_of s.places) (map sight_seen c.deref-2.result.now))) (sym c.deref.ensures)
    (subst (λ x. AreEnough shape (seen_faces (mems_of shape.places) (map sight_seen x))) (sym c.deref-2.ensures.value) few)

pub lay_out-requires-clause-rest : goal.lay_out-requires-clause-rest
lay_out-requires-clause-rest c =
    let shape = c.args.shape.now.value in
    let rest = c.seen_places_take_the_smallest.ensures.rest shape (view_seen c.args.view.now) c.requires.sound in
    subst (λ (s : Shape). hidden_count (mems_of s.places) (map sight_seen c.deref-2.result.now) ≡ length (unused s (seen_ids s [] (seen_faces (mems_of s.places) (map sight_seen c.deref-2.result.now))))) (sym c.deref.ensures)
    (subst (λ x. hidden_count (mems_of shape.places) (map sight_seen x) ≡ length (unused shape (seen_ids shape [] (seen_faces (mems_of shape.places) (map sight_seen x))))) (sym c.deref-2.ensures.value) rest)

pub mark_known-requires-clause-each : goal.mark_known-requires-clause-each
mark_known-requires-clause-each c =
    ap length c.deref-6.ensures.value ∙ sym (length-map c.args.view.now.sights.items sight_seen)
    ∙ each_seen c.args.shape.now.value (view_seen c.args.view.now) c.requires.sound ∙ ap (λ (s : Shape). length s.places) (sym c.deref-5.ensures)

pub mark_known-requires-clause-seen : goal.mark_known-requires-clause-seen
mark_known-requires-clause-seen c =
    let shape = c.args.shape.now.value in
    let view = view_seen c.args.view.now in
    let ids : Shape → List Sight → List ℕ = λ s x. seen_ids s [] (seen_faces (mems_of s.places) (map sight_seen x)) in
    let seen : c.deref-7.result.now ≡ seen_of shape view =
    c.deref-7.ensures.value ∙ c.in_ok-lay_out.ensures.seen ∙ ap₂ ids c.deref.ensures c.deref-2.ensures.value in
    let smallest = (c.seen_places_take_the_smallest.ensures.smallest shape view c.requires.sound).0.0 in
    ap₂ (λ (s : Shape) x. length (seen_faces (mems_of s.places) (map sight_seen x))) c.deref-5.ensures c.deref-6.ensures.value
    ∙ sym smallest ∙ sym (ap length seen)

pub mark_known-requires-clause-ids : goal.mark_known-requires-clause-ids
mark_known-requires-clause-ids c =
    let shape = c.args.shape.now.value in
    let view = view_seen c.args.view.now in
    let ids : Shape → List Sight → List ℕ = λ s x. seen_ids s [] (seen_faces (mems_of s.places) (map sight_seen x)) in
    let seen : c.deref-7.result.now ≡ seen_of shape view =
    c.deref-7.ensures.value ∙ c.in_ok-lay_out.ensures.seen ∙ ap₂ ids c.deref.ensures c.deref-2.ensures.value in
    let few = c.seen_places_take_the_smallest.ensures.few shape view c.requires.sound in
    let faces = seen_faces (mems_of shape.places) view.sights in
    let all : All (λ id. id < length shape.faces) (seen_of shape view) = seen_ids-within shape [] faces (λ f. let h = few f in let e = passing-is (same f) faces in omega (arith, h, e)) in
    subst (All (λ id. id < length c.deref-5.result.now.faces)) (sym seen)
    (subst (λ (s : Shape). All (λ id. id < length s.faces) (seen_of shape view)) (sym c.deref-5.ensures) all)

pub mark_known-requires-clause-seat : goal.mark_known-requires-clause-seat
mark_known-requires-clause-seat c = λ some.
    let shape = c.args.shape.now.value in
    let view = view_seen c.args.view.now in
    let ids : Shape → List Sight → List ℕ = λ s x. seen_ids s [] (seen_faces (mems_of s.places) (map sight_seen x)) in
    let seen : c.deref-7.result.now ≡ seen_of shape view =
    c.deref-7.ensures.value ∙ c.in_ok-lay_out.ensures.seen ∙ ap₂ ids c.deref.ensures c.deref-2.ensures.value in
    let now = c.deref-7.result.now in
    let same = ap length (ap₂ (λ (s : Shape) x. peeked (mems_of s.places) (map sight_seen x) now) c.deref-5.ensures c.deref-6.ensures.value) in
    let player = knowing-player shape view c.requires.sound now (omega (arith, some, same)) in
    let most = c.players-players.ensures.limits.players in
    let all = ap (λ (s : Shape). s.players) c.deref-3.ensures in
    omega (arith, player, most, all)

pub lay-requires : goal.lay-requires
lay-requires c =
    let shape = c.args.shape.now.value in
    let view = view_seen c.args.view.now in
    let ids : Shape → List Sight → List ℕ = λ s x. seen_ids s [] (seen_faces (mems_of s.places) (map sight_seen x)) in
    let seen : c.deref-7.result.now ≡ seen_of shape view =
    c.deref-7.ensures.value ∙ c.in_ok-lay_out.ensures.seen ∙ ap₂ ids c.deref.ensures c.deref-2.ensures.value in
    let lists = ap (map (λ list. list.items)) c.deref-8.ensures.value ∙ c.in_ok-lay_out.ensures.lists
    ∙ ap (filled (mems_of c.deref.result.now.places) (map sight_seen c.deref-2.result.now) (ids c.deref.result.now c.deref-2.result.now)) c.in_ok-lay_out.ensures.unused
    ∙ ap₂ (λ (s : Shape) x. filled (mems_of s.places) (map sight_seen x) (ids s x) (unused s (ids s x))) c.deref.ensures c.deref-2.ensures.value in
    let marks : map seats_in c.deref-10.result.now ≡ marks_seen shape view = ap (map seats_in) c.deref-10.ensures.value ∙ c.in_ok-mark_known.ensures
    ∙ ap₂ (λ (s : Shape) x. marks_for (length s.faces) view.seat (peeked (mems_of s.places) (map sight_seen x) c.deref-7.result.now)) c.deref-5.ensures c.deref-6.ensures.value
    ∙ ap (λ x. marks_for (length shape.faces) view.seat (peeked (mems_of shape.places) view.sights x)) seen in
    let table = ap₂ (λ lists numbers. record { lists = lists; numbers = numbers; marks = map seats_in c.deref-10.result.now }) lists c.deref-9.ensures.value
    ∙ ap (λ marks. record { lists = filled (mems_of shape.places) view.sights (seen_of shape view) (unused shape (seen_of shape view)); numbers = view.numbers; marks = marks }) marks in
    subst (λ s. IsSound s (record { lists = map (λ list. list.items) c.deref-8.result.now; numbers = c.deref-9.result.now; marks = map seats_in c.deref-10.result.now }))
    (sym c.requires.laid)
    (subst (IsSound shape) (sym table) (ascending_sound shape view c.requires.sound))

pub list_hiding-requires : goal.list_hiding-requires
list_hiding-requires c =
    ap length c.deref-12.ensures.value ∙ sym (length-map c.args.view.now.sights.items sight_seen)
    ∙ each_seen c.args.shape.now.value (view_seen c.args.view.now) c.requires.sound ∙ ap (λ (s : Shape). length s.places) (sym c.deref-11.ensures)

pub keep_pattern-requires-clause-each : goal.keep_pattern-requires-clause-each
keep_pattern-requires-clause-each c =
    ap length c.deref-14.ensures.value ∙ sym (length-map c.args.view.now.sights.items sight_seen)
    ∙ each_seen c.args.shape.now.value (view_seen c.args.view.now) c.requires.sound ∙ ap (λ (s : Shape). length s.places) (sym c.deref-13.ensures)

pub keep_pattern-requires-clause-seen : goal.keep_pattern-requires-clause-seen
keep_pattern-requires-clause-seen c =
    let shape = c.args.shape.now.value in
    let view = view_seen c.args.view.now in
    let ids : Shape → List Sight → List ℕ = λ s x. seen_ids s [] (seen_faces (mems_of s.places) (map sight_seen x)) in
    let seen : c.deref-15.result.now ≡ seen_of shape view =
    c.deref-15.ensures.value ∙ c.in_ok-lay_out.ensures.seen ∙ ap₂ ids c.deref.ensures c.deref-2.ensures.value in
    let smallest = (c.seen_places_take_the_smallest.ensures.smallest shape view c.requires.sound).0.0 in
    ap₂ (λ (s : Shape) x. length (seen_faces (mems_of s.places) (map sight_seen x))) c.deref-13.ensures c.deref-14.ensures.value
    ∙ sym smallest ∙ sym (ap length seen)

pub returns-clause-lies : goal.returns-clause-lies
returns-clause-lies c =
    let shape = c.args.shape.now.value in
    let view = view_seen c.args.view.now in
    let ids : Shape → List Sight → List ℕ = λ s x. seen_ids s [] (seen_faces (mems_of s.places) (map sight_seen x)) in
    let seen : c.deref-7.result.now ≡ seen_of shape view =
    c.deref-7.ensures.value ∙ c.in_ok-lay_out.ensures.seen ∙ ap₂ ids c.deref.ensures c.deref-2.ensures.value in
    let long : length c.resize.new.self.items ≡ length c.keep_pattern.new.pattern.items =
    let room = c.resize.new.self.ok.0 in
    let made = c.in_ok-resize.ensures.len in
    let asked = c.len.ensures in
    let held = c.keep_pattern.new.pattern.ok.0 in
    omega (arith, room, made, asked, held) in
    let lists = ap (map (λ list. list.items)) c.deref-8.ensures.value ∙ c.in_ok-lay_out.ensures.lists
    ∙ ap (filled (mems_of c.deref.result.now.places) (map sight_seen c.deref-2.result.now) (ids c.deref.result.now c.deref-2.result.now)) c.in_ok-lay_out.ensures.unused
    ∙ ap₂ (λ (s : Shape) x. filled (mems_of s.places) (map sight_seen x) (ids s x) (unused s (ids s x))) c.deref.ensures c.deref-2.ensures.value in
    let marks : map seats_in c.deref-10.result.now ≡ marks_seen shape view = ap (map seats_in) c.deref-10.ensures.value ∙ c.in_ok-mark_known.ensures
    ∙ ap₂ (λ (s : Shape) x. marks_for (length s.faces) view.seat (peeked (mems_of s.places) (map sight_seen x) c.deref-7.result.now)) c.deref-5.ensures c.deref-6.ensures.value
    ∙ ap (λ x. marks_for (length shape.faces) view.seat (peeked (mems_of shape.places) view.sights x)) seen in
    let table = ap₂ (λ lists numbers. record { lists = lists; numbers = numbers; marks = map seats_in c.deref-10.result.now }) lists c.deref-9.ensures.value
    ∙ ap (λ marks. record { lists = filled (mems_of shape.places) view.sights (seen_of shape view) (unused shape (seen_of shape view)); numbers = view.numbers; marks = marks }) marks in
    let seen' : c.deref-15.result.now ≡ seen_of shape view =
    c.deref-15.ensures.value ∙ c.in_ok-lay_out.ensures.seen ∙ ap₂ ids c.deref.ensures c.deref-2.ensures.value in
    let unused_is : c.lay_out.new.layout.unused.items ≡ unused shape (seen_of shape view) =
    c.in_ok-lay_out.ensures.unused ∙ ap₂ (λ (s : Shape) x. unused s (ids s x)) c.deref.ensures c.deref-2.ensures.value in
    let order_is : c.extend_from_slice.new.self.items ≡ c.lay_out.new.layout.unused.items = c.in_ok-extend_from_slice.ensures.items ∙ ap (λ xs. xs ++ c.deref-16.result.now) c.clear.ensures.items ∙ c.deref-16.ensures.value in
    let is : c.lay.new.self ≡ record { shape = shape; table = redrawn shape view (unused shape (seen_of shape view)) } =
    c.lay.ensures ∙ ap₂ (λ s t. record { shape = s; table = t }) c.requires.laid table in
    rw is
    (record {
      of = c.requires.sound;
      hiding = c.in_ok-list_hiding.ensures ∙ ap₂ (λ (s : Shape) x. hiding_from 0 (mems_of s.places) (map sight_seen x)) c.deref-11.ensures c.deref-12.ensures.value;
      known = subst (IsKept c.keep_pattern.new.pattern.items)
          (ap₂ (λ (s : Shape) x. patterns (mems_of s.places) (map sight_seen x) c.deref-15.result.now) c.deref-13.ensures c.deref-14.ensures.value
          ∙ ap (patterns (mems_of shape.places) view.sights) seen') c.in_ok-keep_pattern.ensures;
      long = long;
      rest = unused_is;
      few = c.in_ok-lay_out.ensures.few;
      each = ap length order_is;
      is = ap (redrawn shape view) (sym (order_is ∙ unused_is));
    })

pub mark_known-requires-clause-some : goal.mark_known-requires-clause-some
mark_known-requires-clause-some c =
    c.know_some-some.ensures ∙ ap (list_any (λ sight. knows (sight_seen sight))) (c.deref-4.ensures.value ∙ sym c.deref-6.ensures.value)

pub keep_pattern-requires-clause-some : goal.keep_pattern-requires-clause-some
keep_pattern-requires-clause-some c =
    c.know_some-some.ensures ∙ ap (list_any (λ sight. knows (sight_seen sight))) (c.deref-4.ensures.value ∙ sym c.deref-14.ensures.value)
