-- Effects of a well formed sheet leave a sound table sound.
use Rattle.std.proofs.Common.{◌≡◌, ℕ, zero, suc, ◌<◌, Bool, true, false, if◌then◌else◌, List, [], ◌∷◌, ◌++◌, length, slice_get, ℤ, ◌+ℤ◌, ◌-ℤ◌, Option, Some, None, refl, sym, ap, ◌∙◌}
use Rattle.std.specs.Prelude.{fold, option_map}
use Rattle.std.specs.List.Sorted.{IsPermutation}
use Rattle.rc_base.specs.Numbers.{below}
use Rattle.rc_base.specs.Clamp.{clamped}
use Rattle.rc_sheet_spec.specs.Sheet.{LocName, Loc, End, top, bottom, Effect, move, move_all, remember, forget, shuffle, set_to, increase, decrease, when, repeat, for_each, next_is, turn_round, peek, Effects, no_effect, effect}
use Rattle.rc_sheet_spec.specs.Naming.{class_of, sort_of}
use Rattle.rc_sheet_spec.specs.WellFormed.{Around, is_mem, holds_references, in_repeat, behind, IsEffect, AreEffects}
use Rattle.rc_play_spec.specs.Owners.{mover}
use Rattle.rc_play_spec.specs.Shape.{Shape, Place, shape_of}
use Rattle.rc_play_spec.specs.Table.{Table, IsSound, list_at, number_at}
use Rattle.rc_play_spec.specs.Value.{Bind, who_value, loc_place, num_place, card_value, coll_value, int_value, test_value, members}
use Rattle.rc_play_spec.specs.Scene.{CardValue, held, noted, id_of, Vars}
use Rattle.rc_play_spec.specs.Bound.{HoldsCards, HoldsReferences, IsCardOf, IsBindOf}
use Rattle.rc_play_spec.specs.About.{About}
use Rattle.rc_play_spec.specs.Effects.{Dealing, Point, scene_now, if_some, move_card, note, forget_card, times, again, change, shuffled, is_named, show_card, does_one, does}
use Rattle.rc_play_spec.proofs.Bounds.{clamped_within}
use Rattle.rc_play_spec.proofs.Places.{place_stands}
use Rattle.rc_play_spec.proofs.ShownLemmas.{shown_sound}
use Rattle.rc_play_spec.proofs.SoundLemmas.{put_top_sound, put_bottom_sound, remember_top_sound, remember_bottom_sound, forget_sound, number_sound, reorder_sound}
use Rattle.rc_play_spec.proofs.CardLemmas.{AreCards, AreBinds, MayBeCard, read_cards, card_cards, coll_cards, member_binds, with_bind}

module _ (shape : Shape) where
  put_sound : (end : End) (loc : ℕ) → HoldsCards shape loc → (table : Table) → IsSound shape table → (card : CardValue) → IsCardOf shape card →
      IsSound shape (move_card shape end loc table card)
  put_sound top loc holds table sound (held id) is = put_top_sound shape table id loc holds.0 sound is holds.1 holds.2
  put_sound bottom loc holds table sound (held id) is = put_bottom_sound shape table id loc holds.0 sound is holds.1 holds.2
  put_sound end loc holds table sound (noted from id) is = sound

  all_put_sound : (end : End) (loc : ℕ) → HoldsCards shape loc → (cards : List CardValue) → AreCards shape cards → (table : Table) → IsSound shape table →
      IsSound shape (fold (move_card shape end loc) table cards)
  all_put_sound end loc holds [] all table sound = sound
  all_put_sound end loc holds (card ∷ cards) all table sound =
      all_put_sound end loc holds cards all.1 (move_card shape end loc table card) (put_sound end loc holds table sound card all.0)

  -- cards that are shown
  show_sound : (named : ℕ → Bool) (table : Table) → IsSound shape table → (card : CardValue) → IsCardOf shape card → IsSound shape (show_card shape named table card)
  show_sound named table sound (held id) is = shown_sound shape table named id sound is
  show_sound named table sound (noted from id) is = sound

  all_shown_sound : (named : ℕ → Bool) (cards : List CardValue) → AreCards shape cards → (table : Table) → IsSound shape table →
      IsSound shape (fold (show_card shape named) table cards)
  all_shown_sound named [] all table sound = sound
  all_shown_sound named (card ∷ cards) all table sound =
      all_shown_sound named cards all.1 (show_card shape named table card) (show_sound named table sound card all.0)

  card_id : (card : CardValue) → IsCardOf shape card → id_of card < length shape.faces
  card_id (held id) is = is
  card_id (noted loc id) is = is.1

  note_sound : (end : End) (loc : ℕ) → HoldsReferences shape loc → (table : Table) → IsSound shape table → (card : CardValue) → IsCardOf shape card →
      IsSound shape (note shape end (id_of card) loc table)
  note_sound top loc holds table sound card is = remember_top_sound shape table (id_of card) loc holds.0 sound (card_id card is) holds.1 holds.2
  note_sound bottom loc holds table sound card is = remember_bottom_sound shape table (id_of card) loc holds.0 sound (card_id card is) holds.1 holds.2

  forgotten_sound : (o : Option CardValue) → MayBeCard shape o → (table : Table) → IsSound shape table → IsSound shape (if_some (forget_card shape) o table)
  forgotten_sound None is table sound = sound
  forgotten_sound (Some (held id)) is table sound = sound
  forgotten_sound (Some (noted loc id)) is table sound = forget_sound shape table id loc is.0.0 sound is.0.1 is.0.2

  moved_one : (end : End) (o : Option CardValue) → MayBeCard shape o → (p : Option ℕ) → ((n : ℕ) → p ≡ Some n → HoldsCards shape n) → (table : Table) →
      IsSound shape table → IsSound shape (if_some (λ at. if_some (λ c table. move_card shape end at table c) o) p table)
  moved_one end o is None holds table sound = sound
  moved_one end None is (Some n) holds table sound = sound
  moved_one end (Some card) is (Some n) holds table sound = put_sound end n (holds n refl) table sound card is

  moved_all : (end : End) (cards : List CardValue) → AreCards shape cards → (p : Option ℕ) → ((n : ℕ) → p ≡ Some n → HoldsCards shape n) → (table : Table) →
      IsSound shape table → IsSound shape (if_some (λ at table. fold (move_card shape end at) table cards) p table)
  moved_all end cards all None holds table sound = sound
  moved_all end cards all (Some n) holds table sound = all_put_sound end n (holds n refl) cards all table sound

  noted_one : (end : End) (o : Option CardValue) → MayBeCard shape o → (p : Option ℕ) → ((n : ℕ) → p ≡ Some n → HoldsReferences shape n) → (table : Table) →
      IsSound shape table → IsSound shape (if_some (λ at. if_some (λ c. note shape end (id_of c) at) o) p table)
  noted_one end o is None holds table sound = sound
  noted_one end None is (Some n) holds table sound = sound
  noted_one end (Some card) is (Some n) holds table sound = note_sound end n (holds n refl) table sound card is

  changed_sound : (by : ℤ → ℤ → ℤ) (value : ℤ) (p : Option ℕ) (table : Table) → IsSound shape table → IsSound shape (if_some (change by value) p table)
  changed_sound by value None table sound = sound
  changed_sound by value (Some num) table sound =
      number_sound shape table num (clamped (by (number_at table num) value)) sound (clamped_within (by (number_at table num) value))

module _ {S : Type 0} (about : About) (dealing : Dealing S) (fits : about.shape ≡ shape_of about.sheet)
    (orders : (k : S) (size : ℕ) → IsPermutation (below size) (dealing.order k size)) where
  abbrev IsSoundAt : Point S → Type 0
  IsSoundAt now = IsSound about.shape now.table

  -- what the place of a location's name holds
  place_holds : (vars : Vars) (loc : Loc) (b : Bool) (now : Point S) → holds_references about.sheet loc.name ≡ Some b → (n : ℕ) →
      loc_place (scene_now about now).known vars loc ≡ Some n →
      (place : Place) × (slice_get about.shape.places n ≡ Some place) × (is_mem place.kind ≡ b)
  place_holds vars loc b now holds n is =
      let h = place_stands about.sheet (class_of loc.who) about.sheet.locs loc.name (who_value (scene_now about now).known vars loc.who) n is in
      let l = h.0 in
      let same : Some (is_mem l.kind) ≡ Some b = sym (ap (option_map (λ (l : LocName). is_mem l.kind)) h.1) ∙ holds in
      (_, ap (λ (s : Shape). slice_get s.places n) fits ∙ h.3, cc)

  shuffled_sound : (p : Option ℕ) → ((n : ℕ) → p ≡ Some n → HoldsCards about.shape n) → (now : Point S) → IsSoundAt now → IsSoundAt (if_some (shuffled dealing) p now)
  shuffled_sound None holds now sound = sound
  shuffled_sound (Some n) holds now sound =
      let h = holds n refl in
      let size = length (list_at now.table n) in
      reorder_sound about.shape now.table n (dealing.order now.dealer size) h.0 sound h.1 (orders now.dealer size)

  when_sound : (b : Bool) (then' now : Point S) → IsSoundAt then' → IsSoundAt now → IsSoundAt (if b then then' else now)
  when_sound true then' now is is' = is
  when_sound false then' now is is' = is'

  again_sound : (n : ℕ) (f : Point S → Point S) → ((now : Point S) → IsSoundAt now → IsSoundAt (f now)) → (now : Point S) → IsSoundAt now → IsSoundAt (again n f now)
  again_sound zero f keeps now sound = sound
  again_sound (suc n) f keeps now sound = again_sound n f keeps (f now) (keeps now sound)

  each_sound : (f : Point S → Bind CardValue → Point S) →
      ((now : Point S) (m : Bind CardValue) → IsBindOf about.shape m → IsSoundAt now → IsSoundAt (f now m)) → (ms : Vars) → AreBinds about.shape ms →
      (now : Point S) → IsSoundAt now → IsSoundAt (fold f now ms)
  each_sound f keeps [] all now sound = sound
  each_sound f keeps (m ∷ ms) all now sound = each_sound f keeps ms all.1 (f now m) (keeps now m all.0 sound)

  same_players : about.shape.players ≡ about.sheet.players
  same_players = ap (λ (s : Shape). s.players) fits

  pub there : (now : Point S) → IsSoundAt now → (n : ℕ) → AreCards about.shape ((scene_now about now).cards_at n) × AreCards about.shape ((scene_now about now).known_at n)
  there now sound n = read_cards about.shape now.table sound.ids (mover about.sheet now.frames) n

  card_there : (vars : Vars) → AreBinds about.shape vars → (e : _) (now : Point S) → IsSoundAt now → MayBeCard about.shape (card_value (scene_now about now) vars e)
  card_there vars v e now sound = card_cards about.shape (scene_now about now) (there now sound) same_players vars v e

  mutual
    pub one_sound : (around : Around) (vars : Vars) → AreBinds about.shape vars → (e : Effect) → IsEffect about.sheet around e → (now : Point S) → IsSoundAt now →
        IsSoundAt (does_one about dealing vars e now)
    one_sound around vars v (move card end loc) is now sound =
        moved_one about.shape end (card_value (scene_now about now) vars card) (card_there vars v card now sound) (loc_place (scene_now about now).known vars loc)
        (place_holds vars loc false now is.1.1) now.table sound
    one_sound around vars v (move_all cards end loc) is now sound =
        moved_all about.shape end (coll_value (scene_now about now) vars cards)
        (coll_cards about.shape (scene_now about now) (there now sound) same_players vars v cards) (loc_place (scene_now about now).known vars loc)
        (place_holds vars loc false now is.1.1) now.table sound
    one_sound around vars v (remember card end loc) is now sound =
        noted_one about.shape end (card_value (scene_now about now) vars card) (card_there vars v card now sound) (loc_place (scene_now about now).known vars loc)
        (place_holds vars loc true now is.1.1) now.table sound
    one_sound around vars v (forget card) is now sound =
        forgotten_sound about.shape (card_value (scene_now about now) vars card) (card_there vars v card now sound) now.table sound
    one_sound around vars v (shuffle loc) is now sound =
        shuffled_sound (loc_place (scene_now about now).known vars loc) (place_holds vars loc false now is.1) now sound
    one_sound around vars v (set_to num value) is now sound =
        changed_sound about.shape (λ old new. new) (int_value (scene_now about now) vars value) (num_place (scene_now about now).known vars num) now.table sound
    one_sound around vars v (increase num value) is now sound =
        changed_sound about.shape ◌+ℤ◌ (int_value (scene_now about now) vars value) (num_place (scene_now about now).known vars num) now.table sound
    one_sound around vars v (decrease num value) is now sound =
        changed_sound about.shape ◌-ℤ◌ (int_value (scene_now about now) vars value) (num_place (scene_now about now).known vars num) now.table sound
    one_sound around vars v (when t effects) is now sound =
        when_sound (test_value (scene_now about now) vars t) (does about dealing vars effects now) now (all_sound around vars v effects is.2 now sound) sound
    one_sound around vars v (repeat count effects) is now sound =
        again_sound (times (int_value (scene_now about now) vars count)) (does about dealing vars effects)
        (λ now sound. all_sound (in_repeat around) vars v effects is.3 now sound) now sound
    one_sound around vars v (for_each domain bound effects) is now sound =
        each_sound (λ mid member. does about dealing (vars ++ member ∷ []) effects mid)
        (λ mid m bind sound'.
        all_sound (behind about.sheet around bound (sort_of domain)) (vars ++ m ∷ [])
        (with_bind about.shape (scene_now about now) (there now sound) same_players vars v m bind) effects is.3 mid sound')
        (members (scene_now about now) vars domain) (member_binds about.shape (scene_now about now) (there now sound) same_players vars v domain) now sound
    one_sound around vars v (next_is who) is now sound = sound
    one_sound around vars v turn_round is now sound = sound
    one_sound around vars v (peek cards who) is now sound =
        all_shown_sound about.shape (is_named about.shape (class_of who) (who_value (scene_now about now).known vars who)) (coll_value (scene_now about now) vars cards)
        (coll_cards about.shape (scene_now about now) (there now sound) same_players vars v cards) now.table sound

    pub all_sound : (around : Around) (vars : Vars) → AreBinds about.shape vars → (es : Effects) → AreEffects about.sheet around es → (now : Point S) → IsSoundAt now →
        IsSoundAt (does about dealing vars es now)
    all_sound around vars v no_effect is now sound = sound
    all_sound around vars v (effect e es) is now sound =
        all_sound around vars v es is.1 (does_one about dealing vars e now) (one_sound around vars v e is.0 now sound)
