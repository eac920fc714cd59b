-- Each log is taken, line by line.
use Rattle.std.proofs.Common.{◌≡◌, ℕ, suc, ◌+◌, ◌<◌, ◌≤◌, ◌==◌, nat_lt, min, ◌&&◌, List, [], ◌∷◌, ◌++◌, length, map, ℤ, slice_get, Option, Some, None, unwrap_or, refl, sym, ap, ap₂, ◌∙◌, subst, append_assoc, append-nil, arith}
use Rattle.std.specs.List.{AllByRecursion}
use Rattle.std.proofs.lemmas.List.{length-append}
use Rattle.rc_base.specs.Clamp.{IsWithinClamp}
use Rattle.std.proofs.lemmas.Bool.{eq-eqb, ne_eqb, lt-ltb, and_from, cond-true, cond-false}
use Rattle.rc_play_spec.specs.Control.{Frame}
use Rattle.rc_play_spec.specs.Shape.{Place as Location, Shape}
use Rattle.rc_play_spec.specs.Sees.{sees, sees_place}
use Rattle.rc_play_spec.specs.Fields.{◌>>=◌}
use Rattle.rc_play_spec.proofs.FieldLemmas.{bind_is, if_true}
use Rattle.rc_log_spec.specs.Shown.{site_shown}
use Rattle.rc_play_spec.specs.View.{Sight, View}
use Rattle.rc_log_spec.specs.Lines.{opening_text, stop_text, made_text, frame_text, numbers_text, place_text, total_text, opening_in, stop_in, made_in, frame_in, numbers_in, place_in, total_in}
use Rattle.rc_log_spec.specs.Log.{IsLogSite, LogText, log_lines, place_lines, block_lines, blocks_from, most_told, IsFrame, IsSight, ArePlaces, Counts, IsSmall, IsLog}
use Rattle.rc_play_spec.specs.LineGrammar.{run}
use Rattle.rc_log_spec.specs.Reading.{Place, outside, headed, between, stopped, framing, placing, ended, begun, with_frame, with_numbers, with_sight, opened, stop_at, total_at, frame_at, behind_place, place_at, takes}
use Rattle.rc_log_spec.proofs.OneLine.{site_small}
use Rattle.rc_log_spec.proofs.Parts.{or_first, or_second}
use Rattle.rc_log_spec.proofs.LineLemmas.{opening-again, stop-again, made-again, frame-again, numbers-again, place-again, total-again}

module _ (shape : Shape) (small : IsSmall shape) where
  -- a line that is taken, and lines behind it
  goes : (p q : Place) (l : List ℕ) (more : List (List ℕ)) → takes shape p l ≡ Some q → run (takes shape) p (l ∷ more) ≡ run (takes shape) q more
  goes p q l more e = ap (λ o. o >>= λ q. run (takes shape) q more) e

  module _ (seat n : ℕ) (views : List View) (lt : length views < most_told) where
    stop_taken : (turn site : ℕ) → turn ≤ 4294967295 → site ≤ 63 → takes shape (between seat n views) (stop_text (length views) turn site) ≡ Some (stopped seat n views turn site)
    stop_taken turn site le le' =
        let l = stop_text (length views) turn site in
        or_first (stop_in l >>= stop_at shape seat n views) (total_in l >>= total_at shape seat n views) (stopped seat n views turn site)
        (bind_is (stop_in l) (stop_at shape seat n views) (length views, turn, site) (Some (stopped seat n views turn site))
        (stop-again (length views) turn site (omega (arith, lt)) le le')
        (if_true (length views == length views && nat_lt (length views) most_told) (Some (stopped seat n views turn site)) None
        (and_from (length views == length views) (nat_lt (length views) most_told) (eq-eqb (length views) (length views) refl) (lt-ltb (length views) most_told lt))))

    made_taken : (turn site : ℕ) (made : List ℕ) → length made ≡ shape.players → AllByRecursion (λ n. n ≤ 4294967295) made →
        takes shape (stopped seat n views turn site) (made_text made) ≡ Some (framing seat n views (begun seat turn site made))
    made_taken turn site made is all =
        bind_is (made_in shape.players (made_text made)) _ made (Some (framing seat n views (begun seat turn site made))) (made-again shape.players made is all) refl

    frame_taken : (v : View) (f : Frame) → length v.control.frames < 64 → IsFrame f → takes shape (framing seat n views v) (frame_text f) ≡ Some (framing seat n views (with_frame v f))
    frame_taken v f few is =
        let q = framing seat n views (with_frame v f) in
        or_first (frame_in (frame_text f) >>= frame_at shape seat n views v)
        (numbers_in shape.numbers (frame_text f) >>= λ numbers. Some (behind_place shape seat n views (with_numbers v numbers))) q
        (bind_is (frame_in (frame_text f)) (frame_at shape seat n views v) f (Some q) (frame-again f is)
        (if_true (nat_lt (length v.control.frames) 64) (Some q) None (lt-ltb (length v.control.frames) 64 few)))

    -- more frames
    abbrev with_frames : View → List Frame → View
    with_frames v frames = record { seat = v.seat; control = record { site = v.control.site; frames = v.control.frames ++ frames; turn = v.control.turn; made = v.control.made }; numbers = v.numbers; sights = v.sights }

    frames_taken : (v : View) (frames : List Frame) (more : List (List ℕ)) → length v.control.frames + length frames ≤ 64 → AllByRecursion IsFrame frames →
        run (takes shape) (framing seat n views v) (map frame_text frames ++ more) ≡ run (takes shape) (framing seat n views (with_frames v frames)) more
    frames_taken v [] more few all =
        ap (λ fs. run (takes shape) (framing seat n views (record { seat = v.seat; control = record { site = v.control.site; frames = fs; turn = v.control.turn; made = v.control.made }; numbers = v.numbers; sights = v.sights })) more)
        (sym (append-nil v.control.frames))
    frames_taken v (f ∷ frames) more few all =
        goes (framing seat n views v) (framing seat n views (with_frame v f)) (frame_text f) (map frame_text frames ++ more) (frame_taken v f (omega (arith, few)) all.0)
        ∙ frames_taken (with_frame v f) frames more (omega (arith, few, length-append v.control.frames (f ∷ []))) all.1
        ∙ ap (λ fs. run (takes shape) (framing seat n views (record { seat = v.seat; control = record { site = v.control.site; frames = fs; turn = v.control.turn; made = v.control.made }; numbers = v.numbers; sights = v.sights })) more)
        (append_assoc v.control.frames (f ∷ []) frames)

    numbers_taken : (v : View) (numbers : List ℤ) → length numbers ≡ shape.numbers → AllByRecursion IsWithinClamp numbers →
        takes shape (framing seat n views v) (numbers_text numbers) ≡ Some (behind_place shape seat n views (with_numbers v numbers))
    numbers_taken v numbers is all =
        let q = behind_place shape seat n views (with_numbers v numbers) in
        or_second (frame_in (numbers_text numbers) >>= frame_at shape seat n views v)
        (numbers_in shape.numbers (numbers_text numbers) >>= λ numbers. Some (behind_place shape seat n views (with_numbers v numbers))) q refl
        (bind_is (numbers_in shape.numbers (numbers_text numbers)) _ numbers (Some q) (numbers-again shape.numbers numbers is all) refl)

    abbrev with_places : View → List Sight → View
    with_places v lists = record { seat = v.seat; control = v.control; numbers = v.numbers; sights = v.sights ++ lists }

    still_placing : (v : View) → length v.sights < length shape.places → behind_place shape seat n views v ≡ placing seat n views v
    still_placing v less = cond-false (length v.sights == length shape.places) _ _ (ne_eqb (length v.sights) (length shape.places) (λ e. absurd (omega arith)))

    place_taken : (v : View) (sight : Sight) → length v.sights < length shape.places → IsSight shape (sees shape seat (length v.sights)) sight →
        takes shape (placing seat n views v) (place_text (length v.sights) sight) ≡ Some (behind_place shape seat n views (with_sight v sight))
    place_taken v sight less all =
        let q = behind_place shape seat n views (with_sight v sight) in
        bind_is (place_in shape (sees shape seat (length v.sights)) (place_text (length v.sights) sight)) (place_at shape seat n views v) (length v.sights, sight) (Some q)
        (place-again shape (sees shape seat (length v.sights)) (length v.sights) sight small.cards (omega (arith, less, small.locations)) all)
        (if_true (length v.sights == length v.sights) (Some q) None (eq-eqb (length v.sights) (length v.sights) refl))

    -- what is asked of the locations from the k-th on
    abbrev AreFrom : ℕ → List Sight → Type 0
    AreFrom k [] = Unit {0}
    AreFrom k (sight ∷ lists) = IsSight shape (sees shape seat k) sight × AreFrom (k + 1) lists

    places_taken : (k : ℕ) (v : View) (lists : List Sight) (more : List (List ℕ)) → length v.sights ≡ k → length v.sights + length lists ≡ length shape.places → AreFrom k lists →
        run (takes shape) (behind_place shape seat n views v) (place_lines k lists ++ more) ≡ run (takes shape) (behind_place shape seat n views (with_places v lists)) more
    places_taken k v [] more at all from =
        ap (λ ps. run (takes shape) (behind_place shape seat n views (record { seat = v.seat; control = v.control; numbers = v.numbers; sights = ps })) more)
        (sym (append-nil v.sights))
    places_taken k v (sight ∷ lists) more at all from =
        let less : length v.sights < length shape.places = omega (arith, all) in
        ap (λ p. run (takes shape) p (place_text k sight ∷ (place_lines (k + 1) lists ++ more))) (still_placing v less)
        ∙ goes (placing seat n views v) (behind_place shape seat n views (with_sight v sight)) (place_text k sight) (place_lines (k + 1) lists ++ more)
        (ap (λ k. takes shape (placing seat n views v) (place_text k sight)) (sym at)
        ∙ place_taken v sight less (subst (λ k. IsSight shape (sees shape seat k) sight) (sym at) from.0))
        ∙ places_taken (k + 1) (with_sight v sight) lists more (omega (arith, at, length-append v.sights (sight ∷ []))) (omega (arith, all, length-append v.sights (sight ∷ []))) from.1
        ∙ ap (λ ps. run (takes shape) (behind_place shape seat n views (record { seat = v.seat; control = v.control; numbers = v.numbers; sights = ps })) more)
        (append_assoc v.sights (sight ∷ []) lists)

    all_in : (v : View) → length v.sights ≡ length shape.places → behind_place shape seat n views v ≡ between seat n (views ++ v ∷ [])
    all_in v e = cond-true (length v.sights == length shape.places) _ _ (eq-eqb (length v.sights) (length shape.places) e)

    -- the locations of a whole view, from the k-th on
    from_all : (k : ℕ) (places front : List Location) (lists : List Sight) → length front ≡ k → shape.places ≡ front ++ places → ArePlaces shape seat places lists → AreFrom k lists
    from_all k [] front [] e is all = tt
    from_all k [] front (sight ∷ lists) e is all = absurd all
    from_all k (place ∷ places) front [] e is all = tt
    from_all k (place ∷ places) front (sight ∷ lists) e is all = (
      subst (λ o. IsSight shape (sees_place shape seat o) sight) (sym (there front place places k e is)) all.0,
      from_all (k + 1) places (front ++ place ∷ []) lists (omega (arith, e, length-append front (place ∷ []))) (is ∙ sym (append_assoc front (place ∷ []) places)) all.1,
    )
      where
        at : (front : List Location) (place : Location) (places : List Location) → slice_get (front ++ place ∷ places) (length front) ≡ Some place
        at [] place places = refl
        at (x ∷ front) place places = at front place places

        there : (front : List Location) (place : Location) (places : List Location) (k : ℕ) → length front ≡ k → shape.places ≡ front ++ place ∷ places → slice_get shape.places k ≡ Some place
        there front place places k e is = ap (slice_get shape.places) (sym e) ∙ ap (λ ps. slice_get ps (length front)) is ∙ at front place places

    as_many : (places : List Location) (lists : List Sight) → ArePlaces shape seat places lists → length lists ≡ length places
    as_many [] [] all = refl
    as_many [] (sight ∷ lists) all = absurd all
    as_many (place ∷ places) [] all = absurd all
    as_many (place ∷ places) (sight ∷ lists) all = ap suc (as_many places lists all.1)

    site_is : (site : Option ℕ) → IsLogSite site → Some (unwrap_or site 0) ≡ site
    site_is None is = absurd is
    site_is (Some n) is = refl

    -- a view is made of its parts
    as_it_is : (v : View) → Counts shape seat v → with_places (with_numbers (with_frames (begun seat v.control.turn (site_shown v) v.control.made) v.control.frames) v.numbers) v.sights ≡ v
    as_it_is v is =
        ap₂ (λ (seat : ℕ) (site : Option ℕ). record { seat = seat; control = record { site = site; frames = v.control.frames; turn = v.control.turn; made = v.control.made }; numbers = v.numbers; sights = v.sights })
        (sym is.of_seat) (site_is v.control.site is.site)

    block_taken : (v : View) (more : List (List ℕ)) → Counts shape seat v →
        run (takes shape) (between seat n views) (block_lines (length views) v ++ more) ≡ run (takes shape) (between seat n (views ++ v ∷ [])) more
    block_taken v more is =
        let b = begun seat v.control.turn (site_shown v) v.control.made in
        let f = with_frames b v.control.frames in
        let m = with_numbers f v.numbers in
        let long = as_many shape.places v.sights is.places in
        goes (between seat n views) (stopped seat n views v.control.turn (site_shown v)) (stop_text (length views) v.control.turn (site_shown v)) (made_text v.control.made ∷ ((map frame_text v.control.frames ++ (numbers_text v.numbers ∷ place_lines 0 v.sights)) ++ more))
        (stop_taken v.control.turn (site_shown v) is.turn (site_small v.control.site is.site))
        ∙ goes (stopped seat n views v.control.turn (site_shown v)) (framing seat n views b) (made_text v.control.made) ((map frame_text v.control.frames ++ (numbers_text v.numbers ∷ place_lines 0 v.sights)) ++ more)
        (made_taken v.control.turn (site_shown v) v.control.made is.each_made is.made)
        ∙ ap (run (takes shape) (framing seat n views b)) (append_assoc (map frame_text v.control.frames) (numbers_text v.numbers ∷ place_lines 0 v.sights) more)
        ∙ frames_taken b v.control.frames (numbers_text v.numbers ∷ (place_lines 0 v.sights ++ more)) (omega (arith, is.few_frames)) is.frames
        ∙ goes (framing seat n views f) (behind_place shape seat n views m) (numbers_text v.numbers) (place_lines 0 v.sights ++ more) (numbers_taken f v.numbers is.each_number is.numbers)
        ∙ places_taken 0 m v.sights more refl (omega (arith, long)) (from_all 0 shape.places [] v.sights refl refl is.places)
        ∙ ap (λ p. run (takes shape) p more) (all_in (with_places m v.sights) long)
        ∙ ap (λ w. run (takes shape) (between seat n (views ++ w ∷ [])) more) (as_it_is v is)

  blocks_taken : (seat n : ℕ) (done views : List View) (more : List (List ℕ)) → length done + length views ≤ most_told → AllByRecursion (Counts shape seat) views →
      run (takes shape) (between seat n done) (blocks_from (length done) views ++ more) ≡ run (takes shape) (between seat n (done ++ views)) more
  blocks_taken seat n done [] more few all = ap (λ vs. run (takes shape) (between seat n vs) more) (sym (append-nil done))
  blocks_taken seat n done (v ∷ views) more few all =
      let next : length done + 1 ≡ length (done ++ v ∷ []) = omega (arith, length-append done (v ∷ [])) in
      ap (run (takes shape) (between seat n done)) (append_assoc (block_lines (length done) v) (blocks_from (length done + 1) views) more)
      ∙ block_taken seat n done (omega (arith, few)) v (blocks_from (length done + 1) views ++ more) all.0
      ∙ ap (λ k. run (takes shape) (between seat n (done ++ v ∷ [])) (blocks_from k views ++ more)) next
      ∙ blocks_taken seat n (done ++ v ∷ []) views more (omega (arith, few, next)) all.1
      ∙ ap (λ vs. run (takes shape) (between seat n vs) more) (append_assoc done (v ∷ []) views)

  total_taken : (t : LogText) → IsLog shape t → takes shape (between t.seat t.number t.views) (total_text t.stops) ≡ Some (ended t)
  total_taken t is =
      let l = total_text t.stops in
      or_second (stop_in l >>= stop_at shape t.seat t.number t.views) (total_in l >>= total_at shape t.seat t.number t.views) (ended t) refl
      (bind_is (total_in l) (total_at shape t.seat t.number t.views) t.stops (Some (ended t)) (total-again t.stops is.stops)
      (if_true (length t.views == min most_told t.stops) (Some (ended t)) None (eq-eqb (length t.views) (min most_told t.stops) is.told)))

  opening_taken : (seat n : ℕ) → seat < shape.players → n ≤ 4294967295 → takes shape headed (opening_text seat n) ≡ Some (between seat n [])
  opening_taken seat n less le =
      bind_is (opening_in (opening_text seat n)) (opened shape) (seat, n) (Some (between seat n [])) (opening-again seat n (omega (arith, less, small.players)) le)
      (if_true (nat_lt seat shape.players) (Some (between seat n [])) None (lt-ltb seat shape.players less))

  pub log_taken : (t : LogText) → IsLog shape t → run (takes shape) outside (log_lines t) ≡ Some (ended t)
  log_taken t is =
      goes headed (between t.seat t.number []) (opening_text t.seat t.number) (blocks_from 0 t.views ++ total_text t.stops ∷ []) (opening_taken t.seat t.number is.seat is.number)
      ∙ blocks_taken t.seat t.number [] t.views (total_text t.stops ∷ []) (omega (arith, is.told)) is.views
      ∙ goes (between t.seat t.number t.views) (ended t) (total_text t.stops) [] (total_taken t is)
