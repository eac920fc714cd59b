-- What is taken stands in a log.
use Rattle.std.proofs.Common.{◌≡◌, ℕ, zero, suc, ◌+◌, ◌<◌, ◌≤◌, ◌==◌, nat_lt, min, Bool, true, false, ◌&&◌, if◌then◌else◌, List, [], ◌∷◌, ◌++◌, length, map, flat_map, ℤ, pos, slice_get, Some, ◌⊎◌, inl, inr, refl, sym, ap, ◌∙◌, subst, append_assoc, append-nil, arith, eqb-true}
use Rattle.std.specs.List.{AllByRecursion}
use Rattle.std.proofs.lemmas.List.{length-append, map-append}
use Rattle.std.proofs.lemmas.List.Concat.{flat_map-append}
use Rattle.std.proofs.lemmas.Bool.{and_parts, ltb-true, eqb-false}
use Rattle.rc_base.specs.Clamp.{IsWithinClamp}
use Rattle.rc_base.specs.Transcript.{line}
use Rattle.rc_deck.proofs.EachLemmas.{append_each}
use Rattle.rc_play_spec.specs.Shape.{Place as Location, Shape}
use Rattle.rc_play_spec.specs.Sees.{sees, sees_place}
use Rattle.rc_play_spec.specs.Fields.{◌>>=◌, behind, last}
use Rattle.rc_play_spec.proofs.FieldLemmas.{bind_some, some_is, if_some, behind_only, last-only, either}
use Rattle.rc_log_spec.specs.Shown.{site_shown, sight_from}
use Rattle.rc_play_spec.specs.View.{Sight, View}
use Rattle.rc_log_spec.specs.Lines.{header_text, opening_text, stop_text, made_text, frame_text, numbers_text, place_text, total_text, opening_in, stop_in, made_in, frame_in, numbers_in, place_in, total_in}
use Rattle.rc_log_spec.specs.Log.{LogText, log_lines, text_of, place_lines, block_lines, blocks_from, most_told, largest_word, IsFrame, IsSight, IsLogSite, ArePlaces, Counts, IsSmall, IsLog}
use Rattle.rc_play_spec.specs.LineGrammar.{run, Begins}
use Rattle.rc_log_spec.specs.Reading.{Place, outside, headed, between, stopped, framing, placing, ended, begun, with_frame, with_numbers, with_sight, opened, stop_at, total_at, frame_at, behind_place, place_at, takes, whole}
use Rattle.rc_log_spec.proofs.LineLemmas.{opening-only, stop-only, made-only, frame-only, numbers-only, place-only, total-only, sight_is}

-- ---- the lines that a place stands behind

abbrev pub front_lines : (seat number : ℕ) → List View → List (List ℕ)
front_lines seat n views = header_text ∷ opening_text seat n ∷ blocks_from 0 views

-- a stop up to its frames
abbrev pub head_lines : ℕ → View → List (List ℕ)
head_lines n v = stop_text n v.control.turn (site_shown v) ∷ made_text v.control.made ∷ map frame_text v.control.frames

abbrev pub lines_at : Place → List (List ℕ)
lines_at outside = []
lines_at headed = header_text ∷ []
lines_at (between seat n views) = front_lines seat n views
lines_at (stopped seat n views turn site) = front_lines seat n views ++ stop_text (length views) turn site ∷ []
lines_at (framing seat n views v) = front_lines seat n views ++ head_lines (length views) v
lines_at (placing seat n views v) = front_lines seat n views ++ block_lines (length views) v
lines_at (ended t) = log_lines t

-- ---- what holds there

-- the first of the locations
abbrev pub AreFirst : Shape → ℕ → List Location → List Sight → Type 0
AreFirst shape seat places [] = Unit {0}
AreFirst shape seat [] (sight ∷ lists) = ⊥
AreFirst shape seat (place ∷ places) (sight ∷ lists) =
    IsSight shape (sees_place shape seat (Some place)) sight × AreFirst shape seat places lists

pub record IsFront (shape : Shape) (seat number : ℕ) (views : List View) : Type 0 where
  pub seat_there : seat < shape.players
  pub number_fits : number ≤ largest_word
  pub counts : AllByRecursion (Counts shape seat) views
  pub few : length views ≤ most_told

pub record IsHead (shape : Shape) (seat : ℕ) (v : View) : Type 0 where
  pub of_seat : v.seat ≡ seat
  pub turn : v.control.turn ≤ largest_word
  pub site : IsLogSite v.control.site
  pub each_made : length v.control.made ≡ shape.players
  pub made : AllByRecursion (λ n. n ≤ largest_word) v.control.made
  pub few_frames : length v.control.frames ≤ 64
  pub frames : AllByRecursion IsFrame v.control.frames

pub record IsBody (shape : Shape) (seat : ℕ) (v : View) : Type 0 where
  pub each_number : length v.numbers ≡ shape.numbers
  pub numbers : AllByRecursion IsWithinClamp v.numbers
  pub places : AreFirst shape seat shape.places v.sights
  pub few_places : length v.sights ≤ length shape.places

module _ (shape : Shape) where
  abbrev pub IsGood : Place → Type 0
  IsGood outside = Unit {0}
  IsGood headed = Unit {0}
  IsGood (between seat n views) = IsFront shape seat n views
  IsGood (stopped seat n views turn site) = IsFront shape seat n views × (length views < most_told) × (turn ≤ largest_word) × (site ≤ 63)
  IsGood (framing seat n views v) = IsFront shape seat n views × (length views < most_told) × IsHead shape seat v × (v.sights ≡ [])
  IsGood (placing seat n views v) =
      IsFront shape seat n views × (length views < most_told) × IsHead shape seat v × IsBody shape seat v × (length v.sights < length shape.places)
  IsGood (ended t) = IsLog shape t

  abbrev pub Follows : Place → List ℕ → Place → Type 0
  Follows p bytes q = IsGood q × (lines_at q ≡ lines_at p ++ bytes ∷ [])

  -- one line more behind what stands behind a front
  one_more : (front a b : List (List ℕ)) (bytes text : List ℕ) → bytes ≡ text → b ≡ a ++ text ∷ [] → front ++ b ≡ (front ++ a) ++ bytes ∷ []
  one_more front a b bytes text e e' =
      ap (λ t. front ++ t) (e' ∙ ap (λ t. a ++ t ∷ []) (sym e)) ∙ sym (append_assoc front a (bytes ∷ []))

  -- ---- all locations

  all_first : (seat : ℕ) (places : List Location) (lists : List Sight) → length lists ≡ length places → AreFirst shape seat places lists → ArePlaces shape seat places lists
  all_first seat [] [] e all = tt
  all_first seat [] (sight ∷ lists) e all = absurd all
  all_first seat (place ∷ places) [] e all = absurd (omega arith)
  all_first seat (place ∷ places) (sight ∷ lists) e all = (all.0, all_first seat places lists (omega (arith, e)) all.1)

  next_first : (seat : ℕ) (places : List Location) (lists : List Sight) (sight : Sight) → length lists < length places → AreFirst shape seat places lists
      → IsSight shape (sees_place shape seat (slice_get places (length lists))) sight → AreFirst shape seat places (lists ++ sight ∷ [])
  next_first seat [] lists sight lt all more = absurd (omega (arith, lt))
  next_first seat (place ∷ places) [] sight lt all more = (more, tt)
  next_first seat (place ∷ places) (list ∷ lists) sight lt all more = (all.0, next_first seat places lists sight (omega (arith, lt)) all.1 more)

  -- what counts as a view, from its parts
  counts_from : (seat : ℕ) (v : View) → IsHead shape seat v → IsBody shape seat v → length v.sights ≡ length shape.places → Counts shape seat v
  counts_from seat v h b e =
      record {
        of_seat = h.of_seat;
        turn = h.turn;
        site = h.site;
        each_made = h.each_made;
        made = h.made;
        few_frames = h.few_frames;
        frames = h.frames;
        each_number = b.each_number;
        numbers = b.numbers;
        places = all_first seat shape.places v.sights e b.places;
      }

  blocks_more : (n : ℕ) (views : List View) (v : View) (m : ℕ) → n + length views ≡ m → blocks_from n (views ++ v ∷ []) ≡ blocks_from n views ++ block_lines m v
  blocks_more n [] v m e = let same : n ≡ m = omega (arith, e) in append-nil (block_lines n v) ∙ ap (λ k. block_lines k v) same
  blocks_more n (w ∷ views) v m e =
      ap (λ t. block_lines n w ++ t) (blocks_more (n + 1) views v m (omega (arith, e))) ∙ sym (append_assoc (block_lines n w) (blocks_from (n + 1) views) (block_lines m v))

  front_more : (seat n : ℕ) (views : List View) (v : View) → front_lines seat n (views ++ v ∷ []) ≡ front_lines seat n views ++ block_lines (length views) v
  front_more seat n views v = ap (λ t. header_text ∷ opening_text seat n ∷ t) (blocks_more 0 views v (length views) (omega arith))

  few_more : (views : List View) (v : View) → length views < most_told → length (views ++ v ∷ []) ≤ most_told
  few_more views v lt = omega (arith, lt, length-append views (v ∷ []))

  -- behind the numbers or a location: whole where it is the last one
  behind_case : (seat n : ℕ) (views : List View) (v : View) (all : Bool) → (length v.sights == length shape.places) ≡ all →
      IsFront shape seat n views → length views < most_told → IsHead shape seat v → IsBody shape seat v →
      let q = if all then between seat n (views ++ v ∷ []) else placing seat n views v in
      IsGood q × (lines_at q ≡ front_lines seat n views ++ block_lines (length views) v)
  behind_case seat n views v true e f lt h b = (
    record {
      seat_there = f.seat_there;
      number_fits = f.number_fits;
      counts = append_each (Counts shape seat) views (v ∷ []) f.counts (counts_from seat v h b (eqb-true (length v.sights) (length shape.places) e), tt);
      few = few_more views v lt;
    },
    front_more seat n views v,
  )
  behind_case seat n views v false e f lt h b =
      ((f, lt, h, b, omega (arith, eqb-false (length v.sights) (length shape.places) e, b.few_places)), refl)

  behind_is : (seat n : ℕ) (views : List View) (v : View) → IsFront shape seat n views → length views < most_told → IsHead shape seat v → IsBody shape seat v →
      IsGood (behind_place shape seat n views v) × (lines_at (behind_place shape seat n views v) ≡ front_lines seat n views ++ block_lines (length views) v)
  behind_is seat n views v f lt h b = behind_case seat n views v (length v.sights == length shape.places) refl f lt h b

  place_lines_more : (n : ℕ) (lists : List Sight) (sight : Sight) (m : ℕ) → n + length lists ≡ m → place_lines n (lists ++ sight ∷ []) ≡ place_lines n lists ++ place_text m sight ∷ []
  place_lines_more n [] sight m e = let same : n ≡ m = omega (arith, e) in ap (λ k. place_text k sight ∷ []) same
  place_lines_more n (list ∷ lists) sight m e = ap (λ t. place_text n list ∷ t) (place_lines_more (n + 1) lists sight m (omega (arith, e)))

  -- ---- place by place

  from_outside : (bytes : List ℕ) (q : Place) → takes shape outside bytes ≡ Some q → Follows outside bytes q
  from_outside bytes q e =
      let a = bind_some (behind header_text bytes) (last headed) q e in
      let z = last-only headed a.0 q a.2 in
      let is : bytes ≡ header_text = behind_only header_text bytes a.0 a.1 ∙ ap (λ t. header_text ++ t) z.1 in
      subst (Follows outside bytes) z.0 (tt, ap (λ t. t ∷ []) (sym is))

  from_headed : (bytes : List ℕ) (q : Place) → takes shape headed bytes ≡ Some q → Follows headed bytes q
  from_headed bytes q e =
      let a = bind_some (opening_in bytes) (opened shape) q e in
      let i = if_some (nat_lt a.0.0 shape.players) (Some (between a.0.0 a.0.1 [])) q a.2 in
      let o = opening-only bytes a.0 a.1 in
      subst (Follows headed bytes) (some_is (between a.0.0 a.0.1 []) q i.1) (
        record { seat_there = ltb-true a.0.0 shape.players i.0; number_fits = o.0; counts = tt; few = omega arith },
        ap (λ t. header_text ∷ t ∷ []) (sym o.1),
      )

  stop_follows : (seat n : ℕ) (views : List View) (bytes : List ℕ) (q : Place) → IsFront shape seat n views → (stop_in bytes >>= stop_at shape seat n views) ≡ Some q → Follows (between seat n views) bytes q
  stop_follows seat n views bytes q f e =
      let a = bind_some (stop_in bytes) (stop_at shape seat n views) q e in
      let i = if_some (a.0.0 == length views && nat_lt (length views) most_told) (Some (stopped seat n views a.0.1 a.0.2)) q a.2 in
      let b = and_parts (a.0.0 == length views) (nat_lt (length views) most_told) i.0 in
      let s = stop-only bytes a.0 a.1 in
      let is : bytes ≡ stop_text (length views) a.0.1 a.0.2 = s.2 ∙ ap (λ k. stop_text k a.0.1 a.0.2) (eqb-true a.0.0 (length views) b.0) in
      subst (Follows (between seat n views) bytes) (some_is (stopped seat n views a.0.1 a.0.2) q i.1) (
        (f, ltb-true (length views) most_told b.1, s.0, s.1),
        ap (λ t. front_lines seat n views ++ t ∷ []) (sym is),
      )

  total_follows : (seat n : ℕ) (views : List View) (bytes : List ℕ) (q : Place) → IsFront shape seat n views → (total_in bytes >>= total_at shape seat n views) ≡ Some q → Follows (between seat n views) bytes q
  total_follows seat n views bytes q f e =
      let a = bind_some (total_in bytes) (total_at shape seat n views) q e in
      let t : LogText = record { seat = seat; number = n; views = views; stops = a.0 } in
      let i = if_some (length views == min most_told a.0) (Some (ended t)) q a.2 in
      let s = total-only bytes a.0 a.1 in
      subst (Follows (between seat n views) bytes) (some_is (ended t) q i.1) (
        record { seat = f.seat_there; number = f.number_fits; views = f.counts; told = eqb-true (length views) (min most_told a.0) i.0; stops = s.0 },
        ap (λ x. front_lines seat n views ++ x ∷ []) (sym s.1),
      )

  between_case : (seat n : ℕ) (views : List View) (bytes : List ℕ) (q : Place) → IsFront shape seat n views →
      ((stop_in bytes >>= stop_at shape seat n views) ≡ Some q) ⊎ ((total_in bytes >>= total_at shape seat n views) ≡ Some q) → Follows (between seat n views) bytes q
  between_case seat n views bytes q f (inl e) = stop_follows seat n views bytes q f e
  between_case seat n views bytes q f (inr e) = total_follows seat n views bytes q f e

  from_stopped : (seat n : ℕ) (views : List View) (turn site : ℕ) (bytes : List ℕ) (q : Place) → IsGood (stopped seat n views turn site) → takes shape (stopped seat n views turn site) bytes ≡ Some q →
      Follows (stopped seat n views turn site) bytes q
  from_stopped seat n views turn site bytes q good e =
      let a = bind_some (made_in shape.players bytes) _ q e in
      let m = made-only shape.players bytes a.0 a.1 in
      subst (Follows (stopped seat n views turn site) bytes) (some_is (framing seat n views (begun seat turn site a.0)) q a.2) (
        (good.0, good.1, record { of_seat = refl; turn = good.2; site = good.3; each_made = m.0; made = m.1; few_frames = omega arith; frames = tt }, refl),
        one_more (front_lines seat n views) (stop_text (length views) turn site ∷ []) (head_lines (length views) (begun seat turn site a.0)) bytes (made_text a.0) m.2 refl,
      )

  frame_follows : (seat n : ℕ) (views : List View) (v : View) (bytes : List ℕ) (q : Place) → IsGood (framing seat n views v) → (frame_in bytes >>= frame_at shape seat n views v) ≡ Some q →
      Follows (framing seat n views v) bytes q
  frame_follows seat n views v bytes q good e =
      let a = bind_some (frame_in bytes) (frame_at shape seat n views v) q e in
      let i = if_some (nat_lt (length v.control.frames) 64) (Some (framing seat n views (with_frame v a.0))) q a.2 in
      let f = frame-only bytes a.0 a.1 in
      let h = good.2 in
      subst (Follows (framing seat n views v) bytes) (some_is (framing seat n views (with_frame v a.0)) q i.1) (
        (
          good.0,
          good.1,
          record {
            of_seat = h.of_seat;
            turn = h.turn;
            site = h.site;
            each_made = h.each_made;
            made = h.made;
            few_frames = omega (arith, ltb-true (length v.control.frames) 64 i.0, length-append v.control.frames (a.0 ∷ []));
            frames = append_each IsFrame v.control.frames (a.0 ∷ []) h.frames (f.0, tt);
          },
          good.3,
        ),
        one_more (front_lines seat n views) (head_lines (length views) v) (head_lines (length views) (with_frame v a.0)) bytes (frame_text a.0) f.1
            (ap (λ t. stop_text (length views) v.control.turn (site_shown v) ∷ made_text v.control.made ∷ t) (map-append frame_text v.control.frames (a.0 ∷ []))),
      )

  -- a place behind the numbers or a location, and its line
  placed_follows : (seat n : ℕ) (views : List View) (p : Place) (v : View) (bytes : List ℕ) → IsFront shape seat n views → length views < most_told → IsHead shape seat v → IsBody shape seat v →
      front_lines seat n views ++ block_lines (length views) v ≡ lines_at p ++ bytes ∷ [] → Follows p bytes (behind_place shape seat n views v)
  placed_follows seat n views p v bytes f lt h b e = let r = behind_is seat n views v f lt h b in (r.0, r.1 ∙ e)

  numbers_follow : (seat n : ℕ) (views : List View) (v : View) (bytes : List ℕ) (q : Place) → IsGood (framing seat n views v)
      → (numbers_in shape.numbers bytes >>= λ numbers. Some (behind_place shape seat n views (with_numbers v numbers))) ≡ Some q → Follows (framing seat n views v) bytes q
  numbers_follow seat n views v bytes q good e =
      let none = good.3 in
      let a = bind_some (numbers_in shape.numbers bytes) _ q e in
      let m = numbers-only shape.numbers bytes a.0 a.1 in
      let h = good.2 in
      let w = with_numbers v a.0 in
      let head : IsHead shape seat w = record { of_seat = h.of_seat; turn = h.turn; site = h.site; each_made = h.each_made; made = h.made; few_frames = h.few_frames; frames = h.frames } in
      let body : IsBody shape seat w =
      record {
        each_number = m.0;
        numbers = m.1;
        places = subst (AreFirst shape seat shape.places) (sym none) tt;
        few_places = omega (arith, ap length none);
      } in
      subst (Follows (framing seat n views v) bytes) (some_is (behind_place shape seat n views w) q a.2)
      (placed_follows seat n views (framing seat n views v) w bytes good.0 good.1 head body
      (one_more (front_lines seat n views) (head_lines (length views) v) (block_lines (length views) w) bytes (numbers_text a.0) m.2
      (ap (λ lists. stop_text (length views) v.control.turn (site_shown v) ∷ made_text v.control.made ∷ (map frame_text v.control.frames ++ (numbers_text a.0 ∷ place_lines 0 lists))) none)))

  framing_case : (seat n : ℕ) (views : List View) (v : View) (bytes : List ℕ) (q : Place) → IsGood (framing seat n views v) →
      ((frame_in bytes >>= frame_at shape seat n views v) ≡ Some q)
      ⊎ ((numbers_in shape.numbers bytes >>= λ numbers. Some (behind_place shape seat n views (with_numbers v numbers))) ≡ Some q) → Follows (framing seat n views v) bytes q
  framing_case seat n views v bytes q good (inl e) = frame_follows seat n views v bytes q good e
  framing_case seat n views v bytes q good (inr e) = numbers_follow seat n views v bytes q good e

  from_placing : (seat n : ℕ) (views : List View) (v : View) (bytes : List ℕ) (q : Place) → IsGood (placing seat n views v) → takes shape (placing seat n views v) bytes ≡ Some q →
      Follows (placing seat n views v) bytes q
  from_placing seat n views v bytes q good e =
      let seen = sees shape seat (length v.sights) in
      let a = bind_some (place_in shape seen bytes) (place_at shape seat n views v) q e in
      let w = with_sight v a.0.1 in
      let i = if_some (a.0.0 == length v.sights) (Some (behind_place shape seat n views w)) q a.2 in
      let m = place-only shape seen bytes a.0 a.1 in
      let h = good.2 in
      let b = good.3 in
      let is : bytes ≡ place_text (length v.sights) a.0.1 = m.1 ∙ ap (λ k. place_text k a.0.1) (eqb-true a.0.0 (length v.sights) i.0) in
      let head : IsHead shape seat w = record { of_seat = h.of_seat; turn = h.turn; site = h.site; each_made = h.each_made; made = h.made; few_frames = h.few_frames; frames = h.frames } in
      let body : IsBody shape seat w =
      record {
        each_number = b.each_number;
        numbers = b.numbers;
        places = next_first seat shape.places v.sights a.0.1 good.4 b.places m.0;
        few_places = omega (arith, good.4, length-append v.sights (a.0.1 ∷ []));
      } in
      subst (Follows (placing seat n views v) bytes) (some_is (behind_place shape seat n views w) q i.1)
      (placed_follows seat n views (placing seat n views v) w bytes good.0 good.1 head body
      (one_more (front_lines seat n views) (block_lines (length views) v) (block_lines (length views) w) bytes (place_text (length v.sights) a.0.1) is
      (ap (λ t. stop_text (length views) v.control.turn (site_shown v) ∷ made_text v.control.made ∷ (map frame_text v.control.frames ++ (numbers_text v.numbers ∷ t)))
      (place_lines_more 0 v.sights a.0.1 (length v.sights) (omega arith))
      ∙ ap (λ t. stop_text (length views) v.control.turn (site_shown v) ∷ made_text v.control.made ∷ t) (sym (append_assoc (map frame_text v.control.frames) (numbers_text v.numbers ∷ place_lines 0 v.sights) (place_text (length v.sights) a.0.1 ∷ []))))))

  pub follows : (p : Place) (bytes : List ℕ) (q : Place) → IsGood p → takes shape p bytes ≡ Some q → Follows p bytes q
  follows outside bytes q good e = from_outside bytes q e
  follows headed bytes q good e = from_headed bytes q e
  follows (between seat n views) bytes q good e =
      between_case seat n views bytes q good (either (stop_in bytes >>= stop_at shape seat n views) (total_in bytes >>= total_at shape seat n views) q e)
  follows (stopped seat n views turn site) bytes q good e = from_stopped seat n views turn site bytes q good e
  follows (framing seat n views v) bytes q good e =
      framing_case seat n views v bytes q good
      (either (frame_in bytes >>= frame_at shape seat n views v) (numbers_in shape.numbers bytes >>= λ numbers. Some (behind_place shape seat n views (with_numbers v numbers))) q e)
  follows (placing seat n views v) bytes q good e = from_placing seat n views v bytes q good e
  follows (ended t) bytes q good e = absurd cc

  -- ---- runs

  abbrev Reaches : Place → List (List ℕ) → Place → Type 0
  Reaches p lines q = IsGood q × (lines_at q ≡ lines_at p ++ lines)

  pub run_good : (p : Place) (lines : List (List ℕ)) (q : Place) → IsGood p → run (takes shape) p lines ≡ Some q → Reaches p lines q
  run_good p [] q good e = subst (Reaches p []) (some_is p q e) (good, sym (append-nil (lines_at p)))
  run_good p (l ∷ lines) q good e =
      let a = bind_some (takes shape p l) (λ q. run (takes shape) q lines) q e in
      let f = follows p l a.0 good a.1 in
      let r = run_good a.0 lines q f.0 a.2 in
      (r.0, r.1 ∙ ap (λ t. t ++ lines) f.1 ∙ append_assoc (lines_at p) (l ∷ []) lines)

  whole_case : (q : Place) (t : LogText) → whole q ≡ Some t → IsGood q → IsLog shape t × (log_lines t ≡ lines_at q)
  whole_case outside t e good = absurd cc
  whole_case headed t e good = absurd cc
  whole_case (between seat n views) t e good = absurd cc
  whole_case (stopped seat n views turn site) t e good = absurd cc
  whole_case (framing seat n views v) t e good = absurd cc
  whole_case (placing seat n views v) t e good = absurd cc
  whole_case (ended t') t e good = let same = some_is t' t e in (subst (IsLog shape) same good, ap log_lines (sym same))

  pub log_only : (lines : List (List ℕ)) (q : Place) (t : LogText) → run (takes shape) outside lines ≡ Some q → whole q ≡ Some t → IsLog shape t × (log_lines t ≡ lines)
  log_only lines q t e w = let r = run_good outside lines q tt e in let l = whole_case q t w r.0 in (l.0, l.1 ∙ r.1)

-- ---- each place leads to a whole log

module _ (shape : Shape) (small : IsSmall shape) where
  abbrev Finishes : Place → Type 0
  Finishes p = (t : LogText) × (more : List (List ℕ)) × IsLog shape t × (log_lines t ≡ lines_at p ++ more)

  finish_first : (p : Place) (more : List (List ℕ)) → header_text ∷ opening_text 0 0 ∷ total_text 0 ∷ [] ≡ lines_at p ++ more → Finishes p
  finish_first p more e = (
    record { seat = 0; number = 0; views = []; stops = 0 },
    more,
    record { seat = omega (arith, small.some_players); number = omega arith; views = tt; told = refl; stops = omega arith },
    e,
  )

  finish_between : (seat n : ℕ) (views : List View) → IsFront shape seat n views → Finishes (between seat n views)
  finish_between seat n views f = (
    record { seat = seat; number = n; views = views; stops = length views },
    total_text (length views) ∷ [],
    record { seat = f.seat_there; number = f.number_fits; views = f.counts; told = omega (arith, f.few); stops = omega (arith, f.few) },
    refl,
  )

  -- by one stop more
  finish_by : (p : Place) (seat n : ℕ) (views : List View) (w : View) (rest : List (List ℕ)) → IsFront shape seat n views → length views < most_told → Counts shape seat w →
      front_lines seat n views ++ block_lines (length views) w ≡ lines_at p ++ rest → Finishes p
  finish_by p seat n views w rest f lt counts e =
      let g : IsFront shape seat n (views ++ w ∷ []) =
      record {
        seat_there = f.seat_there;
        number_fits = f.number_fits;
        counts = append_each (Counts shape seat) views (w ∷ []) f.counts (counts, tt);
        few = few_more shape views w lt;
      } in
      let r = finish_between seat n (views ++ w ∷ []) g in (
        r.0,
        rest ++ r.1,
        r.2,
        r.3 ∙ ap (λ t. t ++ r.1) (front_more shape seat n views w ∙ e) ∙ append_assoc (lines_at p) rest r.1,
      )

  -- the locations that are missing, without cards
  abbrev fill : (seat : ℕ) → List Location → List Sight → List Sight
  fill seat [] lists = []
  fill seat (place ∷ places) [] = sight_from (sees_place shape seat (Some place)) [] ∷ fill seat places []
  fill seat (place ∷ places) (list ∷ lists) = fill seat places lists

  filled : (seat : ℕ) (places : List Location) (lists : List Sight) → AreFirst shape seat places lists → ArePlaces shape seat places (lists ++ fill seat places lists)
  filled seat [] [] all = tt
  filled seat [] (list ∷ lists) all = absurd all
  filled seat (place ∷ places) [] all = (sight_is shape (sees_place shape seat (Some place)) [] tt, filled seat places [] tt)
  filled seat (place ∷ places) (list ∷ lists) all = (all.0, filled seat places lists all.1)

  place_lines_append : (n : ℕ) (lists more : List Sight) (m : ℕ) → n + length lists ≡ m → place_lines n (lists ++ more) ≡ place_lines n lists ++ place_lines m more
  place_lines_append n [] more m e = let same : n ≡ m = omega (arith, e) in ap (λ k. place_lines k more) same
  place_lines_append n (list ∷ lists) more m e = ap (λ t. place_text n list ∷ t) (place_lines_append (n + 1) lists more m (omega (arith, e)))

  finish_placing : (seat n : ℕ) (views : List View) (v : View) → IsGood shape (placing seat n views v) → Finishes (placing seat n views v)
  finish_placing seat n views v good =
      let h = good.2 in
      let b = good.3 in
      let more = fill seat shape.places v.sights in
      let w : View = record { seat = v.seat; control = v.control; numbers = v.numbers; sights = v.sights ++ more } in
      finish_by (placing seat n views v) seat n views w (place_lines (length v.sights) more) good.0 good.1
      (record {
        of_seat = h.of_seat;
        turn = h.turn;
        site = h.site;
        each_made = h.each_made;
        made = h.made;
        few_frames = h.few_frames;
        frames = h.frames;
        each_number = b.each_number;
        numbers = b.numbers;
        places = filled seat shape.places v.sights b.places;
      })
      (ap (λ t. front_lines seat n views ++ t)
      (ap (λ t. stop_text (length views) v.control.turn (site_shown v) ∷ made_text v.control.made ∷ (map frame_text v.control.frames ++ (numbers_text v.numbers ∷ t))) (place_lines_append 0 v.sights more (length v.sights) (omega arith))
      ∙ ap (λ t. stop_text (length views) v.control.turn (site_shown v) ∷ made_text v.control.made ∷ t)
      (sym (append_assoc (map frame_text v.control.frames) (numbers_text v.numbers ∷ place_lines 0 v.sights) (place_lines (length v.sights) more))))
      ∙ sym (append_assoc (front_lines seat n views) (block_lines (length views) v) (place_lines (length v.sights) more)))

  abbrev zeros : ℕ → List ℤ
  zeros zero = []
  zeros (suc n) = pos 0 ∷ zeros n

  zeros_are : (n : ℕ) → (length (zeros n) ≡ n) × AllByRecursion IsWithinClamp (zeros n)
  zeros_are zero = (refl, tt)
  zeros_are (suc n) = let r = zeros_are n in (ap suc r.0, ((record { le = tt }, record { le = tt }), r.1))

  abbrev none_made : ℕ → List ℕ
  none_made zero = []
  none_made (suc n) = 0 ∷ none_made n

  none_made_is : (n : ℕ) → (length (none_made n) ≡ n) × AllByRecursion (λ n. n ≤ largest_word) (none_made n)
  none_made_is zero = (refl, tt)
  none_made_is (suc n) = let r = none_made_is n in (ap suc r.0, (omega arith, r.1))

  finish_framing : (seat n : ℕ) (views : List View) (v : View) → IsGood shape (framing seat n views v) → Finishes (framing seat n views v)
  finish_framing seat n views v good =
      let h = good.2 in
      let numbers = zeros shape.numbers in
      let are = zeros_are shape.numbers in
      let lists = fill seat shape.places [] in
      let w : View = record { seat = v.seat; control = v.control; numbers = numbers; sights = lists } in
      finish_by (framing seat n views v) seat n views w (numbers_text numbers ∷ place_lines 0 lists) good.0 good.1
      (record {
        of_seat = h.of_seat;
        turn = h.turn;
        site = h.site;
        each_made = h.each_made;
        made = h.made;
        few_frames = h.few_frames;
        frames = h.frames;
        each_number = are.0;
        numbers = are.1;
        places = filled seat shape.places [] tt;
      })
      (sym (append_assoc (front_lines seat n views) (head_lines (length views) v) (numbers_text numbers ∷ place_lines 0 lists)))

  finish_stopped : (seat n : ℕ) (views : List View) (turn site : ℕ) → IsGood shape (stopped seat n views turn site) → Finishes (stopped seat n views turn site)
  finish_stopped seat n views turn site good =
      let made = none_made shape.players in
      let are = none_made_is shape.players in
      let r = finish_framing seat n views (begun seat turn site made)
      (good.0, good.1, record { of_seat = refl; turn = good.2; site = good.3; each_made = are.0; made = are.1; few_frames = omega arith; frames = tt }, refl) in (
        r.0,
        made_text made ∷ r.1,
        r.2,
        r.3 ∙ append_assoc (front_lines seat n views) (head_lines (length views) (begun seat turn site made)) r.1
            ∙ sym (append_assoc (front_lines seat n views) (stop_text (length views) turn site ∷ []) (made_text made ∷ r.1)),
      )

  finish : (p : Place) → IsGood shape p → Finishes p
  finish outside good = finish_first outside (header_text ∷ opening_text 0 0 ∷ total_text 0 ∷ []) refl
  finish headed good = finish_first headed (opening_text 0 0 ∷ total_text 0 ∷ []) refl
  finish (between seat n views) good = finish_between seat n views good
  finish (stopped seat n views turn site) good = finish_stopped seat n views turn site good
  finish (framing seat n views v) good = finish_framing seat n views v good
  finish (placing seat n views v) good = finish_placing seat n views v good
  finish (ended t) good = (t, [], good, sym (append-nil (log_lines t)))

  pub log_begins : (lines : List (List ℕ)) (q : Place) → run (takes shape) outside lines ≡ Some q → Begins (IsLog shape) text_of lines
  log_begins lines q e =
      let r = run_good shape outside lines q tt e in
      let f = finish q r.0 in
      (f.0, flat_map line f.1, f.2, ap (flat_map line) (f.3 ∙ ap (λ t. t ++ f.1) r.1) ∙ flat_map-append line lines f.1)
