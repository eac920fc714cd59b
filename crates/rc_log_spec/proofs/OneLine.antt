-- The lines of a log have no LF.
use Rattle.std.proofs.Common.{◌≡◌, ℕ, ◌+◌, ◌<◌, ◌≤◌, ◌^◌, Bool, true, false, List, [], ◌∷◌, map, flat_map, ℤ, codes, Option, Some, None, unwrap_or, refl, subst, length, IfSome, arith, rules}
use Rattle.std.specs.Fmt.{signed_decimal}
use Rattle.std.specs.List.{AllByRecursion}
use Rattle.rc_base.specs.Clamp.{IsWithinClamp}
use Rattle.rc_deck.proofs.EachLemmas.{append_each}
use Rattle.rc_play_spec.specs.Control.{Frame}
use Rattle.rc_play_spec.specs.Shape.{Place, Shape}
use Rattle.rc_play_spec.specs.Sees.{sees_place}
use Rattle.rc_play_spec.specs.HouseText.{IsOneLine}
use Rattle.rc_play_spec.proofs.LineCuts.{IsOneLine-append, signed_one, part, more}
use Rattle.rc_log_spec.specs.Shown.{site_shown, cards_shown}
use Rattle.rc_play_spec.specs.View.{Sight, View}
use Rattle.rc_log_spec.specs.Lines.{opening_text, stop_text, count_text, integer_text, made_text, direction_text, named_text, frame_text, numbers_text, card_text, total_text}
use Rattle.rc_log_spec.specs.Log.{LogText, log_lines, place_lines, block_lines, blocks_from, IsFrame, IsCard, IsLogSite, ArePlaces, Counts, IsSmall, IsLog}
use Rattle.rc_log_spec.proofs.Parts.{face_small}

opening_one : (seat n : ℕ) → seat ≤ 255 → n ≤ 4294967295 → IsOneLine (opening_text seat n)
opening_one seat n le le' = more (codes "seat ") seat _ (search rules) (omega arith) (part (codes " match ") n (search rules) (omega arith))

stop_one : (stop turn site : ℕ) → stop ≤ 4294967295 → turn ≤ 4294967295 → site ≤ 63 → IsOneLine (stop_text stop turn site)
stop_one stop turn site le le' le'' =
    more (codes "stop ") stop _ (search rules) (omega arith) (more (codes " turn ") turn _ (search rules) (omega arith) (part (codes " site ") site (search rules) (omega arith)))

total_one : (n : ℕ) → n ≤ 4294967295 → IsOneLine (total_text n)
total_one n le = part (codes "stops ") n (search rules) (omega arith)

counts_one : (ns : List ℕ) → AllByRecursion (λ n. n ≤ 4294967295) ns → IsOneLine (flat_map count_text ns)
counts_one [] all = tt
counts_one (n ∷ ns) all =
    IsOneLine-append (count_text n) (flat_map count_text ns) (part (codes " ") n (search rules) (omega (arith, all.0))) (counts_one ns all.1)

made_one : (ns : List ℕ) → AllByRecursion (λ n. n ≤ 4294967295) ns → IsOneLine (made_text ns)
made_one ns all = IsOneLine-append (codes "made") (flat_map count_text ns) (search rules) (counts_one ns all)

integers_one : (zs : List ℤ) → AllByRecursion IsWithinClamp zs → IsOneLine (flat_map integer_text zs)
integers_one [] all = tt
integers_one (z ∷ zs) all =
    IsOneLine-append (integer_text z) (flat_map integer_text zs) (IsOneLine-append (codes " ") (signed_decimal z) (search rules) (signed_one z all.0)) (integers_one zs all.1)

numbers_one : (zs : List ℤ) → AllByRecursion IsWithinClamp zs → IsOneLine (numbers_text zs)
numbers_one zs all = IsOneLine-append (codes "numbers") (flat_map integer_text zs) (search rules) (integers_one zs all)

direction_one : (back : Bool) → IsOneLine (direction_text back)
direction_one true = search rules
direction_one false = search rules

named_case : (named : Option ℕ) → (f : Frame) → IsFrame f → f.named ≡ named → IsOneLine (named_text named)
named_case None f is e = search rules
named_case (Some n) f is e = part (codes " ") n (search rules) (small n f is e)
  where
    small : (n : ℕ) (f : Frame) → IsFrame f → f.named ≡ Some n → n < 2 ^ 64
    small n f is e = let le = subst (λ o. IfSome o (λ n. n ≤ 255)) e is.named in omega (arith, le)

frame_one : (f : Frame) → IsFrame f → IsOneLine (frame_text f)
frame_one f is =
    more (codes "frame ") f.stage _ (search rules) (omega (arith, is.stage)) (more (codes " ") f.member _ (search rules) (omega (arith, is.member))
    (IsOneLine-append (direction_text f.back) (named_text f.named) (direction_one f.back) (named_case f.named f is refl)))

frames_one : (frames : List Frame) → AllByRecursion IsFrame frames → AllByRecursion IsOneLine (map frame_text frames)
frames_one [] all = tt
frames_one (f ∷ frames) all = (frame_one f all.0, frames_one frames all.1)

pub site_small : (site : Option ℕ) → IsLogSite site → unwrap_or site 0 ≤ 63
site_small None is = absurd is
site_small (Some n) is = is

module _ (shape : Shape) (small : IsSmall shape) (seat : ℕ) where
  card_one : (seen : Bool) (card : Option ℕ) → IsCard shape seen card → IsOneLine (card_text card)
  card_one seen None is = search rules
  card_one seen (Some n) is = part (codes " ") n (search rules) (omega (arith, face_small shape n small.cards is))

  cards_one : (seen : Bool) (cards : List (Option ℕ)) → AllByRecursion (IsCard shape seen) cards → IsOneLine (flat_map card_text cards)
  cards_one seen [] all = tt
  cards_one seen (card ∷ cards) all = IsOneLine-append (card_text card) (flat_map card_text cards) (card_one seen card all.0) (cards_one seen cards all.1)

  places_one : (n : ℕ) (places : List Place) (lists : List Sight) → n + length places ≤ 65536 → ArePlaces shape seat places lists → AllByRecursion IsOneLine (place_lines n lists)
  places_one n [] [] le all = tt
  places_one n [] (sight ∷ lists) le all = absurd all
  places_one n (place ∷ places) [] le all = absurd all
  places_one n (place ∷ places) (sight ∷ lists) le all = (
    more (codes "place ") n (flat_map card_text (cards_shown sight)) (search rules) (omega arith)
        (cards_one (sees_place shape seat (Some place)) (cards_shown sight) all.0.1),
    places_one (n + 1) places lists (omega (arith, le)) all.1,
  )

  block_one : (n : ℕ) (v : View) → n ≤ 4294967295 → Counts shape seat v → AllByRecursion IsOneLine (block_lines n v)
  block_one n v le is = (
    stop_one n v.control.turn (site_shown v) le is.turn (site_small v.control.site is.site),
    (
      made_one v.control.made is.made,
      append_each IsOneLine (map frame_text v.control.frames) (numbers_text v.numbers ∷ place_lines 0 v.sights) (frames_one v.control.frames is.frames)
          (numbers_one v.numbers is.numbers, places_one 0 shape.places v.sights (omega (arith, small.locations)) is.places),
    ),
  )

  blocks_one : (n : ℕ) (views : List View) → n + length views ≤ 4294967295 → AllByRecursion (Counts shape seat) views → AllByRecursion IsOneLine (blocks_from n views)
  blocks_one n [] le all = tt
  blocks_one n (v ∷ views) le all =
      append_each IsOneLine (block_lines n v) (blocks_from (n + 1) views) (block_one n v (omega (arith, le)) all.0) (blocks_one (n + 1) views (omega (arith, le)) all.1)

pub lines_one : (shape : Shape) → IsSmall shape → (t : LogText) → IsLog shape t → AllByRecursion IsOneLine (log_lines t)
lines_one shape small t is = (
  search rules,
  (
    opening_one t.seat t.number (omega (arith, is.seat, small.players)) is.number,
    append_each IsOneLine (blocks_from 0 t.views) (total_text t.stops ∷ []) (blocks_one shape small t.seat 0 t.views (omega (arith, is.told)) is.views)
        (total_one t.stops is.stops, tt),
  ),
)
