-- A line is read exactly where its text stands.
use Rattle.std.proofs.Common.{◌≡◌, ℕ, ◌<◌, ◌≤◌, ◌^◌, Bool, true, false, List, [], ◌∷◌, ◌++◌, length, map, flat_map, ℤ, codes, decimal, Option, Some, None, unwrap_or, IfSome, ◌⊎◌, inl, inr, refl, sym, ap, ◌∙◌, subst, append_assoc, append-nil, arith}
use Rattle.std.specs.List.{AllByRecursion}
use Rattle.rc_base.specs.Clamp.{IsWithinClamp}
use Rattle.rc_play_spec.specs.Control.{Frame}
use Rattle.rc_play_spec.specs.Shape.{Shape}
use Rattle.rc_play_spec.specs.Fields.{◌>>=◌, behind, number}
use Rattle.rc_play_spec.proofs.FieldLemmas.{bind_some, bind_is, some_is, behind_only, behind_again, number-only, number-again, last-only, either, IsStop}
use Rattle.rc_play_spec.proofs.LineLemmas.{then, end}
use Rattle.rc_log_spec.specs.Fields.{counts_in, integers_in, cards_in}
use Rattle.rc_log_spec.specs.Lines.{opening_text, stop_text, count_text, integer_text, made_text, direction_text, named_text, frame_text, numbers_text, card_text, place_text, total_text, opening_in, stop_in, made_in, direction_in, named_in, frame_in, numbers_in, sight_in, place_in, total_in}
use Rattle.rc_log_spec.specs.Log.{IsCard, IsSight, IsFrame}
use Rattle.rc_log_spec.specs.Shown.{cards_shown, sight_from, HasKind}
use Rattle.rc_play_spec.specs.View.{Sight, with_faces, partly}
use Rattle.rc_log_spec.proofs.Parts.{or_first, counts-only, counts-again, integers-only, integers-again, cards-only, cards-again, cards_short, stop_cards}

-- ---- the seat and the match

abbrev IsOpening : List ℕ → ℕ × ℕ → Type 0
IsOpening bytes x = (x.1 ≤ 4294967295) × (bytes ≡ opening_text x.0 x.1)

pub opening-only : (bytes : List ℕ) (x : ℕ × ℕ) → opening_in bytes ≡ Some x → IsOpening bytes x
opening-only bytes x e =
    let a = bind_some (number (codes "seat ") 255 bytes) _ x e in
    let b = bind_some (number (codes " match ") 4294967295 a.0.1) _ x a.2 in
    let z = last-only (a.0.0, b.0.0) b.0.1 x b.2 in
    let a' = number-only (codes "seat ") 255 bytes a.0 a.1 (omega arith) in
    let b' = number-only (codes " match ") 4294967295 a.0.1 b.0 b.1 (omega arith) in
    subst (IsOpening bytes) z.0 (
      b'.0,
      then (codes "seat ") (decimal a.0.0) _ a.0.1 bytes a'.1 (end (codes " match ") (decimal b.0.0) b.0.1 a.0.1 b'.1 z.1),
    )

-- the last number of a line
last_number : (word : List ℕ) (most n : ℕ) → n ≤ most → most < 2 ^ 63 → number word most (word ++ decimal n) ≡ Some (n, [])
last_number word most n le lt =
    ap (λ t. number word most (word ++ t)) (sym (append-nil (decimal n))) ∙ number-again word most n [] le lt tt

pub opening-again : (seat n : ℕ) → seat ≤ 255 → n ≤ 4294967295 → opening_in (opening_text seat n) ≡ Some (seat, n)
opening-again seat n le le' =
    bind_is (number (codes "seat ") 255 (opening_text seat n)) _ (seat, codes " match " ++ decimal n) (Some (seat, n))
    (number-again (codes "seat ") 255 seat (codes " match " ++ decimal n) le (omega arith) refl)
    (bind_is (number (codes " match ") 4294967295 (codes " match " ++ decimal n)) _ (n, []) (Some (seat, n))
    (last_number (codes " match ") 4294967295 n le' (omega arith)) refl)

-- ---- a stop

abbrev IsStopLine : List ℕ → ℕ × ℕ × ℕ → Type 0
IsStopLine bytes x = (x.1 ≤ 4294967295) × (x.2 ≤ 63) × (bytes ≡ stop_text x.0 x.1 x.2)

pub stop-only : (bytes : List ℕ) (x : ℕ × ℕ × ℕ) → stop_in bytes ≡ Some x → IsStopLine bytes x
stop-only bytes x e =
    let a = bind_some (number (codes "stop ") 4294967295 bytes) _ x e in
    let b = bind_some (number (codes " turn ") 4294967295 a.0.1) _ x a.2 in
    let c = bind_some (number (codes " site ") 63 b.0.1) _ x b.2 in
    let z = last-only (a.0.0, b.0.0, c.0.0) c.0.1 x c.2 in
    let a' = number-only (codes "stop ") 4294967295 bytes a.0 a.1 (omega arith) in
    let b' = number-only (codes " turn ") 4294967295 a.0.1 b.0 b.1 (omega arith) in
    let c' = number-only (codes " site ") 63 b.0.1 c.0 c.1 (omega arith) in
    subst (IsStopLine bytes) z.0 (
      b'.0,
      c'.0,
      then (codes "stop ") (decimal a.0.0) _ a.0.1 bytes a'.1 (then (codes " turn ") (decimal b.0.0) _ b.0.1 a.0.1 b'.1 (end (codes " site ") (decimal c.0.0) c.0.1 b.0.1 c'.1 z.1)),
    )

pub stop-again : (stop turn site : ℕ) → stop ≤ 4294967295 → turn ≤ 4294967295 → site ≤ 63 → stop_in (stop_text stop turn site) ≡ Some (stop, turn, site)
stop-again stop turn site le le' le'' =
    let tail = codes " site " ++ decimal site in
    bind_is (number (codes "stop ") 4294967295 (stop_text stop turn site)) _ (stop, codes " turn " ++ (decimal turn ++ tail)) (Some (stop, turn, site))
    (number-again (codes "stop ") 4294967295 stop (codes " turn " ++ (decimal turn ++ tail)) le (omega arith) refl)
    (bind_is (number (codes " turn ") 4294967295 (codes " turn " ++ (decimal turn ++ tail))) _ (turn, tail) (Some (stop, turn, site))
    (number-again (codes " turn ") 4294967295 turn tail le' (omega arith) refl)
    (bind_is (number (codes " site ") 63 tail) _ (site, []) (Some (stop, turn, site)) (last_number (codes " site ") 63 site le'' (omega arith)) refl))

-- ---- counts of decisions

pub made-only : (players : ℕ) (bytes made : List ℕ) → made_in players bytes ≡ Some made →
    (length made ≡ players) × AllByRecursion (λ n. n ≤ 4294967295) made × (bytes ≡ made_text made)
made-only players bytes made e =
    let a = bind_some (behind (codes "made") bytes) (counts_in players 4294967295) made e in
    let r = counts-only players 4294967295 a.0 made (omega arith) a.2 in
    (r.0, r.1, behind_only (codes "made") bytes a.0 a.1 ∙ ap (λ t. codes "made" ++ t) r.2)

pub made-again : (players : ℕ) (made : List ℕ) → length made ≡ players → AllByRecursion (λ n. n ≤ 4294967295) made → made_in players (made_text made) ≡ Some made
made-again players made is all =
    bind_is (behind (codes "made") (made_text made)) (counts_in players 4294967295) (flat_map count_text made) (Some made) (behind_again (codes "made") (flat_map count_text made))
    (ap (λ count. counts_in count 4294967295 (flat_map count_text made)) (sym is) ∙ counts-again 4294967295 made (omega arith) all)

-- ---- frames

abbrev IsDirection : List ℕ → Bool × List ℕ → Type 0
IsDirection bytes x = bytes ≡ direction_text x.0 ++ x.1

direction_case : (bytes : List ℕ) (x : Bool × List ℕ)
    → ((behind (codes " back") bytes >>= λ rest. Some (true, rest)) ≡ Some x) ⊎ ((behind (codes " forward") bytes >>= λ rest. Some (false, rest)) ≡ Some x) → IsDirection bytes x
direction_case bytes x (inl e) =
    let a = bind_some (behind (codes " back") bytes) _ x e in subst (IsDirection bytes) (some_is (true, a.0) x a.2) (behind_only (codes " back") bytes a.0 a.1)
direction_case bytes x (inr e) =
    let a = bind_some (behind (codes " forward") bytes) _ x e in subst (IsDirection bytes) (some_is (false, a.0) x a.2) (behind_only (codes " forward") bytes a.0 a.1)

direction-only : (bytes : List ℕ) (x : Bool × List ℕ) → direction_in bytes ≡ Some x → IsDirection bytes x
direction-only bytes x e =
    direction_case bytes x (either (behind (codes " back") bytes >>= λ rest. Some (true, rest)) (behind (codes " forward") bytes >>= λ rest. Some (false, rest)) x e)

direction-again : (back : Bool) (rest : List ℕ) → direction_in (direction_text back ++ rest) ≡ Some (back, rest)
direction-again true rest = refl
direction-again false rest = refl

abbrev IsNamed : List ℕ → Option ℕ × List ℕ → Type 0
IsNamed bytes x = IfSome x.0 (λ n. n ≤ 255) × (bytes ≡ named_text x.0 ++ x.1)

named_case : (bytes : List ℕ) (x : Option ℕ × List ℕ)
    → ((number (codes " ") 255 bytes >>= λ n. Some (Some n.0, n.1)) ≡ Some x) ⊎ ((behind (codes " none") bytes >>= λ rest. Some (None, rest)) ≡ Some x) → IsNamed bytes x
named_case bytes x (inl e) =
    let a = bind_some (number (codes " ") 255 bytes) _ x e in
    let n = number-only (codes " ") 255 bytes a.0 a.1 (omega arith) in
    subst (IsNamed bytes) (some_is (Some a.0.0, a.0.1) x a.2) (n.0, n.1 ∙ sym (append_assoc (codes " ") (decimal a.0.0) a.0.1))
named_case bytes x (inr e) =
    let a = bind_some (behind (codes " none") bytes) _ x e in subst (IsNamed bytes) (some_is (None, a.0) x a.2) (tt, behind_only (codes " none") bytes a.0 a.1)

named-only : (bytes : List ℕ) (x : Option ℕ × List ℕ) → named_in bytes ≡ Some x → IsNamed bytes x
named-only bytes x e = named_case bytes x (either (number (codes " ") 255 bytes >>= λ n. Some (Some n.0, n.1)) (behind (codes " none") bytes >>= λ rest. Some (None, rest)) x e)

named-again : (named : Option ℕ) → IfSome named (λ n. n ≤ 255) → named_in (named_text named) ≡ Some (named, [])
named-again None is = refl
named-again (Some n) is =
    or_first (number (codes " ") 255 (count_text n) >>= λ n. Some (Some n.0, n.1)) (behind (codes " none") (count_text n) >>= λ rest. Some (None, rest)) (Some n, [])
    (bind_is (number (codes " ") 255 (count_text n)) _ (n, []) (Some (Some n, [])) (last_number (codes " ") 255 n is (omega arith)) refl)

abbrev IsFrameText : List ℕ → Frame → Type 0
IsFrameText bytes f = IsFrame f × (bytes ≡ frame_text f)

pub frame-only : (bytes : List ℕ) (f : Frame) → frame_in bytes ≡ Some f → IsFrameText bytes f
frame-only bytes f e =
    let a = bind_some (number (codes "frame ") 65535 bytes) _ f e in
    let b = bind_some (number (codes " ") 255 a.0.1) _ f a.2 in
    let c = bind_some (direction_in b.0.1) _ f b.2 in
    let d = bind_some (named_in c.0.1) _ f c.2 in
    let z = last-only (record { stage = a.0.0; member = b.0.0; back = c.0.0; named = d.0.0 }) d.0.1 f d.2 in
    let a' = number-only (codes "frame ") 65535 bytes a.0 a.1 (omega arith) in
    let b' = number-only (codes " ") 255 a.0.1 b.0 b.1 (omega arith) in
    let c' = direction-only b.0.1 c.0 c.1 in
    let d' = named-only c.0.1 d.0 d.1 in
    let tail : b.0.1 ≡ direction_text c.0.0 ++ named_text d.0.0 =
    c' ∙ ap (λ t. direction_text c.0.0 ++ t) (d'.1 ∙ ap (λ t. named_text d.0.0 ++ t) z.1 ∙ append-nil (named_text d.0.0)) in
    subst (IsFrameText bytes) z.0 (
      record { stage = a'.0; member = b'.0; named = d'.0 },
      then (codes "frame ") (decimal a.0.0) _ a.0.1 bytes a'.1 (then (codes " ") (decimal b.0.0) _ b.0.1 a.0.1 b'.1 tail),
    )

stop_direction : (back : Bool) (rest : List ℕ) → IsStop (direction_text back ++ rest)
stop_direction true rest = refl
stop_direction false rest = refl

pub frame-again : (f : Frame) → IsFrame f → frame_in (frame_text f) ≡ Some f
frame-again f is =
    let tail = direction_text f.back ++ named_text f.named in
    bind_is (number (codes "frame ") 65535 (frame_text f)) _ (f.stage, codes " " ++ (decimal f.member ++ tail)) (Some f)
    (number-again (codes "frame ") 65535 f.stage (codes " " ++ (decimal f.member ++ tail)) is.stage (omega arith) refl)
    (bind_is (number (codes " ") 255 (codes " " ++ (decimal f.member ++ tail))) _ (f.member, tail) (Some f)
    (number-again (codes " ") 255 f.member tail is.member (omega arith) (stop_direction f.back (named_text f.named)))
    (bind_is (direction_in tail) _ (f.back, named_text f.named) (Some f) (direction-again f.back (named_text f.named))
    (bind_is (named_in (named_text f.named)) _ (f.named, []) (Some f) (named-again f.named is.named) refl)))

-- ---- numbers

pub numbers-only : (count : ℕ) (bytes : List ℕ) (numbers : List ℤ) → numbers_in count bytes ≡ Some numbers →
    (length numbers ≡ count) × AllByRecursion IsWithinClamp numbers × (bytes ≡ numbers_text numbers)
numbers-only count bytes numbers e =
    let a = bind_some (behind (codes "numbers") bytes) (integers_in count) numbers e in
    let r = integers-only count a.0 numbers a.2 in
    (r.0, r.1, behind_only (codes "numbers") bytes a.0 a.1 ∙ ap (λ t. codes "numbers" ++ t) r.2)

pub numbers-again : (count : ℕ) (numbers : List ℤ) → length numbers ≡ count → AllByRecursion IsWithinClamp numbers → numbers_in count (numbers_text numbers) ≡ Some numbers
numbers-again count numbers is all =
    bind_is (behind (codes "numbers") (numbers_text numbers)) (integers_in count) (flat_map integer_text numbers) (Some numbers) (behind_again (codes "numbers") (flat_map integer_text numbers))
    (ap (λ count. integers_in count (flat_map integer_text numbers)) (sym is) ∙ integers-again numbers all)

-- ---- locations

-- cards that may stand there make a sight that shows them
zeroed : (shape : Shape) (cards : List (Option ℕ)) → AllByRecursion (IsCard shape true) cards → map (λ n. Some n) (map (λ card. unwrap_or card 0) cards) ≡ cards
zeroed shape [] all = refl
zeroed shape (None ∷ cards) all = absurd cc
zeroed shape (Some n ∷ cards) all = ap (λ cards. Some n ∷ cards) (zeroed shape cards all.1)

pub shown_again : (shape : Shape) (seen : Bool) (cards : List (Option ℕ)) → AllByRecursion (IsCard shape seen) cards → cards_shown (sight_from seen cards) ≡ cards
shown_again shape true cards all = zeroed shape cards all
shown_again shape false cards all = refl

pub kind_from : (seen : Bool) (cards : List (Option ℕ)) → HasKind seen (sight_from seen cards)
kind_from true cards = tt
kind_from false cards = tt

pub sight_is : (shape : Shape) (seen : Bool) (cards : List (Option ℕ)) → AllByRecursion (IsCard shape seen) cards → IsSight shape seen (sight_from seen cards)
sight_is shape seen cards all = (kind_from seen cards, subst (AllByRecursion (IsCard shape seen)) (sym (shown_again shape seen cards all)) all)

-- a sight of its kind is made of what is shown of it
as_numbers : (numbers : List ℕ) → map (λ card. unwrap_or card 0) (map (λ n. Some n) numbers) ≡ numbers
as_numbers [] = refl
as_numbers (n ∷ numbers) = ap (λ numbers. n ∷ numbers) (as_numbers numbers)

pub sight_again : (seen : Bool) (sight : Sight) → HasKind seen sight → sight_from seen (cards_shown sight) ≡ sight
sight_again true (with_faces numbers) kind = ap with_faces (as_numbers numbers)
sight_again true (partly cards) kind = absurd kind
sight_again false (with_faces numbers) kind = absurd kind
sight_again false (partly cards) kind = refl

abbrev IsSightText : Shape → Bool → List ℕ → Sight → Type 0
IsSightText shape seen bytes sight = IsSight shape seen sight × (bytes ≡ flat_map card_text (cards_shown sight))

sight-only : (shape : Shape) (seen : Bool) (bytes : List ℕ) (sight : Sight) → sight_in shape seen bytes ≡ Some sight → IsSightText shape seen bytes sight
sight-only shape seen bytes sight e =
    let a = bind_some (cards_in shape seen (length bytes) bytes) _ sight e in
    let r = cards-only shape seen (length bytes) bytes a.0 a.1 in
    subst (IsSightText shape seen bytes) (some_is (sight_from seen a.0) sight a.2)
    (sight_is shape seen a.0 r.0, r.1 ∙ ap (flat_map card_text) (sym (shown_again shape seen a.0 r.0)))

sight-again : (shape : Shape) (seen : Bool) (sight : Sight) → length shape.faces ≤ 512 → IsSight shape seen sight → sight_in shape seen (flat_map card_text (cards_shown sight)) ≡ Some sight
sight-again shape seen sight few is =
    let cards = cards_shown sight in
    let rest = flat_map card_text cards in
    bind_is (cards_in shape seen (length rest) rest) _ cards (Some sight) (cards-again shape seen (length rest) cards few is.1 (cards_short cards))
    (ap (λ (s : Sight). Some s) (sight_again seen sight is.0))

abbrev IsPlaceText : Shape → Bool → List ℕ → ℕ × Sight → Type 0
IsPlaceText shape seen bytes x = IsSight shape seen x.1 × (bytes ≡ place_text x.0 x.1)

pub place-only : (shape : Shape) (seen : Bool) (bytes : List ℕ) (x : ℕ × Sight) → place_in shape seen bytes ≡ Some x → IsPlaceText shape seen bytes x
place-only shape seen bytes x e =
    let a = bind_some (number (codes "place ") 65535 bytes) _ x e in
    let b = bind_some (sight_in shape seen a.0.1) _ x a.2 in
    let a' = number-only (codes "place ") 65535 bytes a.0 a.1 (omega arith) in
    let b' = sight-only shape seen a.0.1 b.0 b.1 in
    subst (IsPlaceText shape seen bytes) (some_is (a.0.0, b.0) x b.2) (b'.0, then (codes "place ") (decimal a.0.0) _ a.0.1 bytes a'.1 b'.1)

pub place-again : (shape : Shape) (seen : Bool) (loc : ℕ) (sight : Sight) → length shape.faces ≤ 512 → loc ≤ 65535 → IsSight shape seen sight →
    place_in shape seen (place_text loc sight) ≡ Some (loc, sight)
place-again shape seen loc sight few le is =
    let rest = flat_map card_text (cards_shown sight) in
    bind_is (number (codes "place ") 65535 (place_text loc sight)) _ (loc, rest) (Some (loc, sight))
    (number-again (codes "place ") 65535 loc rest le (omega arith) (stop_cards (cards_shown sight)))
    (bind_is (sight_in shape seen rest) _ sight (Some (loc, sight)) (sight-again shape seen sight few is) refl)

-- ---- the number of stops

abbrev IsTotal : List ℕ → ℕ → Type 0
IsTotal bytes n = (n ≤ 4294967295) × (bytes ≡ total_text n)

pub total-only : (bytes : List ℕ) (n : ℕ) → total_in bytes ≡ Some n → IsTotal bytes n
total-only bytes n e =
    let a = bind_some (number (codes "stops ") 4294967295 bytes) _ n e in
    let z = last-only a.0.0 a.0.1 n a.2 in
    let a' = number-only (codes "stops ") 4294967295 bytes a.0 a.1 (omega arith) in
    subst (IsTotal bytes) z.0 (a'.0, end (codes "stops ") (decimal a.0.0) a.0.1 bytes a'.1 z.1)

pub total-again : (n : ℕ) → n ≤ 4294967295 → total_in (total_text n) ≡ Some n
total-again n le =
    bind_is (number (codes "stops ") 4294967295 (total_text n)) _ (n, []) (Some n) (last_number (codes "stops ") 4294967295 n le (omega arith)) refl
