-- The opening table is sound: each card stands in its home, and homes hold cards.
use Rattle.std.proofs.Common.{◌≡◌, ℕ, zero, suc, ◌+◌, ◌-◌, ◌<◌, ◌≤◌, ◌==◌, Bool, true, false, cond, List, [], ◌∷◌, length, get_or, map, slice_get, slice_index, replicate, sum_by, zip, pos, Option, Some, None, refl, sym, ap, ◌∙◌, subst, arith, true≢false}
use Rattle.std.specs.Prelude.{All, filter, flat_map, count_by, option_map}
use Rattle.std.specs.List.{AllByRecursion, range_with_len}
use Rattle.std.proofs.lemmas.Bool.Decides.{Decides-eqb}
use Rattle.std.proofs.lemmas.Bool.{cond-false}
use Rattle.std.proofs.lemmas.Int.{ints}
use Rattle.std.proofs.lemmas.List.{length-map, length-replicate, length-append}
use Rattle.std.proofs.lemmas.List.Elements.{All-from_recursion, recursion_from_All, All-replicate}
use Rattle.std.proofs.lemmas.List.FromFn.{length-range_with_len}
use Rattle.std.proofs.lemmas.List.Sums.{sum_by-cons}
use Rattle.rc_base.specs.Numbers.{below}
use Rattle.rc_base.specs.Clamp.{IsWithinClamp}
use Rattle.rc_base.specs.Limits.{most_in_mem}
use Rattle.rc_deck.specs.Product.{faces_of_groups}
use Rattle.rc_deck.proofs.EachLemmas.{append_each}
use Rattle.rc_sheet_spec.specs.Sheet.{Class, game_class, LocName, DeckLine, Sheet}
use Rattle.rc_sheet_spec.specs.WellFormed.{is_mem, owner_count, IsDeck, IsWellFormed}
use Rattle.rc_play_spec.specs.Shape.{Place, Shape, homes_of, first_loc, shape_of}
use Rattle.rc_play_spec.specs.Table.{times_in, references_in, IsSound, AreSeats, at_home, opening}
use Rattle.rc_play_spec.specs.Bound.{HoldsCards, HasHomes}
use Rattle.rc_play_spec.proofs.CardLemmas.{filter_each, numbers_below}
use Rattle.rc_play_spec.proofs.Counting.{passing-is, kept, left_out, once_below}
use Rattle.rc_play_spec.proofs.MarkLemmas.{no_seats, none_marked, none_hides}
use Rattle.rc_play_spec.proofs.Places.{place_within, place_stands}

pub differs : (a b : ℕ) (c : Bool) → (a == b) ≡ c → (a ≡ b → ⊥) → (a == b) ≡ false
differs a b true e never = absurd (never ((Decides-eqb a b).0 e))
differs a b false e never = e

weaken : {X : Type 0} (P Q : X → Type 0) → ((x : X) → P x → Q x) → (xs : List X) → AllByRecursion P xs → AllByRecursion Q xs
weaken P Q each [] all = tt
weaken P Q each (x ∷ xs) all = (each x all.0, weaken P Q each xs all.1)

filter_none : {X : Type 0} (q : X → Bool) (xs : List X) → AllByRecursion (λ x. q x ≡ false) xs → length (filter q xs) ≡ 0
filter_none q [] all = refl
filter_none q (x ∷ xs) all = ap (λ b. length (cond b (x ∷ filter q xs) (filter q xs))) all.0 ∙ filter_none q xs all.1

nothing_if : (b : Bool) (n : ℕ) → n ≡ 0 → cond b 0 n ≡ 0
nothing_if true n e = refl
nothing_if false n e = e

-- a location of references counts what it holds, another one nothing
mem_counts : (b : Bool) (n : ℕ) → (b ≡ true → n ≡ 0) → cond b n 0 ≡ 0
mem_counts true n e = e refl
mem_counts false n e = refl

sum_none : {X : Type 0} (f : X → ℕ) (xs : List X) → AllByRecursion (λ x. f x ≡ 0) xs → sum_by f xs ≡ 0
sum_none f [] all = refl
sum_none f (x ∷ xs) all =
    let rest = sum_none f xs all.1 in
    let here = all.0 in
    let sum = sum_by-cons f x xs in
    omega (arith, rest, here, sum)

module _ (shape : Shape) (homes : HasHomes shape) where
  abbrev home : ℕ → ℕ
  home id = slice_index shape.home id

  -- a card counts once in its home, and not elsewhere
  home_once : (id loc : ℕ) → id < length shape.home → home id ≡ loc → count_by (λ other. other == id) (at_home shape loc) ≡ 1
  home_once id loc within is =
      sym (passing-is (λ other. other == id) (at_home shape loc))
      ∙ kept (λ id. home id == loc) id ((Decides-eqb (home id) loc).1 is) (below (length shape.home)) ∙ once_below id (length shape.home) within

  elsewhere : (id loc : ℕ) (p : Place) → (home id ≡ loc → ⊥) → times_in id (p, at_home shape loc) ≡ 0
  elsewhere id loc p never =
      nothing_if (is_mem p.kind) (count_by (λ other. other == id) (at_home shape loc))
      (sym (passing-is (λ other. other == id) (at_home shape loc))
      ∙ left_out (λ id. home id == loc) id (differs (home id) loc (home id == loc) refl never) (below (length shape.home)))

  -- how often a card stands in the locations from one on
  abbrev times_from : ℕ → List Place → ℕ → ℕ
  times_from id ps a = sum_by (times_in id) (zip ps (map (at_home shape) (range_with_len a (length ps))))

  past : (id : ℕ) (ps : List Place) (a : ℕ) → home id < a → times_from id ps a ≡ 0
  past id [] a less = refl
  past id (p ∷ ps) a less =
      let here = elsewhere id a p (λ e. absurd (omega (arith, less, e))) in
      let rest = past id ps (a + 1) (omega (arith, less)) in
      let sum = sum_by-cons (times_in id) (p, at_home shape a) (zip ps (map (at_home shape) (range_with_len (a + 1) (length ps)))) in
      omega (arith, here, rest, sum)

  from_here : (id : ℕ) (p : Place) (ps : List Place) (a : ℕ) → id < length shape.home → a ≤ home id → (q : Place) → slice_get (p ∷ ps) (home id - a) ≡ Some q →
      is_mem q.kind ≡ false → (a + 1 ≤ home id → slice_get ps (home id - (a + 1)) ≡ Some q → times_from id ps (a + 1) ≡ 1) →
      (b : Bool) → (home id == a) ≡ b → times_from id (p ∷ ps) a ≡ 1
  from_here id p ps a within le q is held rest true e =
      let same = (Decides-eqb (home id) a).0 e in
      let first : home id - a ≡ 0 = omega (arith, same) in
      let there : Some p ≡ Some q = subst (λ k. slice_get (p ∷ ps) k ≡ Some q) first is in
      let held' : is_mem p.kind ≡ false = ap (λ (p : Place). is_mem p.kind) (let e : p ≡ q = cc in e) ∙ held in
      let here = cond-false (is_mem p.kind) 0 (count_by (λ other. other == id) (at_home shape a)) held' in
      let one = home_once id a within same in
      let more = past id ps (a + 1) (omega (arith, same)) in
      let sum = sum_by-cons (times_in id) (p, at_home shape a) (zip ps (map (at_home shape) (range_with_len (a + 1) (length ps)))) in
      omega (arith, here, one, more, sum)
  from_here id p ps a within le q is held rest false e =
      let differ : home id ≡ a → ⊥ = λ same. true≢false (sym ((Decides-eqb (home id) a).1 same) ∙ e) in
      let later : a + 1 ≤ home id = omega (arith, le, differ) in
      let next : home id - a ≡ suc (home id - (a + 1)) = omega (arith, later) in
      let more = rest later (subst (λ k. slice_get (p ∷ ps) k ≡ Some q) next is) in
      let here = elsewhere id a p differ in
      let sum = sum_by-cons (times_in id) (p, at_home shape a) (zip ps (map (at_home shape) (range_with_len (a + 1) (length ps)))) in
      omega (arith, here, more, sum)

  once_from : (id : ℕ) → id < length shape.home → (ps : List Place) (a : ℕ) → a ≤ home id → (q : Place) → slice_get ps (home id - a) ≡ Some q →
      is_mem q.kind ≡ false → times_from id ps a ≡ 1
  once_from id within [] a le q is held = absurd (cc)
  once_from id within (p ∷ ps) a le q is held =
      from_here id p ps a within le q is held (λ le is. once_from id within ps (a + 1) le q is held) (home id == a) refl

  -- no card begins in a location of references
  no_homes : (loc : ℕ) (p : Place) → slice_get shape.places loc ≡ Some p → is_mem p.kind ≡ true → length (at_home shape loc) ≡ 0
  no_homes loc p is mem =
      filter_none (λ id. home id == loc) (below (length shape.home))
      (weaken (λ m. m < length shape.home) (λ id. (home id == loc) ≡ false) (λ id within.
      differs (home id) loc (home id == loc) refl (λ same.
      let h = homes.hold id 0 within in
      let there : Some h.0 ≡ Some p = sym h.1 ∙ ap (slice_get shape.places) same ∙ is in
      let kinds : is_mem h.0.kind ≡ is_mem p.kind = ap (λ (p : Place). is_mem p.kind) (let e : h.0 ≡ p = cc in e) in
      true≢false (sym mem ∙ sym kinds ∙ h.2))) (below (length shape.home)) (numbers_below 0 (length shape.home) (length shape.home) (omega arith)))

  no_references : (ps : List Place) (a : ℕ) → ((k : ℕ) (p : Place) → slice_get ps k ≡ Some p → is_mem p.kind ≡ true → length (at_home shape (a + k)) ≡ 0) →
      AllByRecursion (λ at. references_in at ≡ 0) (zip ps (map (at_home shape) (range_with_len a (length ps))))
  no_references [] a none = tt
  no_references (p ∷ ps) a none =
      let first : a + 0 ≡ a = omega arith in (
        mem_counts (is_mem p.kind) (length (at_home shape a)) (λ mem. ap (λ k. length (at_home shape k)) (sym first) ∙ none 0 p refl mem),
        no_references ps (a + 1) (λ k q is mem.
            let next : a + 1 + k ≡ a + suc k = omega arith in ap (λ k. length (at_home shape k)) next ∙ none (suc k) q is mem),
      )

  -- every card of a list is one of the shape
  home_cards : (locs : List ℕ) → AllByRecursion (All (λ id. id < length shape.faces)) (map (at_home shape) locs)
  home_cards [] = tt
  home_cards (loc ∷ locs) = (
    All-from_recursion (λ id. id < length shape.faces) (at_home shape loc)
        (filter_each (λ id. id < length shape.faces) (λ id. home id == loc) (below (length shape.home))
        (numbers_below 0 (length shape.home) (length shape.faces) (omega (arith, homes.each)))),
    home_cards locs,
  )

  pub opening_sound : IsSound shape (opening shape)
  opening_sound =
      let count = length (shape.places) in
      let none = no_references shape.places 0 (λ k p is mem.
      let e : 0 + k ≡ k = omega arith in ap (λ k. length (at_home shape k)) e ∙ no_homes k p is mem) in
      record {
        locations = length-map (below count) (at_home shape) ∙ length-range_with_len 0 count;
        amounts = length-replicate shape.numbers (pos 0);
        ids = All-from_recursion (All (λ id. id < length shape.faces)) (map (at_home shape) (below count)) (home_cards (below count));
        once = λ id card.
            let within : id < length shape.home = omega (arith, card, homes.each) in
            let h = homes.hold id 0 within in
            let first : home id - 0 ≡ home id = omega arith in
            once_from id within shape.places 0 (omega arith) h.0 (ap (slice_get shape.places) first ∙ h.1) h.2;
        mems = All-from_recursion (λ at. references_in at ≤ most_in_mem) (zip shape.places (map (at_home shape) (below count)))
            (weaken (λ at. references_in at ≡ 0) (λ at. references_in at ≤ most_in_mem) (λ at e. omega (arith, e)) (zip shape.places (map (at_home shape) (below count))) none);
        together = let e = sum_none references_in (zip shape.places (map (at_home shape) (below count))) none in omega (arith, e);
        clamped = All-replicate IsWithinClamp shape.numbers (pos 0) (omega (arith, ints), omega (arith, ints));
        marked = length-replicate (length shape.faces) [];
        seats = All-replicate (AreSeats shape.players) (length shape.faces) [] (no_seats shape.players);
        hidden = λ k d less free j e less'.
            let at = get_or (zip shape.places (map (at_home shape) (below count))) k d in
            none_hides shape (replicate (length shape.faces) []) at.0 (get_or at.1 j e) (none_marked (length shape.faces) (get_or at.1 j e));
      }

-- the cards of a well formed sheet begin in locations of cards
module _ (sheet : Sheet) where
  deck_home : (line : DeckLine) (o : Option LocName) → slice_get sheet.locs line.loc ≡ o → option_map (λ (l : LocName). l.class) o ≡ Some game_class →
      option_map (λ (l : LocName). is_mem l.kind) o ≡ Some false → HoldsCards (shape_of sheet) (first_loc sheet sheet.locs line.loc)
  deck_home line None is class kind = absurd (cc)
  deck_home line (Some l) is class kind =
      let of_game : l.class ≡ game_class = cc in
      let n = first_loc sheet sheet.locs line.loc in
      let one : 0 < owner_count sheet l.class = subst (λ (c : Class). 0 < owner_count sheet c) (sym of_game) (omega arith) in
      let h = place_stands sheet game_class sheet.locs line.loc 0 (n + 0) (place_within sheet game_class sheet.locs line.loc 0 l is of_game one) in
      let e : n + 0 ≡ n = omega arith in
      let same : Some h.0 ≡ Some l = sym h.1 ∙ is in
      let kinds : is_mem h.0.kind ≡ is_mem l.kind = ap (λ (l : LocName). is_mem l.kind) (let e : h.0 ≡ l = cc in e) in
      let of_cards : is_mem l.kind ≡ false = cc in
      subst (HoldsCards (shape_of sheet)) e (_, h.3, kinds ∙ of_cards)

  repeated_each : {X : Type 0} (P : X → Type 0) (n : ℕ) (x : X) → P x → AllByRecursion P (replicate n x)
  repeated_each P zero x is = tt
  repeated_each P (suc n) x is = (is, repeated_each P n x is)

  deck_homes : (lines : List DeckLine) → AllByRecursion (IsDeck sheet) lines →
      (length (flat_map (homes_of sheet) lines) ≡ length (flat_map (λ line. faces_of_groups line.groups) lines))
      × AllByRecursion (HoldsCards (shape_of sheet)) (flat_map (homes_of sheet) lines)
  deck_homes [] all = (refl, tt)
  deck_homes (line ∷ lines) all =
      let rest = deck_homes lines all.1 in
      let deck = all.0 in
      let n = length (faces_of_groups line.groups) in
      let loc = first_loc sheet sheet.locs line.loc in
      let long = length-append (homes_of sheet line) (flat_map (homes_of sheet) lines) in
      let long' = length-append (faces_of_groups line.groups) (flat_map (λ line. faces_of_groups line.groups) lines) in
      let here = length-replicate n loc in
      let more = rest.0 in (
        omega (arith, long, long', here, more),
        append_each (HoldsCards (shape_of sheet)) (replicate n loc) (flat_map (homes_of sheet) lines)
            (repeated_each (HoldsCards (shape_of sheet)) n loc (deck_home line (slice_get sheet.locs line.loc) refl deck.2 deck.3)) rest.1,
      )

pub sheet_homes : (sheet : Sheet) → IsWellFormed sheet → HasHomes (shape_of sheet)
sheet_homes sheet formed =
    let h = deck_homes sheet sheet.decks (recursion_from_All (IsDeck sheet) sheet.decks formed.decks) in
    record { each = h.0; hold = All-from_recursion (HoldsCards (shape_of sheet)) (flat_map (homes_of sheet) sheet.decks) h.1 }
