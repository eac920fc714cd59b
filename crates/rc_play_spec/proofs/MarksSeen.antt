-- The marks of a redrawn table: the cards that are known without being shown openly are marked for the view's seat, and no others.
use Rattle.std.proofs.Common.{Option, Some, None, ◌≡◌, ℕ, zero, suc, ◌+◌, ◌<◌, ◌≤◌, ◌==◌, ◌||◌, Bool, true, false, if◌then◌else◌, List, [], ◌∷◌, ◌++◌, length, get_or, map, take, drop, zip, refl, sym, ap, ap₂, ◌∙◌, subst, true≢false, ⊎_elim, inl, inr, arith}
use Rattle.std.specs.Prelude.{All}
use Rattle.std.specs.List.{list_any, AllByRecursion}
use Rattle.std.proofs.lemmas.Bool.{cases_lt}
use Rattle.std.proofs.lemmas.Bool.Decides.{Decides-eqb}
use Rattle.std.proofs.lemmas.List.{length-map, length-append}
use Rattle.std.proofs.lemmas.List.Elements.{All-nil, All-cons, All-map, All-from_recursion, recursion_from_All, All-get_or, All-head, All-tail}
use Rattle.std.proofs.lemmas.List.FromFn.{get_or-range_with_len, length-range_with_len}
use Rattle.rc_base.specs.Numbers.{below}
use Rattle.rc_sheet_spec.specs.WellFormed.{is_mem}
use Rattle.rc_play_spec.specs.Shape.{Place, Shape, face_number}
use Rattle.rc_play_spec.specs.Sees.{sees_place}
use Rattle.rc_play_spec.specs.Table.{AreSeats, HidesMarked, marks_of, is_marked}
use Rattle.rc_play_spec.specs.View.{known_face, sight_of, sights_of}
use Rattle.rc_play_spec.specs.Redraw.{known_faces, mems_of, faces_at, peeked_at, peeked, marks_for}
use Rattle.rc_play_spec.proofs.Counting.{one_if, passing, same, self}
use Rattle.rc_play_spec.proofs.SmallestLemmas.{is-used, not-used}
use Rattle.rc_play_spec.proofs.MarkLemmas.{no_seats}
use Rattle.rc_play_spec.proofs.ShownLemmas.{is-in}

-- what holds of each item that a list has
pub each-of : (Q : ℕ → Type 0) (xs : List ℕ) → ((id : ℕ) → 0 < passing (same id) xs → Q id) → AllByRecursion Q xs
each-of Q [] holds = tt
each-of Q (x ∷ xs) holds = (
  holds x (let one = self x in omega (arith, one)),
  each-of Q xs (λ id some. holds id (omega (arith, some))),
)

module _ (count seat : ℕ) (ids : List ℕ) where
  abbrev is_known : ℕ → Bool
  is_known id = list_any (λ other. other == id) ids

  abbrev marks_at : ℕ → List ℕ
  marks_at id = if is_known id then seat ∷ [] else []

  get_map : (xs : List ℕ) (k : ℕ) → k < length xs → get_or (map marks_at xs) k [] ≡ marks_at (get_or xs k 0)
  get_map [] k less = absurd (omega (arith, less))
  get_map (x ∷ xs) zero less = refl
  get_map (x ∷ xs) (suc k) less = get_map xs k (omega (arith, less))

  pub marks-are : (id : ℕ) → id < count → marks_of (marks_for count seat ids) id ≡ marks_at id
  marks-are id less =
      let long = length-range_with_len 0 count in
      let e = get_or-range_with_len 0 count id 0 less in
      let same_id : get_or (below count) id 0 ≡ id = omega (arith, e) in
      get_map (below count) id (omega (arith, long, less)) ∙ ap marks_at same_id

  pub marks-long : length (marks_for count seat ids) ≡ count
  marks-long = length-map (below count) marks_at ∙ length-range_with_len 0 count

  -- whether the card is marked for the seat
  own : (b : Bool) → list_any (λ other. other == seat) (if b then seat ∷ [] else []) ≡ b
  own true = at (seat == seat) ((Decides-eqb seat seat).1 refl) where
    at : (b : Bool) → b ≡ true → (b || false) ≡ true
    at true e = refl
    at false e = absurd (true≢false (sym e))
  own false = refl

  pub marked-is : (id : ℕ) → id < count → is_marked (marks_for count seat ids) seat id ≡ is_known id
  marked-is id less = ap (list_any (λ other. other == seat)) (marks-are id less) ∙ own (is_known id)

  pub seats-are : (players : ℕ) → ((id : ℕ) → is_known id ≡ true → seat < players) → All (AreSeats players) (marks_for count seat ids)
  seats-are players within = All-map (AreSeats players) marks_at (below count) (λ k d less. one (get_or (below count) k d) (is_known (get_or (below count) k d)) refl) where
    one : (id : ℕ) (b : Bool) → is_known id ≡ b → AreSeats players (if b then seat ∷ [] else [])
    one id false e = no_seats players
    one id true e = record {
      ascending = λ j k d before less. absurd (omega (arith, before, less));
      within = All-cons (λ seat. seat < players) seat [] (within id e) (All-nil (λ seat. seat < players));
    }

  -- a location that the seat sees holds no card that is known without it
  pub hides : (shape : Shape) (p : Place) (new : List ℕ) → AllByRecursion (λ id. id < count) new → (s : Bool) → sees_place shape seat (Some p) ≡ s →
      (is_mem p.kind ≡ false → s ≡ true → AllByRecursion (λ id. is_known id ≡ false) new) → HidesMarked shape (marks_for count seat ids) (p, new)
  hides shape p new within s is none free =
      All-from_recursion (λ id. All (λ seat. sees_place shape seat (Some p) ≡ false) (marks_of (marks_for count seat ids) id)) new (each new s is within (none free)) where
        one : (id : ℕ) (b s : Bool) → is_known id ≡ b → sees_place shape seat (Some p) ≡ s → (s ≡ true → b ≡ false) →
            All (λ seat. sees_place shape seat (Some p) ≡ false) (if b then seat ∷ [] else [])
        one id false s e is none = All-nil (λ seat. sees_place shape seat (Some p) ≡ false)
        one id true true e is none = absurd (true≢false (none refl))
        one id true false e is none = All-cons (λ seat. sees_place shape seat (Some p) ≡ false) seat [] is (All-nil (λ seat. sees_place shape seat (Some p) ≡ false))

        each : (new : List ℕ) (s : Bool) → sees_place shape seat (Some p) ≡ s → AllByRecursion (λ id. id < count) new → (s ≡ true → AllByRecursion (λ id. is_known id ≡ false) new) →
            AllByRecursion (λ id. All (λ seat. sees_place shape seat (Some p) ≡ false) (marks_of (marks_for count seat ids) id)) new
        each [] s is within none = tt
        each (id ∷ new) s is within none = (
          subst (All (λ seat. sees_place shape seat (Some p) ≡ false)) (sym (marks-are id within.0)) (one id (is_known id) s refl is (λ t. (none t).0)),
          each new s is within.1 (λ t. (none t).1),
        )

-- where a view knows a card without seeing its location, one is marked
module _ (shape : Shape) (marks : List (List ℕ)) (seat : ℕ) where
  abbrev pub SomeMarked : Type 0
  SomeMarked = (id : ℕ) × (is_marked marks seat id ≡ true)

  some-known : (ids : List ℕ) → 0 < length (known_faces (map (known_face shape marks seat) ids)) → SomeMarked
  some-known [] some = absurd (omega (arith, some))
  some-known (id ∷ ids) some = at (some-known ids) (is_marked marks seat id) refl some where
    at : (0 < length (known_faces (map (known_face shape marks seat) ids)) → SomeMarked) → (b : Bool) → is_marked marks seat id ≡ b →
        0 < length (known_faces ((if b then Some (face_number shape id) else None) ∷ map (known_face shape marks seat) ids)) → SomeMarked
    at rest true e some = (id, e)
    at rest false e some = rest some

  take-some : (n : ℕ) (xs : List ℕ) → 0 < length (take n xs) → 0 < n
  take-some zero xs some = absurd (omega (arith, some))
  take-some (suc n) xs some = omega arith

  some-at : (m s : Bool) (ids seen : List ℕ) → 0 < length (peeked_at m (sight_of shape marks seat s ids) seen) → SomeMarked
  some-at true s ids seen some = absurd (omega (arith, some))
  some-at false true ids seen some = absurd (omega (arith, some))
  some-at false false ids seen some =
      some-known ids (take-some (length (known_faces (map (known_face shape marks seat) ids))) seen some)

  pub some-peeked : (ps : List Place) (lists : List (List ℕ)) (seen : List ℕ) → 0 < length (peeked (mems_of ps) (sights_of shape marks seat ps lists) seen) → SomeMarked
  some-peeked ps [] seen some = absurd (omega (arith, some))
  some-peeked [] (ids ∷ lists) seen some = absurd (omega (arith, some))
  some-peeked (p ∷ ps) (ids ∷ lists) seen some =
      let m = is_mem p.kind in
      let s = sees_place shape seat (Some p) in
      let here = peeked_at m (sight_of shape marks seat s ids) seen in
      let rest = drop (length (faces_at m (sight_of shape marks seat s ids))) seen in
      let both = length-append here (peeked (mems_of ps) (sights_of shape marks seat ps lists) rest) in
      ⊎_elim (λ yes'. some-at m s ids seen yes')
      (λ none. some-peeked ps lists rest (omega (arith, both, none, some)))
      (cases_lt 0 (length here))

  seats-at : (players : ℕ) (marks : List (List ℕ)) (id : ℕ) → All (AreSeats players) marks → AreSeats players (marks_of marks id)
  seats-at players [] id all = no_seats players
  seats-at players (m ∷ marks) zero all = All-head (AreSeats players) m marks all
  seats-at players (m ∷ marks) (suc id) all = seats-at players marks id (All-tail (AreSeats players) m marks all)

  pub marked-player : (players : ℕ) → All (AreSeats players) marks → SomeMarked → seat < players
  marked-player players all some =
      is-in seat (λ s. s < players) (marks_of marks some.0) (seats-at players marks some.0 all).within some.1
