-- A card that is marked for seats that don't see its location: the table stays sound.
use Rattle.std.proofs.Common.{◌≡◌, ℕ, zero, suc, ◌<◌, ◌≤◌, ◌==◌, ◌&&◌, ◌||◌, not, Bool, true, false, cond, List, [], ◌∷◌, length, get_or, slice_get, slice_set, zip, Some, refl, sym, ap, ◌∙◌, subst, arith, length-set, true≢false}
use Rattle.std.specs.Prelude.{All, AllPairs, filter}
use Rattle.std.specs.List.{list_any}
use Rattle.std.proofs.lemmas.Bool.Decides.{Decides-eqb}
use Rattle.std.proofs.lemmas.List.Elements.{All-set, All-get_or, All-filter, All-nil, All-weaker, filter_passes}
use Rattle.std.proofs.lemmas.List.Kept.{AllPairs-filter}
use Rattle.std.proofs.lemmas.Option.{slice_get-get_or}
use Rattle.rc_base.specs.Numbers.{below}
use Rattle.rc_sheet_spec.specs.WellFormed.{is_mem}
use Rattle.rc_play_spec.specs.Shape.{Place, Shape}
use Rattle.rc_play_spec.specs.Sees.{sees_place, sees}
use Rattle.rc_play_spec.specs.Bound.{HoldsCards}
use Rattle.rc_play_spec.specs.Table.{Table, IsSound, AreSeats, HidesMarked, marks_of, is_marked, list_at, loc_of, place_of, set_marks}
use Rattle.rc_play_spec.specs.Effects.{joined}
use Rattle.rc_play_spec.proofs.TableLemmas.{zip-get, length-zip, get_or-any}
use Rattle.rc_play_spec.proofs.FoundLemmas.{found, index_found}
use Rattle.rc_play_spec.proofs.Ids.{below_within, below_pairs}
use Rattle.rc_play_spec.proofs.MarkLemmas.{Hides, Unseen, no_seats, hides_at, set_marked, set_other}
use Rattle.rc_play_spec.proofs.OnePlace.{one_place}

-- what a zip has in a place
zip-parts : {K X : Type 0} (ks : List K) (xs : List X) (i : ℕ) (d : K × X) → i < length (zip ks xs) →
    (i < length ks) × (i < length xs) × (get_or (zip ks xs) i d ≡ (get_or ks i d.0, get_or xs i d.1))
zip-parts [] xs i d less = absurd (omega (arith, less))
zip-parts (k ∷ ks) [] i d less = absurd (omega (arith, less))
zip-parts (k ∷ ks) (x ∷ xs) zero d less = (omega arith, omega arith, refl)
zip-parts (k ∷ ks) (x ∷ xs) (suc i) d less =
    let h = zip-parts ks xs i d (omega (arith, less)) in
    let a = h.0 in let b = h.1 in (omega (arith, a), omega (arith, b), h.2)

same-item : {X : Type 0} (xs : List X) (i : ℕ) (c e : X) → i < length xs → get_or xs i c ≡ get_or xs i e
same-item [] i c e less = absurd (omega (arith, less))
same-item (x ∷ xs) zero c e less = refl
same-item (x ∷ xs) (suc i) c e less = same-item xs i c e (omega (arith, less))

pub is-in : (seat : ℕ) (P : ℕ → Type 0) (seats : List ℕ) → All P seats → list_any (λ other. other == seat) seats ≡ true → P seat
is-in seat P [] all is = absurd (true≢false (sym is))
is-in seat P (s ∷ seats) all is = at (is-in seat P seats (λ k d less. all (suc k) d (omega (arith, less)))) (s == seat) refl is where
  at : (list_any (λ other. other == seat) seats ≡ true → P seat) → (b : Bool) → (s == seat) ≡ b → (b || list_any (λ other. other == seat) seats) ≡ true → P seat
  at rest true e is = subst P ((Decides-eqb s seat).0 e) (all 0 0 (omega arith))
  at rest false e is = rest is

module _ (shape : Shape) (table : Table) (id : ℕ) (sound : IsSound shape table) (card : id < length shape.faces) where
  abbrev from : ℕ
  from = loc_of shape table id

  -- the card's location
  abbrev any : (p : Place) × (from < length shape.places) × (from < length table.lists) × (p ≡ get_or shape.places from p) × (is_mem p.kind ≡ false)
      × (list_any (λ other. other == id) (get_or table.lists from []) ≡ true)
  any = let one = sound.once id card in found id shape.places table.lists (omega (arith, one))

  there : slice_get shape.places from ≡ Some any.0
  there = slice_get-get_or shape.places from any.0 any.1 ∙ ap Some (sym any.3)

  holds : HoldsCards shape from
  holds = (any.0, there, any.4)

  seen-there : (seat : ℕ) → sees shape seat from ≡ sees_place shape seat (Some any.0)
  seen-there seat = ap (sees_place shape seat) there

  index : (place_of shape table id).1 < length (list_at table from)
  index = (index_found id (get_or table.lists from []) any.5).0

  pub marked-unseen : AreSeats shape.players (marks_of table.marks id) × All (λ seat. sees shape seat from ≡ false) (marks_of table.marks id)
  marked-unseen =
      let long = sound.marked in
      let less : id < length table.marks = omega (arith, long, card) in
      let found = index_found id (get_or table.lists from []) any.5 in
      let hides = hides_at shape table.marks table.lists from any.0 sound.hidden any.1 any.2 any.3 any.4 in
      let mine : Hides shape table.marks any.0 id =
      subst (Hides shape table.marks any.0) found.1 (hides (place_of shape table id).1 0 found.0) in (
        All-get_or (AreSeats shape.players) table.marks id [] less sound.seats,
        All-weaker (Unseen shape any.0) (λ seat. sees shape seat from ≡ false) (λ seat is. seen-there seat ∙ is) (marks_of table.marks id) mine,
      )

  module _ (seats : List ℕ) (are : AreSeats shape.players seats) (unseen : All (λ seat. sees shape seat from ≡ false) seats) where
    one-hides : (k : ℕ) (p : Place) (list : List ℕ) → slice_get shape.places k ≡ Some p → list ≡ list_at table k → HidesMarked shape table.marks (p, list) →
        HidesMarked shape (slice_set table.marks id seats) (p, list)
    one-hides k p list stands same-list old free j e less' = at (get_or list j e == id) refl where
      at : (b : Bool) → (get_or list j e == id) ≡ b → Hides shape (slice_set table.marks id seats) p (get_or list j e)
      at false is =
          subst (All (Unseen shape p)) (sym (set_other table.marks id (get_or list j e) seats (λ same. true≢false (sym ((Decides-eqb (get_or list j e) id).1 (sym same)) ∙ is))))
          (old free j e less')
      at true is =
          let same = (Decides-eqb (get_or list j e) id).0 is in
          let long = sound.marked in
          let less : id < length table.marks = omega (arith, long, card) in
          let within : j < length (list_at table k) = subst (λ l. j < length l) same-list less' in
          let there' : get_or (list_at table k) j 0 ≡ id = same-item (list_at table k) j 0 e within ∙ ap (λ l. get_or l j e) (sym same-list) ∙ same in
          let placed = one_place shape table sound id k from j (place_of shape table id).1 (p, stands, free) holds within index there' (index_found id (get_or table.lists from []) any.5).1 in
          let seen : (seat : ℕ) → sees shape seat from ≡ sees_place shape seat (Some p) = λ seat.
          ap (λ l. sees_place shape seat (slice_get shape.places l)) (sym placed.0) ∙ ap (sees_place shape seat) stands in
          subst (λ i. Hides shape (slice_set table.marks id seats) p i) (sym same)
          (subst (All (Unseen shape p)) (sym (set_marked table.marks id seats less))
          (All-weaker (λ seat. sees shape seat from ≡ false) (Unseen shape p) (λ seat is. sym (seen seat) ∙ is) seats unseen))

    new-hides : (k : ℕ) (d : Place × List ℕ) → k < length (zip shape.places table.lists) → HidesMarked shape (slice_set table.marks id seats) (get_or (zip shape.places table.lists) k d)
    new-hides k d less =
        let parts = zip-parts shape.places table.lists k d less in
        let p = get_or shape.places k d.0 in
        let list = get_or table.lists k d.1 in
        subst (HidesMarked shape (slice_set table.marks id seats)) (sym parts.2)
        (one-hides k p list (slice_get-get_or shape.places k d.0 parts.0) (same-item table.lists k d.1 [] parts.1)
        (subst (HidesMarked shape table.marks) parts.2 (sound.hidden k d less)))

    pub marks-sound : IsSound shape (set_marks id seats table)
    marks-sound =
        record {
          locations = sound.locations;
          amounts = sound.amounts;
          ids = sound.ids;
          once = sound.once;
          mems = sound.mems;
          together = sound.together;
          clamped = sound.clamped;
          marked = length-set table.marks id seats ∙ sound.marked;
          seats = All-set (AreSeats shape.players) table.marks id seats are sound.seats;
          hidden = new-hides;
        }

-- the marks of a card that is shown
module _ (shape : Shape) (table : Table) (named : ℕ → Bool) (id : ℕ) (sound : IsSound shape table) (card : id < length shape.faces) where
  abbrev loc : ℕ
  loc = loc_of shape table id

  abbrev old-marks : List ℕ
  old-marks = marks_of table.marks id

  abbrev test : ℕ → Bool
  test seat = list_any (λ other. other == seat) old-marks || (named seat && not (sees shape seat loc))

  unseen-by : (seat : ℕ) → test seat ≡ true → sees shape seat loc ≡ false
  unseen-by seat is = at (list_any (λ other. other == seat) old-marks) refl (named seat) (sees shape seat loc) refl is where
    at : (b : Bool) → list_any (λ other. other == seat) old-marks ≡ b → (n s : Bool) → sees shape seat loc ≡ s → (b || (n && not s)) ≡ true → sees shape seat loc ≡ false
    at true e n s e' is = is-in seat (λ seat. sees shape seat loc ≡ false) old-marks (marked-unseen shape table id sound card).1 e
    at false e true false e' is = e'
    at false e true true e' is = absurd (true≢false (sym is))
    at false e false s e' is = absurd (true≢false (sym is))

  pub shown_sound : IsSound shape (set_marks id (joined shape named loc old-marks) table)
  shown_sound =
      marks-sound shape table id sound card (joined shape named loc old-marks)
      (record {
        ascending = AllPairs-filter (λ a b. a < b) test (below shape.players) (below_pairs shape.players);
        within = All-filter test (λ seat. seat < shape.players) (below shape.players) (below_within shape.players);
      })
      (All-weaker (λ seat. test seat ≡ true) (λ seat. sees shape seat loc ≡ false) unseen-by (joined shape named loc old-marks) (filter_passes test (below shape.players)))
