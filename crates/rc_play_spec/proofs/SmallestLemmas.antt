-- The k-th place of a face takes the k-th smallest id of it exactly where each place takes the smallest one that is left.
use Rattle.std.proofs.Common.{◌≡◌, ℕ, zero, suc, ◌+◌, ◌<◌, ◌≤◌, ◌==◌, Bool, true, false, List, [], ◌∷◌, ◌++◌, length, take, refl, sym, ap, ap₂, ◌∙◌, subst, true≢false, ⊎_elim, arith}
use Rattle.std.specs.Prelude.{count_by, slice_index}
use Rattle.std.specs.List.{list_any}
use Rattle.std.proofs.lemmas.Bool.{cases_order}
use Rattle.std.proofs.lemmas.List.{append-nil, append_assoc}
use Rattle.std.proofs.lemmas.Bool.Decides.{Decides-eqb}
use Rattle.rc_base.specs.Numbers.{below}
use Rattle.rc_play_spec.specs.Shape.{Shape}
use Rattle.rc_play_spec.specs.Redraw.{ids_of, seen_ids}
use Rattle.rc_play_spec.specs.Smallest.{IsSmallestUnused, TakeSmallest, AreEnough}
use Rattle.rc_play_spec.proofs.Counting.{one_if, passing, same, passing-is, passing-append, none_if, some_passes, none_passes, kept, once_below}
use Rattle.rc_play_spec.proofs.Ids.{face_no, nth-face, nth-lt, nth-before, differs, Fits, fits-rest, fits-here}

pub is-used : (id : ℕ) (used : List ℕ) → 0 < passing (same id) used → list_any (λ other. other == id) used ≡ true
is-used id used some = at (list_any (λ other. other == id) used) refl where
  at : (b : Bool) → list_any (λ other. other == id) used ≡ b → b ≡ true
  at true e = refl
  at false e = let h = none_passes (same id) used e in absurd (omega (arith, some, h))

pub not-used : (id : ℕ) (used : List ℕ) → passing (same id) used ≡ 0 → list_any (λ other. other == id) used ≡ false
not-used id used none = at (list_any (λ other. other == id) used) refl where
  at : (b : Bool) → list_any (λ other. other == id) used ≡ b → b ≡ false
  at true e = let h = some_passes (same id) used e in absurd (omega (arith, none, h))
  at false e = refl

-- where a number stands that stands in a list
abbrev Stands : ℕ → List ℕ → Type 0
Stands id xs = (j : ℕ) × (j < length xs) × (slice_index xs j ≡ id)

place-step : (id x : ℕ) (xs : List ℕ) → (0 < passing (same id) xs → Stands id xs) → (b : Bool) → (x == id) ≡ b → 0 < one_if b + passing (same id) xs → Stands id (x ∷ xs)
place-step id x xs rest true e some = (0, omega arith, (Decides-eqb x id).0 e)
place-step id x xs rest false e some =
    let h = rest (omega (arith, some)) in
    let less = h.1 in (suc h.0, omega (arith, less), h.2)

place-of : (id : ℕ) (xs : List ℕ) → 0 < passing (same id) xs → Stands id xs
place-of id [] some = absurd (omega (arith, some))
place-of id (x ∷ xs) some = place-step id x xs (place-of id xs) (x == id) refl some

-- the same place by place
abbrev Takes : Shape → List ℕ → List ℕ → List ℕ → Type 0
Takes shape used [] [] = Unit {0}
Takes shape used [] (id ∷ ids) = ⊥
Takes shape used (f ∷ fs) [] = ⊥
Takes shape used (f ∷ fs) (id ∷ ids) = IsSmallestUnused shape used f id × Takes shape (used ++ id ∷ []) fs ids

module _ (shape : Shape) where
  -- of each face so many of the smallest ids are used, and no other
  abbrev Taken : List ℕ → List ℕ → Type 0
  Taken used before =
      (g j : ℕ) → j < length (ids_of shape g) →
      (j < passing (same g) before → 0 < passing (same (slice_index (ids_of shape g) j)) used)
      × (passing (same g) before ≤ j → passing (same (slice_index (ids_of shape g) j)) used ≡ 0)

  -- one more
  module _ (used before : List ℕ) (f : ℕ) (fits : count_by (λ g. g == f) before < length (ids_of shape f)) (taken : Taken used before) where
    abbrev here : ℕ
    here = slice_index (ids_of shape f) (count_by (λ g. g == f) before)

    used-at : (g j : ℕ) → j < length (ids_of shape g) → (b : Bool) → (f == g) ≡ b → j < one_if b + passing (same g) before →
        0 < one_if (here == slice_index (ids_of shape g) j) + passing (same (slice_index (ids_of shape g) j)) used
    used-at g j j-less false e less = let h = (taken g j j-less).0 (omega (arith, less)) in omega (arith, h)
    used-at g j j-less true e less =
        let is = (Decides-eqb f g).0 e in
        let c = passing-is (same f) before in
        let d = ap (λ k. passing (same k) before) is in
        ⊎_elim
        (λ j-is. let there = ap₂ (λ k i. slice_index (ids_of shape k) i) is (sym j-is) in
        let one = ap one_if ((Decides-eqb here (slice_index (ids_of shape g) j)).1 there) in omega (arith, one))
        (λ r. ⊎_elim
        (λ l. let h = (taken g j j-less).0 (omega (arith, l, c, d)) in omega (arith, h))
        (λ l. absurd (omega (arith, l, less, c, d))) r)
        (cases_order j (count_by (λ g. g == f) before))

    free-at : (g j : ℕ) → j < length (ids_of shape g) → one_if (f == g) + passing (same g) before ≤ j →
        one_if (here == slice_index (ids_of shape g) j) + passing (same (slice_index (ids_of shape g) j)) used ≡ 0
    free-at g j j-less le =
        let rest = (taken g j j-less).1 (omega (arith, le)) in
        let after : g ≡ f → count_by (λ h. h == f) before < j =
        λ is. let one = ap one_if ((Decides-eqb f g).1 (sym is)) in
        let c = passing-is (same f) before in
        let d = ap (λ k. passing (same k) before) is in omega (arith, le, one, c, d) in
        let none = none_if (here == slice_index (ids_of shape g) j)
        (λ t. differs shape f (count_by (λ h. h == f) before) fits g j j-less after (sym ((Decides-eqb here (slice_index (ids_of shape g) j)).0 t))) in
        omega (arith, rest, none)

    more : (g j : ℕ) → passing (same (slice_index (ids_of shape g) j)) (used ++ here ∷ [])
        ≡ one_if (here == slice_index (ids_of shape g) j) + passing (same (slice_index (ids_of shape g) j)) used
    more g j = let e = passing-append (same (slice_index (ids_of shape g) j)) used (here ∷ []) in omega (arith, e)

    taken-more : Taken (used ++ here ∷ []) (f ∷ before)
    taken-more g j less =
        let e = more g j in
        (λ l. let h = used-at g j less (f == g) refl l in omega (arith, e, h), λ le. let h = free-at g j less le in omega (arith, e, h))

    used-below : (smaller : ℕ) → smaller < here → face_no shape smaller ≡ f → list_any (λ other. other == smaller) used ≡ true
    used-below smaller less is =
        let bound = nth-lt shape f (count_by (λ g. g == f) before) fits in
        let within : smaller < length shape.faces = omega (arith, less, bound) in
        let passes : (face_no shape smaller == f) ≡ true = (Decides-eqb (face_no shape smaller) f).1 is in
        let once = kept (λ id. face_no shape id == f) smaller passes (below (length shape.faces)) ∙ once_below smaller (length shape.faces) within in
        let at = place-of smaller (ids_of shape f) (omega (arith, once)) in
        let there = at.2 in
        let earlier : at.0 < count_by (λ g. g == f) before =
        ⊎_elim
        (λ j-is. let e = ap (slice_index (ids_of shape f)) j-is in absurd (omega (arith, e, there, less)))
        (λ r. ⊎_elim (λ l. l)
        (λ l. let h = nth-before shape f (count_by (λ g. g == f) before) at.0 l at.1 in absurd (omega (arith, h, there, less))) r)
        (cases_order at.0 (count_by (λ g. g == f) before)) in
        let c = passing-is (same f) before in
        let some = (taken f at.0 at.1).0 (omega (arith, earlier, c)) in
        let e = ap (λ id. passing (same id) used) there in
        is-used smaller used (omega (arith, some, e))

    smallest : IsSmallestUnused shape used f here
    smallest =
        let c = passing-is (same f) before in
        record {
          within = nth-lt shape f (count_by (λ g. g == f) before) fits;
          face = nth-face shape f (count_by (λ g. g == f) before) fits;
          free = not-used here used ((taken f (count_by (λ g. g == f) before) fits).1 (omega (arith, c)));
          least = used-below;
        }

  take-smallest : (used before fs : List ℕ) → Fits shape before fs → Taken used before → Takes shape used fs (seen_ids shape before fs)
  take-smallest used before [] fits taken = tt
  take-smallest used before (f ∷ fs) fits taken =
      let fit = fits-here shape before f fs fits in (
        smallest used before f fit taken,
        take-smallest (used ++ slice_index (ids_of shape f) (count_by (λ g. g == f) before) ∷ []) (f ∷ before) fs (fits-rest shape before f fs fits) (taken-more used before f fit taken),
      )

  seen_ids-takes : (fs : List ℕ) → Fits shape [] fs → Takes shape [] fs (seen_ids shape [] fs)
  seen_ids-takes fs fits = take-smallest [] [] fs fits (λ g j less. (λ l. absurd (omega (arith, l)), λ le. refl))

  -- there is one such list
  one-smallest : (used : List ℕ) (f id id' : ℕ) → IsSmallestUnused shape used f id → IsSmallestUnused shape used f id' → id ≡ id'
  one-smallest used f id id' s s' =
      ⊎_elim (λ e. e)
      (λ r. ⊎_elim
      (λ l. absurd (true≢false (sym (s'.least id l s.face) ∙ s.free)))
      (λ l. absurd (true≢false (sym (s.least id' l s'.face) ∙ s'.free))) r)
      (cases_order id id')

  one-takes : (used fs ids ids' : List ℕ) → Takes shape used fs ids → Takes shape used fs ids' → ids ≡ ids'
  one-takes used [] [] [] t t' = refl
  one-takes used [] [] (id' ∷ ids') t t' = absurd t'
  one-takes used [] (id ∷ ids) ids' t t' = absurd t
  one-takes used (f ∷ fs) [] ids' t t' = absurd t
  one-takes used (f ∷ fs) (id ∷ ids) [] t t' = absurd t'
  one-takes used (f ∷ fs) (id ∷ ids) (id' ∷ ids') t t' =
      let e = one-smallest used f id id' t.0 t'.0 in
      ap₂ ◌∷◌ e (one-takes (used ++ id ∷ []) fs ids ids' t.1 (subst (λ i. Takes shape (used ++ i ∷ []) fs ids') (sym e) t'.1))

  -- by places and one by one
  from-places : (used fs ids : List ℕ) → length ids ≡ length fs →
      ((k : ℕ) → k < length fs → IsSmallestUnused shape (used ++ take k ids) (slice_index fs k) (slice_index ids k)) → Takes shape used fs ids
  from-places used [] [] len each = tt
  from-places used [] (id ∷ ids) len each = absurd (omega (arith, len))
  from-places used (f ∷ fs) [] len each = absurd (omega (arith, len))
  from-places used (f ∷ fs) (id ∷ ids) len each = (
    subst (λ u. IsSmallestUnused shape u f id) (append-nil used) (each 0 (omega arith)),
    from-places (used ++ id ∷ []) fs ids (omega (arith, len))
        (λ k less. subst (λ u. IsSmallestUnused shape u (slice_index fs k) (slice_index ids k)) (sym (append_assoc used (id ∷ []) (take k ids))) (each (suc k) (omega (arith, less)))),
  )

  to-places : (used fs ids : List ℕ) → Takes shape used fs ids →
      (length ids ≡ length fs) × ((k : ℕ) → k < length fs → IsSmallestUnused shape (used ++ take k ids) (slice_index fs k) (slice_index ids k))
  to-places used [] [] takes = (refl, λ k less. absurd (omega (arith, less)))
  to-places used [] (id ∷ ids) takes = absurd takes
  to-places used (f ∷ fs) [] takes = absurd takes
  to-places used (f ∷ fs) (id ∷ ids) takes =
      let rest = to-places (used ++ id ∷ []) fs ids takes.1 in
      let len = rest.0 in
      (omega (arith, len), λ k. each rest.1 k) where
        each : ((k : ℕ) → k < length fs → IsSmallestUnused shape ((used ++ id ∷ []) ++ take k ids) (slice_index fs k) (slice_index ids k)) →
            (k : ℕ) → k < length (f ∷ fs) → IsSmallestUnused shape (used ++ take k (id ∷ ids)) (slice_index (f ∷ fs) k) (slice_index (id ∷ ids) k)
        each rest zero less = subst (λ u. IsSmallestUnused shape u f id) (sym (append-nil used)) takes.0
        each rest (suc k) less =
            subst (λ u. IsSmallestUnused shape u (slice_index fs k) (slice_index ids k)) (append_assoc used (id ∷ []) (take k ids)) (rest k (omega (arith, less)))

  pub seen_ids-smallest : (fs : List ℕ) → Fits shape [] fs → TakeSmallest shape fs (seen_ids shape [] fs)
  seen_ids-smallest fs fits = to-places [] fs (seen_ids shape [] fs) (seen_ids-takes fs fits)

  pub one-taking : (fs ids ids' : List ℕ) → TakeSmallest shape fs ids → TakeSmallest shape fs ids' → ids ≡ ids'
  one-taking fs ids ids' t t' = one-takes [] fs ids ids' (from-places [] fs ids t.0 t.1) (from-places [] fs ids' t'.0 t'.1)

  pub enough-fits : (fs : List ℕ) → AreEnough shape fs → Fits shape [] fs
  enough-fits fs enough f = let h = enough f in let e = passing-is (same f) fs in omega (arith, h, e)

  pub fits-enough : (fs : List ℕ) → Fits shape [] fs → AreEnough shape fs
  fits-enough fs fits f = let h = fits f in let e = passing-is (same f) fs in omega (arith, h, e)
