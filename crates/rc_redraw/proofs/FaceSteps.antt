-- The search for the smallest id of a face that is left ends at it.
use Rattle.std.proofs.Common.{◌≡◌, ℕ, ◌+◌, ◌<◌, ◌≤◌, ◌==◌, Bool, true, false, ◌||◌, List, [], ◌∷◌, ◌++◌, length, get_or, slice_set, refl, sym, ap, ◌∙◌, true≢false, ⊎_elim, arith}
use Rattle.std.specs.List.{list_any}
use Rattle.std.proofs.lemmas.Bool.{cases_order}
use Rattle.std.proofs.lemmas.Bool.Decides.{Decides-eqb}
use Rattle.std.proofs.lemmas.List.{get_or-set_same, get_or-set_other, get_or_default}
use Rattle.std.proofs.lemmas.List.Folds.{list_any-append}
use Rattle.rc_play_spec.specs.Shape.{Shape, face_number}
use Rattle.rc_play_spec.specs.Smallest.{IsSmallestUnused}

module _ (shape : Shape) (ids : List ℕ) (flags : List Bool) (f s id : ℕ) (few : length flags ≡ length shape.faces)
    (rule : (j : ℕ) → j < length shape.faces → get_or flags j false ≡ list_any (λ other. other == j) ids)
    (small : IsSmallestUnused shape ids f s) (le : id ≤ s) where
  flag-at : (b : Bool) → b ≡ get_or flags id b → b ≡ list_any (λ other. other == id) ids
  flag-at b e =
      let within = small.within in
      e ∙ get_or_default flags id b false (omega (arith, few, within, le)) ∙ rule id (omega (arith, within, le))

  past : (id ≡ s → ⊥) → id + 1 ≤ s
  past differ = omega (arith, le, differ)

  pub on-used : (b : Bool) → b ≡ get_or flags id b → b ≡ true → id + 1 ≤ s
  on-used b e is = past (λ end. true≢false (sym is ∙ flag-at b e ∙ ap (λ i. list_any (λ other. other == i) ids) end ∙ small.free))

  pub on-other : (face_number shape id ≡ f → ⊥) → id + 1 ≤ s
  on-other other = past (λ end. other (ap (face_number shape) end ∙ small.face))

  pub found-it : (b : Bool) → b ≡ get_or flags id b → b ≡ false → face_number shape id ≡ f → id ≡ s
  found-it b e is face =
      ⊎_elim (λ h. h)
      (λ r. ⊎_elim
      (λ l. absurd (true≢false (sym (small.least id l face) ∙ sym (flag-at b e) ∙ is)))
      (λ l. absurd (omega (arith, l, le))) r)
      (cases_order id s)

any-or : (a : Bool) → (a || (true || false)) ≡ true
any-or true = refl
any-or false = refl

none-or : (a : Bool) → (a || (false || false)) ≡ a
none-or true = refl
none-or false = refl

module _ (flags : List Bool) (ids : List ℕ) (n id : ℕ) (in' : id < length flags)
    (rule : (j : ℕ) → j < n → get_or flags j false ≡ list_any (λ other. other == j) ids) where
  more-at : (j : ℕ) → j < n → (b : Bool) → (id == j) ≡ b → get_or (slice_set flags id true) j false ≡ (list_any (λ other. other == j) ids || (b || false))
  more-at j less true e =
      ap (λ i. get_or (slice_set flags id true) i false) (sym ((Decides-eqb id j).0 e)) ∙ get_or-set_same flags id true false in'
      ∙ sym (any-or (list_any (λ other. other == j) ids))
  more-at j less false e =
      get_or-set_other flags id j true false (λ is. true≢false (sym ((Decides-eqb id j).1 (sym is)) ∙ e)) ∙ rule j less
      ∙ sym (none-or (list_any (λ other. other == j) ids))

  pub marks-more : (j : ℕ) → j < n → get_or (slice_set flags id true) j false ≡ list_any (λ other. other == j) (ids ++ id ∷ [])
  marks-more j less = more-at j less (id == j) refl ∙ sym (list_any-append (λ other. other == j) ids (id ∷ []))
