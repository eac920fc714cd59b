-- Parts of lines that come in a row: what is read is what is written.
use Rattle.std.proofs.Common.{◌≡◌, ℕ, zero, suc, ◌<◌, ◌≤◌, ◌^◌, ◌==◌, nat_lt, Bool, true, false, List, [], ◌∷◌, ◌++◌, length, flat_map, ℤ, codes, decimal, Option, Some, None, ◌⊎◌, inl, inr, refl, sym, ap, ◌∙◌, subst, append_assoc, arith}
use Rattle.std.specs.Fmt.{signed_decimal}
use Rattle.std.specs.List.{AllByRecursion}
use Rattle.std.proofs.lemmas.List.{length-append}
use Rattle.rc_base.specs.Clamp.{IsWithinClamp, largest_number}
use Rattle.std.proofs.lemmas.Bool.{and_parts, ltb-true}
use Rattle.rc_play_spec.specs.Shape.{Shape, face_number}
use Rattle.rc_play_spec.specs.Fields.{◌or_else◌, behind, number, integer}
use Rattle.rc_play_spec.proofs.FieldLemmas.{bind_some, bind_is, some_is, if_some, if_true, behind_only, behind_again, number-only, number-again, integer-only, integer-again, last-only, either, IsStop}
use Rattle.rc_log_spec.specs.Fields.{counts_in, integers_in, is_face, as_face, face_in, hidden_in, card_in, cards_in}
use Rattle.rc_log_spec.specs.Lines.{count_text, integer_text, card_text}
use Rattle.rc_log_spec.specs.Log.{IsCard}

pub or_first : {A : Type 0} (a b : Option A) (x : A) → a ≡ Some x → (a or_else b) ≡ Some x
or_first a b x e = ap (λ o. o or_else b) e

pub or_second : {A : Type 0} (a b : Option A) (x : A) → a ≡ None → b ≡ Some x → (a or_else b) ≡ Some x
or_second a b x e e' = ap (λ o. o or_else b) e ∙ e'

-- ---- counts

pub stop_counts : (ns : List ℕ) → IsStop (flat_map count_text ns)
stop_counts [] = tt
stop_counts (n ∷ ns) = refl

abbrev pub AreCounts : (count most : ℕ) → List ℕ → List ℕ → Type 0
AreCounts count most bytes ns = (length ns ≡ count) × AllByRecursion (λ n. n ≤ most) ns × (bytes ≡ flat_map count_text ns)

pub counts-only : (count most : ℕ) (bytes ns : List ℕ) → most < 2 ^ 63 → counts_in count most bytes ≡ Some ns → AreCounts count most bytes ns
counts-only zero most bytes ns lt e = let z = last-only [] bytes ns e in subst (AreCounts zero most bytes) z.0 (refl, tt, z.1)
counts-only (suc count) most bytes ns lt e =
    let a = bind_some (number (codes " ") most bytes) _ ns e in
    let b = bind_some (counts_in count most a.0.1) _ ns a.2 in
    let n = number-only (codes " ") most bytes a.0 a.1 lt in
    let r = counts-only count most a.0.1 b.0 lt b.1 in
    subst (AreCounts (suc count) most bytes) (some_is (a.0.0 ∷ b.0) ns b.2) (
      ap suc r.0,
      (n.0, r.1),
      n.1 ∙ ap (λ t. codes " " ++ (decimal a.0.0 ++ t)) r.2 ∙ sym (append_assoc (codes " ") (decimal a.0.0) (flat_map count_text b.0)),
    )

pub counts-again : (most : ℕ) (ns : List ℕ) → most < 2 ^ 63 → AllByRecursion (λ n. n ≤ most) ns → counts_in (length ns) most (flat_map count_text ns) ≡ Some ns
counts-again most [] lt all = refl
counts-again most (n ∷ ns) lt all =
    let front : number (codes " ") most (flat_map count_text (n ∷ ns)) ≡ Some (n, flat_map count_text ns) =
    ap (number (codes " ") most) (append_assoc (codes " ") (decimal n) (flat_map count_text ns)) ∙ number-again (codes " ") most n (flat_map count_text ns) all.0 lt (stop_counts ns) in
    bind_is (number (codes " ") most (flat_map count_text (n ∷ ns))) _ (n, flat_map count_text ns) (Some (n ∷ ns)) front
    (bind_is (counts_in (length ns) most (flat_map count_text ns)) _ ns (Some (n ∷ ns)) (counts-again most ns lt all.1) refl)

-- ---- numbers of a game

pub stop_integers : (zs : List ℤ) → IsStop (flat_map integer_text zs)
stop_integers [] = tt
stop_integers (z ∷ zs) = refl

abbrev pub AreIntegers : (count : ℕ) → List ℕ → List ℤ → Type 0
AreIntegers count bytes zs = (length zs ≡ count) × AllByRecursion IsWithinClamp zs × (bytes ≡ flat_map integer_text zs)

pub integers-only : (count : ℕ) (bytes : List ℕ) (zs : List ℤ) → integers_in count bytes ≡ Some zs → AreIntegers count bytes zs
integers-only zero bytes zs e = let z = last-only [] bytes zs e in subst (AreIntegers zero bytes) z.0 (refl, tt, z.1)
integers-only (suc count) bytes zs e =
    let a = bind_some (integer (codes " ") largest_number bytes) _ zs e in
    let b = bind_some (integers_in count a.0.1) _ zs a.2 in
    let n = integer-only (codes " ") bytes a.0 a.1 in
    let r = integers-only count a.0.1 b.0 b.1 in
    subst (AreIntegers (suc count) bytes) (some_is (a.0.0 ∷ b.0) zs b.2) (
      ap suc r.0,
      (n.0, r.1),
      n.1 ∙ ap (λ t. codes " " ++ (signed_decimal a.0.0 ++ t)) r.2 ∙ sym (append_assoc (codes " ") (signed_decimal a.0.0) (flat_map integer_text b.0)),
    )

pub integers-again : (zs : List ℤ) → AllByRecursion IsWithinClamp zs → integers_in (length zs) (flat_map integer_text zs) ≡ Some zs
integers-again [] all = refl
integers-again (z ∷ zs) all =
    let front : integer (codes " ") largest_number (flat_map integer_text (z ∷ zs)) ≡ Some (z, flat_map integer_text zs) =
    ap (integer (codes " ") largest_number) (append_assoc (codes " ") (signed_decimal z) (flat_map integer_text zs))
    ∙ integer-again (codes " ") z (flat_map integer_text zs) all.0 (stop_integers zs) in
    bind_is (integer (codes " ") largest_number (flat_map integer_text (z ∷ zs))) _ (z, flat_map integer_text zs) (Some (z ∷ zs)) front
    (bind_is (integers_in (length zs) (flat_map integer_text zs)) _ zs (Some (z ∷ zs)) (integers-again zs all.1) refl)

-- ---- cards

pub stop_cards : (cards : List (Option ℕ)) → IsStop (flat_map card_text cards)
stop_cards [] = tt
stop_cards (None ∷ cards) = refl
stop_cards (Some n ∷ cards) = refl

abbrev pub IsCardText : Shape → Bool → List ℕ → Option ℕ × List ℕ → Type 0
IsCardText shape seen bytes x = IsCard shape seen x.0 × (bytes ≡ card_text x.0 ++ x.1)

face-only : (shape : Shape) (seen : Bool) (bytes : List ℕ) (x : Option ℕ × List ℕ) → face_in shape bytes ≡ Some x → IsCardText shape seen bytes x
face-only shape seen bytes x e =
    let a = bind_some (number (codes " ") 65535 bytes) (as_face shape) x e in
    let i = if_some (is_face shape a.0.0) (Some (Some a.0.0, a.0.1)) x a.2 in
    let n = number-only (codes " ") 65535 bytes a.0 a.1 (omega arith) in
    subst (IsCardText shape seen bytes) (some_is (Some a.0.0, a.0.1) x i.1) (i.0, n.1 ∙ sym (append_assoc (codes " ") (decimal a.0.0) a.0.1))

hidden-only : (shape : Shape) (bytes : List ℕ) (x : Option ℕ × List ℕ) → hidden_in bytes ≡ Some x → IsCardText shape false bytes x
hidden-only shape bytes x e =
    let a = bind_some (behind (codes " -") bytes) _ x e in
    subst (IsCardText shape false bytes) (some_is (None, a.0) x a.2) (refl, behind_only (codes " -") bytes a.0 a.1)

card_case : (shape : Shape) (bytes : List ℕ) (x : Option ℕ × List ℕ) → (face_in shape bytes ≡ Some x) ⊎ (hidden_in bytes ≡ Some x) → IsCardText shape false bytes x
card_case shape bytes x (inl e) = face-only shape false bytes x e
card_case shape bytes x (inr e) = hidden-only shape bytes x e

pub card-only : (shape : Shape) (seen : Bool) (bytes : List ℕ) (x : Option ℕ × List ℕ) → card_in shape seen bytes ≡ Some x → IsCardText shape seen bytes x
card-only shape true bytes x e = face-only shape true bytes x e
card-only shape false bytes x e = card_case shape bytes x (either (face_in shape bytes) (hidden_in bytes) x e)

pub face_small : (shape : Shape) (n : ℕ) → length shape.faces ≤ 512 → is_face shape n ≡ true → n ≤ 65535
face_small shape n few is = let a = and_parts (nat_lt n (length shape.faces)) (face_number shape n == n) is in omega (arith, ltb-true n (length shape.faces) a.0)

face-again : (shape : Shape) (n : ℕ) (rest : List ℕ) → length shape.faces ≤ 512 → is_face shape n ≡ true → IsStop rest → face_in shape (card_text (Some n) ++ rest) ≡ Some (Some n, rest)
face-again shape n rest few is stop =
    let front : number (codes " ") 65535 (card_text (Some n) ++ rest) ≡ Some (n, rest) =
    ap (number (codes " ") 65535) (append_assoc (codes " ") (decimal n) rest) ∙ number-again (codes " ") 65535 n rest (face_small shape n few is) (omega arith) stop in
    bind_is (number (codes " ") 65535 (card_text (Some n) ++ rest)) (as_face shape) (n, rest) (Some (Some n, rest)) front
    (if_true (is_face shape n) (Some (Some n, rest)) None is)

card-again : (shape : Shape) (seen : Bool) (card : Option ℕ) (rest : List ℕ) → length shape.faces ≤ 512 → IsCard shape seen card → IsStop rest →
    card_in shape seen (card_text card ++ rest) ≡ Some (card, rest)
card-again shape true (Some n) rest few is stop = face-again shape n rest few is stop
card-again shape true None rest few is stop = absurd cc
card-again shape false (Some n) rest few is stop =
    or_first (face_in shape (card_text (Some n) ++ rest)) (hidden_in (card_text (Some n) ++ rest)) (Some n, rest) (face-again shape n rest few is stop)
card-again shape false None rest few is stop =
    or_second (face_in shape (card_text None ++ rest)) (hidden_in (card_text None ++ rest)) (None, rest) refl
    (bind_is (behind (codes " -") (codes " -" ++ rest)) (λ rest. Some (None, rest)) rest (Some (None, rest)) (behind_again (codes " -") rest) refl)

abbrev pub AreCards : Shape → Bool → List ℕ → List (Option ℕ) → Type 0
AreCards shape seen bytes cards = AllByRecursion (IsCard shape seen) cards × (bytes ≡ flat_map card_text cards)

pub cards-only : (shape : Shape) (seen : Bool) (most : ℕ) (bytes : List ℕ) (cards : List (Option ℕ)) → cards_in shape seen most bytes ≡ Some cards → AreCards shape seen bytes cards
cards-only shape seen most [] cards e = subst (AreCards shape seen []) (some_is [] cards e) (tt, refl)
cards-only shape seen zero (b ∷ bytes) cards e = absurd cc
cards-only shape seen (suc most) (b ∷ bytes) cards e =
    let a = bind_some (card_in shape seen (b ∷ bytes)) _ cards e in
    let c = bind_some (cards_in shape seen most a.0.1) _ cards a.2 in
    let n = card-only shape seen (b ∷ bytes) a.0 a.1 in
    let r = cards-only shape seen most a.0.1 c.0 c.1 in
    subst (AreCards shape seen (b ∷ bytes)) (some_is (a.0.0 ∷ c.0) cards c.2) ((n.0, r.0), n.1 ∙ ap (λ t. card_text a.0.0 ++ t) r.1)

-- one card more, where the text isn't empty
cards_step : (shape : Shape) (seen : Bool) (most : ℕ) (bytes : List ℕ) (card : Option ℕ) (rest : List ℕ) (cards : List (Option ℕ)) →
    card_in shape seen bytes ≡ Some (card, rest) → cards_in shape seen most rest ≡ Some cards → 0 < length bytes → cards_in shape seen (suc most) bytes ≡ Some (card ∷ cards)
cards_step shape seen most [] card rest cards e e' some = absurd (omega arith)
cards_step shape seen most (b ∷ bytes) card rest cards e e' some =
    bind_is (card_in shape seen (b ∷ bytes)) _ (card, rest) (Some (card ∷ cards)) e (bind_is (cards_in shape seen most rest) _ cards (Some (card ∷ cards)) e' refl)

pub card_some : (card : Option ℕ) → 0 < length (card_text card)
card_some None = omega arith
card_some (Some n) = omega arith

pub cards-again : (shape : Shape) (seen : Bool) (most : ℕ) (cards : List (Option ℕ)) → length shape.faces ≤ 512 → AllByRecursion (IsCard shape seen) cards → length cards ≤ most →
    cards_in shape seen most (flat_map card_text cards) ≡ Some cards
cards-again shape seen most [] few all le = refl
cards-again shape seen zero (card ∷ cards) few all le = absurd (omega arith)
cards-again shape seen (suc most) (card ∷ cards) few all le =
    cards_step shape seen most (flat_map card_text (card ∷ cards)) card (flat_map card_text cards) cards
    (card-again shape seen card (flat_map card_text cards) few all.0 (stop_cards cards))
    (cards-again shape seen most cards few all.1 (omega arith))
    (omega (arith, length-append (card_text card) (flat_map card_text cards), card_some card))

pub cards_short : (cards : List (Option ℕ)) → length cards ≤ length (flat_map card_text cards)
cards_short [] = omega arith
cards_short (card ∷ cards) = omega (arith, length-append (card_text card) (flat_map card_text cards), card_some card, cards_short cards)

-- a card takes bytes
pub card_shorter : (shape : Shape) (seen : Bool) (bytes : List ℕ) (card : Option ℕ) (rest : List ℕ) → card_in shape seen bytes ≡ Some (card, rest) → length rest < length bytes
card_shorter shape seen bytes card rest e =
    let is = card-only shape seen bytes (card, rest) e in
    omega (arith, ap (length {A = ℕ}) is.1, length-append (card_text card) rest, card_some card)
