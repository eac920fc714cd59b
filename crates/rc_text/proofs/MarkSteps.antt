-- Marks are read one after the other.
use Rattle.std.proofs.Common.{◌≡◌, ◌≢◌, ℕ, zero, suc, ◌+◌, ◌-◌, ◌<◌, ◌==◌, true, false, eqb-true, List, [], ◌∷◌, ◌++◌, length, Option, Some, None, refl, sym, ap, ◌∙◌, append_assoc, append-nil, arith}
use Rattle.std.proofs.lemmas.List.{length-append}
use Rattle.rc_play_spec.specs.Fields.{◌>>=◌}
use Rattle.rc_play_spec.specs.ItemBounds.{Bound, player, card, group}
use Rattle.rc_play_spec.specs.Bounds.{mark_text, mark_in, marks_in}
use Rattle.rc_play_spec.proofs.Marks.{mark-only}

-- what is read behind these marks, and these before it
abbrev pub behind_marks : List Bound → Option (List Bound) → Option (List Bound)
behind_marks front o = o >>= λ more. Some (front ++ more)

pub begins : (o : Option (List Bound)) → behind_marks [] o ≡ o
begins None = refl
begins (Some marks) = refl

one_more : (front : List Bound) (m : Bound) (o : Option (List Bound)) →
    behind_marks front (o >>= λ marks. Some (m ∷ marks)) ≡ behind_marks (front ++ m ∷ []) o
one_more front m None = refl
one_more front m (Some marks) = ap (λ t. Some t) (sym (append_assoc front (m ∷ []) marks))

takes : (k : ℕ) (bytes : List ℕ) → bytes ≢ [] →
    marks_in (suc k) bytes ≡ (mark_in bytes >>= λ mark. marks_in k mark.1 >>= λ marks. Some (mark.0 ∷ marks))
takes k [] some = absurd (some refl)
takes k (b ∷ bytes) some = refl

pub marks_more : (n : ℕ) (front : List Bound) (bytes : List ℕ) (m : Bound) (rest : List ℕ) → n < 4 → bytes ≢ [] → mark_in bytes ≡ Some (m, rest) →
    behind_marks front (marks_in (4 - n) bytes) ≡ behind_marks (front ++ m ∷ []) (marks_in (4 - (n + 1)) rest)
marks_more n front bytes m rest lt some e =
    let k : ℕ = 4 - (n + 1) in
    let same : 4 - n ≡ suc k = omega (arith, lt) in
    ap (λ k. behind_marks front (marks_in k bytes)) same
    ∙ ap (behind_marks front) (takes k bytes some ∙ ap (λ o. o >>= λ mark. marks_in k mark.1 >>= λ marks. Some (mark.0 ∷ marks)) e)
    ∙ one_more front m (marks_in k rest)

pub no_mark : (n : ℕ) (bytes : List ℕ) → n < 4 → bytes ≢ [] → mark_in bytes ≡ None → marks_in (4 - n) bytes ≡ None
no_mark n bytes lt some e =
    let k : ℕ = 4 - (n + 1) in
    let same : 4 - n ≡ suc k = omega (arith, lt) in
    ap (λ k. marks_in k bytes) same ∙ takes k bytes some ∙ ap (λ o. o >>= λ mark. marks_in k mark.1 >>= λ marks. Some (mark.0 ∷ marks)) e

none_at : (bytes : List ℕ) → bytes ≢ [] → marks_in zero bytes ≡ None
none_at [] some = absurd (some refl)
none_at (b ∷ bytes) some = refl

pub no_room : (n : ℕ) (bytes : List ℕ) → n ≡ 4 → bytes ≢ [] → marks_in (4 - n) bytes ≡ None
no_room n bytes is some = let same : 4 - n ≡ 0 = omega (arith, is) in ap (λ k. marks_in k bytes) same ∙ none_at bytes some

pub marks_end : (k : ℕ) (front : List Bound) → behind_marks front (marks_in k []) ≡ Some front
marks_end zero front = ap (λ t. Some t) (append-nil front)
marks_end (suc k) front = ap (λ t. Some t) (append-nil front)

longer : (m : Bound) (rest : List ℕ) → length rest < length (mark_text m ++ rest)
longer (player n) rest = omega (arith, length-append (mark_text (player n)) rest)
longer (card n) rest = omega (arith, length-append (mark_text (card n)) rest)
longer (group n) rest = omega (arith, length-append (mark_text (group n)) rest)

pub shorter : (bytes : List ℕ) (m : Bound) (rest : List ℕ) → mark_in bytes ≡ Some (m, rest) → length rest < length bytes
shorter bytes m rest e =
    let is = mark-only bytes (m, rest) e in
    let same = ap length is.1 in
    let more = longer m rest in
    omega (arith, same, more)

-- ---- bytes that are left, or aren't

pub some_left : (bytes : List ℕ) → false ≡ (length bytes == 0) → bytes ≢ []
some_left [] e none = absurd cc
some_left (b ∷ bytes) e none = absurd cc

pub none_left : (bytes : List ℕ) → true ≡ (length bytes == 0) → bytes ≡ []
none_left [] e = refl
none_left (b ∷ bytes) e = let same = eqb-true (length (b ∷ bytes)) 0 (sym e) in absurd (omega (arith, same))
