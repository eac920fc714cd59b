-- A line is read exactly where its text stands.
use Rattle.std.proofs.Common.{append_assoc, ◌≡◌, ℕ, ◌^◌, ◌<◌, ◌≤◌, Bool, true, false, List, [], ◌++◌, Option, Some, None, ℤ, codes, decimal, refl, sym, ap, ◌∙◌, subst, append-nil, arith, inl, inr}
use Rattle.std.specs.Fmt.{signed_decimal}
use Rattle.rc_base.specs.Clamp.{IsWithinClamp, largest_number}
use Rattle.rc_base.specs.Transcript.{Pick, done, limit, Score, Standing}
use Rattle.rc_play_spec.specs.Fields.{◌>>=◌, number, counted, integer, ◌or_else◌}
use Rattle.rc_play_spec.specs.ItemBounds.{Bound}
use Rattle.rc_play_spec.specs.Bounds.{marks_in}
use Rattle.rc_base.specs.Limits.{largest_seed}
use Rattle.rc_play_spec.specs.Lines.{Line, opening, chosen, shuffled, ending, scored, ranked, end_text, line_text, IsInRange, Marked, bare, marks_text, marked_text, AreTold, HasMarks, IsMarkedInRange, opening_in, told_in, chosen_in, shuffled_in, done_in, limit_in, scored_in, ranked_in, other_in, line_of}
use Rattle.rc_play_spec.proofs.Marks.{marks-only, marks-again, marks_stop}
use Rattle.rc_play_spec.proofs.FieldLemmas.{bind_some, bind_is, some_is, number-only, counted-only, integer-only, number-again, counted-again, integer-again, last-only, either, IsStop}

-- a line that has no marks
abbrev IsRead : List ℕ → Line → Type 0
IsRead bytes l = IsInRange l × ((named : Bool) → HasMarks named l None) × (bytes ≡ line_text l)

-- one more part behind a word, and the last one
pub then : (word part tail rest : List ℕ) (bytes : List ℕ) → bytes ≡ word ++ (part ++ rest) → rest ≡ tail → bytes ≡ word ++ (part ++ tail)
then word part tail rest bytes e e' = e ∙ ap (λ t. word ++ (part ++ t)) e'

pub end : (word part rest : List ℕ) (bytes : List ℕ) → bytes ≡ word ++ (part ++ rest) → rest ≡ [] → bytes ≡ word ++ part
end word part rest bytes e e' = e ∙ ap (λ t. word ++ (part ++ t)) e' ∙ ap (λ t. word ++ t) (append-nil part)

opening-only : (bytes : List ℕ) (l : Line) → opening_in bytes ≡ Some l → IsRead bytes l
opening-only bytes l e =
    let a = bind_some (number (codes "match ") 4095 bytes) _ l e in
    let b = bind_some (number (codes " deal ") largest_seed a.0.1) _ l a.2 in
    let c = bind_some (number (codes " seats ") largest_seed b.0.1) _ l b.2 in
    let z = last-only (opening a.0.0 b.0.0 c.0.0) c.0.1 l c.2 in
    let a' = number-only (codes "match ") 4095 bytes a.0 a.1 (omega arith) in
    let b' = number-only (codes " deal ") largest_seed a.0.1 b.0 b.1 (omega arith) in
    let c' = number-only (codes " seats ") largest_seed b.0.1 c.0 c.1 (omega arith) in
    subst (IsRead bytes) z.0 (
      (a'.0, b'.0, c'.0),
      λ named. tt,
      then (codes "match ") (decimal a.0.0) _ a.0.1 bytes a'.1 (then (codes " deal ") (decimal b.0.0) _ b.0.1 a.0.1 b'.1 (end (codes " seats ") (decimal c.0.0) c.0.1 b.0.1 c'.1 z.1)),
    )

-- ---- marks behind a choose line

marked_is : (l : Line) (marks : Option (List Bound)) → marked_text (l, marks) ≡ line_text l ++ marks_text marks
marked_is l None = sym (append-nil (line_text l))
marked_is l (Some marks) = refl

told-only : (named : Bool) (bytes : List ℕ) (marks : Option (List Bound)) → told_in named bytes ≡ Some marks → AreTold named marks × (bytes ≡ marks_text marks)
told-only false bytes marks e =
    let z = last-only None bytes marks e in
    subst (λ marks. AreTold false marks × (bytes ≡ marks_text marks)) z.0 (tt, z.1)
told-only true bytes marks e =
    let a = bind_some (marks_in 4 bytes) (λ marks. Some (Some marks)) marks e in
    let m = marks-only 4 bytes a.0 a.1 in
    subst (λ marks. AreTold true marks × (bytes ≡ marks_text marks)) (some_is (Some a.0) marks a.2) ((m.0, m.1), m.2)

told-again : (named : Bool) (marks : Option (List Bound)) → AreTold named marks → told_in named (marks_text marks) ≡ Some marks
told-again false None is = refl
told-again false (Some marks) is = absurd is
told-again true None is = absurd is
told-again true (Some marks) is = bind_is (marks_in 4 (marks_text (Some marks))) (λ marks. Some (Some marks)) marks (Some (Some marks)) (marks-again 4 marks is.0 is.1) refl

told_stop : (marks : Option (List Bound)) → IsStop (marks_text marks)
told_stop None = tt
told_stop (Some marks) = marks_stop marks

-- the numbers of a choose line, and what is behind them
abbrev chosen_with : Pick → List ℕ → List ℕ
chosen_with p rest = codes "choose " ++ (decimal p.seat ++ (codes " " ++ (decimal p.site ++ (codes " " ++ (decimal p.item ++ (codes " " ++ (decimal p.size ++ rest)))))))

chosen_apart : (p : Pick) (rest : List ℕ) → line_text (chosen p) ++ rest ≡ chosen_with p rest
chosen_apart p rest = simp append_assoc refl

abbrev IsMarkedRead : Bool → List ℕ → Marked → Type 0
IsMarkedRead named bytes m = IsMarkedInRange named m × (bytes ≡ marked_text m)

chosen-only : (named : Bool) (bytes : List ℕ) (m : Marked) → chosen_in named bytes ≡ Some m → IsMarkedRead named bytes m
chosen-only named bytes m e =
    let a = bind_some (number (codes "choose ") 7 bytes) _ m e in
    let b = bind_some (number (codes " ") 63 a.0.1) _ m a.2 in
    let c = bind_some (number (codes " ") 255 b.0.1) _ m b.2 in
    let d = bind_some (counted (codes " ") 256 c.0.1) _ m c.2 in
    let p : Pick = record { seat = a.0.0; site = b.0.0; item = c.0.0; size = d.0.0 } in
    let z = bind_some (told_in named d.0.1) (λ marks. Some (chosen p, marks)) m d.2 in
    let a' = number-only (codes "choose ") 7 bytes a.0 a.1 (omega arith) in
    let b' = number-only (codes " ") 63 a.0.1 b.0 b.1 (omega arith) in
    let c' = number-only (codes " ") 255 b.0.1 c.0 c.1 (omega arith) in
    let d' = counted-only (codes " ") 256 c.0.1 d.0 d.1 (omega arith) in
    let z' = told-only named d.0.1 z.0 z.1 in
    subst (IsMarkedRead named bytes) (some_is (chosen p, z.0) m z.2) (
      ((a'.0, b'.0, c'.0, d'.0, d'.1), z'.0),
      then (codes "choose ") (decimal a.0.0) _ a.0.1 bytes a'.1 (then (codes " ") (decimal b.0.0) _ b.0.1 a.0.1 b'.1 (then (codes " ") (decimal c.0.0) _ c.0.1 b.0.1 c'.1 (then (codes " ") (decimal d.0.0) _ d.0.1 c.0.1 d'.2 z'.1)))
          ∙ sym (marked_is (chosen p) z.0 ∙ chosen_apart p (marks_text z.0)),
    )

-- ---- other lines

shuffled-only : (bytes : List ℕ) (l : Line) → shuffled_in bytes ≡ Some l → IsRead bytes l
shuffled-only bytes l e =
    let a = bind_some (counted (codes "shuffles ") 4294967295 bytes) _ l e in
    let z = last-only (shuffled a.0.0) a.0.1 l a.2 in
    let a' = counted-only (codes "shuffles ") 4294967295 bytes a.0 a.1 (omega arith) in
    subst (IsRead bytes) z.0 ((a'.0, a'.1), (λ named. tt), end (codes "shuffles ") (decimal a.0.0) a.0.1 bytes a'.2 z.1)

done-only : (bytes : List ℕ) (l : Line) → done_in bytes ≡ Some l → IsRead bytes l
done-only bytes l e =
    let a = bind_some (number (codes "end done ") 100000 bytes) _ l e in
    let z = last-only (ending done a.0.0) a.0.1 l a.2 in
    let a' = number-only (codes "end done ") 100000 bytes a.0 a.1 (omega arith) in
    subst (IsRead bytes) z.0 (a'.0, (λ named. tt), end (codes "end done ") (decimal a.0.0) a.0.1 bytes a'.1 z.1)

limit-only : (bytes : List ℕ) (l : Line) → limit_in bytes ≡ Some l → IsRead bytes l
limit-only bytes l e =
    let a = bind_some (number (codes "end limit ") 100000 bytes) _ l e in
    let z = last-only (ending limit a.0.0) a.0.1 l a.2 in
    let a' = number-only (codes "end limit ") 100000 bytes a.0 a.1 (omega arith) in
    subst (IsRead bytes) z.0 (a'.0, (λ named. tt), end (codes "end limit ") (decimal a.0.0) a.0.1 bytes a'.1 z.1)

scored-only : (bytes : List ℕ) (l : Line) → scored_in bytes ≡ Some l → IsRead bytes l
scored-only bytes l e =
    let a = bind_some (number (codes "score ") 7 bytes) _ l e in
    let b = bind_some (integer (codes " ") largest_number a.0.1) _ l a.2 in
    let c = bind_some (number (codes " ") 14 b.0.1) _ l b.2 in
    let z = last-only (scored (record { player = a.0.0; score = b.0.0; points = c.0.0 })) c.0.1 l c.2 in
    let a' = number-only (codes "score ") 7 bytes a.0 a.1 (omega arith) in
    let b' = integer-only (codes " ") a.0.1 b.0 b.1 in
    let c' = number-only (codes " ") 14 b.0.1 c.0 c.1 (omega arith) in
    subst (IsRead bytes) z.0 (
      (a'.0, b'.0, c'.0),
      λ named. tt,
      then (codes "score ") (decimal a.0.0) _ a.0.1 bytes a'.1 (then (codes " ") (signed_decimal b.0.0) _ b.0.1 a.0.1 b'.1 (end (codes " ") (decimal c.0.0) c.0.1 b.0.1 c'.1 z.1)),
    )

ranked-only : (bytes : List ℕ) (l : Line) → ranked_in bytes ≡ Some l → IsRead bytes l
ranked-only bytes l e =
    let a = bind_some (counted (codes "standing ") 8 bytes) _ l e in
    let b = bind_some (number (codes " strategy ") 7 a.0.1) _ l a.2 in
    let c = bind_some (number (codes " points ") 57344 b.0.1) _ l b.2 in
    let z = last-only (ranked (record { place = a.0.0; strategy = b.0.0; points = c.0.0 })) c.0.1 l c.2 in
    let a' = counted-only (codes "standing ") 8 bytes a.0 a.1 (omega arith) in
    let b' = number-only (codes " strategy ") 7 a.0.1 b.0 b.1 (omega arith) in
    let c' = number-only (codes " points ") 57344 b.0.1 c.0 c.1 (omega arith) in
    subst (IsRead bytes) z.0 (
      (a'.0, a'.1, b'.0, c'.0),
      λ named. tt,
      then (codes "standing ") (decimal a.0.0) _ a.0.1 bytes a'.2 (then (codes " strategy ") (decimal b.0.0) _ b.0.1 a.0.1 b'.1 (end (codes " points ") (decimal c.0.0) c.0.1 b.0.1 c'.1 z.1)),
    )

one_of : (a b : Option Line) (bytes : List ℕ) (l : Line) → (a ≡ Some l → IsRead bytes l) → (b ≡ Some l → IsRead bytes l) → (a or_else b) ≡ Some l → IsRead bytes l
one_of a b bytes l f g e = elim (either a b l e) [
  | inl e' ↦ f e'
  | inr e' ↦ g e'
]

other-only : (bytes : List ℕ) (l : Line) → other_in bytes ≡ Some l → IsRead bytes l
other-only bytes l =
    one_of _ _ bytes l (one_of _ _ bytes l (one_of _ _ bytes l (one_of _ _ bytes l (one_of _ _ bytes l
    (opening-only bytes l) (shuffled-only bytes l)) (done-only bytes l)) (limit-only bytes l)) (scored-only bytes l))
    (ranked-only bytes l)

pub line-only : (named : Bool) (bytes : List ℕ) (m : Marked) → line_of named bytes ≡ Some m → IsMarkedInRange named m × (bytes ≡ marked_text m)
line-only named bytes m e = elim (either (chosen_in named bytes) (other_in bytes >>= λ l. Some (bare l)) m e) [
  | inl e' ↦ chosen-only named bytes m e'
  | inr e' ↦
      let a = bind_some (other_in bytes) (λ l. Some (bare l)) m e' in
      let is = other-only bytes a.0 a.1 in
      subst (IsMarkedRead named bytes) (some_is (bare a.0) m a.2) ((is.0, is.1 named), is.2)
]

-- ---- again

number_then : {B : Type 0} (word : List ℕ) (most n : ℕ) (rest : List ℕ) (f : ℕ × List ℕ → Option B) (y : Option B) → n ≤ most → most < 2 ^ 63 → IsStop rest →
    f (n, rest) ≡ y → (number word most (word ++ (decimal n ++ rest)) >>= f) ≡ y
number_then word most n rest f y le lt is e = bind_is (number word most (word ++ (decimal n ++ rest))) f (n, rest) y (number-again word most n rest le lt is) e

number_ends : {B : Type 0} (word : List ℕ) (most n : ℕ) (f : ℕ × List ℕ → Option B) (y : Option B) → n ≤ most → most < 2 ^ 63 →
    f (n, []) ≡ y → (number word most (word ++ decimal n) >>= f) ≡ y
number_ends word most n f y le lt e =
    ap (λ t. number word most (word ++ t) >>= f) (sym (append-nil (decimal n))) ∙ number_then word most n [] f y le lt tt e

counted_ends : {B : Type 0} (word : List ℕ) (most n : ℕ) (f : ℕ × List ℕ → Option B) (y : Option B) → 1 ≤ n → n ≤ most → most < 2 ^ 63 →
    f (n, []) ≡ y → (counted word most (word ++ decimal n) >>= f) ≡ y
counted_ends word most n f y low le lt e =
    ap (λ t. counted word most (word ++ t) >>= f) (sym (append-nil (decimal n)))
    ∙ bind_is (counted word most (word ++ (decimal n ++ []))) f (n, []) y (counted-again word most n [] low le lt tt) e

counted_then : {B : Type 0} (word : List ℕ) (most n : ℕ) (rest : List ℕ) (f : ℕ × List ℕ → Option B) (y : Option B) → 1 ≤ n → n ≤ most → most < 2 ^ 63 → IsStop rest →
    f (n, rest) ≡ y → (counted word most (word ++ (decimal n ++ rest)) >>= f) ≡ y
counted_then word most n rest f y low le lt is e = bind_is (counted word most (word ++ (decimal n ++ rest))) f (n, rest) y (counted-again word most n rest low le lt is) e

integer_then : {B : Type 0} (word : List ℕ) (z : ℤ) (rest : List ℕ) (f : ℤ × List ℕ → Option B) (y : Option B) → IsWithinClamp z → IsStop rest →
    f (z, rest) ≡ y → (integer word largest_number (word ++ (signed_decimal z ++ rest)) >>= f) ≡ y
integer_then word z rest f y within is e = bind_is (integer word largest_number (word ++ (signed_decimal z ++ rest))) f (z, rest) y (integer-again word z rest within is) e

opening-again : (n deal seats : ℕ) → IsInRange (opening n deal seats) → opening_in (line_text (opening n deal seats)) ≡ Some (opening n deal seats)
opening-again n deal seats is =
    number_then (codes "match ") 4095 n _ _ _ is.0 (omega arith) refl
    (number_then (codes " deal ") largest_seed deal _ _ _ is.1 (omega arith) refl
    (number_ends (codes " seats ") largest_seed seats _ _ is.2 (omega arith) refl))

chosen-again : (named : Bool) (p : Pick) (marks : Option (List Bound)) → IsInRange (chosen p) → AreTold named marks →
    chosen_in named (marked_text (chosen p, marks)) ≡ Some (chosen p, marks)
chosen-again named p marks is told =
    ap (chosen_in named) (marked_is (chosen p) marks ∙ chosen_apart p (marks_text marks))
    ∙ number_then (codes "choose ") 7 p.seat _ _ _ is.0 (omega arith) refl
    (number_then (codes " ") 63 p.site _ _ _ is.1 (omega arith) refl
    (number_then (codes " ") 255 p.item _ _ _ is.2 (omega arith) refl
    (counted_then (codes " ") 256 p.size (marks_text marks) _ _ is.3 is.4 (omega arith) (told_stop marks)
    (bind_is (told_in named (marks_text marks)) (λ marks. Some (chosen p, marks)) marks (Some (chosen p, marks)) (told-again named marks told) refl))))

shuffled-again : (n : ℕ) → IsInRange (shuffled n) → shuffled_in (line_text (shuffled n)) ≡ Some (shuffled n)
shuffled-again n is = counted_ends (codes "shuffles ") 4294967295 n _ _ is.0 is.1 (omega arith) refl

done-again : (n : ℕ) → n ≤ 100000 → done_in (end_text done n) ≡ Some (ending done n)
done-again n is = number_ends (codes "end done ") 100000 n _ _ is (omega arith) refl

limit-again : (n : ℕ) → n ≤ 100000 → limit_in (end_text limit n) ≡ Some (ending limit n)
limit-again n is = number_ends (codes "end limit ") 100000 n _ _ is (omega arith) refl

scored-again : (s : Score) → IsInRange (scored s) → scored_in (line_text (scored s)) ≡ Some (scored s)
scored-again s is =
    number_then (codes "score ") 7 s.player _ _ _ is.0 (omega arith) refl
    (integer_then (codes " ") s.score _ _ _ is.1 refl
    (number_ends (codes " ") 14 s.points _ _ is.2 (omega arith) refl))

ranked-again : (s : Standing) → IsInRange (ranked s) → ranked_in (line_text (ranked s)) ≡ Some (ranked s)
ranked-again s is =
    counted_then (codes "standing ") 8 s.place _ _ _ is.0 is.1 (omega arith) refl
    (number_then (codes " strategy ") 7 s.strategy _ _ _ is.2 (omega arith) refl
    (number_ends (codes " points ") 57344 s.points _ _ is.3 (omega arith) refl))

line_again : (l : Line) → IsInRange l → ((named : Bool) → HasMarks named l None) → (named : Bool) → line_of named (line_text l) ≡ Some (bare l)
line_again (opening n deal seats) is none named = rw (opening-again n deal seats is) refl
line_again (chosen p) is none named = absurd (none true)
line_again (shuffled n) is none named = rw (shuffled-again n is) refl
line_again (ending done n) is none named = rw (done-again n is) refl
line_again (ending limit n) is none named = rw (limit-again n is) refl
line_again (scored s) is none named = rw (scored-again s is) refl
line_again (ranked s) is none named = rw (ranked-again s is) refl

pub line-again : (named : Bool) (m : Marked) → IsMarkedInRange named m → line_of named (marked_text m) ≡ Some m
line-again named (chosen p, marks) is = rw (chosen-again named p marks is.0 is.1) refl
line-again named (opening n deal seats, None) is = line_again (opening n deal seats) is.0 (λ named. tt) named
line-again named (shuffled n, None) is = line_again (shuffled n) is.0 (λ named. tt) named
line-again named (ending e n, None) is = line_again (ending e n) is.0 (λ named. tt) named
line-again named (scored s, None) is = line_again (scored s) is.0 (λ named. tt) named
line-again named (ranked s, None) is = line_again (ranked s) is.0 (λ named. tt) named
line-again named (opening n deal seats, Some marks) is = absurd is.1
line-again named (shuffled n, Some marks) is = absurd is.1
line-again named (ending e n, Some marks) is = absurd is.1
line-again named (scored s, Some marks) is = absurd is.1
line-again named (ranked s, Some marks) is = absurd is.1
