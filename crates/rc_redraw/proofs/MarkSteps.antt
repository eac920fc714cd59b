-- Bytes of marks that are written card by card are the marks of these cards.
use Rattle.std.proofs.Common.{Option, ◌≡◌, ℕ, zero, suc, ◌+◌, ◌-◌, ◌*◌, ◌%◌, ◌^◌, ◌<◌, ◌==◌, ◌||◌, if◌then◌else◌, Bool, true, false, List, [], ◌∷◌, ◌++◌, length, take, get_or, set, map, replicate, refl, sym, ap, ◌∙◌, subst, true≢false, arith}
use Rattle.std.specs.List.{list_any}
use Rattle.std.proofs.lemmas.Bool.Decides.{Decides-eqb}
use Rattle.std.proofs.lemmas.Grind.{get_or-set_at}
use Rattle.std.proofs.lemmas.List.{ext_get_or, get_or-replicate, get_or-set_other, length-map, length-replicate}
use Rattle.std.proofs.Math.ListN.{get_or-map}
use Rattle.rc_play_spec.specs.View.{Sight, with_faces, partly}
use Rattle.rc_play_spec.specs.Redraw.{faces_at, peeked_at, marks_for}
use Rattle.rc_play_spec.proofs.MarksSeen.{marks-are, marks-long}
use Rattle.rc_table.specs.Marks.{seats_in}
use Rattle.rc_redraw.specs.Marked.{marked_by}

abbrev nothing : List ℕ
nothing = []

take_none : (n : ℕ) → take n nothing ≡ nothing
take_none zero = refl
take_none (suc n) = refl

-- bytes that are cleared, and made so many
pub all_zero : (n k : ℕ) (old new : List ℕ) → old ≡ [] → k ≡ 0 → new ≡ take n old ++ replicate (n - k) 0 → new ≡ replicate n 0
all_zero n k old new none short is =
    let all : n - k ≡ n = omega (arith, short) in
    is ∙ ap (λ xs. take n xs ++ replicate (n - k) 0) none ∙ ap (λ xs. xs ++ replicate (n - k) 0) (take_none n) ∙ ap (λ j. replicate j 0) all

pub marked-more : (seats : ℕ) (xs ys marks : List ℕ) → marked_by seats (xs ++ ys) marks ≡ marked_by seats ys (marked_by seats xs marks)
marked-more seats [] ys marks = refl
marked-more seats (x ∷ xs) ys marks = marked-more seats xs ys (set marks x seats)

set-long : (xs : List ℕ) (i a : ℕ) → length (set xs i a) ≡ length xs
set-long [] i a = refl
set-long (x ∷ xs) zero a = refl
set-long (x ∷ xs) (suc i) a = ap suc (set-long xs i a)

pub marked-long : (seats : ℕ) (ids marks : List ℕ) → length (marked_by seats ids marks) ≡ length marks
marked-long seats [] marks = refl
marked-long seats (id ∷ ids) marks = marked-long seats ids (set marks id seats) ∙ set-long marks id seats

-- one card's byte
set-at : (marks : List ℕ) (id k seats : ℕ) → k < length marks → get_or (set marks id seats) k 0 ≡ (if id == k then seats else get_or marks k 0)
set-at marks id k seats less = at (id == k) refl where
  at : (b : Bool) → (id == k) ≡ b → get_or (set marks id seats) k 0 ≡ (if b then seats else get_or marks k 0)
  at true e = let same = (Decides-eqb id k).0 e in get_or-set_at marks id k seats 0 (sym same) (omega (arith, less, same))
  at false e = get_or-set_other marks id k seats 0 (λ same. true≢false (sym ((Decides-eqb id k).1 (sym same)) ∙ e))

either : (b c : Bool) (x y : ℕ) → (if c then x else (if b then x else y)) ≡ (if b || c then x else y)
either true true x y = refl
either true false x y = refl
either false true x y = refl
either false false x y = refl

pub marked-at : (seats k : ℕ) (ids marks : List ℕ) → k < length marks →
    get_or (marked_by seats ids marks) k 0 ≡ (if list_any (λ other. other == k) ids then seats else get_or marks k 0)
marked-at seats k [] marks less = refl
marked-at seats k (id ∷ ids) marks less =
    let long = set-long marks id seats in
    marked-at seats k ids (set marks id seats) (omega (arith, less, long))
    ∙ ap (λ x. if list_any (λ other. other == k) ids then seats else x) (set-at marks id k seats less)
    ∙ either (id == k) (list_any (λ other. other == k) ids) seats (get_or marks k 0)

module _ (count seat seats : ℕ) (ids : List ℕ) (one : 0 < length ids → seats_in seats ≡ seat ∷ []) where
  -- the seats of a byte
  seats-of : (ids' : List ℕ) → (0 < length ids' → seats_in seats ≡ seat ∷ []) → (k : ℕ) → (b : Bool) → list_any (λ other. other == k) ids' ≡ b →
      seats_in (if b then seats else 0) ≡ (if b then seat ∷ [] else [])
  seats-of ids' one' k false e = refl
  seats-of [] one' k true e = absurd (true≢false (sym e))
  seats-of (id ∷ ids') one' k true e = one' (omega arith)

  abbrev bytes : List ℕ
  bytes = marked_by seats ids (replicate count 0)

  bytes-long : length bytes ≡ count
  bytes-long = marked-long seats ids (replicate count 0) ∙ length-replicate count 0

  each : (k : ℕ) → k < count → get_or (map seats_in bytes) k [] ≡ get_or (marks_for count seat ids) k []
  each k less =
      let long = length-replicate {A = ℕ} count 0 in
      let b = list_any (λ other. other == k) ids in
      get_or-map seats_in bytes k 0
      ∙ ap seats_in (marked-at seats k ids (replicate count 0) (omega (arith, long, less)) ∙ ap (λ x. if b then seats else x) (get_or-replicate count k 0 0 less))
      ∙ seats-of ids one k b refl
      ∙ sym (marks-are count seat ids k less)

  pub are-marks : map seats_in bytes ≡ marks_for count seat ids
  are-marks =
      let long = length-map bytes seats_in in
      let same = bytes-long in
      ext_get_or [] (map seats_in bytes) (marks_for count seat ids) (long ∙ same ∙ sym (marks-long count seat ids)) (λ k less. each k (omega (arith, less, long, same)))

-- a byte with one bit
pub one-bit : (seat : ℕ) → seat < 8 → seats_in (1 * 2 ^ seat % 256) ≡ seat ∷ []
one-bit zero less = refl
one-bit (suc zero) less = refl
one-bit (suc (suc zero)) less = refl
one-bit (suc (suc (suc zero))) less = refl
one-bit (suc (suc (suc (suc zero)))) less = refl
one-bit (suc (suc (suc (suc (suc zero))))) less = refl
one-bit (suc (suc (suc (suc (suc (suc zero)))))) less = refl
one-bit (suc (suc (suc (suc (suc (suc (suc zero))))))) less = refl
one-bit (suc (suc (suc (suc (suc (suc (suc (suc s)))))))) less = absurd (omega (arith, less))

-- what stands at the known places of one location
partly_at : (m : Bool) (os : List (Option ℕ)) (xs : List ℕ) → take (length (faces_at m (partly os))) xs ≡ peeked_at m (partly os) xs
partly_at true os xs = refl
partly_at false os xs = refl

pub partly-here : (m : Bool) (t : Sight) (os : List (Option ℕ)) (xs : List ℕ) (a k : ℕ) → t ≡ partly os → k ≡ length (faces_at m t) → take (a + k - a) xs ≡ peeked_at m t xs
partly-here m t os xs a k e known =
    let same : a + k - a ≡ length (faces_at m t) = omega (arith, known) in
    ap (λ n. take n xs) same ∙ subst (λ t. take (length (faces_at m t)) xs ≡ peeked_at m t xs) (sym e) (partly_at m os xs)

faces_here : (m : Bool) (fs xs : List ℕ) → peeked_at m (with_faces fs) xs ≡ []
faces_here true fs xs = refl
faces_here false fs xs = refl

pub faces-here : (m : Bool) (t : Sight) (fs xs : List ℕ) → t ≡ with_faces fs → peeked_at m t xs ≡ []
faces-here m t fs xs e = ap (λ t. peeked_at m t xs) e ∙ faces_here m fs xs
