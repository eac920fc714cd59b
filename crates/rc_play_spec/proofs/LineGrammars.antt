-- What is read by a grammar is a text, and each text is read.
use Rattle.std.proofs.Common.{◌≡◌, ℕ, ◌+◌, List, [], ◌∷◌, ◌++◌, flat_map, Option, Some, None, Ok, refl, sym, ap, ◌∙◌, append-nil}
use Rattle.std.specs.List.{AllByRecursion}
use Rattle.rc_base.specs.Transcript.{line}
use Rattle.rc_play_spec.specs.Fields.{◌>>=◌}
use Rattle.rc_play_spec.specs.HouseText.{IsOneLine}
use Rattle.rc_play_spec.specs.LineGrammar.{lines_in, run, or_fault, or_at, read_from, Grammar, read_by, Begins}
use Rattle.rc_play_spec.proofs.FieldLemmas.{bind_some, bind_is, some_is, ok_is}
use Rattle.rc_play_spec.proofs.LineCuts.{joined, cut_lines}

-- A grammar is that of some texts: each is spelled by its lines and is taken, what is taken and whole is one, and what is
-- taken begins one.
pub record IsGrammarOf {P T : Type 0} (g : Grammar P T) (IsText : T → Type 0) (text_of : T → List ℕ) (lines_of : T → List (List ℕ)) : Type 0 where
  pub spelled : (t : T) → text_of t ≡ flat_map line (lines_of t)
  pub one : (t : T) → IsText t → AllByRecursion IsOneLine (lines_of t)
  pub taken : (t : T) → IsText t → (q : P) × (run g.takes g.start (lines_of t) ≡ Some q) × (g.whole q ≡ Some t)
  pub only : (lines : List (List ℕ)) (q : P) (t : T) → run g.takes g.start lines ≡ Some q → g.whole q ≡ Some t → IsText t × (lines_of t ≡ lines)
  pub goes_on : (lines : List (List ℕ)) (q : P) → run g.takes g.start lines ≡ Some q → Begins IsText text_of lines

module _ {P L : Type 0} (takes : P → L → Option P) where
  run_step : (o : Option P) (xs ys : List L) → ((q : P) → run takes q (xs ++ ys) ≡ (run takes q xs >>= λ q. run takes q ys)) →
      (o >>= λ q. run takes q (xs ++ ys)) ≡ ((o >>= λ q. run takes q xs) >>= λ q. run takes q ys)
  run_step None xs ys e = refl
  run_step (Some q) xs ys e = e q

  pub run_append : (p : P) (xs ys : List L) → run takes p (xs ++ ys) ≡ (run takes p xs >>= λ q. run takes q ys)
  run_append p [] ys = refl
  run_append p (l ∷ xs) ys = run_step (takes p l) xs ys (λ q. run_append q xs ys)

-- ---- the outcome of reading

module _ {P T : Type 0} (takes : P → List ℕ → Option P) (whole : P → Option T) where
  abbrev Ends : P → List (List ℕ) → List ℕ → T → Type 0
  Ends p lines rest t = (q : P) × (run takes p lines ≡ Some q) × (whole q ≡ Some t) × (rest ≡ [])

  ended : (n : ℕ) (o : Option T) (t : T) → or_fault n o ≡ Ok t → o ≡ Some t
  ended n None t e = absurd cc
  ended n (Some x) t e = ap (λ x. Some x) (ok_is x t e)

  ok_step : (n : ℕ) (p : P) (l : List ℕ) (lines : List (List ℕ)) (rest : List ℕ) (t : T) (o : Option P) → takes p l ≡ o →
      or_at n o (λ q. read_from takes whole (n + 1) q lines rest) ≡ Ok t → ((q : P) → read_from takes whole (n + 1) q lines rest ≡ Ok t → Ends q lines rest t) →
      Ends p (l ∷ lines) rest t
  ok_step n p l lines rest t None is e more = absurd cc
  ok_step n p l lines rest t (Some q) is e more =
      let r = more q e in (r.0, bind_is (takes p l) (λ q. run takes q lines) q (Some r.0) is r.1, r.2, r.3)

  read_ok : (n : ℕ) (p : P) (lines : List (List ℕ)) (rest : List ℕ) (t : T) → read_from takes whole n p lines rest ≡ Ok t → Ends p lines rest t
  read_ok n p [] [] t e = (p, refl, ended n (whole p) t e, refl)
  read_ok n p [] (b ∷ rest) t e = absurd cc
  read_ok n p (l ∷ lines) rest t e = ok_step n p l lines rest t (takes p l) refl e (λ q e'. read_ok (n + 1) q lines rest t e')

  read_again : (n : ℕ) (p : P) (lines : List (List ℕ)) (q : P) (t : T) → run takes p lines ≡ Some q → whole q ≡ Some t → read_from takes whole n p lines [] ≡ Ok t
  read_again n p [] q t e w = ap (λ p. or_fault n (whole p)) (some_is p q e) ∙ ap (or_fault n) w
  read_again n p (l ∷ lines) q t e w =
      let a = bind_some (takes p l) (λ q. run takes q lines) q e in
      ap (λ o. or_at n o (λ q. read_from takes whole (n + 1) q lines [])) a.1 ∙ read_again (n + 1) a.0 lines q t a.2 w

-- ---- of some texts

module _ {P T : Type 0} {g : Grammar P T} {IsText : T → Type 0} {text_of : T → List ℕ} {lines_of : T → List (List ℕ)} (is : IsGrammarOf g IsText text_of lines_of) where
  pub text_cut : (t : T) → IsText t → lines_in (text_of t) ≡ (lines_of t, [])
  text_cut t text = ap lines_in (is.spelled t) ∙ cut_lines (lines_of t) (is.one t text)

  pub text_read : (t : T) → IsText t → read_by g (text_of t) ≡ Ok t
  text_read t text =
      let taken = is.taken t text in
      ap (λ (c : List (List ℕ) × List ℕ). read_from g.takes g.whole 1 g.start c.0 c.1) (text_cut t text)
      ∙ read_again g.takes g.whole 1 g.start (lines_of t) taken.0 t taken.1 taken.2

-- for this two of the facts are enough
pub read_only : {P T : Type 0} (g : Grammar P T) (IsText : T → Type 0) (text_of : T → List ℕ) (lines_of : T → List (List ℕ)) → ((t : T) → text_of t ≡ flat_map line (lines_of t)) →
    ((lines : List (List ℕ)) (q : P) (t : T) → run g.takes g.start lines ≡ Some q → g.whole q ≡ Some t → IsText t × (lines_of t ≡ lines)) →
    (bytes : List ℕ) (t : T) → read_by g bytes ≡ Ok t → IsText t × (bytes ≡ text_of t)
read_only g IsText text_of lines_of spelled only bytes t e =
    let lines = (lines_in bytes).0 in
    let r = read_ok g.takes g.whole 1 g.start lines (lines_in bytes).1 t e in
    let o = only lines r.0 t r.1 r.2 in
    (o.0, sym (joined bytes) ∙ ap (λ rest. flat_map line lines ++ rest) r.3 ∙ append-nil (flat_map line lines) ∙ ap (flat_map line) (sym o.1) ∙ sym (spelled t))
