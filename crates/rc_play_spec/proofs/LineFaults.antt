-- A fault is at the first line that no text goes on with.
use Rattle.std.proofs.Common.{◌≡◌, ℕ, ◌+◌, ◌-◌, ◌<◌, ◌≤◌, List, [], ◌∷◌, ◌++◌, flat_map, length, take, drop, Option, Some, None, Result, Ok, Err, refl, sym, ap, ◌∙◌, subst, append_assoc, arith, ◌⊎◌, inl, inr}
use Rattle.std.specs.List.{AllByRecursion}
use Rattle.std.proofs.lemmas.Bool.{cases_lt}
use Rattle.std.proofs.lemmas.List.{length-append, take_at, take-take, take-append-drop}
use Rattle.std.proofs.lemmas.List.Concat.{flat_map-append}
use Rattle.rc_play_spec.specs.Fields.{◌>>=◌}
use Rattle.rc_play_spec.specs.LineGrammar.{lines_in, run, or_fault, or_at, read_from, Grammar, read_by, Begins, IsFirstFault}
use Rattle.rc_play_spec.specs.HouseText.{IsOneLine}
use Rattle.rc_play_spec.proofs.FieldLemmas.{bind_is}
use Rattle.rc_play_spec.proofs.LineCuts.{with_end_byte, lines_one, joined_cut}
use Rattle.rc_play_spec.proofs.LineGrammars.{IsGrammarOf, run_append, text_cut, text_read, read_only}

-- ---- where reading stops

module _ {P T : Type 0} (takes : P → List ℕ → Option P) (whole : P → Option T) where
  abbrev err : ℕ → Result T ℕ
  err n = Err n

  err_is : (m n : ℕ) → err m ≡ err n → m ≡ n
  err_is m n e = cc

  -- behind some lines, and what comes next isn't taken
  abbrev Refused : P → List (List ℕ) → Type 0
  Refused q [] = Unit {0}
  Refused q (l ∷ lines) = takes q l ≡ None

  record Fails (n : ℕ) (p : P) (lines : List (List ℕ)) (m : ℕ) : Type 0 where
    front : List (List ℕ)
    back : List (List ℕ)
    place : P
    parts : lines ≡ front ++ back
    taken : run takes p front ≡ Some place
    number : m ≡ n + length front
    refused : Refused place back

  end_fault : (n : ℕ) (o : Option T) (m : ℕ) → or_fault n o ≡ Err m → m ≡ n
  end_fault n None m e = sym (err_is n m e)
  end_fault n (Some t) m e = absurd cc

  fault_step : (n : ℕ) (p : P) (l : List ℕ) (lines : List (List ℕ)) (rest : List ℕ) (m : ℕ) (o : Option P) → takes p l ≡ o →
      or_at n o (λ q. read_from takes whole (n + 1) q lines rest) ≡ Err m → ((q : P) → read_from takes whole (n + 1) q lines rest ≡ Err m → Fails (n + 1) q lines m) →
      Fails n p (l ∷ lines) m
  fault_step n p l lines rest m None is e more =
      record { front = []; back = l ∷ lines; place = p; parts = refl; taken = refl; number = omega (arith, err_is n m e); refused = is }
  fault_step n p l lines rest m (Some q) is e more =
      let r = more q e in
      record {
        front = l ∷ r.front;
        back = r.back;
        place = r.place;
        parts = ap (λ xs. l ∷ xs) r.parts;
        taken = bind_is (takes p l) (λ q. run takes q r.front) q (Some r.place) is r.taken;
        number = omega (arith, r.number);
        refused = r.refused;
      }

  read_fault : (n : ℕ) (p : P) (lines : List (List ℕ)) (rest : List ℕ) (m : ℕ) → read_from takes whole n p lines rest ≡ Err m → Fails n p lines m
  read_fault n p [] [] m e = record { front = []; back = []; place = p; parts = refl; taken = refl; number = omega (arith, end_fault n (whole p) m e); refused = tt }
  read_fault n p [] (b ∷ rest) m e = record { front = []; back = []; place = p; parts = refl; taken = refl; number = omega (arith, err_is n m e); refused = tt }
  read_fault n p (l ∷ lines) rest m e = fault_step n p l lines rest m (takes p l) refl e (λ q e'. read_fault (n + 1) q lines rest m e')

-- ---- fewer lines begin a text too

module _ {T : Type 0} (IsText : T → Type 0) (text_of : T → List ℕ) where
  pub fewer : (lines more : List (List ℕ)) → Begins IsText text_of (lines ++ more) → Begins IsText text_of lines
  fewer lines more b = (
    b.0,
    flat_map with_end_byte more ++ b.1,
    b.2,
    b.3 ∙ ap (λ t. t ++ b.1) (flat_map-append with_end_byte lines more) ∙ append_assoc (flat_map with_end_byte lines) (flat_map with_end_byte more) b.1,
  )

  fewer_begin : (lines : List (List ℕ)) (a b : ℕ) → a ≤ b → Begins IsText text_of (take b lines) → Begins IsText text_of (take a lines)
  fewer_begin lines a b le begins =
      fewer (take a lines) (drop a (take b lines))
      (subst (Begins IsText text_of) (sym (take-append-drop a (take b lines)) ∙ ap (λ t. t ++ drop a (take b lines)) (take-take a b lines le)) begins)

all_front : {A : Type 0} (Q : A → Type 0) (xs ys : List A) → AllByRecursion Q (xs ++ ys) → AllByRecursion Q xs
all_front Q [] ys all = tt
all_front Q (x ∷ xs) ys all = (all.0, all_front Q xs ys all.1)

-- ---- of some texts

module _ {P T : Type 0} {g : Grammar P T} {IsText : T → Type 0} {text_of : T → List ℕ} {lines_of : T → List (List ℕ)} (is : IsGrammarOf g IsText text_of lines_of) where
  -- the lines of some text begin with these
  abbrev LinesBegin : List (List ℕ) → Type 0
  LinesBegin lines = (t : T) × (more : List (List ℕ)) × IsText t × (lines_of t ≡ lines ++ more)

  lines_begin : (lines : List (List ℕ)) → AllByRecursion IsOneLine lines → Begins IsText text_of lines → LinesBegin lines
  lines_begin lines one b =
      let cut : lines_in (text_of b.0) ≡ (lines ++ (lines_in b.1).0, (lines_in b.1).1) = ap lines_in b.3 ∙ joined_cut lines b.1 one in
      (b.0, (lines_in b.1).0, b.2, ap (λ (c : List (List ℕ) × List ℕ). c.0) (sym (text_cut is b.0 b.2) ∙ cut))

  first_lines : (bytes : List ℕ) (n : ℕ) → Begins IsText text_of (take n (lines_in bytes).0) → LinesBegin (take n (lines_in bytes).0)
  first_lines bytes n b =
      let lines = (lines_in bytes).0 in
      lines_begin (take n lines)
      (all_front IsOneLine (take n lines) (drop n lines) (subst (AllByRecursion IsOneLine) (sym (take-append-drop n lines)) (lines_one bytes))) b

  -- none begin with lines of which one isn't taken
  none_begins : (front : List (List ℕ)) (l : List ℕ) (q : P) → run g.takes g.start front ≡ Some q → g.takes q l ≡ None → LinesBegin (front ++ l ∷ []) → ⊥
  none_begins front l q taken refused b =
      let whole = is.taken b.0 b.2 in
      let cut : run g.takes g.start ((front ++ l ∷ []) ++ b.1) ≡ None =
      ap (run g.takes g.start) (append_assoc front (l ∷ []) b.1) ∙ run_append g.takes g.start front (l ∷ b.1)
      ∙ bind_is (run g.takes g.start front) (λ q. run g.takes q (l ∷ b.1)) q None taken (ap (λ o. o >>= λ q. run g.takes q b.1) refused) in
      let same : run g.takes g.start (lines_of b.0) ≡ None = ap (run g.takes g.start) b.3 ∙ cut in
      let other = whole.1 in
      absurd cc

  abbrev MoreFails : List (List ℕ) → List (List ℕ) → Type 0
  MoreFails front back = length front + 1 ≤ length (front ++ back) → LinesBegin (take (length front + 1) (front ++ back)) → ⊥

  more_fails : (front back : List (List ℕ)) (q : P) → run g.takes g.start front ≡ Some q → Refused g.takes g.whole q back → MoreFails front back
  more_fails front [] q taken refused le b = absurd (omega (arith, le, length-append front []))
  more_fails front (l ∷ back) q taken refused le b =
      none_begins front l q taken refused
      (subst LinesBegin
      (ap (take (length front + 1)) (sym (append_assoc front (l ∷ []) back)) ∙ take_at (front ++ l ∷ []) back (length front + 1) (length-append front (l ∷ [])))
      b)

  abbrev FailsAt : List (List ℕ) → ℕ → Type 0
  FailsAt lines n =
      Begins IsText text_of (take (n - 1) lines) × (1 ≤ n) × (n ≤ length lines + 1) × (n ≤ length lines → LinesBegin (take n lines) → ⊥)

  pub fault_first : (bytes : List ℕ) (n : ℕ) → read_by g bytes ≡ Err n → IsFirstFault IsText text_of bytes n
  fault_first bytes n e =
      let f = read_fault g.takes g.whole 1 g.start (lines_in bytes).0 (lines_in bytes).1 n e in
      let at : FailsAt (f.front ++ f.back) (length f.front + 1) = (
        subst (Begins IsText text_of) (sym (ap (λ k. take k (f.front ++ f.back)) (omega arith) ∙ take_at f.front f.back (length f.front) refl)) (is.goes_on f.front f.place f.taken),
        omega arith,
        omega (arith, length-append f.front f.back),
        more_fails f.front f.back f.place f.taken f.refused,
      ) in
      let same : length f.front + 1 ≡ n = omega (arith, f.number) in
      let at' : FailsAt (lines_in bytes).0 n = subst (FailsAt (lines_in bytes).0) same (subst (λ lines. FailsAt lines (length f.front + 1)) (sym f.parts) at) in
      record {
        before = at'.0;
        there = (at'.1, at'.2);
        fault = λ le b. at'.3 le (first_lines bytes n b);
        none = λ t text e'. let r = ap (read_by g) e' ∙ text_read is t text in absurd cc;
      }

  -- ---- one fault alone is first

  -- no later line is a first fault
  not_later : (bytes : List ℕ) (m n : ℕ) → IsFirstFault IsText text_of bytes m → IsFirstFault IsText text_of bytes n → m < n → ⊥
  not_later bytes m n f h lt =
      f.fault (omega (arith, lt, h.there.1)) (fewer_begin IsText text_of (lines_in bytes).0 m (n - 1) (omega (arith, lt)) h.before)

  same_fault : (bytes : List ℕ) (m n : ℕ) → IsFirstFault IsText text_of bytes m → IsFirstFault IsText text_of bytes n → (m < n) ⊎ (n ≤ m) → (n < m) ⊎ (m ≤ n) → m ≡ n
  same_fault bytes m n f h (inl lt) other = absurd (not_later bytes m n f h lt)
  same_fault bytes m n f h (inr le) (inl lt) = absurd (not_later bytes n m h f lt)
  same_fault bytes m n f h (inr le) (inr le') = omega arith

  fault_case : (bytes : List ℕ) (n : ℕ) (r : Result T ℕ) → read_by g bytes ≡ r → IsFirstFault IsText text_of bytes n → r ≡ Err n
  fault_case bytes n (Ok t) e f = let text = read_only g IsText text_of lines_of is.spelled is.only bytes t e in absurd (f.none t text.0 text.1)
  fault_case bytes n (Err m) e f = ap (λ k. Err k) (same_fault bytes m n (fault_first bytes m e) f (cases_lt m n) (cases_lt n m))

  pub fault_only : (bytes : List ℕ) (n : ℕ) → IsFirstFault IsText text_of bytes n → read_by g bytes ≡ Err n
  fault_only bytes n f = fault_case bytes n (read_by g bytes) refl f
