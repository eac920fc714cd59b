-- Answers that are joined.
use Rattle.std.proofs.Common.{◌≡◌, ℕ, ◌+◌, ◌<◌, ◌≤◌, ◌&&◌, ◌||◌, not, cond, Bool, true, false, List, [], ◌∷◌, ◌++◌, length, map, take, drop, get_or, refl, sym, ap, subst, ◌∙◌, append_assoc, append-nil}
use mathlib.Core.Bool.{beq}
use Rattle.std.proofs.lemmas.List.{drop_all, length-append, map-append}
use Rattle.std.proofs.lemmas.List.Elements.{All-append, All-cons, All-nil}
use Rattle.std.proofs.lemmas.Bool.{or_right, and_right}
use Rattle.rc_sheet_spec.specs.Sheet.{Test as PureTest}
use Rattle.rc_play_spec.specs.Scene.{CardValue, id_of}
use Rattle.rc_play_spec.specs.Value.{Scene as PureScene, Bind as PureBind, card_bound, player_bound, test_value, tests_value}
use Rattle.rc_play_spec.specs.Menu.{Item as PureItem}
use Rattle.rc_flow.specs.Reads.{reads_test}
use Rattle.rc_flow.proofs.Unread.{unread_test}
use Rattle.rc_rules.proofs.Elements.{drop_here}
use Rattle.rc_menu.specs.declared.asks.SoughtCard.{SoughtCard}
use Rattle.rc_menu.specs.declared.asks.SoughtCard.TheVariants.{Worth, Whole, Value, CardTest}
use Rattle.rc_ast.specs.declared.expressions.Test.{Test}
use Rattle.rc_ast.specs.Expressions.{test_seen, tests_seen}
use Rattle.rc_value.proofs.Steps.{values_here}
use Rattle.rc_menu.specs.Asks.{ask_value, asks_value, met_value, ask_depth, AllFit, joined, told_of, IsJoined}
use Rattle.rc_menu.specs.Known.{IsKnownAt}
use Rattle.rc_menu.specs.Menu.{extended}

-- an answer among others settles all, or goes
joined_with : (any v : Bool) (xs more : List Bool) → joined any (xs ++ v ∷ more) ≡ cond (beq v any) any (joined any (xs ++ more))
joined_with true true [] more = refl
joined_with true true (x ∷ xs) more = ap (λ b. x || b) (joined_with true true xs more) ∙ or_right x true refl
joined_with true false [] more = refl
joined_with true false (x ∷ xs) more = ap (λ b. x || b) (joined_with true false xs more)
joined_with false false [] more = refl
joined_with false false (x ∷ xs) more = ap (λ b. x && b) (joined_with false false xs more) ∙ and_right x false refl
joined_with false true [] more = refl
joined_with false true (x ∷ xs) more = ap (λ b. x && b) (joined_with false true xs more)

pub joined_one : (any b : Bool) → joined any (b ∷ []) ≡ b
joined_one true true = refl
joined_one true false = refl
joined_one false true = refl
joined_one false false = refl

pub joined_none : (any : Bool) → not any ≡ joined any []
joined_none true = refl
joined_none false = refl

-- answers one by one
module _ {X : Type 0} (f : X → Bool) (any : Bool) where
  pub joined_stop : (xs : List X) (i : ℕ) (x : X) (b : Bool) (whole : Bool) → i < length xs → x ≡ get_or xs i x → b ≡ f x → beq b any ≡ true →
      joined any (map f (drop i xs)) ≡ whole → any ≡ whole
  joined_stop xs i x b whole lt is value stops told =
      ap (λ e. cond e any (joined any (map f (drop (i + 1) xs)))) (sym stops)
      ∙ sym (joined_with any b [] (map f (drop (i + 1) xs)))
      ∙ ap (λ v. joined any (v ∷ map f (drop (i + 1) xs))) value
      ∙ ap (λ ys. joined any (map f ys)) (sym (drop_here xs i x lt is)) ∙ told

  pub joined_on : (xs : List X) (i : ℕ) (x : X) (b : Bool) (whole : Bool) → i < length xs → x ≡ get_or xs i x → b ≡ f x → beq b any ≡ false →
      joined any (map f (drop i xs)) ≡ whole → joined any (map f (drop (i + 1) xs)) ≡ whole
  joined_on xs i x b whole lt is value goes told =
      ap (λ e. cond e any (joined any (map f (drop (i + 1) xs)))) (sym goes)
      ∙ sym (joined_with any b [] (map f (drop (i + 1) xs)))
      ∙ ap (λ v. joined any (v ∷ map f (drop (i + 1) xs))) value
      ∙ ap (λ ys. joined any (map f ys)) (sym (drop_here xs i x lt is)) ∙ told

  pub joined_end : (xs : List X) (i : ℕ) (whole : Bool) → length xs ≤ i → joined any (map f (drop i xs)) ≡ whole → not any ≡ whole
  joined_end xs i whole le told = joined_none any ∙ ap (λ ys. joined any (map f ys)) (sym (drop_all i xs le)) ∙ told

-- parts of a guard
module _ (s : PureScene CardValue) (vars : List (PureBind CardValue)) where
  pub all_fit_none : AllFit vars []
  all_fit_none = All-nil (λ ask. length vars + ask_depth ask ≤ 5)

  pub all_fit_more : (asks : List SoughtCard) (ask : SoughtCard) → AllFit vars asks →
      length vars + ask_depth ask ≤ 5 → AllFit vars (asks ++ ask ∷ [])
  all_fit_more asks ask h k =
      All-append (λ a. length vars + ask_depth a ≤ 5) asks (ask ∷ []) h (All-cons (λ a. length vars + ask_depth a ≤ 5) ask [] k all_fit_none)

  -- a test that is asked
  pub joined_asked : (t : PureTest) (any : Bool) (old new : List SoughtCard) (ask : SoughtCard) →
      new ≡ old ++ ask ∷ [] →
      ((c : CardValue) → told_of s vars t c ≡ ask_value s vars c ask) → IsJoined s vars t any false old new
  joined_asked t any old new ask grown is = λ c more.
      ap (λ b. joined any (map (ask_value s vars c) old ++ b ∷ more)) (is c)
      ∙ ap (joined any) (sym (append_assoc (map (ask_value s vars c) old) (ask_value s vars c ask ∷ []) more))
      ∙ ap (λ bs. joined any (bs ++ more)) (sym (map-append (ask_value s vars c) old (ask ∷ [])))
      ∙ ap (λ xs. joined any (map (ask_value s vars c) xs ++ more)) (sym grown)

  -- one that is the same for all cards
  joined_same : (t : PureTest) (any b settled : Bool) (old : List SoughtCard) → ((c : CardValue) → told_of s vars t c ≡ b) → settled ≡ beq b any →
      IsJoined s vars t any settled old old
  joined_same t any b settled old same so = λ c more.
      ap (λ x. joined any (map (ask_value s vars c) old ++ x ∷ more)) (same c)
      ∙ joined_with any b (map (ask_value s vars c) old) more
      ∙ ap (λ x. cond x any (joined any (map (ask_value s vars c) old ++ more))) (sym so)

  pub joined_known : (t : PureTest) (any b settled : Bool) (old : List SoughtCard) (count : ℕ) → count ≡ length vars + 1 → IsKnownAt s count t b →
      settled ≡ beq b any → IsJoined s vars t any settled old old
  joined_known t any b settled old count is known so =
      joined_same t any b settled old (λ c. known (vars ++ card_bound c ∷ []) (length-append vars (card_bound c ∷ []) ∙ sym is)) so

  -- one that doesn't read the variable
  pub joined_once : (t : PureTest) (any b settled : Bool) (old : List SoughtCard) (inside : List (PureBind CardValue)) → inside ≡ vars ++ player_bound 0 ∷ [] →
      reads_test (length vars) t ≡ false → b ≡ test_value s inside t → settled ≡ beq b any → IsJoined s vars t any settled old old
  joined_once t any b settled old inside in' unread is so =
      joined_same t any b settled old (λ c. unread_test s vars (card_bound c) (player_bound 0) [] t unread ∙ ap (λ v. test_value s v t) (sym in') ∙ sym is) so

  -- a single one
  pub joined_single : (t : PureTest) (settled : Bool) (old new : List SoughtCard) → old ≡ [] → IsJoined s vars t true settled old new →
      (c : CardValue) → told_of s vars t c ≡ cond settled true (joined true (map (ask_value s vars c) new))
  joined_single t settled old new none h = λ c.
      sym (joined_one true (told_of s vars t c))
      ∙ ap (λ xs. joined true (map (ask_value s vars c) xs ++ told_of s vars t c ∷ [])) (sym none)
      ∙ h c [] ∙ ap (λ bs. cond settled true (joined true bs)) (append-nil (map (ask_value s vars c) new))

  -- tests one by one
  module _ (ts : List Test) (any : Bool) where
    abbrev pub left_after : List SoughtCard → ℕ → CardValue → Bool
    left_after asks i c = joined any (map (ask_value s vars c) asks ++ tests_value s (vars ++ card_bound c ∷ []) (tests_seen (drop i ts)))

    abbrev pub whole_of : CardValue → Bool
    whole_of c = joined any (tests_value s (vars ++ card_bound c ∷ []) (tests_seen ts))

    settle_here : (i : ℕ) (t : Test) (settled : Bool) (old new : List SoughtCard) → i < length ts → t ≡ get_or ts i t →
        IsJoined s vars (test_seen t) any settled old new → ((c : CardValue) → left_after old i c ≡ whole_of c) →
        (c : CardValue) → cond settled any (left_after new (i + 1) c) ≡ whole_of c
    settle_here i t settled old new lt is h told = λ c.
        sym (h c (tests_value s (vars ++ card_bound c ∷ []) (tests_seen (drop (i + 1) ts))))
        ∙ ap (λ bs. joined any (map (ask_value s vars c) old ++ bs)) (sym (values_here s (vars ++ card_bound c ∷ []) ts i t lt is)) ∙ told c

    pub settle_on : (i : ℕ) (t : Test) (settled : Bool) (old new : List SoughtCard) → i < length ts →
        t ≡ get_or ts i t →
        IsJoined s vars (test_seen t) any settled old new → ((c : CardValue) → left_after old i c ≡ whole_of c) → settled ≡ false →
        (c : CardValue) → left_after new (i + 1) c ≡ whole_of c
    settle_on i t settled old new lt is h told not' = λ c.
        ap (λ b. cond b any (left_after new (i + 1) c)) (sym not') ∙ settle_here i t settled old new lt is h told c

    pub settle_stop : (i : ℕ) (t : Test) (settled : Bool) (old new : List SoughtCard) → i < length ts →
        t ≡ get_or ts i t →
        IsJoined s vars (test_seen t) any settled old new → ((c : CardValue) → left_after old i c ≡ whole_of c) → settled ≡ true →
        (c : CardValue) → whole_of c ≡ any
    settle_stop i t settled old new lt is h told yes' = λ c.
        sym (ap (λ b. cond b any (left_after new (i + 1) c)) (sym yes') ∙ settle_here i t settled old new lt is h told c)

    pub settle_end : (i : ℕ) (asks : List SoughtCard) → length ts ≤ i → ((c : CardValue) →
        left_after asks i c ≡ whole_of c) →
        (c : CardValue) → whole_of c ≡ joined any (map (ask_value s vars c) asks)
    settle_end i asks le told = λ c.
        sym (told c)
        ∙ ap (λ xs. joined any (map (ask_value s vars c) asks ++ tests_value s (vars ++ card_bound c ∷ []) (tests_seen xs))) (drop_all i ts le)
        ∙ ap (joined any) (append-nil (map (ask_value s vars c) asks))

  pub fit_here : (asks : List SoughtCard) (i : ℕ) (ask : SoughtCard) → AllFit vars asks → i < length asks → ask ≡ get_or asks i ask → length vars + ask_depth ask ≤ 5
  fit_here asks i ask h lt is = subst (λ a. length vars + ask_depth a ≤ 5) (sym is) (h i ask lt)

-- an item where it passes
pub grown_if : (done done' : List PureItem) (item : PureItem) (b v : Bool) → b ≡ v →
    done' ≡ take 256 (done ++ cond b (extended item [] ∷ []) []) → done' ≡ take 256 (done ++ map (extended item) (cond v ([] ∷ []) []))
grown_if done done' item true true e grown = grown
grown_if done done' item false false e grown = grown
grown_if done done' item true false e grown = absurd (cc)
grown_if done done' item false true e grown = absurd (cc)

-- what is known of a guard's parts
pub told_settled : (told settled any rest : Bool) → not settled ≡ false → told ≡ cond settled any rest → told ≡ any
told_settled told true any rest is e = e
told_settled told false any rest is e = absurd (cc)

pub told_asked : (told settled any rest : Bool) → not settled ≡ true → told ≡ cond settled any rest → told ≡ rest
told_asked told true any rest is e = absurd (cc)
told_asked told false any rest is e = e

-- by the row of all cards' values
module _ (s : PureScene CardValue) (vars : List (PureBind CardValue)) where
  pub met_here : (c : CardValue) (ask : SoughtCard) → asks_value ask ≡ true → met_value (id_of c) ask ≡ ask_value s vars c ask
  met_here c (Value value row) by_row = refl
  met_here c (CardTest equal value row) by_row = refl
  met_here c (Worth w) by_row = absurd (cc)
  met_here c (Whole t) by_row = absurd (cc)

  pub met_depth : (ask : SoughtCard) → asks_value ask ≡ true → ask_depth ask ≡ 0
  met_depth (Value value row) by_row = refl
  met_depth (CardTest equal value row) by_row = refl
  met_depth (Worth w) by_row = absurd (cc)
  met_depth (Whole t) by_row = absurd (cc)
