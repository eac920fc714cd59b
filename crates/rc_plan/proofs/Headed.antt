-- Lists that begin with a word, and those that don't.
use Prim.Native.String.{String}
use Rattle.std.proofs.Common.{◌≡◌, ℕ, Bool, true, false, cond, List, [], ◌∷◌, refl, sym, ap, subst, ◌∙◌}
use Rattle.std.specs.Prelude.{codes}
use Rattle.std.proofs.lemmas.Slice.Eq.{bytes_eq-Decides}
use Rattle.rc_base.specs.Tree.{Tree, word, list, Trees, nil, cons, start_of}
use Rattle.rc_sheet_spec.specs.Rows.{◌▸◌, Row, Atom}
use Rattle.rc_play_spec.specs.Faults.{is_word, headed, fault, strategy, each, row, script_number, any_number, rounds}
use Rattle.rc_play_spec.specs.declared.plan_fault.PlanKind.TheVariants.{Shape}
use Rattle.rc_play_spec.specs.declared.plan_fault.PlanFault.{PlanFault}
use Rattle.rc_plan.specs.Reads.{IsBehind, IsNotHeaded}

pub word_is : (text : List ℕ) (tree : Tree) → is_word text tree ≡ true → (from : ℕ) × (to : ℕ) × (tree ≡ word text from to)
word_is text (word bytes from to) is = (from, to, ap (λ b. word b from to) ((bytes_eq-Decides bytes text).0 is))
word_is text (list parts from to) is = absurd cc

-- a list with this word at its head
pub is_behind : (text : List ℕ) (head : Tree) (parts : Trees) (form : Tree) (from to : ℕ) → form ≡ list (cons head parts) from to
    → is_word text head ≡ true → IsBehind text parts form
is_behind text head parts form from to is at_head =
    let found = word_is text head at_head in
    record {
      word_from = found.0;
      word_to = found.1;
      to = to;
      is = is ∙ ap (λ h. list (cons h parts) from to) found.2 ∙ ap (λ at. list (cons (word text found.0 found.1) parts) at to) (sym (ap start_of is));
    }

-- the faults of a list with the word are those behind it
pub headed_is : (text : List ℕ) (parts : Trees) (form : Tree) (behind : ℕ → Trees → List PlanFault) → IsBehind text parts form
    → headed text behind form ≡ behind (start_of form) parts
headed_is text parts form behind at =
    ap (headed text behind) at.is
    ∙ ap (λ b. cond b (behind (start_of form) parts) (fault Shape (start_of form))) ((bytes_eq-Decides text text).1 refl)

-- what stands behind the word stands in the list
pub row_is : (text : String) (parts : Trees) (form : Tree) (Parts : Trees → Type 0) → IsBehind (codes text) parts form → Parts parts
    → Row (Atom text ▸ Parts) form
row_is text parts form Parts at stand = subst (Row (Atom text ▸ Parts)) (sym at.is) (refl, stand)

-- another list is at fault itself
pub unheaded : (text : List ℕ) (form : Tree) (behind : ℕ → Trees → List PlanFault) → IsNotHeaded text form
    → headed text behind form ≡ fault Shape (start_of form)
unheaded text (word bytes from to) behind not = refl
unheaded text (list nil from to) behind not = refl
unheaded text (list (cons head parts) from to) behind not = by_test (is_word text head) refl where
  by_test : (b : Bool) → is_word text head ≡ b → cond b (behind from parts) (fault Shape from) ≡ fault Shape from
  by_test true is = absurd (not parts (is_behind text head parts (list (cons head parts) from to) from to refl is))
  by_test false is = refl

-- the strategies by their words
pub strategy_script : (parts : Trees) (form : Tree) → IsBehind (codes "script") parts form → strategy form ≡ each script_number parts
strategy_script parts form at = ap strategy at.is

pub no_strategy : (form : Tree) → IsNotHeaded (codes "script") form → IsNotHeaded (codes "random") form → IsNotHeaded (codes "rollout") form
    → strategy form ≡ fault Shape (start_of form)
no_strategy (word bytes from to) script random rollout = refl
no_strategy (list nil from to) script random rollout = refl
no_strategy (list (cons head parts) from to) script random rollout =
    by_tests (is_word (codes "script") head) (is_word (codes "random") head) (is_word (codes "rollout") head) refl refl refl where
      by_tests : (a b c : Bool) → is_word (codes "script") head ≡ a → is_word (codes "random") head ≡ b → is_word (codes "rollout") head ≡ c
          → cond a (each script_number parts) (cond b (row (any_number ∷ []) from parts) (cond c (row (rounds ∷ any_number ∷ []) from parts) (fault Shape from)))
          ≡ fault Shape from
      by_tests true b c is-a is-b is-c = absurd (script parts (is_behind _ head parts (list (cons head parts) from to) from to refl is-a))
      by_tests false true c is-a is-b is-c = absurd (random parts (is_behind _ head parts (list (cons head parts) from to) from to refl is-b))
      by_tests false false true is-a is-b is-c = absurd (rollout parts (is_behind _ head parts (list (cons head parts) from to) from to refl is-c))
      by_tests false false false is-a is-b is-c = refl
