-- The words of what a text spells are atoms.
use Rattle.std.proofs.Common.{◌≡◌, ℕ, ◌+◌, ◌-◌, ◌≤◌, Bool, true, false, cond, eqb, IsTrue, ◌||◌, List, [], ◌∷◌, ◌++◌, length, refl, subst, arith}
use Rattle.std.specs.List.{All, list_all, flat_map}
use Rattle.std.proofs.lemmas.List.Elements.{All-nil, All-cons}
use Rattle.rc_base.specs.Token.{Token, opening, closing, atom, odd, LexerState, between, in_atom, in_comment, is_part, is_blank, atom_front, token_with, token_at, tokens_from, state_behind}
use Rattle.rc_base.specs.Tree.{Tree, word, list, Trees, nil, cons, spelling, spellings, IsSound, AreSound}
use Rattle.rc_base.specs.Spelled.{Spelled, IsTopList, AreTopLists}
use Rattle.rc_form.specs.Form.{tree_of, trees_of}
use Rattle.rc_form.specs.SameForm.{IsOfAtoms, AreOfAtoms}
use Rattle.rc_form.specs.declared.form.Form.{Form}
use Rattle.rc_form.proofs.Tokens.{parts-atom_front}

-- one or more bytes that may stand in an atom
abbrev IsRun : List ℕ → Type 0
IsRun bytes = (1 ≤ length bytes) × IsTrue (list_all is_part bytes)

-- each atom among the tokens is such a run
abbrev AtomsAreRuns : List Token → Type 0
AtomsAreRuns [] = Unit {0}
AtomsAreRuns (opening at ∷ tokens) = AtomsAreRuns tokens
AtomsAreRuns (closing at ∷ tokens) = AtomsAreRuns tokens
AtomsAreRuns (atom at bytes ∷ tokens) = IsRun bytes × AtomsAreRuns tokens
AtomsAreRuns (odd at ∷ tokens) = AtomsAreRuns tokens

-- what holds of both outcomes of a test holds of the test
AtomsAreRuns-cond : (b : Bool) (xs ys tokens : List Token) → (b ≡ true → AtomsAreRuns (xs ++ tokens)) → AtomsAreRuns (ys ++ tokens) → AtomsAreRuns (cond b xs ys ++ tokens)
AtomsAreRuns-cond true xs ys tokens first second = first refl
AtomsAreRuns-cond false xs ys tokens first second = second

-- an atom of a text is such a run
IsRun-front : (b : ℕ) (bytes : List ℕ) → is_part b ≡ true → IsRun (b ∷ atom_front bytes)
IsRun-front b bytes part = (omega arith, rw part (parts-atom_front bytes))

-- so is each atom behind a gap, with the tokens that follow
AtomsAreRuns-token_with : (at b : ℕ) (bytes : List ℕ) (tokens : List Token) → AtomsAreRuns tokens → AtomsAreRuns (token_with at b bytes ++ tokens)
AtomsAreRuns-token_with at b bytes tokens behind =
    AtomsAreRuns-cond (is_part b) (atom at (b ∷ atom_front bytes) ∷ []) _ tokens (λ part. (IsRun-front b bytes part, behind))
    (AtomsAreRuns-cond (eqb b 40) (opening at ∷ []) _ tokens (λ _. behind)
    (AtomsAreRuns-cond (eqb b 41) (closing at ∷ []) _ tokens (λ _. behind)
    (AtomsAreRuns-cond (is_blank b || eqb b 59) [] (odd at ∷ []) tokens (λ _. behind) behind)))

-- so is each atom at any place
AtomsAreRuns-token_at : (place : LexerState) (at b : ℕ) (bytes : List ℕ) (tokens : List Token) → AtomsAreRuns tokens → AtomsAreRuns (token_at place at b bytes ++ tokens)
AtomsAreRuns-token_at in_comment at b bytes tokens behind = behind
AtomsAreRuns-token_at between at b bytes tokens behind = AtomsAreRuns-token_with at b bytes tokens behind
AtomsAreRuns-token_at in_atom at b bytes tokens behind =
    AtomsAreRuns-cond (is_part b) [] (token_with at b bytes) tokens (λ _. behind) (AtomsAreRuns-token_with at b bytes tokens behind)

-- each atom of a text is such a run
AtomsAreRuns-tokens_from : (place : LexerState) (at : ℕ) (bytes : List ℕ) → AtomsAreRuns (tokens_from place at bytes)
AtomsAreRuns-tokens_from place at [] = tt
AtomsAreRuns-tokens_from place at (b ∷ bytes) =
    AtomsAreRuns-token_at place at b bytes (tokens_from (state_behind place b) (at + 1) bytes) (AtomsAreRuns-tokens_from (state_behind place b) (at + 1) bytes)

-- what holds of all the tokens holds of the first and of the last of them
AtomsAreRuns-parts : (front back : List Token) → AtomsAreRuns (front ++ back) → AtomsAreRuns front × AtomsAreRuns back
AtomsAreRuns-parts [] back runs = (tt, runs)
AtomsAreRuns-parts (opening at ∷ front) back runs = AtomsAreRuns-parts front back runs
AtomsAreRuns-parts (closing at ∷ front) back runs = AtomsAreRuns-parts front back runs
AtomsAreRuns-parts (atom at bytes ∷ front) back runs = let rest = AtomsAreRuns-parts front back runs.1 in ((runs.0, rest.0), rest.1)
AtomsAreRuns-parts (odd at ∷ front) back runs = AtomsAreRuns-parts front back runs

mutual
  -- the words of a tree are those of its tokens
  IsOfAtoms-spelled : (room : ℕ) (tree : Tree) → IsSound room tree → AtomsAreRuns (spelling tree) → IsOfAtoms tree
  IsOfAtoms-spelled room (word bytes from to) sound runs = record { some = runs.0.0; short = sound.0; parts = runs.0.1 }
  IsOfAtoms-spelled room (list parts from to) sound runs =
      AreOfAtoms-spelled (room - 1) parts sound.2 (AtomsAreRuns-parts (spellings parts) (closing (to - 1) ∷ []) runs).0

  -- so are those of several trees
  AreOfAtoms-spelled : (room : ℕ) (trees : Trees) → AreSound room trees → AtomsAreRuns (spellings trees) → AreOfAtoms trees
  AreOfAtoms-spelled room nil sound runs = tt
  AreOfAtoms-spelled room (cons tree trees) sound runs =
      let both = AtomsAreRuns-parts (spelling tree) (spellings trees) runs in
      (IsOfAtoms-spelled room tree sound.0 both.0, AreOfAtoms-spelled room trees sound.1 both.1)

-- so are those of a top-level list
IsOfAtoms-top : (tree : Tree) → IsTopList tree → AtomsAreRuns (spelling tree) → IsOfAtoms tree
IsOfAtoms-top (word bytes from to) is_top runs = absurd is_top
IsOfAtoms-top (list parts from to) is_top runs = IsOfAtoms-spelled 64 (list parts from to) is_top runs

-- each word of the forms is an atom
All-of_atoms : (forms : List Form) → AreTopLists (trees_of forms) → AtomsAreRuns (flat_map spelling (trees_of forms)) → All (λ form. IsOfAtoms (tree_of form)) forms
All-of_atoms [] are_top runs = All-nil (λ form. IsOfAtoms (tree_of form))
All-of_atoms (form ∷ forms) are_top runs =
    let both = AtomsAreRuns-parts (spelling (tree_of form)) (flat_map spelling (trees_of forms)) runs in
    All-cons (λ form. IsOfAtoms (tree_of form)) form forms (IsOfAtoms-top (tree_of form) are_top.0 both.0) (All-of_atoms forms are_top.1 both.1)

-- each word of the forms that a text spells is an atom
pub All-of_atoms-spelled : (text : List ℕ) (want : ℕ) (forms : List Form) (rest : ℕ) → Spelled text want (trees_of forms) rest → All (λ form. IsOfAtoms (tree_of form)) forms
All-of_atoms-spelled text want forms rest spelled =
    All-of_atoms forms spelled.sound (AtomsAreRuns-parts (flat_map spelling (trees_of forms)) spelled.later (subst AtomsAreRuns spelled.spells (AtomsAreRuns-tokens_from between 0 text))).0

-- each word of the first tree that a text spells is an atom
pub of_atoms-first : (text : List ℕ) (want : ℕ) (tree : Tree) (trees : List Tree) (rest : ℕ) → Spelled text want (tree ∷ trees) rest → IsOfAtoms tree
of_atoms-first text want tree trees rest spelled =
    let runs = (AtomsAreRuns-parts (flat_map spelling (tree ∷ trees)) spelled.later (subst AtomsAreRuns spelled.spells (AtomsAreRuns-tokens_from between 0 text))).0 in
    IsOfAtoms-top tree spelled.sound.0 (AtomsAreRuns-parts (spelling tree) (flat_map spelling trees) runs).0
