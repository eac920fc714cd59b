-- The bytes that are printed for a form spell it again.
use Rattle.std.proofs.Common.{◌≡◌, ℕ, suc, ◌+◌, ◌-◌, ◌<◌, Bool, true, false, IsTrue, ◌&&◌, List, [], ◌∷◌, ◌++◌, length, drop, append_assoc, length-append, inl, refl, sym, ap, subst, ◌∙◌, arith}
use Rattle.std.specs.List.{list_all}
use Rattle.std.proofs.lemmas.List.{append-nil}
use Rattle.std.proofs.Math.Seq.{drop-append_seam}
use Rattle.rc_base.specs.Token.{Token, opening, closing, atom, tokens, tokens_from, between, in_atom, is_part, atom_front}
use Rattle.rc_base.specs.Tree.{Tree, word, list, Trees, nil, cons, spelling, spellings, IsSound, AreSound, printed, printed_parts, printed_behind, IsOpenAtMost, AreOpenAtMost}
use Rattle.rc_base.specs.Spelled.{Spelled, IsTopList}
use Rattle.rc_form.specs.Form.{IsPrintable}
use Rattle.rc_form.specs.SameForm.{SameForm, SameForms, SpellsAgain, IsAtom, IsOfAtoms, AreOfAtoms}
use Rattle.rc_form.proofs.Tokens.{tokens_from-in_atom}
use Rattle.rc_form.proofs.SpellingLaws.{read-Spelled, Spelled-unique}

-- the tree, with the offsets of its bytes where they are printed from this offset on
abbrev mutual
  placed : ℕ → Tree → Tree
  placed at (word bytes from to) = word bytes at (at + length bytes)
  placed at (list parts from to) = list (placed_parts (at + 1) parts) at (at + length (printed (list parts from to)))

  placed_parts : ℕ → Trees → Trees
  placed_parts at nil = nil
  placed_parts at (cons tree trees) = cons (placed at tree) (placed_behind (at + length (printed tree)) trees)

  -- parts that follow another
  placed_behind : ℕ → Trees → Trees
  placed_behind at nil = nil
  placed_behind at (cons tree trees) = cons (placed (at + 1) tree) (placed_behind (at + 1 + length (printed tree)) trees)

-- both sides of a true `&&` are true
both_true : (a b : Bool) → IsTrue (a && b) → (a ≡ true) × IsTrue b
both_true true b holds = (refl, holds)
both_true false b holds = (holds, cc)

-- where no part follows, the front of parts is the whole word
atom_front-word : (bytes rest : List ℕ) → IsTrue (list_all is_part bytes) → atom_front rest ≡ [] → atom_front (bytes ++ rest) ≡ bytes
atom_front-word [] rest parts apart = apart
atom_front-word (b ∷ bytes) rest parts apart =
    let first = both_true (is_part b) (list_all is_part bytes) parts in
    let part = first.0 in
    rw part (ap (λ front. b ∷ front) (atom_front-word bytes rest first.1 apart))

-- a word is one token
tokens_from-word : (at : ℕ) (bytes rest : List ℕ) → IsAtom bytes → atom_front rest ≡ [] → tokens_from between at (bytes ++ rest) ≡ atom at bytes ∷ tokens_from between (at + length bytes) rest
tokens_from-word at [] rest is_atom apart = let some = is_atom.some in absurd (omega arith)
tokens_from-word at (b ∷ bytes) rest is_atom apart =
    let first = both_true (is_part b) (list_all is_part bytes) is_atom.parts in
    let part = first.0 in
    let front : atom_front (bytes ++ rest) ≡ bytes = atom_front-word bytes rest first.1 apart in
    let here : tokens_from between at (b ∷ bytes ++ rest) ≡ atom at (b ∷ atom_front (bytes ++ rest)) ∷ tokens_from in_atom (at + 1) (bytes ++ rest) = rw part in
    let behind : tokens_from in_atom (at + 1) (bytes ++ rest) ≡ tokens_from between (at + 1 + length bytes) rest =
    tokens_from-in_atom (at + 1) (bytes ++ rest)
    ∙ ap (λ word. tokens_from between (at + 1 + length word) (drop (length word) (bytes ++ rest))) front
    ∙ ap (tokens_from between (at + 1 + length bytes)) (drop-append_seam bytes rest) in
    let end : at + 1 + length bytes ≡ at + suc (length bytes) = omega arith in
    here ∙ ap (λ word. atom at (b ∷ word) ∷ tokens_from in_atom (at + 1) (bytes ++ rest)) front
    ∙ ap (λ ts. atom at (b ∷ bytes) ∷ ts) (behind ∙ ap (λ n. tokens_from between n rest) end)

-- a part doesn't run on into those that follow
apart_behind : (trees : Trees) (rest : List ℕ) → atom_front rest ≡ [] → atom_front (printed_behind trees ++ rest) ≡ []
apart_behind nil rest apart = apart
apart_behind (cons tree trees) rest apart = refl

-- the tokens between the parentheses, and those of the parentheses
tokens_from-list : (at count to end : ℕ) (inner rest : List ℕ) (parts : List Token) → to ≡ at + 1 + count → end ≡ at + 1 + count + 1
    → tokens_from between (at + 1) (inner ++ 41 ∷ rest) ≡ parts ++ tokens_from between (at + 1 + count) (41 ∷ rest)
    → tokens_from between at ((40 ∷ inner ++ 41 ∷ []) ++ rest) ≡ (opening at ∷ parts ++ closing to ∷ []) ++ tokens_from between end rest
tokens_from-list at count to end inner rest parts is_to is_end inside =
    ap (λ bytes. opening at ∷ tokens_from between (at + 1) bytes) (append_assoc inner (41 ∷ []) rest)
    ∙ ap (λ ts. opening at ∷ ts) inside
    ∙ ap (λ n. opening at ∷ parts ++ closing n ∷ tokens_from between (at + 1 + count + 1) rest) (sym is_to)
    ∙ ap (λ n. opening at ∷ parts ++ closing to ∷ tokens_from between n rest) (sym is_end)
    ∙ sym (append_assoc (opening at ∷ parts) (closing to ∷ []) (tokens_from between end rest))

mutual
  -- the printed bytes of a tree have its tokens
  tokens_from-printed : (at : ℕ) (tree : Tree) (rest : List ℕ) → IsOfAtoms tree → atom_front rest ≡ []
      → tokens_from between at (printed tree ++ rest) ≡ spelling (placed at tree) ++ tokens_from between (at + length (printed tree)) rest
  tokens_from-printed at (word bytes from to) rest of_atoms apart = tokens_from-word at bytes rest of_atoms apart
  tokens_from-printed at (list parts from to) rest of_atoms apart =
      let inner = printed_parts parts in
      let count = length-append inner (41 ∷ []) in
      let whole : length (printed (list parts from to)) ≡ suc (length (inner ++ 41 ∷ [])) = refl in
      tokens_from-list at (length inner) (at + length (printed (list parts from to)) - 1) (at + length (printed (list parts from to))) inner rest (spellings (placed_parts (at + 1) parts))
      (omega arith) (omega arith) (tokens_from-parts (at + 1) parts (41 ∷ rest) of_atoms refl)

  -- so have those of the parts of a list
  tokens_from-parts : (at : ℕ) (trees : Trees) (rest : List ℕ) → AreOfAtoms trees → atom_front rest ≡ []
      → tokens_from between at (printed_parts trees ++ rest) ≡ spellings (placed_parts at trees) ++ tokens_from between (at + length (printed_parts trees)) rest
  tokens_from-parts at nil rest of_atoms apart = let none : at ≡ at + 0 = omega arith in ap (λ n. tokens_from between n rest) none
  tokens_from-parts at (cons tree trees) rest of_atoms apart =
      let first = printed tree in
      let others = printed_behind trees in
      let end : at + length first + length others ≡ at + length (first ++ others) = omega (arith, length-append first others) in
      ap (tokens_from between at) (append_assoc first others rest)
      ∙ tokens_from-printed at tree (others ++ rest) of_atoms.0 (apart_behind trees rest apart)
      ∙ ap (λ ts. spelling (placed at tree) ++ ts) (tokens_from-behind (at + length first) trees rest of_atoms.1 apart
      ∙ ap (λ n. spellings (placed_behind (at + length first) trees) ++ tokens_from between n rest) end)
      ∙ sym (append_assoc (spelling (placed at tree)) (spellings (placed_behind (at + length first) trees)) (tokens_from between (at + length (first ++ others)) rest))

  -- so have those of parts that follow another
  tokens_from-behind : (at : ℕ) (trees : Trees) (rest : List ℕ) → AreOfAtoms trees → atom_front rest ≡ []
      → tokens_from between at (printed_behind trees ++ rest) ≡ spellings (placed_behind at trees) ++ tokens_from between (at + length (printed_behind trees)) rest
  tokens_from-behind at nil rest of_atoms apart = let none : at ≡ at + 0 = omega arith in ap (λ n. tokens_from between n rest) none
  tokens_from-behind at (cons tree trees) rest of_atoms apart =
      let first = printed tree in
      let others = printed_behind trees in
      let end : at + 1 + length first + length others ≡ at + suc (length (first ++ others)) = omega (arith, length-append first others) in
      ap (tokens_from between (at + 1)) (append_assoc first others rest)
      ∙ tokens_from-printed (at + 1) tree (others ++ rest) of_atoms.0 (apart_behind trees rest apart)
      ∙ ap (λ ts. spelling (placed (at + 1) tree) ++ ts) (tokens_from-behind (at + 1 + length first) trees rest of_atoms.1 apart
      ∙ ap (λ n. spellings (placed_behind (at + 1 + length first) trees) ++ tokens_from between n rest) end)
      ∙ sym (append_assoc (spelling (placed (at + 1) tree)) (spellings (placed_behind (at + 1 + length first) trees)) (tokens_from between (at + suc (length (first ++ others))) rest))

mutual
  -- a tree that may be printed is sound where it is printed
  IsSound-placed : (room at : ℕ) (tree : Tree) → IsOpenAtMost room tree → IsOfAtoms tree → IsSound room (placed at tree)
  IsSound-placed room at (word bytes from to) fits of_atoms = (of_atoms.short, refl)
  IsSound-placed room at (list parts from to) fits of_atoms =
      let ordered : at < at + suc (length (printed_parts parts ++ 41 ∷ [])) = omega arith in
      (fits.0, ordered, AreSound-placed_parts (room - 1) (at + 1) parts fits.1 of_atoms)

  -- so are the parts of a list
  AreSound-placed_parts : (room at : ℕ) (trees : Trees) → AreOpenAtMost room trees → AreOfAtoms trees → AreSound room (placed_parts at trees)
  AreSound-placed_parts room at nil fit of_atoms = tt
  AreSound-placed_parts room at (cons tree trees) fit of_atoms =
      (IsSound-placed room at tree fit.0 of_atoms.0, AreSound-placed_behind room (at + length (printed tree)) trees fit.1 of_atoms.1)

  -- so are parts that follow another
  AreSound-placed_behind : (room at : ℕ) (trees : Trees) → AreOpenAtMost room trees → AreOfAtoms trees → AreSound room (placed_behind at trees)
  AreSound-placed_behind room at nil fit of_atoms = tt
  AreSound-placed_behind room at (cons tree trees) fit of_atoms =
      (IsSound-placed room (at + 1) tree fit.0 of_atoms.0, AreSound-placed_behind room (at + 1 + length (printed tree)) trees fit.1 of_atoms.1)

mutual
  -- where a tree is printed changes nothing but its offsets
  SameForm-placed : (at : ℕ) (tree : Tree) → SameForm tree (placed at tree)
  SameForm-placed at (word bytes from to) = refl
  SameForm-placed at (list parts from to) = SameForms-placed_parts (at + 1) parts

  -- nor does it of the parts of a list
  SameForms-placed_parts : (at : ℕ) (trees : Trees) → SameForms trees (placed_parts at trees)
  SameForms-placed_parts at nil = tt
  SameForms-placed_parts at (cons tree trees) = (SameForm-placed at tree, SameForms-placed_behind (at + length (printed tree)) trees)

  -- nor of parts that follow another
  SameForms-placed_behind : (at : ℕ) (trees : Trees) → SameForms trees (placed_behind at trees)
  SameForms-placed_behind at nil = tt
  SameForms-placed_behind at (cons tree trees) = (SameForm-placed (at + 1) tree, SameForms-placed_behind (at + 1 + length (printed tree)) trees)

mutual
  -- two forms that are the same as a third
  SameForm-joined : (tree other third : Tree) → SameForm tree third → SameForm other third → SameForm tree other
  SameForm-joined (word bytes from to) (word others start end) (word thirds first last) same same' = same ∙ sym same'
  SameForm-joined (word bytes from to) (word others start end) (list thirds first last) same same' = absurd same
  SameForm-joined (word bytes from to) (list others start end) (word thirds first last) same same' = absurd same'
  SameForm-joined (word bytes from to) (list others start end) (list thirds first last) same same' = absurd same
  SameForm-joined (list parts from to) (word others start end) (word thirds first last) same same' = absurd same
  SameForm-joined (list parts from to) (word others start end) (list thirds first last) same same' = absurd same'
  SameForm-joined (list parts from to) (list others start end) (word thirds first last) same same' = absurd same
  SameForm-joined (list parts from to) (list others start end) (list thirds first last) same same' = SameForms-joined parts others thirds same same'

  -- two lists of forms that are the same as a third
  SameForms-joined : (trees others thirds : Trees) → SameForms trees thirds → SameForms others thirds → SameForms trees others
  SameForms-joined nil nil nil same same' = tt
  SameForms-joined nil nil (cons third thirds) same same' = absurd same
  SameForms-joined nil (cons other others) nil same same' = absurd same'
  SameForms-joined nil (cons other others) (cons third thirds) same same' = absurd same
  SameForms-joined (cons tree trees) nil nil same same' = absurd same
  SameForms-joined (cons tree trees) nil (cons third thirds) same same' = absurd same'
  SameForms-joined (cons tree trees) (cons other others) nil same same' = absurd same
  SameForms-joined (cons tree trees) (cons other others) (cons third thirds) same same' =
      (SameForm-joined tree other third same.0 same'.0, SameForms-joined trees others thirds same.1 same'.1)

-- a list that may be printed may stand at top level
IsTopList-placed : (tree : Tree) → IsPrintable tree → IsOfAtoms tree → IsTopList (placed 0 tree)
IsTopList-placed (word bytes from to) printable of_atoms = absurd printable
IsTopList-placed (list parts from to) printable of_atoms = IsSound-placed 64 0 (list parts from to) printable of_atoms

-- the printed bytes spell the form where they stand
Spelled-printed : (tree : Tree) → IsPrintable tree → IsOfAtoms tree → Spelled (printed tree) 1 (placed 0 tree ∷ []) (length (printed tree))
Spelled-printed tree printable of_atoms =
    record {
      later = [];
      spells = ap tokens (sym (append-nil (printed tree))) ∙ tokens_from-printed 0 tree [] of_atoms refl ∙ sym (append-nil (spelling (placed 0 tree) ++ []));
      sound = (IsTopList-placed tree printable of_atoms, tt);
      enough = inl refl;
      behind = refl;
    }

-- reading what is printed gives the same form
pub SpellsAgain-printed : (tree : Tree) → IsPrintable tree → IsOfAtoms tree → SpellsAgain tree (printed tree)
SpellsAgain-printed tree printable of_atoms = record { again = placed 0 tree; same = SameForm-placed 0 tree; spelled = Spelled-printed tree printable of_atoms }

-- lists of one tree are equal where the trees are
only_tree : (tree other : Tree) → tree ∷ [] ≡ other ∷ [] → tree ≡ other
only_tree tree other same = cc

-- forms that are printed alike are the same
pub SameForm-printed : (tree other : Tree) → IsPrintable tree → IsOfAtoms tree → IsPrintable other → IsOfAtoms other → printed tree ≡ printed other → SameForm tree other
SameForm-printed tree other printable of_atoms printable' of_atoms' alike =
    let text = printed tree in
    let here = Spelled-printed tree printable of_atoms in
    let there = subst (λ bytes. Spelled bytes 1 (placed 0 other ∷ []) (length bytes)) (sym alike) (Spelled-printed other printable' of_atoms') in
    let one = Spelled-unique text 1 (placed 0 tree ∷ []) here.later (length text) (read-Spelled text 1 (placed 0 tree ∷ []) (length text) here) here.behind (placed 0 other ∷ []) (length text) there in
    SameForm-joined tree other (placed 0 tree) (SameForm-placed 0 tree) (subst (SameForm other) (only_tree (placed 0 other) (placed 0 tree) one.0) (SameForm-placed 0 other))
