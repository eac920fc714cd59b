-- A form that is printed in the place of another one, by the rows of the grammar.
use Prim.Native.String.{String}
use Rattle.std.proofs.Common.{◌≡◌, ℕ, suc, ◌-◌, true, List, codes, refl, ap, ◌∙◌, nat_le, inl, sym}
use Rattle.rc_base.specs.Tree.{Tree, word, list, Trees, nil, cons, count, IsOpenAtMost, AreOpenAtMost}
use Rattle.rc_sheet_spec.specs.Rows.{◌▸◌, End, AtLeast, Row, Word, Atom}
use Rattle.rc_sheet_spec.specs.Printing.{keyword}
use Rattle.rc_sheet_spec.specs.WellFormed.{is_atom}
use Rattle.rc_print.specs.Respelled.{IsWordRespelled, IsRespelled, AreRespelled}
use Rattle.rc_print.specs.Unplaced.{IsBare, AreBare}

-- the tree has no more lists open than the form has, and is the form but for offsets and the spelling of numbers
abbrev pub Keeps : Tree → Tree → Type 0
Keeps form tree = ((room : ℕ) → IsOpenAtMost room form → IsOpenAtMost room tree) × IsRespelled form tree

abbrev pub AllKeep : Trees → Trees → Type 0
AllKeep forms trees = ((room : ℕ) → AreOpenAtMost room forms → AreOpenAtMost room trees) × AreRespelled forms trees

-- the tree is such a one, it is bare, and keeps the form
abbrev pub Good : (Tree → Type 0) → Tree → Tree → Type 0
Good New form tree = New tree × IsBare tree × Keeps form tree

-- so are the parts, and there are as many
abbrev pub AreGood : (Trees → Type 0) → Trees → Trees → Type 0
AreGood New forms trees =
    (count trees ≡ count forms) × New trees × AreBare trees × AllKeep forms trees

-- where a form is such a one, the tree is good
pub record Copies (Old New : Tree → Type 0) (tree : Tree) : Type 0 where
  pub of : (form : Tree) → Old form → Good New form tree

pub record AreCopied (Old New : Trees → Type 0) (trees : Trees) : Type 0 where
  pub of : (forms : Trees) → Old forms → AreGood New forms trees

pub keyword_copied : (text : String) → is_atom (codes text) ≡ true → Copies (Atom text) (Atom text) (keyword text)
keyword_copied text is = record { of = of }
  where
    of : (form : Tree) → Atom text form → Good (Atom text) form (keyword text)
    of (word bytes from to) stands = (refl, (is, refl, refl), (λ room opened. tt, inl (sym stands)))
    of (list parts from to) stands = absurd stands

-- an atom
pub word_copied : {P Q : List ℕ → Type 0} {bytes : List ℕ} → ((others : List ℕ) → P others
    → Q bytes × (is_atom bytes ≡ true) × IsWordRespelled others bytes)
    → Copies (Word P) (Word Q) (word bytes 0 0)
word_copied {P = P} {Q = Q} {bytes = bytes} each = record { of = of }
  where
    of : (form : Tree) → Word P form → Good (Word Q) form (word bytes 0 0)
    of (word others from to) stands = let all = each others stands in (all.0, (all.1, refl, refl), (λ room opened. tt, all.2))
    of (list parts from to) stands = absurd stands

-- a list
pub row_copied : {P Q : Trees → Type 0} {trees : Trees} → AreCopied P Q trees → Copies (Row P) (Row Q) (list trees 0 0)
row_copied {P = P} {Q = Q} {trees = trees} parts = record { of = of }
  where
    of : (form : Tree) → Row P form → Good (Row Q) form (list trees 0 0)
    of (word bytes from to) stands = absurd stands
    of (list forms from to) stands =
        let good = parts.of forms stands in
        (good.1, (refl, refl, good.2), (λ room opened. (opened.0, good.3.0 (room - 1) opened.1), good.3.1))

-- a part and those behind it, which may go by it
pub bound_copied : {A B : Tree → Type 0} {P Q : Trees → Type 0} {tree : Tree} {trees : Trees} → Copies A B tree
    → ((form : Tree) → A form → AreCopied P Q trees) → AreCopied (A ▸ P) (B ▸ Q) (cons tree trees)
bound_copied {A = A} {B = B} {P = P} {Q = Q} {tree = tree} {trees = trees} first others = record { of = of }
  where
    of : (forms : Trees) → (A ▸ P) forms → AreGood (B ▸ Q) forms (cons tree trees)
    of nil stands = absurd stands
    of (cons form forms) stands =
        let good = first.of form stands.0 in
        let are = (others form stands.0).of forms stands.1 in
        let kept : AllKeep (cons form forms) (cons tree trees) =
        (λ room opened. (good.2.0 room opened.0, are.3.0 room opened.1), (good.2.1, are.3.1)) in
        (ap suc are.0, (good.0, are.1), (good.1, are.2), kept)

pub part_copied : {A B : Tree → Type 0} {P Q : Trees → Type 0} {tree : Tree} {trees : Trees} → Copies A B tree
    → AreCopied P Q trees → AreCopied (A ▸ P) (B ▸ Q) (cons tree trees)
part_copied first others = bound_copied first (λ form stands. others)

-- no part
pub end_copied : AreCopied End End nil
end_copied = record { of = of }
  where
    of : (forms : Trees) → End forms → AreGood End forms nil
    of nil stands = (refl, tt, tt, (λ room opened. tt, tt))
    of (cons form forms) stands = absurd stands

-- at least so many parts
pub least_copied : {P Q : Trees → Type 0} {trees : Trees} (least : ℕ) → AreCopied P Q trees
    → AreCopied (AtLeast least P) (AtLeast least Q) trees
least_copied {P = P} {Q = Q} {trees = trees} least parts = record { of = of }
  where
    of : (forms : Trees) → AtLeast least P forms → AreGood (AtLeast least Q) forms trees
    of forms stands =
        let good = parts.of forms stands.1 in
        (good.0, (ap (nat_le least) good.0 ∙ stands.0, good.1), good.2, good.3)
