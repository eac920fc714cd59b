-- How a row of a grammar is said of a form: `Row (Atom "top" ▸ StandsLoc naming scope loc ▸ End) form`.
use Prim.Native.String.{String}
use Rattle.std.specs.Prelude.{◌≡◌, ℕ, nat_le, true, List, codes}
use Rattle.rc_base.specs.Tree.{Tree, word, list, Trees, nil, cons, count}

infixr 20 ◌▸◌
-- the first part is such a one, and the parts behind it are such
abbrev pub ◌▸◌ : (Tree → Type 0) → (Trees → Type 0) → Trees → Type 0
(First ▸ Rest) nil = ⊥
(First ▸ Rest) (cons tree trees) = First tree × Rest trees

-- no part is left
abbrev pub End : Trees → Type 0
End nil = Unit {0}
End (cons tree trees) = ⊥

-- the parts are such, and there are at least so many
abbrev pub AtLeast : ℕ → (Trees → Type 0) → Trees → Type 0
AtLeast least Parts trees = (nat_le least (count trees) ≡ true) × Parts trees

-- the parts are such, and there is one
abbrev pub Some : (Trees → Type 0) → Trees → Type 0
Some Parts trees = AtLeast 1 Parts trees

-- the form is a list of such parts
abbrev pub Row : (Trees → Type 0) → Tree → Type 0
Row Parts (word bytes from to) = ⊥
Row Parts (list parts from to) = Parts parts

-- the form is such an atom
abbrev pub Word : (List ℕ → Type 0) → Tree → Type 0
Word P (word bytes from to) = P bytes
Word P (list parts from to) = ⊥

-- the form is the atom with these bytes
abbrev pub Atom : String → Tree → Type 0
Atom text = Word (λ bytes. bytes ≡ codes text)
