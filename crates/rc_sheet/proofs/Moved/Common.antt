-- A form that is the same as another one but for offsets, by the rows of the grammar.
use Prim.Native.String.{String}
use Rattle.std.proofs.Common.{◌≡◌, ℕ, suc, nat_le, List, refl, subst, ap, ◌∙◌}
use Rattle.rc_base.specs.Tree.{Tree, word, list, Trees, nil, cons, count}
use Rattle.rc_form.specs.SameForm.{SameForm, SameForms}
use Rattle.rc_sheet_spec.specs.Rows.{◌▸◌, End, AtLeast, Row, Word, Atom}
use Rattle.rc_sheet_spec.specs.StandsExpressions.{Two}

-- what holds of a form holds of each that is the same but for offsets
pub record Keeps (P : Tree → Type 0) : Type 0 where
  pub of : (form other : Tree) → SameForm form other → P form → P other

pub record AllKeep (P : Trees → Type 0) : Type 0 where
  pub of : (forms others : Trees) → SameForms forms others → P forms → P others

-- a value for which the form stands, and which is the same
pub record Again {A : Type 0} (New : A → Tree → Type 0) (Same : A → Type 0) (form : Tree) : Type 0 where
  pub again : A
  pub stands : New again form
  pub same : Same again

pub record AllAgain {A : Type 0} (New : A → Trees → Type 0) (Same : A → Type 0) (forms : Trees) : Type 0 where
  pub again : A
  pub stands : New again forms
  pub same : Same again

-- where a form is such a one, there is a value for each form that is the same but for offsets
pub record Moves {A : Type 0} (Old : Tree → Type 0) (New : A → Tree → Type 0) (Same : A → Type 0) : Type 0 where
  pub of : (form other : Tree) → SameForm form other → Old form → Again New Same other

pub record AllMove {A : Type 0} (Old : Trees → Type 0) (New : A → Trees → Type 0) (Same : A → Type 0) : Type 0 where
  pub of : (forms others : Trees) → SameForms forms others → Old forms → AllAgain New Same others

-- there are as many parts
pub same_count : (forms others : Trees) → SameForms forms others → count others ≡ count forms
same_count nil nil same = refl
same_count nil (cons other others) same = absurd same
same_count (cons form forms) nil same = absurd same
same_count (cons form forms) (cons other others) same = ap suc (same_count forms others same.1)

-- WHAT IS KEPT

pub word_keeps : {P : List ℕ → Type 0} → Keeps (Word P)
word_keeps {P = P} = record { of = of }
  where
    of : (form other : Tree) → SameForm form other → Word P form → Word P other
    of (word bytes from to) (word others start end) same stands = subst P same stands
    of (word bytes from to) (list parts start end) same stands = absurd same
    of (list parts from to) other same stands = absurd stands

pub row_keeps : {P : Trees → Type 0} → AllKeep P → Keeps (Row P)
row_keeps {P = P} parts = record { of = of }
  where
    of : (form other : Tree) → SameForm form other → Row P form → Row P other
    of (word bytes from to) other same stands = absurd stands
    of (list forms from to) (word bytes start end) same stands = absurd same
    of (list forms from to) (list others start end) same stands = parts.of forms others same stands

pub part_keeps : {A : Tree → Type 0} {P : Trees → Type 0} → Keeps A → AllKeep P → AllKeep (A ▸ P)
part_keeps {A = A} {P = P} first rest = record { of = of }
  where
    of : (forms others : Trees) → SameForms forms others → (A ▸ P) forms → (A ▸ P) others
    of nil others same stands = absurd stands
    of (cons form forms) nil same stands = absurd same
    of (cons form forms) (cons other others) same stands =
        (first.of form other same.0 stands.0, rest.of forms others same.1 stands.1)

pub end_keeps : AllKeep End
end_keeps = record { of = of }
  where
    of : (forms others : Trees) → SameForms forms others → End forms → End others
    of nil nil same stands = tt
    of nil (cons other others) same stands = absurd same
    of (cons form forms) others same stands = absurd stands

pub least_keeps : {P : Trees → Type 0} (least : ℕ) → AllKeep P → AllKeep (AtLeast least P)
least_keeps {P = P} least parts = record { of = of }
  where
    of : (forms others : Trees) → SameForms forms others → AtLeast least P forms → AtLeast least P others
    of forms others same stands =
        (ap (nat_le least) (same_count forms others same) ∙ stands.0, parts.of forms others same stands.1)

-- WHAT MOVES

-- nothing in the value has an offset
pub still : {A : Type 0} {New : A → Tree → Type 0} {Same : A → Type 0} (a : A) → Same a → Keeps (New a) → Moves (New a) New Same
still a is keeps = record {
  of = λ form other same stands. record {
    again = a;
    stands = keeps.of form other same stands;
    same = is;
  };
}

-- a value that is made of others
pub made : {A B : Type 0} {Old : Tree → Type 0} {New : B → Tree → Type 0} {Same : B → Type 0} {Inside : A → Type 0} (make : A → B)
    → Moves Old (λ a. New (make a)) Inside → ((a : A) → Inside a → Same (make a)) → Moves Old New Same
made make parts whole = record {
  of = λ form other same stands.
      let found = parts.of form other same stands in
      record { again = make found.again; stands = found.stands; same = whole found.again found.same };
}

pub all_made : {A B : Type 0} {Old : Trees → Type 0} {New : B → Trees → Type 0} {Same : B → Type 0} {Inside : A → Type 0}
    (make : A → B)
    → AllMove Old (λ a. New (make a)) Inside → ((a : A) → Inside a → Same (make a)) → AllMove Old New Same
all_made make parts whole = record {
  of = λ forms others same stands.
      let found = parts.of forms others same stands in
      record { again = make found.again; stands = found.stands; same = whole found.again found.same };
}

-- parts without a value
pub kept : {P : Trees → Type 0} → AllKeep P → AllMove P (λ (one : Unit {0}). P) (λ one. Unit {0})
kept parts = record {
  of = λ forms others same stands. record {
    again = tt;
    stands = parts.of forms others same stands;
    same = tt;
  };
}

module _ {A : Type 0} {Same : A → Type 0} where
  pub row_moves : {Old : Trees → Type 0} {New : A → Trees → Type 0} → AllMove Old New Same
      → Moves (Row Old) (λ a. Row (New a)) Same
  row_moves {Old = Old} {New = New} parts = record { of = of }
    where
      of : (form other : Tree) → SameForm form other → Row Old form → Again (λ a. Row (New a)) Same other
      of (word bytes from to) other same stands = absurd stands
      of (list forms from to) (word bytes start end) same stands = absurd same
      of (list forms from to) (list others start end) same stands =
          let found = parts.of forms others same stands in
          record { again = found.again; stands = found.stands; same = found.same }

  -- a part that keeps, and others behind it
  pub behind_kept : {K : Tree → Type 0} {Old : Trees → Type 0} {New : A → Trees → Type 0} → Keeps K → AllMove Old New Same
      → AllMove (K ▸ Old) (λ a. K ▸ New a) Same
  behind_kept {K = K} {Old = Old} {New = New} first rest = record { of = of }
    where
      of : (forms others : Trees) → SameForms forms others → (K ▸ Old) forms → AllAgain (λ a. K ▸ New a) Same others
      of nil others same stands = absurd stands
      of (cons form forms) nil same stands = absurd same
      of (cons form forms) (cons other others) same stands =
          let found = rest.of forms others same.1 stands.1 in
          record { again = found.again; stands = (first.of form other same.0 stands.0, found.stands); same = found.same }

  -- a part, and others behind it that keep
  pub before_kept : {K : Trees → Type 0} {Old : Tree → Type 0} {New : A → Tree → Type 0} → Moves Old New Same → AllKeep K
      → AllMove (Old ▸ K) (λ a. New a ▸ K) Same
  before_kept {K = K} {Old = Old} {New = New} first rest = record { of = of }
    where
      of : (forms others : Trees) → SameForms forms others → (Old ▸ K) forms → AllAgain (λ a. New a ▸ K) Same others
      of nil others same stands = absurd stands
      of (cons form forms) nil same stands = absurd same
      of (cons form forms) (cons other others) same stands =
          let found = first.of form other same.0 stands.0 in
          record { again = found.again; stands = (found.stands, rest.of forms others same.1 stands.1); same = found.same }

  pub least_moves : {Old : Trees → Type 0} {New : A → Trees → Type 0} (least : ℕ) → AllMove Old New Same
      → AllMove (AtLeast least Old) (λ a. AtLeast least (New a)) Same
  least_moves {Old = Old} {New = New} least parts = record { of = of }
    where
      of : (forms others : Trees) → SameForms forms others → AtLeast least Old forms
          → AllAgain (λ a. AtLeast least (New a)) Same others
      of forms others same stands =
          let found = parts.of forms others same stands.1 in
          record {
            again = found.again;
            stands = (ap (nat_le least) (same_count forms others same) ∙ stands.0, found.stands);
            same = found.same;
          }

  -- rows of a head and a part, with parts behind it that keep
  pub headed : {K : Trees → Type 0} {Old : Tree → Type 0} {New : A → Tree → Type 0} (head : String) → Moves Old New Same
      → AllKeep K → Moves (Row (Atom head ▸ Old ▸ K)) (λ a. Row (Atom head ▸ New a ▸ K)) Same
  headed head part rest = row_moves (behind_kept word_keeps (before_kept part rest))

  pub one_moves : {Old : Tree → Type 0} {New : A → Tree → Type 0} (head : String) → Moves Old New Same
      → Moves (Row (Atom head ▸ Old ▸ End)) (λ a. Row (Atom head ▸ New a ▸ End)) Same
  one_moves head part = headed head part end_keeps

module _ {A B : Type 0} {Same : A → Type 0} {Same' : B → Type 0} where
  -- a part, and others behind it
  pub part_moves : {Old : Tree → Type 0} {New : A → Tree → Type 0} {Old' : Trees → Type 0} {New' : B → Trees → Type 0}
      → Moves Old New Same → AllMove Old' New' Same'
      → AllMove (Old ▸ Old') (λ (both : A × B). New both.0 ▸ New' both.1) (λ both. Same both.0 × Same' both.1)
  part_moves {Old = Old} {New = New} {Old' = Old'} {New' = New'} first rest = record { of = of }
    where
      of : (forms others : Trees) → SameForms forms others → (Old ▸ Old') forms
          → AllAgain (λ (both : A × B). New both.0 ▸ New' both.1) (λ both. Same both.0 × Same' both.1) others
      of nil others same stands = absurd stands
      of (cons form forms) nil same stands = absurd same
      of (cons form forms) (cons other others) same stands =
          let found = first.of form other same.0 stands.0 in
          let more = rest.of forms others same.1 stands.1 in
          record {
            again = (found.again, more.again);
            stands = (found.stands, more.stands);
            same = (found.same, more.same);
          }

  pub two_move : {Old Old' : Tree → Type 0} {New : A → Tree → Type 0} {New' : B → Tree → Type 0} (head : String)
      → Moves Old New Same → Moves Old' New' Same'
      → Moves (Two head Old Old') (λ (both : A × B). Two head (New both.0) (New' both.1)) (λ both. Same both.0 × Same' both.1)
  two_move head first second = row_moves (behind_kept word_keeps (part_moves first (before_kept second end_keeps)))

  -- a part, one that keeps, and others behind it
  pub around_kept : {K Old : Tree → Type 0} {New : A → Tree → Type 0} {Old' : Trees → Type 0} {New' : B → Trees → Type 0}
      (head : String) → Moves Old New Same → Keeps K → AllMove Old' New' Same'
      → Moves (Row (Atom head ▸ Old ▸ K ▸ Old')) (λ (both : A × B). Row (Atom head ▸ New both.0 ▸ K ▸ New' both.1))
      (λ both. Same both.0 × Same' both.1)
  around_kept head first middle rest = row_moves (behind_kept word_keeps (part_moves first (behind_kept middle rest)))
