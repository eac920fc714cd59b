-- Slices of two or three parts.
use Rattle.std.proofs.Common.{◌≡◌, List, [], ◌∷◌, length, get_or, None, Option, refl, sym, ap, ◌∙◌, arith}
use Rattle.rc_resolve.specs.NamedNumbers.{DeckNames}
use Rattle.rc_form.specs.declared.form.Form.{Form}
use Rattle.rc_form.specs.Form.{trees_of, packed}
use Rattle.rc_resolve.specs.Reading.{read_group_parts, read_entry_parts, unless_nil}

pub two : {X : Type 0} (xs : List X) (a b : X) → length xs ≡ 2 → a ≡ get_or xs 0 a → b ≡ get_or xs 1 b → xs ≡ a ∷ b ∷ []
two [] a b long is-a is-b = absurd (omega arith)
two (x ∷ []) a b long is-a is-b = absurd (omega arith)
two (x ∷ y ∷ []) a b long is-a is-b = ap (λ z. z ∷ y ∷ []) (sym is-a) ∙ ap (λ z. a ∷ z ∷ []) (sym is-b)
two (x ∷ y ∷ z ∷ zs) a b long is-a is-b = absurd (omega arith)

-- a group has two parts, and an entry three
pub read_group_other : (names : DeckNames) (forms : List Form) → (length forms ≡ 2 → ⊥) → read_group_parts names (packed (trees_of forms)) ≡ None
read_group_other names [] other = refl
read_group_other names (a ∷ []) other = refl
read_group_other names (a ∷ b ∷ []) other = absurd (other refl)
read_group_other names (a ∷ b ∷ c ∷ forms) other = refl

pub read_entry_other : (names : DeckNames) (forms : List Form) → (length forms ≡ 3 → ⊥) → read_entry_parts names (packed (trees_of forms)) ≡ None
read_entry_other names [] other = refl
read_entry_other names (a ∷ []) other = refl
read_entry_other names (a ∷ b ∷ []) other = refl
read_entry_other names (a ∷ b ∷ c ∷ []) other = absurd (other refl)
read_entry_other names (a ∷ b ∷ c ∷ d ∷ forms) other = refl

-- where there is a form, what is found counts
pub unless_nil_some : {A : Type 0} (forms : List Form) (found : Option A) → (length forms ≡ 0 → ⊥) → unless_nil (packed (trees_of forms)) found ≡ found
unless_nil_some [] found some = absurd (some refl)
unless_nil_some (form ∷ forms) found some = refl
