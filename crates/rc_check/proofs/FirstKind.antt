-- Which of its kinds a part is at fault by first.
use Rattle.std.proofs.Common.{◌≡◌, ◌||◌, Bool, true, false, Some, None, refl, sym, ap, ◌∙◌}
use Rattle.rc_check.specs.SecondParts.{Part}
use Rattle.rc_check.specs.Summary.{Whole, Summary, is_again, is_not_known, is_wrong, is_over, is_setup_without_deck, kind_by}
use Rattle.rc_check.specs.declared.fault.SheetKind.TheVariants.{Unknown, WrongKind, TooMany}

-- a test that is the first, or the second, of two
pub or_first : (a b told : Bool) → told ≡ a → told ≡ true → told ≡ (a || b)
or_first a b told is holds = holds ∙ sym (ap (λ test. test || b) (sym is ∙ holds))

pub or_second : (a b told told' : Bool) → told ≡ a → told ≡ false → told' ≡ b → told' ≡ (a || b)
or_second a b told told' is fails is' = is' ∙ sym (ap (λ test. test || b) (sym is ∙ fails))

-- a test that is one of three
pub or_one : (a b c : Bool) → a ≡ true → true ≡ (a || b || c)
or_one a b c is = rw is refl

pub or_two : (a b c : Bool) → a ≡ false → b ≡ true → true ≡ (a || b || c)
or_two a b c fails is = rw (fails, is) refl

pub or_three : (a b c told : Bool) → a ≡ false → b ≡ false → told ≡ c → told ≡ (a || b || c)
or_three a b c told fails fails' is = rw (fails, fails', is) refl

-- the kind of a part by the first of its tests that holds
module _ (whole : Whole) (seen : Summary) (part : Part) where
  pub kind_unknown : is_again seen part ≡ false → is_not_known whole seen part ≡ true → Some Unknown ≡ kind_by whole seen part
  kind_unknown first second = rw (first, second) refl

  pub kind_wrong : is_again seen part ≡ false → is_not_known whole seen part ≡ false → is_wrong seen part ≡ true
      → Some WrongKind ≡ kind_by whole seen part
  kind_wrong first second third = rw (first, second, third) refl

  pub kind_over : is_again seen part ≡ false → is_not_known whole seen part ≡ false → is_wrong seen part ≡ false
      → is_over whole seen part ≡ true
      → Some TooMany ≡ kind_by whole seen part
  kind_over first second third fourth = rw (first, second, third, fourth) refl

  pub kind_none : is_again seen part ≡ false → is_not_known whole seen part ≡ false → is_wrong seen part ≡ false
      → is_over whole seen part ≡ false
      → is_setup_without_deck whole part ≡ false → None ≡ kind_by whole seen part
  kind_none first second third fourth fifth = rw (first, second, third, fourth, fifth) refl
