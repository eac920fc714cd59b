-- What it says of a part that the second round finds no fault with it.
use Rattle.std.proofs.Common.{◌≡◌, Bool, true, false, List, [], ◌∷◌, ◌++◌, refl}
use Rattle.std.specs.List.{AllByRecursion}
use Rattle.rc_check.specs.SecondParts.{Part}
use Rattle.rc_check.specs.SecondFaults.{is_twice, is_unknown, is_wrong_kind, is_too_many, lacks_cards, fault_where, faults_of, faults_behind}
use Rattle.rc_check.specs.declared.fault.SheetKind.{SheetKind}
use Rattle.rc_check.specs.declared.fault.SheetKind.TheVariants.{Twice, Unknown, WrongKind, TooMany, NoCards}
use Rattle.rc_sheet.proofs.Shapes.{none_in_both}

-- none of the five tests holds, behind these earlier parts
pub record IsFaultless (all earlier : List Part) (part : Part) : Type 0 where
  pub once : is_twice earlier part ≡ false
  pub known : is_unknown all earlier part ≡ false
  pub kind_fits : is_wrong_kind earlier part ≡ false
  pub few : is_too_many all earlier part ≡ false
  pub cards : lacks_cards all part ≡ false

-- a test that makes a fault where it holds
holds_not : (b : Bool) (kind : SheetKind) (part : Part) → fault_where b kind part ≡ [] → b ≡ false
holds_not true kind part none = absurd cc
holds_not false kind part none = refl

pub faultless : (all earlier : List Part) (part : Part) → faults_of all earlier part ≡ [] → IsFaultless all earlier part
faultless all earlier part none =
    let first = none_in_both
    (((fault_where (is_twice earlier part) Twice part ++ fault_where (is_unknown all earlier part) Unknown part)
    ++ fault_where (is_wrong_kind earlier part) WrongKind part) ++ fault_where (is_too_many all earlier part) TooMany part)
    (fault_where (lacks_cards all part) NoCards part) none in
    let second = none_in_both
    ((fault_where (is_twice earlier part) Twice part ++ fault_where (is_unknown all earlier part) Unknown part)
    ++ fault_where (is_wrong_kind earlier part) WrongKind part)
    (fault_where (is_too_many all earlier part) TooMany part) first.0 in
    let third = none_in_both
    (fault_where (is_twice earlier part) Twice part ++ fault_where (is_unknown all earlier part) Unknown part)
    (fault_where (is_wrong_kind earlier part) WrongKind part) second.0 in
    let fourth = none_in_both (fault_where (is_twice earlier part) Twice part) (fault_where
    (is_unknown all earlier part) Unknown part)
    third.0 in
    record {
      once = holds_not (is_twice earlier part) Twice part fourth.0;
      known = holds_not (is_unknown all earlier part) Unknown part fourth.1;
      kind_fits = holds_not (is_wrong_kind earlier part) WrongKind part third.1;
      few = holds_not (is_too_many all earlier part) TooMany part second.1;
      cards = holds_not (lacks_cards all part) NoCards part first.1;
    }

-- each part is so, behind some parts
pub each_faultless : (all earlier parts : List Part) → faults_behind all earlier parts ≡ []
    → AllByRecursion (λ part. (before : List Part) × IsFaultless all before part) parts
each_faultless all earlier [] none = tt
each_faultless all earlier (part ∷ parts) none =
    let both = none_in_both (faults_of all earlier part) (faults_behind all (earlier ++ part ∷ []) parts) none in
    ((earlier, faultless all earlier part both.0), each_faultless all (earlier ++ part ∷ []) parts both.1)
