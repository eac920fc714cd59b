-- What is accepted as a sheet has one sheet, what isn't has one first fault, and no form is both.
use Rattle.std.proofs.Common.{None, ◌≡◌, ℕ, suc, ◌<◌, ◌≤◌, List, [], ◌∷◌, ◌⊎◌, inl, inr, map, refl, sym, ◌∙◌, ap, subst, arith}
use Rattle.std.specs.List.{All, Contains}
use Rattle.std.proofs.lemmas.Bool.{cases_lt}
use Rattle.std.proofs.lemmas.List.Elements.{All-nil, All-cons, All-contains, All-weaker}
use Rattle.rc_base.specs.Tree.{Tree}
use Rattle.rc_check.specs.declared.fault.SheetFault.{SheetFault}
use Rattle.rc_check.specs.SecondFaults.{sheet_fault}
use Rattle.rc_sheet_spec.specs.Sheet.{Sheet, Loc}
use Rattle.rc_sheet_spec.specs.Sight.{unseen_locs, unseen_offsets, IsInSight, IsUnseen}
use Rattle.rc_play_spec.proofs.SiteLemmas.{unwrap}
use Rattle.rc_sheet.proofs.One.Sheet.{one_well_formed}
use Rattle.rc_house.specs.declared.refusal.Refusal.TheVariants as refusal
use Rattle.rc_house.specs.declared.status.SourceKind.{SourceKind}
use Rattle.rc_house.specs.Status.{sheet_kind}
use Rattle.rc_sheet.specs.Accepted.{IsSheetOf, IsAccepted}
use Rattle.rc_trick.proofs.Accepted.{none_unseen}
use Rattle.rc_house.specs.Accepted.{HasPartFault, HasFirstFault}
use Rattle.rc_house.specs.Reading.{HasSheetFault, IsAcceptedWith}

-- a form has one sheet
pub one_sheet : (form : Tree) (sheet other : Sheet) → IsSheetOf form sheet → IsSheetOf form other → other ≡ sheet
one_sheet form sheet other is is' = one_well_formed form sheet other is.faultless is.stands is.well is'.stands is'.well

-- one location is the first out of sight
one_unseen : (sheet : Sheet) (at other : ℕ) → IsUnseen sheet at → IsUnseen sheet other → other ≡ at
one_unseen sheet at other is is' =
    let below = All-contains (λ n. at ≤ n) (unseen_offsets sheet) other is.first is'.stands in
    let above = All-contains (λ n. other ≤ n) (unseen_offsets sheet) at is'.first is.stands in
    omega (arith, below, above)

-- the least of some numbers
least : (n : ℕ) (ns : List ℕ) → (at : ℕ) × Contains (n ∷ ns) at × All (λ other. at ≤ other) (n ∷ ns)
least n [] = (n, (0, omega arith, refl), All-cons (λ other. n ≤ other) n [] (omega arith) (All-nil (λ other. n ≤ other)))
least n (m ∷ ms) = by (least m ms) (cases_lt n (least m ms).0)
  where
    by : (rest : (at : ℕ) × Contains (m ∷ ms) at × All (λ other. at ≤ other) (m ∷ ms)) → (n < rest.0) ⊎ (rest.0 ≤ n)
        → (at : ℕ) × Contains (n ∷ m ∷ ms) at × All (λ other. at ≤ other) (n ∷ m ∷ ms)
    by rest (inl below) = (
      n,
      (0, omega arith, refl),
      All-cons (λ other. n ≤ other) n (m ∷ ms) (omega arith)
          (All-weaker (λ other. rest.0 ≤ other) (λ other. n ≤ other) (λ other above. omega (arith, above)) (m ∷ ms) rest.2),
    )
    by rest (inr above) = (
      rest.0,
      (suc rest.1.0, omega (arith, rest.1.1), rest.1.2),
      All-cons (λ other. rest.0 ≤ other) n (m ∷ ms) above rest.2,
    )

-- a sheet keeps the rule of sight, or has a first location that breaks it
pub in_sight_or_not : (sheet : Sheet) → IsInSight sheet ⊎ ((at : ℕ) × IsUnseen sheet at)
in_sight_or_not sheet = by (unseen_locs sheet) refl
  where
    by : (locs : List Loc) → unseen_locs sheet ≡ locs → IsInSight sheet ⊎ ((at : ℕ) × IsUnseen sheet at)
    by [] none = inl none
    by (loc ∷ locs) some =
        let first = least loc.at (map (λ loc. loc.at) locs) in
        let offsets : loc.at ∷ map (λ loc. loc.at) locs ≡ unseen_offsets sheet = sym (ap (map (λ loc. loc.at)) some) in
        inr (
          first.0,
          record {
            stands = subst (λ all. Contains all first.0) offsets first.1;
            first = subst (λ all. All (λ other. first.0 ≤ other) all) offsets first.2;
          },
        )

-- a form without a fault of its parts has none
no_part_fault : (form : Tree) (kind : SourceKind) (at : ℕ) → sheet_fault form ≡ None → HasPartFault form kind at → ⊥
no_part_fault form kind at none has = let found = has.1 in absurd cc

same_fault : (kind other : SourceKind) (at offset : ℕ) → other ≡ kind → offset ≡ at → refusal.Sheet other offset ≡ refusal.Sheet kind at
same_fault kind other at offset is same = cc

-- a form has one first fault
one_first_fault : (form : Tree) (kind other : SourceKind) (at offset : ℕ)
    → HasFirstFault form kind at → HasFirstFault form other offset
    → refusal.Sheet other offset ≡ refusal.Sheet kind at
one_first_fault form kind other at offset (inl has) (inl has') =
    let same : has'.0 ≡ has.0 = unwrap _ _ (sym has'.1 ∙ has.1) in
    same_fault kind other at offset
    (has'.3 ∙ ap (λ (found : SheetFault). sheet_kind found.kind) same ∙ sym has.3)
    (has'.4 ∙ ap (λ (found : SheetFault). found.at) same ∙ sym has.4)
one_first_fault form kind other at offset (inl has) (inr has') = absurd (no_part_fault form kind at has'.2.faultless has)
one_first_fault form kind other at offset (inr has) (inl has') = absurd (no_part_fault form other offset has.2.faultless has')
one_first_fault form kind other at offset (inr has) (inr has') =
    let same = one_sheet form has.1 has'.1 has.2 has'.2 in
    same_fault kind other at offset (has'.0 ∙ sym has.0)
    (one_unseen has.1 at offset has.3 (subst (λ sheet. IsUnseen sheet offset) same has'.3))

-- a form that is accepted has no fault
accepted_has_no_fault : (form : Tree) (sheet : Sheet) (kind : SourceKind) (at : ℕ) → IsAccepted form sheet → HasFirstFault form kind at → ⊥
accepted_has_no_fault form sheet kind at is (inl has) = no_part_fault form kind at is.of_form.faultless has
accepted_has_no_fault form sheet kind at is (inr has) =
    let same = one_sheet form sheet has.1 is.of_form has.2 in
    none_unseen sheet at is.sight (subst (λ sheet. IsUnseen sheet at) same has.3)

-- lists that were read have one first fault of the sheet
pub one_sheet_fault : (lists : List Tree) (rest : ℕ) (kind other : SourceKind) (at offset : ℕ)
    → HasSheetFault lists rest kind at → HasSheetFault lists rest other offset → refusal.Sheet other offset ≡ refusal.Sheet kind at
one_sheet_fault [] rest kind other at offset has has' =
    same_fault kind other at offset (has'.0 ∙ sym has.0) (has'.1 ∙ sym has.1)
one_sheet_fault (form ∷ others) rest kind other at offset has has' = one_first_fault form kind other at offset has has'

-- lists of which the first is accepted have none
pub accepted_no_fault : (P : Sheet → List Tree → Type 0) (lists : List Tree) (rest : ℕ) (kind : SourceKind) (at : ℕ)
    → IsAcceptedWith P lists → HasSheetFault lists rest kind at → ⊥
accepted_no_fault P [] rest kind at is has = absurd is
accepted_no_fault P (form ∷ others) rest kind at is has = accepted_has_no_fault form is.0 kind at is.1 has

-- what holds of the accepted sheet, and what holds of it besides
pub both_accepted : {P Q : Sheet → List Tree → Type 0} (lists : List Tree) → IsAcceptedWith P lists → IsAcceptedWith Q lists
    → (sheet : Sheet) × (others : List Tree) × P sheet others × Q sheet others
both_accepted [] is is' = absurd is
both_accepted {Q = Q} (form ∷ others) is is' =
    let same = one_sheet form is.0 is'.0 is.1.of_form is'.1.of_form in
    (is.0, others, is.2, subst (λ sheet. Q sheet others) same is'.2)
