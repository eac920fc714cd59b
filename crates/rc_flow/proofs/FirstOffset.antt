-- What is found going over locations is the least of the offsets that are out of sight.
use Rattle.std.proofs.Common.{◌≡◌, ℕ, ◌≤◌, min, Bool, true, false, not, cond, if◌then◌else◌, List, [], ◌∷◌, map, filter, Option, Some, None, All, ◌⊎◌, inl, inr, refl, ap, sym, ◌∙◌, arith}
use Rattle.std.specs.List.{Contains}
use Rattle.std.proofs.lemmas.List.Elements.{All-nil, All-cons, Contains-append_right}
use Rattle.rc_sheet_spec.specs.Sheet.{LocName, Loc, Sheet}
use Rattle.rc_sheet_spec.specs.Sight.{is_in_sight, locs_in_items, unseen_locs, unseen_offsets, IsInSight, IsUnseen}
use Rattle.rc_flow.specs.Least.{with_offset, least_with}

-- the least of the offset that was found and others
abbrev least_of : Option ℕ → List ℕ → Option ℕ
least_of found [] = found
least_of found (at ∷ ats) = least_of (Some (with_offset found at)) ats

abbrev out_of_sight : List LocName → List Loc → List Loc
out_of_sight names locs = filter (λ loc. not (is_in_sight names loc)) locs

offsets_step : (names : List LocName) (found : Option ℕ) (loc : Loc) (locs : List Loc)
    → ((before : Option ℕ) → least_with names before locs ≡ least_of before (map (λ l. l.at) (out_of_sight names locs)))
    → (seen : Bool)
    → least_with names (if seen then found else Some (with_offset found loc.at)) locs
    ≡ least_of found (map (λ l. l.at) (cond (not seen) (loc ∷ out_of_sight names locs) (out_of_sight names locs)))
offsets_step names found loc locs rest true = rest found
offsets_step names found loc locs rest false = rest (Some (with_offset found loc.at))

least_offset : (names : List LocName) (found : Option ℕ) (locs : List Loc) →
    least_with names found locs ≡ least_of found (map (λ l. l.at) (out_of_sight names locs))
least_offset names found [] = refl
least_offset names found (loc ∷ locs) =
    offsets_step names found loc locs (λ before. least_offset names before locs) (is_in_sight names loc)

none_is_left : (found : Option ℕ) (ats : List ℕ) → least_of found ats ≡ None → (found ≡ None) × (ats ≡ [])
none_is_left found [] is = (is, refl)
none_is_left found (at ∷ ats) is =
    let rest : Some (with_offset found at) ≡ None = (none_is_left (Some (with_offset found at)) ats is).0 in absurd cc

no_locs : (locs : List Loc) → map (λ l. l.at) locs ≡ [] → locs ≡ []
no_locs [] is = refl
no_locs (loc ∷ locs) is = absurd cc

Contains-head : (at : ℕ) (ats : List ℕ) → Contains (at ∷ ats) at
Contains-head at ats = (0, omega arith, refl)

-- the offset is the least of the one that was found and the others
record IsLeastOf (found : Option ℕ) (ats : List ℕ) (at : ℕ) : Type 0 where
  stands : (found ≡ Some at) ⊎ Contains ats at
  before : (other : ℕ) → found ≡ Some other → at ≤ other
  first : All (λ other. at ≤ other) ats

not_above : (found : Option ℕ) (at other : ℕ) → other ≤ with_offset found at →
    (other ≤ at) × ((first : ℕ) → found ≡ Some first → other ≤ first)
not_above None at other below = (below, λ first is. absurd cc)
not_above (Some old) at other below =
    (omega arith, λ first is. let same : old ≡ first = cc in omega arith)

is_one_of : (found : Option ℕ) (at : ℕ) → (found ≡ Some (with_offset found at)) ⊎ (with_offset found at ≡ at)
is_one_of None at = inr refl
is_one_of (Some old) at = by_order (one_is_less old at) where
  one_is_less : (a b : ℕ) → (a ≤ b) ⊎ (b ≤ a)
  one_is_less a b = grind arith

  by_order : (old ≤ at) ⊎ (at ≤ old) → (Some old ≡ Some (min old at)) ⊎ (min old at ≡ at)
  by_order (inl below) = let e : old ≡ min old at = omega arith in inl (ap Some e)
  by_order (inr below) = inr (omega arith)

stands_behind : (found : Option ℕ) (at : ℕ) (ats : List ℕ) (least : ℕ)
    → (Some (with_offset found at) ≡ Some least) ⊎ Contains ats least → (found ≡ Some least) ⊎ Contains (at ∷ ats) least
stands_behind found at ats least (inr stands) = inr (Contains-append_right (at ∷ []) ats least stands)
stands_behind found at ats least (inl is) =
    let same : with_offset found at ≡ least = cc in
    of_two (is_one_of found at) same where
      of_two : (found ≡ Some (with_offset found at)) ⊎ (with_offset found at ≡ at) → with_offset found at ≡ least
          → (found ≡ Some least) ⊎ Contains (at ∷ ats) least
      of_two (inl old) same = inl (cc)
      of_two (inr new) same = let e : at ≡ least = cc in inr (rw (← e) (Contains-head at ats))

some_is_least : (found : Option ℕ) (ats : List ℕ) (least : ℕ) → least_of found ats ≡ Some least → IsLeastOf found ats least
some_is_least found [] least is = record {
  stands = inl is;
  before = λ other was. let same : least ≡ other = cc in omega arith;
  first = All-nil (λ other. least ≤ other);
}
some_is_least found (at ∷ ats) least is =
    let rest = some_is_least (Some (with_offset found at)) ats least is in
    let below = not_above found at least (rest.before (with_offset found at) refl) in
    record {
      stands = stands_behind found at ats least rest.stands;
      before = below.1;
      first = All-cons (λ other. least ≤ other) at ats below.0 rest.first;
    }

-- The sheet, where nothing is found, and where an offset is.
pub none_out_of_sight : (sheet : Sheet) → least_with sheet.locs None (locs_in_items sheet.items) ≡ None → IsInSight sheet
none_out_of_sight sheet is =
    no_locs (unseen_locs sheet)
    (none_is_left None (unseen_offsets sheet) (sym (least_offset sheet.locs None (locs_in_items sheet.items)) ∙ is)).1

pub first_out_of_sight : (sheet : Sheet) (at : ℕ) → least_with sheet.locs None (locs_in_items sheet.items) ≡ Some at
    → IsUnseen sheet at
first_out_of_sight sheet at is =
    let least = some_is_least None (unseen_offsets sheet) at (sym (least_offset sheet.locs None (locs_in_items sheet.items)) ∙ is) in
    record { stands = stands_there least.stands; first = least.first } where
      stands_there : (None ≡ Some at) ⊎ Contains (unseen_offsets sheet) at → Contains (unseen_offsets sheet) at
      stands_there (inl is) = absurd cc
      stands_there (inr stands) = stands
