-- What is known of a form without a fault.
use Rattle.std.proofs.Common.{◌≡◌, ◌≤◌, List, [], ◌∷◌, length, Option, Some, None, refl, sym, subst, ap, ◌∙◌}
use Rattle.std.proofs.lemmas.Option.{same_Some}
use Rattle.rc_base.specs.Tree.{Tree, word, list, IsOpenAtMost}
use Rattle.rc_form.specs.Form.{IsPrintable}
use Rattle.rc_form.specs.SameForm.{IsOfAtoms}
use Rattle.rc_sheet_spec.specs.Sheet.{Sheet}
use Rattle.rc_sheet_spec.specs.Naming.{Naming}
use Rattle.rc_sheet_spec.specs.FormMentions.{names_of}
use Rattle.rc_sheet_spec.specs.Stands.{Stands}
use Rattle.rc_sheet_spec.specs.WellFormed.{IsWellFormed}
use Rattle.rc_resolve.specs.Naming.{naming_of}
use Rattle.rc_check.specs.Faults.{faults, first}
use Rattle.rc_check.specs.declared.grammar.Symbol.TheVariants as symbol
use Rattle.rc_check.specs.declared.fault.SheetFault.{SheetFault}
use Rattle.rc_check.specs.SecondFaults.{second_faults, or_fault, sheet_fault}
use Rattle.rc_sheet.specs.ReadSheet.{setup_form_at, sheet_at}
use Rattle.rc_sheet.proofs.Means.{means_so}
use Rattle.rc_sheet.proofs.Fine.Common.{given_of}
use Rattle.rc_sheet.proofs.AllFine.{all_fine}
use Rattle.rc_sheet.proofs.Finds.{Finds, found_as, implies, finds_meaning}
use Rattle.rc_sheet.proofs.Fine.Counts.{few_stages, few_choices}
use Rattle.rc_sheet.proofs.Fine.Lines.{setup_in}
use Rattle.rc_sheet.proofs.Fine.Sheet.{IsSetUp, HasFineBody, SetupFinds, sheet_finds}
use Rattle.rc_sheet.proofs.Found.Setup.{setup_found}
use Rattle.rc_sheet.proofs.Given.Setup.{is_set_up}
use Rattle.rc_sheet.proofs.ReadOff.Sheet.{sheet_means}
use Rattle.rc_sheet.proofs.WellFormed.{well_formed}
use Rattle.rc_sheet.proofs.FewNames as few
use Rattle.rc_sheet.proofs.SomePlayers.{some_players, some_teams}
use Rattle.rc_sheet.proofs.FewNames.{few_attributes}
use Rattle.rc_sheet.proofs.FewOwned.{few_locations, few_numbers}
use Rattle.rc_base.specs.Limits.{most_attrs, most_values, most_maps, most_locations, most_numbers}

-- neither round finds a fault
none_first : (xs ys : List SheetFault) → or_fault (first xs) (first ys) ≡ None → (xs ≡ []) × (ys ≡ [])
none_first [] [] none = (refl, refl)
none_first [] (y ∷ ys) none = absurd cc
none_first (x ∷ xs) ys none = absurd cc

pub faultless : (tree : Tree) → sheet_fault tree ≡ None → (faults symbol.Sheet tree ≡ []) × (second_faults tree ≡ [])
faultless tree none = none_first (faults symbol.Sheet tree) (second_faults tree) none

-- a form without a fault is a list, and what may be printed is none too deep
pub printable : (tree : Tree) → sheet_fault tree ≡ None → IsOpenAtMost 64 tree → IsPrintable tree
printable (word bytes from to) none fits = absurd cc
printable (list parts from to) none fits = fits

pub fits_in : (tree : Tree) → IsPrintable tree → IsOpenAtMost 64 tree
fits_in (word bytes from to) printable = absurd printable
fits_in (list parts from to) printable = printable

-- what is read with the names of the form stands for it
pub stands_read : (naming : Naming) (tree : Tree) (sheet : Sheet) → sheet_at naming tree ≡ Some sheet → Stands sheet tree
stands_read naming tree sheet is = means_so (sheet_at naming tree) sheet (sheet_means naming tree) is

-- nothing is read by other names alike
pub none_read : (naming : Naming) (tree : Tree) → naming ≡ naming_of tree → sheet_at naming tree ≡ None
    → sheet_at (naming_of tree) tree ≡ None
none_read naming tree same none = ap (λ n. sheet_at n tree) (sym same) ∙ none

-- A FORM WITHOUT A FAULT IS READ

-- its setup is, and has what the form gives
setup_is_fine : (tree : Tree) → faults symbol.Sheet tree ≡ [] → second_faults tree ≡ []
    → SetupFinds (naming_of tree) (given_of tree) tree
setup_is_fine tree shaped sound head setup rest from to is good =
    let naming = naming_of tree in
    subst (λ setup. Finds (setup_form_at naming setup) (IsSetUp naming (given_of tree))) (ap setup_in is)
    (implies (setup_form_at naming (setup_in tree))
    (finds_meaning (setup_form_at naming (setup_in tree)) (setup_found tree shaped sound) (is_set_up tree shaped sound))
    (λ s both. both.1))

-- all of it is, as a sheet with fine items and a fine score
read_fine : (tree : Tree) → sheet_fault tree ≡ None → Finds (sheet_at (naming_of tree) tree) HasFineBody
read_fine tree none =
    let no = faultless tree none in
    sheet_finds (naming_of tree) (given_of tree) tree no.0 (all_fine tree no.0 no.1) (few_stages tree no.1)
    (few_choices tree no.1) (setup_is_fine tree no.0 no.1)

-- what is known of whatever is read is known of this
found_so : {A : Type 0} {P : A → Type 0} (found : Option A) (a : A) → Finds found P → found ≡ Some a → P a
found_so {P = P} found a finds is =
    let was = found_as found finds in subst P (same_Some was.0 a (sym was.1 ∙ is)) was.2

-- so it is read
pub is_read : (tree : Tree) → sheet_fault tree ≡ None → sheet_at (naming_of tree) tree ≡ None → ⊥
is_read tree none nothing =
    let found = (found_as (sheet_at (naming_of tree) tree) (read_fine tree none)).1 in absurd cc

-- and what is read is well formed
pub well_read : (naming : Naming) (tree : Tree) (sheet : Sheet) → naming ≡ naming_of tree → sheet_fault tree ≡ None
    → IsPrintable tree → IsOfAtoms tree → sheet_at naming tree ≡ Some sheet → IsWellFormed sheet
well_read naming tree sheet same none printable atoms is =
    let no = faultless tree none in
    let read = ap (λ n. sheet_at n tree) (sym same) ∙ is in
    well_formed tree sheet no.0 no.1 printable atoms
    (found_so (sheet_at (naming_of tree) tree) sheet (read_fine tree none) read) read

-- so it has a sheet
pub has_sheet : (tree : Tree) → sheet_fault tree ≡ None → IsOpenAtMost 64 tree → IsOfAtoms tree
    → (sheet : Sheet) × Stands sheet tree × IsWellFormed sheet
has_sheet tree none shallow atoms =
    let read = found_as (sheet_at (naming_of tree) tree) (read_fine tree none) in (
      read.0,
      stands_read (naming_of tree) tree read.0 read.1,
      well_read (naming_of tree) tree read.0 refl none (printable tree none shallow) atoms read.1,
    )

-- there are few names of each kind
pub few_attrs : (tree : Tree) → sheet_fault tree ≡ None → length (names_of tree).attrs ≤ most_attrs
few_attrs tree none = let no = faultless tree none in few_attributes tree no.0 no.1

pub few_values : (tree : Tree) → sheet_fault tree ≡ None → length (names_of tree).values ≤ most_values
few_values tree none = let no = faultless tree none in few.few_values tree no.0 no.1

pub few_maps : (tree : Tree) → sheet_fault tree ≡ None → length (names_of tree).maps ≤ most_maps
few_maps tree none = let no = faultless tree none in few.few_maps tree no.0 no.1

pub few_locs : (tree : Tree) → sheet_fault tree ≡ None → length (names_of tree).locs ≤ most_locations
few_locs tree none =
    let no = faultless tree none in few_locations tree no.0 no.1 (some_players tree no.0 no.1) (some_teams tree no.0 no.1)

pub few_nums : (tree : Tree) → sheet_fault tree ≡ None → length (names_of tree).nums ≤ most_numbers
few_nums tree none =
    let no = faultless tree none in few_numbers tree no.0 no.1 (some_players tree no.0 no.1) (some_teams tree no.0 no.1)
