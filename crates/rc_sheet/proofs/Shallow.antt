-- A sheet that is read off a shallow form is shallow.
use Rattle.std.proofs.Common.{◌≡◌, Some}
use Rattle.rc_base.specs.Tree.{Tree, word, list, IsOpenAtMost}
use Rattle.rc_form.specs.Form.{IsPrintable}
use Rattle.rc_sheet_spec.specs.Sheet.{Sheet}
use Rattle.rc_base.specs.Limits.{most_open}
use Rattle.rc_sheet_spec.specs.Naming.{Naming}
use Rattle.rc_sheet_spec.specs.WellFormed.{IsShallow}
use Rattle.rc_sheet.specs.ReadSheet.{sheet_at}
use Rattle.rc_sheet.proofs.Means.{means_so}
use Rattle.rc_sheet.proofs.ReadOff.Sheet.{sheet_means}

-- its form stands for it
pub sheet_shallow : (naming : Naming) (tree : Tree) (sheet : Sheet) → sheet_at naming tree ≡ Some sheet
    → IsOpenAtMost most_open tree → IsShallow sheet
sheet_shallow naming tree sheet is shallow = (tree, means_so (sheet_at naming tree) sheet (sheet_means naming tree) is, shallow)

-- a form that may be printed is shallow
printable_open : (tree : Tree) → IsPrintable tree → IsOpenAtMost most_open tree
printable_open (word bytes from to) fits = absurd fits
printable_open (list parts from to) fits = fits

pub printable_shallow : (naming : Naming) (tree : Tree) (sheet : Sheet) → sheet_at naming tree ≡ Some sheet
    → IsPrintable tree → IsShallow sheet
printable_shallow naming tree sheet is fits = sheet_shallow naming tree sheet is (printable_open tree fits)
