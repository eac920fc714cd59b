-- What is read off the text that is printed for a sheet.
use Rattle.std.specs.Prelude.{◌≡◌, List, [], ◌∷◌, None}
use Rattle.rc_base.specs.Tree.{Tree, printed}
use Rattle.rc_form.specs.SameForm.{SameForm}
use Rattle.rc_sheet_spec.specs.Sheet.{Sheet}
use Rattle.rc_sheet_spec.specs.Stands.{Stands}
use Rattle.rc_sheet_spec.specs.WellFormed.{IsWellFormed}
use Rattle.rc_sheet_spec.specs.Sight.{IsInSight}
use Rattle.rc_sheet_spec.specs.Printing.{sheet_form, printed_sheet}
use Rattle.rc_print.specs.Unplaced.{unplaced}
use Rattle.rc_check.specs.SecondFaults.{sheet_fault}

-- One form is read. Its words and lists are those of the form that is printed, it is printed as the same text, and it has no
-- fault. It stands for one well formed sheet. That sheet is the same but for offsets, is printed as the same text, and keeps the
-- rule of sight where the printed one does.
pub record IsReadBack (sheet : Sheet) (forms : List Tree) : Type 0 where
  pub form : Tree
  pub only : forms ≡ form ∷ []
  pub same : SameForm (sheet_form sheet) form
  pub text : printed form ≡ printed_sheet sheet
  pub fine : sheet_fault form ≡ None
  pub again : Sheet
  pub stands : Stands again form
  pub well : IsWellFormed again
  pub alone : (other : Sheet) → Stands other form → IsWellFormed other → other ≡ again
  pub equal : unplaced again ≡ unplaced sheet
  pub printed_again : printed_sheet again ≡ printed_sheet sheet
  pub seen : IsInSight sheet → IsInSight again
