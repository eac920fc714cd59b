use Rattle.std.proofs.Common.{◌≡◌, ℕ, Option, Some, None, IfSome, IfNone, sym}
use Rattle.rc_sheet_spec.specs.Sheet.{Sheet}
use Rattle.rc_sheet_spec.specs.Sight.{locs_in_items, IsInSight, IsUnseen}
use Rattle.rc_ast.specs.Sheet.{sheet_seen}
use Rattle.rc_flow.specs.Least.{least_with}
use Rattle.rc_flow.proofs.FirstOffset.{none_out_of_sight, first_out_of_sight}
use Rattle.rc_flow.proofs.first.first_unseen.Goals as goal

none : (sheet : Sheet) (found : Option ℕ) → found ≡ least_with sheet.locs None (locs_in_items sheet.items)
    → IfNone found (IsInSight sheet)
none sheet None is = none_out_of_sight sheet (sym is)
none sheet (Some at) is = tt

some : (sheet : Sheet) (found : Option ℕ) → found ≡ least_with sheet.locs None (locs_in_items sheet.items)
    → IfSome found (λ at. IsUnseen sheet at)
some sheet None is = tt
some sheet (Some at) is = first_out_of_sight sheet at (sym is)

pub returns-clause-sight : goal.returns-clause-sight
returns-clause-sight c =
    let found = rw c.deref.ensures.value at c.in_items.ensures in none (sheet_seen c.args.sheet.now) c.in_items.result found

pub returns-clause-unseen : goal.returns-clause-unseen
returns-clause-unseen c =
    let found = rw c.deref.ensures.value at c.in_items.ensures in some (sheet_seen c.args.sheet.now) c.in_items.result found
