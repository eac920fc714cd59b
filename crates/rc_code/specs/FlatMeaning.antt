-- What a flat form stands for: a test of the sheet, as the pure trees have it.
use Rattle.std.specs.Prelude.{Option, IfSome, ◌≡◌}
use Rattle.rc_sheet_spec.specs.Sheet.{Test, IntExpr, who_var, literal, number, size_of, worth_of, top_card, cards_in, eq_int, less, less_eq, more, more_eq, eq_attr, no_test, test, and_of, all_of, each_player}
use Rattle.rc_ast.specs.Names.{loc_seen, num_seen}
use Rattle.rc_code.specs.declared.amounts.Amount.{Amount}
use Rattle.rc_code.specs.declared.amounts.Amount.TheVariants.{Literal, Number, Size, Worth}
use Rattle.rc_code.specs.declared.atoms.Comparator.{Comparator}
use Rattle.rc_code.specs.declared.atoms.Comparator.TheVariants.{Equal, Less, AtMost, More, AtLeast}
use Rattle.rc_code.specs.declared.atoms.Comparison.{Comparison}
use Rattle.rc_code.specs.declared.atoms.Comparison.TheVariants.{Compare, Same}
use Rattle.rc_code.specs.declared.flat.FlatTest.{FlatTest}
use Rattle.rc_code.specs.declared.flat.FlatTest.TheVariants.{One, Both, EachHas}

abbrev pub amount_meant : Amount → IntExpr
amount_meant (Literal value) = literal value
amount_meant (Number num) = number (num_seen num)
amount_meant (Size loc) = size_of (cards_in (loc_seen loc))
amount_meant (Worth loc map) = worth_of (top_card (cards_in (loc_seen loc))) map

abbrev pub compared : Comparator → IntExpr → IntExpr → Test
compared Equal a b = eq_int a b
compared Less a b = less a b
compared AtMost a b = less_eq a b
compared More a b = more a b
compared AtLeast a b = more_eq a b

abbrev pub comparison_meant : Comparison → Test
comparison_meant (Compare how one other) = compared how (amount_meant one) (amount_meant other)
comparison_meant (Same one name other other_name) =
    eq_attr (top_card (cards_in (loc_seen one))) name (top_card (cards_in (loc_seen other))) other_name

abbrev pub flat_meant : FlatTest → Test
flat_meant (One comparison) = comparison_meant comparison
flat_meant (Both one other) = and_of (test (comparison_meant one) (test (comparison_meant other) no_test))
flat_meant (EachHas bound name at count) =
    all_of each_player bound
    (eq_int (size_of (cards_in (record { who = who_var 0; name = name; at = at }))) (literal count))

abbrev pub IsFlatForm : Test → Option FlatTest → Type 0
IsFlatForm t flat = IfSome flat (λ f. flat_meant f ≡ t)
