use Rattle.std.proofs.Common.{◌∙◌, ◌≤◌, length, sym, subst, arith}
use Rattle.rc_form.specs.Form.{tree_of}
use Rattle.rc_ast.specs.Sheet.{sheet_seen}
use Rattle.rc_sheet.proofs.Accepted.{printable, stands_read, well_read, none_read, few_attrs, few_values, few_maps, few_locs, few_nums, is_read}
use Rattle.rc_sheet.proofs.accepting.sheet_of_faultless.Goals as goal

pub naming_of-requires-clause-locs : goal.naming_of-requires-clause-locs
naming_of-requires-clause-locs c = let few = few_locs (tree_of c.args.form.now) c.requires.faultless in omega (arith, few)

pub naming_of-requires-clause-nums : goal.naming_of-requires-clause-nums
naming_of-requires-clause-nums c = let few = few_nums (tree_of c.args.form.now) c.requires.faultless in omega (arith, few)

pub new-requires-clause-attrs : goal.new-requires-clause-attrs
new-requires-clause-attrs c =
    subst (λ naming. length naming.names.attrs ≤ 256) (sym c.in-Ok.ensures.names)
    (few_attrs (tree_of c.args.form.now) c.requires.faultless)

pub new-requires-clause-values : goal.new-requires-clause-values
new-requires-clause-values c =
    subst (λ naming. length naming.names.values ≤ 256) (sym c.in-Ok.ensures.names)
    (few_values (tree_of c.args.form.now) c.requires.faultless)

pub new-requires-clause-maps : goal.new-requires-clause-maps
new-requires-clause-maps c =
    subst (λ naming. length naming.names.maps ≤ 256) (sym c.in-Ok.ensures.names)
    (few_maps (tree_of c.args.form.now) c.requires.faultless)

pub new-requires-clause-locs : goal.new-requires-clause-locs
new-requires-clause-locs c =
    subst (λ naming. length naming.names.locs ≤ 256) (sym c.in-Ok.ensures.names)
    (few_locs (tree_of c.args.form.now) c.requires.faultless)

pub new-requires-clause-nums : goal.new-requires-clause-nums
new-requires-clause-nums c =
    subst (λ naming. length naming.names.nums ≤ 256) (sym c.in-Ok.ensures.names)
    (few_nums (tree_of c.args.form.now) c.requires.faultless)

pub unreachable-requires : goal.unreachable-requires
unreachable-requires c =
    let tree = tree_of c.args.form.now in
    let none = rw c.in-Err-Meaningless.field-0-is at c.in-Err-Meaningless.ensures in
    let named = rw c.in-Ok-Some.field-0-is at c.in-Ok-Some.ensures.some in
    is_read tree c.requires.faultless (none_read c.in-Ok-Some.reader tree (named ∙ c.in-Ok.ensures.names) none)

pub returns-in-Ok-sheet-clause-stands : goal.returns-in-Ok-sheet-clause-stands
returns-in-Ok-sheet-clause-stands c =
    stands_read c.in-Ok-Some.reader (tree_of c.args.form.now) (sheet_seen c.in-Ok-sheet.sheet) c.in-Ok-sheet.ensures

pub returns-in-Ok-sheet-clause-well : goal.returns-in-Ok-sheet-clause-well
returns-in-Ok-sheet-clause-well c =
    let named = rw c.in-Ok-Some.field-0-is at c.in-Ok-Some.ensures.some in
    well_read c.in-Ok-Some.reader (tree_of c.args.form.now) (sheet_seen c.in-Ok-sheet.sheet)
    (named ∙ c.in-Ok.ensures.names) c.requires.faultless
    (printable (tree_of c.args.form.now) c.requires.faultless c.requires.shallow)
    c.requires.of_atoms c.in-Ok-sheet.ensures
