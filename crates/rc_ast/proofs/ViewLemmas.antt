-- The tree of a value that holds a vector of others, from the trees of the vector's items.
use Rattle.std.proofs.Common.{◌≡◌, ℕ, ◌+◌, ◌<◌, List, length, get_or, drop, Vec, Global, refl, sym, ap, ◌∙◌}
use Rattle.std.proofs.lemmas.List.{at_drop_more}
use Rattle.rc_sheet_spec.specs.Sheet.{coll, union_of, test, and_of, or_of, effect, when, repeat, for_each, item, stage}
use Rattle.rc_sheet_spec.specs.Sheet.{Class}
use Rattle.rc_ast.specs.declared.expressions.CollExpr.{CollExpr, Union, Union', Row_of-CollExpr, end_of-CollExpr, more_of-CollExpr, items-the_row-CollExpr, items_hidden-the_row-CollExpr-0}
use Rattle.rc_ast.specs.declared.expressions.IntExpr.{IntExpr}
use Rattle.rc_ast.specs.declared.expressions.Test.{Test, And, Or, And', Or', Row_of-Test, end_of-Test, more_of-Test, items-the_row-Test, items_hidden-the_row-Test-1}
use Rattle.rc_ast.specs.declared.expressions.Domain.{Domain}
use Rattle.rc_ast.specs.declared.effects.Effect.{Effect, If, Repeat, Each, If', Repeat', Each', Row_of-Effect, end_of-Effect, more_of-Effect, items-the_row-Effect, items_hidden-the_row-Effect-0}
use Rattle.rc_ast.specs.declared.items.SheetItem.{SheetItem, Stage, Stage', Row_of-SheetItem, end_of-SheetItem, more_of-SheetItem, items-the_row-SheetItem, items_hidden-the_row-SheetItem-0}
use Rattle.rc_ast.specs.Expressions.{coll_seen, colls_of_row, colls_seen, int_seen, test_seen, tests_of_row, tests_seen, domain_seen}
use Rattle.rc_ast.specs.Effects.{effect_seen, effects_of_row, effects_seen}
use Rattle.rc_ast.specs.Items.{item_seen, items_of_row, items_seen}

-- a row, as a list
colls_listed : (m : _) (row : Row_of-CollExpr m) → colls_of_row row ≡ colls_seen (items-the_row-CollExpr m row)
colls_listed m end_of-CollExpr = refl
colls_listed m (more_of-CollExpr c rest) = ap (coll (coll_seen c)) (colls_listed _ rest)

tests_listed : (m : _) (row : Row_of-Test m) → tests_of_row row ≡ tests_seen (items-the_row-Test m row)
tests_listed m end_of-Test = refl
tests_listed m (more_of-Test t rest) = ap (test (test_seen t)) (tests_listed _ rest)

effects_listed : (m : _) (row : Row_of-Effect m) → effects_of_row row ≡ effects_seen (items-the_row-Effect m row)
effects_listed m end_of-Effect = refl
effects_listed m (more_of-Effect e rest) = ap (effect (effect_seen e)) (effects_listed _ rest)

items_listed : (m : _) (row : Row_of-SheetItem m) → items_of_row row ≡ items_seen (items-the_row-SheetItem m row)
items_listed m end_of-SheetItem = refl
items_listed m (more_of-SheetItem i rest) = ap (item (item_seen i)) (items_listed _ rest)

-- the row in a value
abbrev colls_in : CollExpr → (m : _) × Row_of-CollExpr m
colls_in (Union' _ row) = (_, row)
colls_in _ = (_, end_of-CollExpr)

abbrev tests_in : Test → (m : _) × Row_of-Test m
tests_in (And' _ row) = (_, row)
tests_in (Or' _ row) = (_, row)
tests_in _ = (_, end_of-Test)

abbrev effects_in : Effect → (m : _) × Row_of-Effect m
effects_in (If' _ _ row) = (_, row)
effects_in (Repeat' _ _ row) = (_, row)
effects_in (Each' _ _ _ row) = (_, row)
effects_in _ = (_, end_of-Effect)

abbrev items_in : SheetItem → (m : _) × Row_of-SheetItem m
items_in (Stage' _ _ _ _ row) = (_, row)
items_in _ = (_, end_of-SheetItem)

-- the row of a vector, as a list
union_row : (cs : Vec CollExpr Global) → colls_of_row (colls_in (Union cs)).1 ≡ colls_seen cs.items
union_row cs = let row = colls_in (Union cs) in colls_listed row.0 row.1 ∙ ap colls_seen (items_hidden-the_row-CollExpr-0 cs)

and_row : (ts : Vec Test Global) → tests_of_row (tests_in (And ts)).1 ≡ tests_seen ts.items
and_row ts = let row = tests_in (And ts) in tests_listed row.0 row.1 ∙ ap tests_seen (items_hidden-the_row-Test-1 ts)

effects_row : (t : Test) (es : Vec Effect Global) → effects_of_row (effects_in (If t es)).1 ≡ effects_seen es.items
effects_row t es = let row = effects_in (If t es) in effects_listed row.0 row.1 ∙ ap effects_seen (items_hidden-the_row-Effect-0 es)

-- each variant that holds a vector
pub union_seen : (cs : Vec CollExpr Global) → coll_seen (Union cs) ≡ union_of (colls_seen cs.items)
union_seen cs = ap union_of (union_row cs)

pub and_seen : (ts : Vec Test Global) → test_seen (And ts) ≡ and_of (tests_seen ts.items)
and_seen ts = ap and_of (and_row ts)

pub or_seen : (ts : Vec Test Global) → test_seen (Or ts) ≡ or_of (tests_seen ts.items)
or_seen ts = ap or_of (and_row ts)

pub if_seen : (t : Test) (es : Vec Effect Global) → effect_seen (If t es) ≡ when (test_seen t) (effects_seen es.items)
if_seen t es = ap (when (test_seen t)) (effects_row t es)

pub repeat_seen : (count : IntExpr) (es : Vec Effect Global) →
    effect_seen (Repeat count es) ≡ repeat (int_seen count) (effects_seen es.items)
repeat_seen count es =
    let row = effects_in (Repeat count es) in
    ap (repeat (int_seen count)) (effects_listed row.0 row.1 ∙ ap effects_seen (items_hidden-the_row-Effect-0 es))

pub each_seen : (domain : Domain) (bound : ℕ) (es : Vec Effect Global) →
    effect_seen (Each domain bound es) ≡ for_each (domain_seen domain) bound (effects_seen es.items)
each_seen domain bound es =
    let row = effects_in (Each domain bound es) in
    ap (for_each (domain_seen domain) bound) (effects_listed row.0 row.1 ∙ ap effects_seen (items_hidden-the_row-Effect-0 es))

pub stage_seen : (number : ℕ) (class : Class) (end : Test) (is : Vec SheetItem Global) →
    item_seen (Stage number class end is) ≡ stage number class (test_seen end) (items_seen is.items)
stage_seen number class end is =
    let row = items_in (Stage number class end is) in
    ap (stage number class (test_seen end)) (items_listed row.0 row.1 ∙ ap items_seen (items_hidden-the_row-SheetItem-0 is))

-- the items of a vector from a place on are the item there and those behind it
pub colls_seen-drop : (cs : List CollExpr) (i : ℕ) (c : CollExpr) → i < length cs → c ≡ get_or cs i c →
    colls_seen (drop i cs) ≡ coll (coll_seen c) (colls_seen (drop (i + 1) cs))
colls_seen-drop cs i c lt is =
    at_drop_more colls_seen cs i c lt ∙ ap (λ x. coll (coll_seen x) (colls_seen (drop (i + 1) cs))) (sym is)

pub tests_seen-drop : (ts : List Test) (i : ℕ) (t : Test) → i < length ts → t ≡ get_or ts i t →
    tests_seen (drop i ts) ≡ test (test_seen t) (tests_seen (drop (i + 1) ts))
tests_seen-drop ts i t lt is =
    at_drop_more tests_seen ts i t lt ∙ ap (λ x. test (test_seen x) (tests_seen (drop (i + 1) ts))) (sym is)

pub items_seen-drop : (all : List SheetItem) (i : ℕ) (x : SheetItem) → i < length all → x ≡ get_or all i x →
    items_seen (drop i all) ≡ item (item_seen x) (items_seen (drop (i + 1) all))
items_seen-drop all i x lt is =
    at_drop_more items_seen all i x lt ∙ ap (λ y. item (item_seen y) (items_seen (drop (i + 1) all))) (sym is)
