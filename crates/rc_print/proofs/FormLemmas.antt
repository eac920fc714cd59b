-- The form of a value that holds a vector of others, from the vector's items, and how a row of parts is printed.
use Rattle.std.proofs.Common.{◌≡◌, ℕ, List, [], ◌∷◌, ◌++◌, Vec, Global, refl, sym, ap, ◌∙◌, append_assoc}
use Rattle.rc_base.specs.Tree.{Tree, printed, printed_behind}
use Rattle.rc_sheet_spec.specs.Naming.{Naming}
use Rattle.rc_sheet_spec.specs.Printing.{Bound, binding, packed, keyword, row, named, one, coll_form, coll_forms, int_form, test_form, test_forms, domain_form, effect_form, effect_forms, class_form, item_form, item_forms}
use Rattle.rc_sheet_spec.specs.Sheet.{Class}
use Rattle.rc_ast.specs.declared.expressions.CollExpr.{CollExpr, Union}
use Rattle.rc_ast.specs.declared.expressions.IntExpr.{IntExpr}
use Rattle.rc_ast.specs.declared.expressions.Test.{Test, And, Or}
use Rattle.rc_ast.specs.declared.expressions.Domain.{Domain}
use Rattle.rc_ast.specs.declared.effects.Effect.{Effect, If, Repeat, Each}
use Rattle.rc_ast.specs.declared.items.SheetItem.{SheetItem, Stage}
use Rattle.rc_ast.specs.Expressions.{coll_seen, colls_seen, int_seen, test_seen, tests_seen, domain_seen}
use Rattle.rc_ast.specs.Effects.{effect_seen, effects_seen}
use Rattle.rc_ast.specs.Items.{item_seen, items_seen}
use Rattle.rc_ast.proofs.ViewLemmas.{union_seen, and_seen, or_seen, if_seen, repeat_seen, each_seen, stage_seen}

-- the parts of two lists, one behind the other
pub printed_behind-append : (parts others : List Tree) →
    printed_behind (packed (parts ++ others)) ≡ printed_behind (packed parts) ++ printed_behind (packed others)
printed_behind-append [] others = refl
printed_behind-append (part ∷ parts) others =
    ap (λ rest. 32 ∷ printed part ++ rest) (printed_behind-append parts others)
    ∙ ap (λ rest. 32 ∷ rest) (sym (append_assoc (printed part) (printed_behind (packed parts)) (printed_behind (packed others))))

module _ (naming : Naming) (bound : Bound) where
  pub union_form : (cards : CollExpr) (parts : Vec CollExpr Global) → cards ≡ Union parts →
      coll_form naming bound (coll_seen cards) ≡ row (keyword "union" ∷ coll_forms naming bound (colls_seen parts.items))
  union_form cards parts is =
      ap (λ c. coll_form naming bound (coll_seen c)) is ∙ ap (coll_form naming bound) (union_seen parts)

  pub and_form : (t : Test) (tests : Vec Test Global) → t ≡ And tests →
      test_form naming bound (test_seen t) ≡ row (keyword "and" ∷ test_forms naming bound (tests_seen tests.items))
  and_form t tests is = ap (λ u. test_form naming bound (test_seen u)) is ∙ ap (test_form naming bound) (and_seen tests)

  pub or_form : (t : Test) (tests : Vec Test Global) → t ≡ Or tests →
      test_form naming bound (test_seen t) ≡ row (keyword "or" ∷ test_forms naming bound (tests_seen tests.items))
  or_form t tests is = ap (λ u. test_form naming bound (test_seen u)) is ∙ ap (test_form naming bound) (or_seen tests)

  pub if_form : (e : Effect) (t : Test) (effects : Vec Effect Global) → e ≡ If t effects →
      effect_form naming bound (effect_seen e)
      ≡ row (keyword "if" ∷ test_form naming bound (test_seen t) ∷ effect_forms naming bound (effects_seen effects.items))
  if_form e t effects is =
      ap (λ x. effect_form naming bound (effect_seen x)) is ∙ ap (effect_form naming bound) (if_seen t effects)

  pub repeat_form : (e : Effect) (times : IntExpr) (effects : Vec Effect Global) → e ≡ Repeat times effects →
      effect_form naming bound (effect_seen e)
      ≡ row (keyword "repeat" ∷ int_form naming bound (int_seen times) ∷ effect_forms naming bound (effects_seen effects.items))
  repeat_form e times effects is =
      ap (λ x. effect_form naming bound (effect_seen x)) is ∙ ap (effect_form naming bound) (repeat_seen times effects)

  pub each_form : (e : Effect) (domain : Domain) (var : ℕ) (effects : Vec Effect Global) → e ≡ Each domain var effects →
      effect_form naming bound (effect_seen e)
      ≡ row (keyword "all" ∷ domain_form naming bound (domain_seen domain) ∷ named naming.names.vars var
      ∷ effect_forms naming (binding naming bound var) (effects_seen effects.items))
  each_form e domain var effects is =
      ap (λ x. effect_form naming bound (effect_seen x)) is ∙ ap (effect_form naming bound) (each_seen domain var effects)

pub stage_form : (naming : Naming) (i : SheetItem) (number : ℕ) (class : Class) (end : Test) (body : Vec SheetItem Global) →
    i ≡ Stage number class end body →
    item_form naming (item_seen i)
    ≡ row (keyword "stage" ∷ class_form class ∷ one "end"
    (test_form naming [] (test_seen end)) ∷ item_forms naming (items_seen body.items))
stage_form naming i number class end body is =
    ap (λ j. item_form naming (item_seen j)) is ∙ ap (item_form naming) (stage_seen number class end body)
