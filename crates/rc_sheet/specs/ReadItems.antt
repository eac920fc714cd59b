-- What the items and the scoring of a form say. Stages and choices are numbered in the order of the text. Where there are
-- more stages or choices than a sheet may have nothing is read.
use Rattle.std.specs.Prelude.{ℕ, ◌+◌, nat_lt, nat_le, List, [], if◌then◌else◌, Option, Some, None, option_map}
use Rattle.rc_base.specs.Tree.{Tree, word, list, Trees, nil, cons}
use Rattle.rc_sheet_spec.specs.Sheet.{Class, player_class, team_class, Test, IntExpr, Best, highest, lowest, Alt, SheetItem, do_item, stage, choice, SheetItems, no_item, item}
use Rattle.rc_base.specs.Limits.{most_stages, most_sites}
use Rattle.rc_sheet_spec.specs.Naming.{Naming, self_scope}
use Rattle.rc_check.specs.Faults.{is_form_word, count}
use Rattle.rc_sheet.specs.ReadNames.{◌>>=◌, ensure, both, rule_at}
use Rattle.rc_sheet.specs.ReadExpressions.{int_at, test_at}
use Rattle.rc_sheet.specs.ReadEffects.{effects_at, alts_at}
use Rattle.rc_check.specs.declared.keyword.Keyword.TheVariants as keyword
use Rattle.rc_check.specs.declared.grammar.Symbol.TheVariants as symbol
use Rattle.rc_check.specs.declared.grammar.Rule.{Rule}
use Rattle.rc_check.specs.declared.grammar.Rule.TheVariants as rule

-- how many stages and choices begin before a place of the text
pub record Begun : Type 0 where
  pub stages : ℕ
  pub sites : ℕ

abbrev pub none_begun : Begun
none_begun = record { stages = 0; sites = 0 }

-- what has begun behind the head of one more stage, and behind one more choice
abbrev pub with_stage : Begun → Begun
with_stage begun = record begun { stages = begun.stages + 1 }

abbrev pub with_site : Begun → Begun
with_site begun = record begun { sites = begun.sites + 1 }

-- one more stage, with this end, these items and what has begun behind them
abbrev pub stage_of : Begun → Class → Option Test → Option (SheetItems × Begun) → Option (SheetItem × Begun)
stage_of begun class end items =
    ensure (nat_lt begun.stages most_stages) >>= λ room.
    option_map (λ p. (stage begun.stages class p.0 p.1.0, p.1.1)) (both end items)

-- one more choice
abbrev pub choice_of : Begun → Option (List Alt) → Option (SheetItem × Begun)
choice_of begun alts =
    ensure (nat_lt begun.sites most_sites) >>= λ room. option_map
    (λ alts. (choice begun.sites alts, with_site begun)) alts

-- `(end BOOL)`
abbrev pub end_rule : Naming → Rule → Trees → Option Test
end_rule naming rule.End (cons head (cons t nil)) = test_at naming [] t
end_rule naming rule parts = None

abbrev pub end_at : Naming → Tree → Option Test
end_at naming (word bytes from to) = None
end_at naming (list parts from to) = rule_at symbol.End parts >>= λ rule. end_rule naming rule parts

-- an item with no item in it, and what has begun behind it
abbrev pub plain_item : Naming → Begun → Rule → Trees → Option (SheetItem × Begun)
plain_item naming begun rule.Do (cons head effects) =
    option_map (λ effects. (do_item effects, begun)) (effects_at naming [] effects)
plain_item naming begun rule.Choice (cons head alts) = choice_of begun (alts_at naming alts)
plain_item naming begun rule parts = None

abbrev mutual
  -- ITEM, and what has begun behind it
  pub item_at : Naming → Begun → Tree → Option (SheetItem × Begun)
  item_at naming begun (word bytes from to) = None
  item_at naming begun (list parts from to) = rule_at symbol.Item parts >>= λ rule. item_rule naming begun rule parts

  pub item_rule : Naming → Begun → Rule → Trees → Option (SheetItem × Begun)
  item_rule naming begun rule.PlayerStage (cons head (cons class (cons end items))) =
      stage_of begun player_class (end_at naming end) (items_at naming (with_stage begun) items)
  item_rule naming begun rule.TeamStage (cons head (cons class (cons end items))) =
      stage_of begun team_class (end_at naming end) (items_at naming (with_stage begun) items)
  item_rule naming begun rule parts = plain_item naming begun rule parts

  pub items_at : Naming → Begun → Trees → Option (SheetItems × Begun)
  items_at naming begun nil = Some (no_item, begun)
  items_at naming begun (cons part parts) =
      item_at naming begun part >>= λ first.
      option_map (λ later. (item first.0 later.0, later.1)) (items_at naming first.1 parts)

-- an item that is a list of these parts
abbrev pub item_of_list : Naming → Begun → Trees → Option (SheetItem × Begun)
item_of_list naming begun parts = rule_at symbol.Item parts >>= λ rule. item_rule naming begun rule parts

-- BEST
abbrev pub best_at : Tree → Option Best
best_at tree =
    if is_form_word keyword.Max tree then Some highest
    else (if is_form_word keyword.Min tree then Some lowest else None)

-- `(scoring BEST INT)`
abbrev pub score_rule : Naming → Rule → Trees → Option (Best × IntExpr)
score_rule naming rule.Scoring (cons head (cons best (cons value nil))) =
    both (best_at best) (int_at naming self_scope value)
score_rule naming rule parts = None

abbrev pub score_at : Naming → Tree → Option (Best × IntExpr)
score_at naming (word bytes from to) = None
score_at naming (list parts from to) = rule_at symbol.Scoring parts >>= λ rule. score_rule naming rule parts

-- all trees but the last, and the last
abbrev pub but_last : Trees → Trees
but_last nil = nil
but_last (cons tree nil) = nil
but_last (cons tree (cons next trees)) = cons tree (but_last (cons next trees))

abbrev pub last_of : Trees → Option Tree
last_of nil = None
last_of (cons tree nil) = Some tree
last_of (cons tree (cons next trees)) = last_of (cons next trees)

-- the items of a sheet, of which there is one at least, and the scoring, which stands last
abbrev pub body_at : Naming → Trees → Option (SheetItems × (Best × IntExpr))
body_at naming trees =
    ensure (nat_le 2 (count trees)) >>= λ some.
    both (option_map (λ p. p.0) (items_at naming none_begun (but_last trees))) (last_of trees >>= score_at naming)
