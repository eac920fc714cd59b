-- Stages and choices that are read are numbered in the order of the text.
use Rattle.std.proofs.Common.{◌≡◌, ℕ, ◌+◌, nat_lt, nat_le, List, [], ◌∷◌, ◌++◌, length, Option, refl, sym, subst, ap₂}
use Rattle.std.specs.List.{range_with_len}
use Rattle.rc_base.specs.Tree.{Tree, word, list, Trees, nil, cons}
use Rattle.rc_sheet_spec.specs.Sheet.{Class, player_class, team_class, Test, Alt, SheetItem, stage, choice, SheetItems, no_item}
use Rattle.rc_base.specs.Limits.{most_stages, most_sites}
use Rattle.rc_sheet_spec.specs.Mentions.{stages_in_item, stages_in, sites_in_item, sites_in}
use Rattle.rc_base.specs.Numbers.{below}
use Rattle.rc_sheet_spec.specs.Naming.{Naming}
use Rattle.rc_check.specs.Faults.{count}
use Rattle.rc_sheet.specs.ReadNames.{◌>>=◌, ensure, rule_at}
use Rattle.rc_sheet.specs.ReadEffects.{effects_at, alts_at}
use Rattle.rc_sheet.specs.ReadItems.{Begun, none_begun, with_stage, with_site, stage_of, choice_of, end_at, item_at, item_rule, items_at, score_at, but_last, last_of, body_at}
use Rattle.rc_sheet.proofs.Means.{Means, nothing, something, weaker, mapped, behind, both_mean, ensured, anything}
use Rattle.rc_check.specs.declared.grammar.Symbol.TheVariants as symbol
use Rattle.rc_check.specs.declared.grammar.Rule.{Rule}
use Rattle.rc_check.specs.declared.grammar.Rule.TheVariants as rule

-- the numbers are counted one by one, from one number on and up to another
abbrev pub IsRun : ℕ → List ℕ → ℕ → Type 0
IsRun before [] after = before ≡ after
IsRun before (n ∷ ns) after = (n ≡ before) × IsRun (before + 1) ns after

-- and more behind them
run_append : (before between after : ℕ) (ns ms : List ℕ) → IsRun before ns between → IsRun between ms after
    → IsRun before (ns ++ ms) after
run_append before between after [] ms is more = subst (λ n. IsRun n ms after) (sym is) more
run_append before between after (n ∷ ns) ms is more = (is.0, run_append (before + 1) between after ns ms is.1 more)

-- they are so many, in order
run_counts : (before after : ℕ) (ns : List ℕ) → IsRun before ns after → ns ≡ range_with_len before (length ns)
run_counts before after [] is = refl
run_counts before after (n ∷ ns) is = ap₂ ◌∷◌ is.0 (run_counts (before + 1) after ns is.1)

-- what is read counts on stages and choices from what has begun before it
pub record Counts (before : Begun) (stages sites : List ℕ) (after : Begun) : Type 0 where
  pub in_stages : IsRun before.stages stages after.stages
  pub in_sites : IsRun before.sites sites after.sites

abbrev CountsItem : Begun → SheetItem × Begun → Type 0
CountsItem begun p = Counts begun (stages_in_item p.0) (sites_in_item p.0) p.1

abbrev CountsItems : Begun → SheetItems × Begun → Type 0
CountsItems begun p = Counts begun (stages_in p.0) (sites_in p.0) p.1

-- nothing new has begun
none_counted : (begun : Begun) → Counts begun [] [] begun
none_counted begun = record { in_stages = refl; in_sites = refl }

-- one after the other
counted_append : (before between after : Begun) (stages sites stages' sites' : List ℕ) → Counts before stages sites between
    → Counts between stages' sites' after → Counts before (stages ++ stages') (sites ++ sites') after
counted_append before between after stages sites stages' sites' first later =
    record {
      in_stages =
          run_append before.stages between.stages after.stages stages stages' first.in_stages later.in_stages;
      in_sites = run_append before.sites between.sites after.sites sites sites' first.in_sites later.in_sites;
    }

-- a stage counts itself before the items in it
stage_counts : (begun : Begun) (class : Class) (end : Option Test) (items : Option (SheetItems × Begun))
    → Means items (CountsItems (with_stage begun)) → Means (stage_of begun class end items) (CountsItem begun)
stage_counts begun class end items counts =
    behind (ensure (nat_lt begun.stages most_stages)) _ (ensured (nat_lt begun.stages most_stages))
    (λ u room. mapped _ (λ p. (stage begun.stages class p.0 p.1.0, p.1.1)) (both_mean end items (anything end) counts)
    (λ p both. record { in_stages = (refl, both.1.in_stages); in_sites = both.1.in_sites }))

-- a choice
choice_counts : (begun : Begun) (alts : Option (List Alt)) → Means (choice_of begun alts) (CountsItem begun)
choice_counts begun alts =
    behind (ensure (nat_lt begun.sites most_sites)) _ (ensured (nat_lt begun.sites most_sites))
    (λ u room. mapped alts (λ alts. (choice begun.sites alts, with_site begun)) (anything alts)
    (λ given all. record { in_stages = refl; in_sites = (refl, refl) }))

mutual
  -- ITEM
  pub item_counts : (naming : Naming) (begun : Begun) (tree : Tree) → Means (item_at naming begun tree) (CountsItem begun)
  item_counts naming begun (word bytes from to) = nothing
  item_counts naming begun (list parts from to) =
      behind (rule_at symbol.Item parts) _ (anything (rule_at symbol.Item parts))
      (λ rule told. item_rule_counts naming begun rule parts)

  -- by its rule
  item_rule_counts : (naming : Naming) (begun : Begun) (rule : Rule) (parts : Trees)
      → Means (item_rule naming begun rule parts) (CountsItem begun)
  item_rule_counts naming begun rule.Do (cons head effects) =
      mapped (effects_at naming [] effects) _ (anything (effects_at naming [] effects)) (λ es u. none_counted begun)
  item_rule_counts naming begun rule.PlayerStage (cons head (cons class (cons end items))) =
      stage_counts begun player_class (end_at naming end) (items_at naming (with_stage begun) items)
      (items_count naming (with_stage begun) items)
  item_rule_counts naming begun rule.TeamStage (cons head (cons class (cons end items))) =
      stage_counts begun team_class (end_at naming end) (items_at naming (with_stage begun) items)
      (items_count naming (with_stage begun) items)
  item_rule_counts naming begun rule.Choice (cons head alts) = choice_counts begun (alts_at naming alts)
  item_rule_counts naming begun rule parts = nothing

  -- items, one after the other
  pub items_count : (naming : Naming) (begun : Begun) (parts : Trees)
      → Means (items_at naming begun parts) (CountsItems begun)
  items_count naming begun nil = something (no_item, begun) (none_counted begun)
  items_count naming begun (cons part parts) =
      behind (item_at naming begun part) _ (item_counts naming begun part)
      (λ first counts. mapped (items_at naming first.1 parts) _ (items_count naming first.1 parts)
      (λ later count. counted_append begun first.1 later.1 (stages_in_item first.0) (sites_in_item first.0) (stages_in later.0)
      (sites_in later.0) counts count))

-- the items of a sheet have their numbers in order
pub record AreInOrder (items : SheetItems) : Type 0 where
  pub stages : stages_in items ≡ below (length (stages_in items))
  pub sites : sites_in items ≡ below (length (sites_in items))

-- the body of a sheet
pub body_in_order : (naming : Naming) (trees : Trees) → Means (body_at naming trees) (λ p. AreInOrder p.0)
body_in_order naming trees =
    behind (ensure (nat_le 2 (count trees))) _ (ensured (nat_le 2 (count trees)))
    (λ u two. weaker _
    (both_mean _ _
    (mapped (items_at naming none_begun (but_last trees)) (λ p. p.0) (items_count naming none_begun (but_last trees))
    (λ p counts. in_order p.0 p.1 counts))
    (anything (last_of trees >>= score_at naming)))
    (λ p both. both.0))
  where
    in_order : (items : SheetItems) (after : Begun) → Counts none_begun (stages_in items) (sites_in items) after
        → AreInOrder items
    in_order items after counts =
        record {
          stages = run_counts 0 after.stages (stages_in items) counts.in_stages;
          sites = run_counts 0 after.sites (sites_in items) counts.in_sites;
        }
