-- What is read stands for its form: items, the scoring, and the body of a sheet.
use Rattle.std.proofs.Common.{◌≡◌, ℕ, nat_lt, nat_le, List, [], Option, Some, None, sym, subst, arith}
use Rattle.std.proofs.lemmas.Option.{none-some, same_Some}
use Rattle.rc_base.specs.Tree.{Tree, word, list, Trees, nil, cons}
use Rattle.rc_sheet_spec.specs.Sheet.{Class, player_class, team_class, Test, IntExpr, Best, highest, lowest, Alt, stage, choice, SheetItems, no_item, item}
use Rattle.rc_base.specs.Limits.{most_stages, most_sites}
use Rattle.rc_sheet_spec.specs.Rows.{◌▸◌, End, AtLeast, Row, Atom}
use Rattle.rc_sheet_spec.specs.Rows.{Some as SomeOf}
use Rattle.rc_sheet_spec.specs.Naming.{Naming, self_scope}
use Rattle.rc_sheet_spec.specs.StandsExpressions.{StandsTest, StandsInt}
use Rattle.rc_sheet_spec.specs.StandsItems.{StandAlts, StandsClass, StandsItem, StandItems}
use Rattle.rc_sheet_spec.specs.Stands.{StandsBest}
use Rattle.rc_check.specs.Faults.{is_form_word, count}
use Rattle.rc_sheet.specs.ReadNames.{◌>>=◌, ensure, rule_at}
use Rattle.rc_sheet.specs.ReadExpressions.{test_at}
use Rattle.rc_sheet.specs.ReadEffects.{effects_at}
use Rattle.rc_sheet.specs.ReadItems.{Begun, none_begun, with_stage, with_site, stage_of, choice_of, end_rule, end_at, item_at, item_rule, items_at, best_at, score_rule, score_at, but_last, last_of, body_at}
use Rattle.rc_sheet.proofs.Means.{Means, nothing, something, means_if, weaker, mapped, behind, both_mean, either, ensured}
use Rattle.rc_sheet.proofs.ReadOff.Names.{word_form, Told, told_at, least_left}
use Rattle.rc_sheet.proofs.ReadOff.Expressions.{int_means, test_means}
use Rattle.rc_sheet.proofs.ReadOff.Effects.{effects_mean, alts_mean}
use Rattle.rc_check.specs.declared.keyword.Keyword.TheVariants as keyword
use Rattle.rc_check.specs.declared.grammar.Symbol.TheVariants as symbol
use Rattle.rc_check.specs.declared.grammar.Rule.{Rule}
use Rattle.rc_check.specs.declared.grammar.Rule.TheVariants as rule

-- `(end BOOL)`
abbrev pub StandsEnd : Naming → Test → Tree → Type 0
StandsEnd naming t = Row (Atom "end" ▸ StandsTest naming [] t ▸ End)

-- by its rule
end_rule_means : (naming : Naming) (from to : ℕ) (rule : Rule) (parts : Trees) → Told rule parts
    → Means (end_rule naming rule parts) (λ t. StandsEnd naming t (list parts from to))
end_rule_means naming from to rule.End (cons head (cons t nil)) told =
    weaker (test_at naming [] t) (test_means naming [] t) (λ t' stands. (told.0, (stands, tt)))
end_rule_means naming from to rule parts told = nothing

-- the end of a stage
pub end_means : (naming : Naming) (tree : Tree) → Means (end_at naming tree) (λ t. StandsEnd naming t tree)
end_means naming (word bytes from to) = nothing
end_means naming (list parts from to) =
    behind (rule_at symbol.End parts) _ (told_at symbol.End parts) (λ rule told. end_rule_means naming from to rule parts told)

-- a stage, whose numbers say nothing of its form
stage_means : (naming : Naming) (begun : Begun) (class : Class) (end : Option Test) (items : Option (SheetItems × Begun))
    (head second third : Tree) (parts : Trees) (from to : ℕ) → Atom "stage" head → StandsClass class second
    → Means end (λ t. StandsEnd naming t third) → Means items (λ p. SomeOf (StandItems naming p.0 End) parts)
    → Means (stage_of begun class end items)
    (λ p. StandsItem naming p.0 (list (cons head (cons second (cons third parts))) from to))
stage_means naming begun class end items head second third parts from to is whose ends stand =
    behind (ensure (nat_lt begun.stages most_stages)) _ (ensured (nat_lt begun.stages most_stages))
    (λ u room. mapped _ (λ p. (stage begun.stages class p.0 p.1.0, p.1.1)) (both_mean end items ends stand)
    (λ p both. (is, (whose, (both.0, both.1)))))

-- a choice
choice_means : (naming : Naming) (begun : Begun) (alts : Option (List Alt)) (head : Tree) (parts : Trees) (from to : ℕ)
    → Atom "choice" head → Means alts (λ alts. SomeOf (StandAlts naming alts) parts)
    → Means (choice_of begun alts) (λ p. StandsItem naming p.0 (list (cons head parts) from to))
choice_means naming begun alts head parts from to is stand =
    behind (ensure (nat_lt begun.sites most_sites)) _ (ensured (nat_lt begun.sites most_sites))
    (λ u room. mapped alts (λ alts. (choice begun.sites alts, with_site begun)) stand (λ given all. (is, all)))

mutual
  -- ITEM
  pub item_means : (naming : Naming) (begun : Begun) (tree : Tree)
      → Means (item_at naming begun tree) (λ p. StandsItem naming p.0 tree)
  item_means naming begun (word bytes from to) = nothing
  item_means naming begun (list parts from to) =
      behind (rule_at symbol.Item parts) _ (told_at symbol.Item parts)
      (λ rule told. item_rule_means naming begun from to rule parts told)

  -- by its rule
  item_rule_means : (naming : Naming) (begun : Begun) (from to : ℕ) (rule : Rule) (parts : Trees) → Told rule parts
      → Means (item_rule naming begun rule parts) (λ p. StandsItem naming p.0 (list parts from to))
  item_rule_means naming begun from to rule.Do (cons head effects) told =
      mapped (effects_at naming [] effects) _ (effects_mean naming [] effects)
      (λ es stand. (told.0, (least_left 1 1 _ effects told.2 (omega arith), stand)))
  item_rule_means naming begun from to rule.PlayerStage (cons head (cons class (cons end items))) told =
      stage_means naming begun player_class _ _ head class end items from to told.0 told.1 (end_means naming end)
      (weaker _ (items_mean naming (with_stage begun) items) (λ p stand. (least_left 1 3 _ items told.2 (omega arith), stand)))
  item_rule_means naming begun from to rule.TeamStage (cons head (cons class (cons end items))) told =
      stage_means naming begun team_class _ _ head class end items from to told.0 told.1 (end_means naming end)
      (weaker _ (items_mean naming (with_stage begun) items) (λ p stand. (least_left 1 3 _ items told.2 (omega arith), stand)))
  item_rule_means naming begun from to rule.Choice (cons head alts) told =
      choice_means naming begun _ head alts from to told.0
      (weaker _ (alts_mean naming alts) (λ given stand. (least_left 1 1 _ alts told.2 (omega arith), stand)))
  item_rule_means naming begun from to rule parts told = nothing

  -- items, one after the other
  pub items_mean : (naming : Naming) (begun : Begun) (parts : Trees)
      → Means (items_at naming begun parts) (λ p. StandItems naming p.0 End parts)
  items_mean naming begun nil = something (no_item, begun) tt
  items_mean naming begun (cons part parts) =
      behind (item_at naming begun part) _ (item_means naming begun part)
      (λ first stands. mapped (items_at naming first.1 parts) _ (items_mean naming first.1 parts)
      (λ later stand. (stands, stand)))

-- BEST
pub best_means : (tree : Tree) → Means (best_at tree) (λ best. StandsBest best tree)
best_means tree =
    either (is_form_word keyword.Max tree) (Some highest) _ (λ is. something highest (word_form keyword.Max tree is))
    (λ is. either (is_form_word keyword.Min tree) (Some lowest) None
    (λ is. something lowest (word_form keyword.Min tree is)) (λ is. nothing))

-- `(scoring BEST INT)`
abbrev pub StandsScore : Naming → Best → IntExpr → Tree → Type 0
StandsScore naming best score = Row (Atom "scoring" ▸ StandsBest best ▸ StandsInt naming self_scope score ▸ End)

-- by its rule
score_rule_means : (naming : Naming) (from to : ℕ) (rule : Rule) (parts : Trees) → Told rule parts
    → Means (score_rule naming rule parts) (λ p. StandsScore naming p.0 p.1 (list parts from to))
score_rule_means naming from to rule.Scoring (cons head (cons best (cons value nil))) told =
    weaker _ (both_mean _ _ (best_means best) (int_means naming self_scope value)) (λ p stand. (told.0, (stand.0, (stand.1, tt))))
score_rule_means naming from to rule parts told = nothing

-- the scoring
pub score_means : (naming : Naming) (tree : Tree) → Means (score_at naming tree) (λ p. StandsScore naming p.0 p.1 tree)
score_means naming (word bytes from to) = nothing
score_means naming (list parts from to) =
    behind (rule_at symbol.Scoring parts) _ (told_at symbol.Scoring parts)
    (λ rule told. score_rule_means naming from to rule parts told)

-- the items before the last part, and what stands last
joined : (naming : Naming) (Last : Tree → Type 0) (items : SheetItems) (trees : Trees) (last : Tree)
    → StandItems naming items End (but_last trees) → last_of trees ≡ Some last → Last last
    → StandItems naming items (Last ▸ End) trees
joined naming Last items nil last stand is ends = absurd (none-some last is)
joined naming Last no_item (cons tree nil) last stand is ends = (subst Last (sym (same_Some tree last is)) ends, tt)
joined naming Last (item i items) (cons tree nil) last stand is ends = absurd stand
joined naming Last no_item (cons tree (cons next trees)) last stand is ends = absurd stand
joined naming Last (item i items) (cons tree (cons next trees)) last stand is ends =
    (stand.0, joined naming Last items (cons next trees) last stand.1 is ends)

-- the scoring of a sheet
last_means : (naming : Naming) (trees : Trees)
    → Means (last_of trees >>= score_at naming)
    (λ p. (last : Tree) × (last_of trees ≡ Some last) × StandsScore naming p.0 p.1 last)
last_means naming trees =
    behind (last_of trees) (score_at naming) (means_if (last_of trees) (λ last is. is))
    (λ last is. weaker (score_at naming last) (score_means naming last) (λ p stands. (last, is, stands)))

-- the body of a sheet
pub body_means : (naming : Naming) (trees : Trees)
    → Means (body_at naming trees) (λ p. AtLeast 2 (StandItems naming p.0 (StandsScore naming p.1.0 p.1.1 ▸ End)) trees)
body_means naming trees =
    behind (ensure (nat_le 2 (count trees))) _ (ensured (nat_le 2 (count trees)))
    (λ u two. weaker _
    (both_mean _ _
    (mapped (items_at naming none_begun (but_last trees)) (λ p. p.0) (items_mean naming none_begun (but_last trees))
    (λ p stand. stand))
    (last_means naming trees))
    (λ p all. (
      two,
      joined naming (StandsScore naming p.1.0 p.1.1) p.0 trees all.1.0 all.0 all.1.1 all.1.2,
    )))
