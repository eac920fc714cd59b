-- The items that are read have as many stages and choices as have begun behind them.
use Rattle.std.proofs.Common.{◌≡◌, ℕ, ◌+◌, List, [], ◌∷◌, length, arith}
use Rattle.rc_base.specs.Tree.{Trees}
use Rattle.rc_sheet_spec.specs.Sheet.{SheetItems}
use Rattle.rc_sheet_spec.specs.Mentions.{stages_in, sites_in}
use Rattle.rc_sheet_spec.specs.Naming.{Naming}
use Rattle.rc_sheet.specs.ReadItems.{Begun, items_at}
use Rattle.rc_sheet.proofs.Means.{Means, weaker}
use Rattle.rc_sheet.proofs.Mentioned.Stages.{IsRun}
use Rattle.rc_sheet.proofs.Mentioned.Stages.{items_count as items_run}

-- so many stages and choices have begun between
pub record Counted (begun : Begun) (stages sites : List ℕ) (after : Begun) : Type 0 where
  pub stages_between : begun.stages + length stages ≡ after.stages
  pub sites_between : begun.sites + length sites ≡ after.sites

-- those of items
abbrev pub CountedItems : Begun → SheetItems × Begun → Type 0
CountedItems begun p = Counted begun (stages_in p.0) (sites_in p.0) p.1

-- numbers that are counted one by one are as many as lie between
run_length : (before after : ℕ) (ns : List ℕ) → IsRun before ns after → before + length ns ≡ after
run_length before after [] is = omega (arith, is)
run_length before after (n ∷ ns) is = let more = run_length (before + 1) after ns is.1 in omega (arith, more)

pub items_count : (naming : Naming) (begun : Begun) (trees : Trees) → Means (items_at naming begun trees) (CountedItems begun)
items_count naming begun trees =
    weaker (items_at naming begun trees) (items_run naming begun trees)
    (λ p run. record {
      stages_between = run_length begun.stages p.1.stages (stages_in p.0) run.in_stages;
      sites_between = run_length begun.sites p.1.sites (sites_in p.0) run.in_sites;
    })
