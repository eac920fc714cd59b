-- A sheet that is read with the names of its form has its names, stages and choices numbered by their first mention.
use Rattle.std.proofs.Common.{◌≡◌, length, map, Some, refl, sym, subst, ap, ◌∙◌}
use Rattle.rc_base.specs.Tree.{Tree, word, list, Trees, cons}
use Rattle.rc_sheet_spec.specs.Sheet.{Sheet}
use Rattle.rc_sheet_spec.specs.FormMentions.{names_of, AreNames}
use Rattle.rc_base.specs.Numbers.{below}
use Rattle.rc_sheet_spec.specs.Numbering.{IsNumbered}
use Rattle.rc_sheet_spec.specs.Naming.{Naming, sheet_naming}
use Rattle.rc_sheet_spec.specs.Stands.{Stands}
use Rattle.rc_resolve.specs.Naming.{naming_of}
use Rattle.rc_resolve.proofs.Whole.{loc_numbers, num_numbers}
use Rattle.rc_sheet.specs.ReadNames.{rule_at}
use Rattle.rc_sheet.specs.ReadItems.{body_at}
use Rattle.rc_sheet.specs.ReadSheet.{setup_form_at, game_parts, game_rule, sheet_at, sheet_with}
use Rattle.rc_sheet.proofs.Means.{Means, nothing, something, means_so, behind, anything}
use Rattle.rc_sheet.proofs.ReadOff.Sheet.{sheet_means}
use Rattle.rc_sheet.proofs.Mentioned.Common.{attrs, values, maps, locs, nums, vars}
use Rattle.rc_sheet.proofs.Mentioned.Sheet.{names_numbered}
use Rattle.rc_sheet.proofs.Mentioned.Stages.{AreInOrder, body_in_order}
use Rattle.rc_check.specs.declared.grammar.Symbol.TheVariants as symbol
use Rattle.rc_check.specs.declared.grammar.Rule.{Rule}
use Rattle.rc_check.specs.declared.grammar.Rule.TheVariants as rule

-- a sheet that is read has this naming, and its stages and choices are in order
pub record IsReadBy (naming : Naming) (sheet : Sheet) : Type 0 where
  pub named : sheet_naming sheet ≡ naming
  pub in_order : AreInOrder sheet.items

-- by its rule
game_rule_reads : (naming : Naming) (rule : Rule) (parts : Trees) → Means (game_rule naming rule parts) (IsReadBy naming)
unfolding game_parts
game_rule_reads naming rule.Game (cons head (cons setup parts)) =
    behind (setup_form_at naming setup) _ (anything (setup_form_at naming setup))
    (λ said u. behind (body_at naming parts) _ (body_in_order naming parts)
    (λ body in_order. something (sheet_with naming said body) (record { named = refl; in_order = in_order })))
game_rule_reads naming rule parts = nothing

-- a whole form
pub sheet_reads : (naming : Naming) (tree : Tree) → Means (sheet_at naming tree) (IsReadBy naming)
unfolding sheet_at
sheet_reads naming (word bytes from to) = nothing
sheet_reads naming (list parts from to) =
    behind (rule_at symbol.Sheet parts) (λ rule. game_rule naming rule parts) (anything (rule_at symbol.Sheet parts))
    (λ rule u. game_rule_reads naming rule parts)

-- the locations and the stored numbers of a naming are numbered as their names are
pub record AreCounted (naming : Naming) : Type 0 where
  pub locs : map (λ loc. loc.name) naming.locs ≡ below (length naming.names.locs)
  pub nums : map (λ num. num.name) naming.nums ≡ below (length naming.names.nums)

-- the names of the sheet are those of the form
names_same : (naming : Naming) (sheet : Sheet) (tree : Tree) → sheet_naming sheet ≡ naming → naming.names ≡ names_of tree
    → AreNames sheet tree
names_same naming sheet tree named names = ap (λ n. n.names) named ∙ names

-- and so are numbered
pub read_is_numbered : (naming : Naming) (tree : Tree) (sheet : Sheet) → sheet_at naming tree ≡ Some sheet
    → naming.names ≡ names_of tree → AreCounted naming → IsNumbered sheet
read_is_numbered naming tree sheet is names counted =
    let stands : Stands sheet tree = means_so (sheet_at naming tree) sheet (sheet_means naming tree) is in
    let reads : IsReadBy naming sheet = means_so (sheet_at naming tree) sheet (sheet_reads naming tree) is in
    let named : AreNames sheet tree = names_same naming sheet tree reads.named names in
    let counted' : AreCounted (sheet_naming sheet) = subst AreCounted (sym reads.named) counted in
    record {
      attrs = names_numbered attrs sheet tree stands named;
      values = names_numbered values sheet tree stands named;
      maps = names_numbered maps sheet tree stands named;
      locs = names_numbered locs sheet tree stands named;
      nums = names_numbered nums sheet tree stands named;
      vars = names_numbered vars sheet tree stands named;
      loc_numbers = counted'.locs;
      num_numbers = counted'.nums;
      stages = reads.in_order.stages;
      sites = reads.in_order.sites;
    }

-- where the naming is that of the form
pub read_with_names_of : (tree : Tree) (sheet : Sheet) → sheet_at (naming_of tree) tree ≡ Some sheet → IsNumbered sheet
read_with_names_of tree sheet is =
    read_is_numbered (naming_of tree) tree sheet is refl (record { locs = loc_numbers tree; nums = num_numbers tree })
