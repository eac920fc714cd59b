-- A sheet that is read off a form without a fault is within its limits.
use Rattle.std.proofs.Common.{◌≡◌, ◌≤◌, [], length, Some, sym, subst, ap}
use Rattle.rc_base.specs.Tree.{Tree}
use Rattle.rc_sheet_spec.specs.Sheet.{Names, Sheet}
use Rattle.rc_base.specs.Limits.{most_attrs, most_values, most_maps}
use Rattle.rc_sheet_spec.specs.FormMentions.{names_of}
use Rattle.rc_sheet_spec.specs.WellFormed.{IsWithinLimits}
use Rattle.rc_check.specs.Faults.{faults}
use Rattle.rc_check.specs.declared.grammar.Symbol.TheVariants as symbol
use Rattle.rc_check.specs.SecondFaults.{second_faults}
use Rattle.rc_resolve.specs.Naming.{naming_of}
use Rattle.rc_sheet.specs.ReadSheet.{sheet_at}
use Rattle.rc_sheet.proofs.Means.{means_so}
use Rattle.rc_sheet.proofs.Mentioned.Numbers.{sheet_reads}
use Rattle.rc_sheet.proofs.FewNames.{few_attributes, few_values, few_maps}
use Rattle.rc_sheet.proofs.ReadLimits.{sheet_few}
use Rattle.rc_sheet.proofs.Fine.Cards.{sheet_has_cards}
use Rattle.rc_sheet.proofs.OwnedNames.{few_locations, few_numbers}

-- it has the names of its form
pub names_are : (tree : Tree) (sheet : Sheet) → sheet_at (naming_of tree) tree ≡ Some sheet → sheet.names ≡ names_of tree
names_are tree sheet is =
    ap (λ n. n.names) (means_so (sheet_at (naming_of tree) tree) sheet (sheet_reads (naming_of tree) tree) is).named

-- and so keeps its limits
pub within_limits : (tree : Tree) (sheet : Sheet) → faults symbol.Sheet tree ≡ [] → second_faults tree ≡ []
    → sheet_at (naming_of tree) tree ≡ Some sheet → IsWithinLimits sheet
within_limits tree sheet shaped sound is =
    let few = means_so (sheet_at (naming_of tree) tree) sheet (sheet_few (naming_of tree) tree) is in
    let names = sym (names_are tree sheet is) in
    record {
      some_players = few.some_players;
      players = few.players;
      cards = (sheet_has_cards tree sheet shaped sound is).1;
      locations = few_locations tree sheet shaped sound is;
      numbers = few_numbers tree sheet shaped sound is;
      attrs = subst (λ (n : Names). length n.attrs ≤ most_attrs) names (few_attributes tree shaped sound);
      values = subst (λ (n : Names). length n.values ≤ most_values) names (few_values tree shaped sound);
      maps = subst (λ (n : Names). length n.maps ≤ most_maps) names (few_maps tree shaped sound);
      stages = few.stages;
      sites = few.sites;
    }
