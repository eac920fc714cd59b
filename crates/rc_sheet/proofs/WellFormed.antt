-- A sheet that is read off a form without a fault is well formed.
use Rattle.std.proofs.Common.{◌≡◌, [], Some}
use Rattle.rc_base.specs.Tree.{Tree}
use Rattle.rc_form.specs.Form.{IsPrintable}
use Rattle.rc_form.specs.SameForm.{IsOfAtoms}
use Rattle.rc_sheet_spec.specs.Sheet.{Sheet}
use Rattle.rc_sheet_spec.specs.WellFormed.{IsWellFormed}
use Rattle.rc_check.specs.Faults.{faults}
use Rattle.rc_check.specs.declared.grammar.Symbol.TheVariants as symbol
use Rattle.rc_check.specs.SecondFaults.{second_faults}
use Rattle.rc_resolve.specs.Naming.{naming_of}
use Rattle.rc_sheet.specs.ReadSheet.{sheet_at}
use Rattle.rc_sheet.proofs.Fine.Sheet.{HasFineBody}
use Rattle.rc_sheet.proofs.Fine.Teams.{teams_are_a_partition}
use Rattle.rc_sheet.proofs.Fine.Cards.{sheet_has_cards}
use Rattle.rc_sheet.proofs.Fine.Decks.{decks_are_decks}
use Rattle.rc_sheet.proofs.Fine.Points.{points_have_entries, some_entry, are_entries}
use Rattle.rc_sheet.proofs.Mentioned.Numbers.{read_with_names_of}
use Rattle.rc_sheet.proofs.Shallow.{printable_shallow}
use Rattle.rc_sheet.proofs.Within.{within_limits}
use Rattle.rc_sheet.proofs.PlainWords.{has_words}

-- THE LAW: a sheet that is read off a form without a fault is well formed, where its items and its score are.
pub well_formed : (tree : Tree) (sheet : Sheet) → faults symbol.Sheet tree ≡ [] → second_faults tree ≡ [] → IsPrintable tree
    → IsOfAtoms tree → HasFineBody sheet → sheet_at (naming_of tree) tree ≡ Some sheet → IsWellFormed sheet
well_formed tree sheet shaped sound printable atoms fine is =
    let points = points_have_entries tree sheet shaped sound is in
    record {
      words = has_words tree sheet shaped sound atoms is;
      numbered = read_with_names_of tree sheet is;
      limits = within_limits tree sheet shaped sound is;
      shallow = printable_shallow (naming_of tree) tree sheet is printable;
      teams = teams_are_a_partition tree sheet shaped sound is;
      some_deck = (sheet_has_cards tree sheet shaped sound is).0;
      decks = decks_are_decks tree sheet shaped sound is;
      some_entry = some_entry sheet.points points;
      entries = are_entries sheet.points points;
      some_item = fine.some_item;
      items = fine.items;
      score = fine.score;
    }
