-- The text that is printed for a sheet is read back.
use Rattle.std.proofs.Common.{◌≡◌, ℕ, List, [], ◌∷◌, ◌++◌, length, refl, sym, ap, ap₂, ◌∙◌, leb-true}
use Rattle.std.proofs.lemmas.Bool.{and_parts}
use Rattle.rc_base.specs.Tree.{Tree, word, list, Trees, nil, cons, IsOpenAtMost, printed, printed_parts, printed_behind}
use Rattle.rc_base.specs.Spelled.{Spelled}
use Rattle.rc_base.specs.Transcript.{line}
use Rattle.rc_form.specs.SameForm.{SameForm, SameForms, SpellsAgain, IsOfAtoms, AreOfAtoms}
use Rattle.rc_form.proofs.SpellingLaws.{read-Spelled, Spelled-unique}
use Rattle.rc_form.proofs.PrintedIsSpelled.{SpellsAgain-printed}
use Rattle.rc_sheet_spec.specs.Sheet.{Sheet}
use Rattle.rc_base.specs.Limits.{most_open}
use Rattle.rc_sheet_spec.specs.Stands.{Stands}
use Rattle.rc_sheet_spec.specs.Sight.{IsInSight}
use Rattle.rc_sheet_spec.specs.Printing.{sheet_form, printed_sheet}
use Rattle.rc_sheet_spec.specs.WellFormed.{IsWellFormed}
use Rattle.rc_print.specs.Unplaced.{unplaced, IsBare, AreBare}
use Rattle.rc_print.proofs.CopiedSheet.{sheet_copied}
use Rattle.rc_sheet.specs.PrintedAgain.{IsReadBack}
use Rattle.rc_sheet.proofs.One.Sheet.{one_well_formed}
use Rattle.rc_sheet.proofs.Sound.Sheet.{no_fault}
use Rattle.rc_sheet.proofs.LineFeeds.{with_feed, without_feed}
use Rattle.rc_sheet.proofs.Moved.Sheet.{with_body, same_opened, sheet_moves}
use Rattle.rc_sheet.proofs.Moved.Well.{still_well}
use Rattle.rc_sheet.proofs.Unplaced.Forms.{form_alike}
use Rattle.rc_sheet.proofs.Unplaced.Sight.{still_in_sight}

-- bare forms are of atoms
mutual
  bare_atoms : (tree : Tree) → IsBare tree → IsOfAtoms tree
  bare_atoms (word bytes from to) bare =
      let both = and_parts _ _ bare.0 in
      let ends = and_parts _ _ both.0 in
      record { some = leb-true 1 (length bytes) ends.0; short = leb-true (length bytes) 64 ends.1; parts = both.1 }
  bare_atoms (list parts from to) bare = bare_all_atoms parts bare.2

  bare_all_atoms : (trees : Trees) → AreBare trees → AreOfAtoms trees
  bare_all_atoms nil bare = tt
  bare_all_atoms (cons tree trees) bare = (bare_atoms tree bare.0, bare_all_atoms trees bare.1)

-- forms that are the same but for offsets are printed alike
mutual
  same_printed : (tree other : Tree) → SameForm tree other → printed other ≡ printed tree
  same_printed (word bytes from to) (word others start end) same = sym same
  same_printed (word bytes from to) (list parts start end) same = absurd same
  same_printed (list parts from to) (word bytes start end) same = absurd same
  same_printed (list parts from to) (list others start end) same = ap (λ bytes. 40 ∷ (bytes ++ (41 ∷ [])))
      (same_parts parts others same)

  same_parts : (trees others : Trees) → SameForms trees others → printed_parts others ≡ printed_parts trees
  same_parts nil nil same = refl
  same_parts nil (cons other others) same = absurd same
  same_parts (cons tree trees) nil same = absurd same
  same_parts (cons tree trees) (cons other others) same =
      ap₂ (λ x y. x ++ y) (same_printed tree other same.0) (same_behind trees others same.1)

  same_behind : (trees others : Trees) → SameForms trees others → printed_behind others ≡ printed_behind trees
  same_behind nil nil same = refl
  same_behind nil (cons other others) same = absurd same
  same_behind (cons tree trees) nil same = absurd same
  same_behind (cons tree trees) (cons other others) same =
      ap₂ (λ x y. 32 ∷ (x ++ y)) (same_printed tree other same.0) (same_behind trees others same.1)

module _ (sheet : Sheet) (formed : IsWellFormed sheet) where
  -- what is printed
  record Printed : Type 0 where
    stands : Stands (unplaced sheet) (sheet_form sheet)
    bare : IsBare (sheet_form sheet)
    opened : IsOpenAtMost most_open (sheet_form sheet)

  is_printed : Printed
  is_printed =
      let shallow = formed.shallow in
      let good = sheet_copied sheet formed.words shallow.0 shallow.1 in
      record { stands = good.stands; bare = good.bare; opened = good.opened most_open shallow.2 }

  pub spells_again : SpellsAgain (sheet_form sheet) (printed_sheet sheet)
  spells_again = SpellsAgain-printed (sheet_form sheet) is_printed.opened (bare_atoms (sheet_form sheet) is_printed.bare)

  -- the sheet of a form that is the printed one but for offsets
  record IsPlaced (form : Tree) : Type 0 where
    again : Sheet
    stands : Stands again form
    well : IsWellFormed again
    equal : unplaced again ≡ unplaced sheet
    seen : IsInSight sheet → IsInSight again

  is_placed : (form : Tree) → SameForm (sheet_form sheet) form → IsPlaced form
  is_placed form same =
      let found = sheet_moves sheet (sheet_form sheet) form same is_printed.stands in
      let opened = same_opened most_open (sheet_form sheet) form same is_printed.opened in
      record {
        again = with_body sheet found.items found.score;
        stands = found.stands;
        well = still_well sheet found.items found.score found.same_items found.same_score formed (form, found.stands, opened);
        equal = ap₂ (with_body sheet) found.same_items found.same_score;
        seen = still_in_sight sheet found.items found.score found.same_items;
      }

  pub reads_back : (forms : List Tree) (rest : ℕ) → Spelled (printed_sheet sheet) 1 forms rest → IsReadBack sheet forms
  reads_back forms rest spelled =
      let text = printed_sheet sheet in
      let here = spells_again in
      let is_spelled = read-Spelled text 1 (here.again ∷ []) (length text) here.spelled in
      let one = Spelled-unique text 1 (here.again ∷ []) here.spelled.later
      (length text) is_spelled here.spelled.behind forms rest spelled in
      let placed = is_placed here.again here.same in
      let fine = no_fault placed.again here.again placed.stands placed.well in
      record {
        form = here.again;
        only = one.0;
        same = here.same;
        text = same_printed (sheet_form sheet) here.again here.same;
        fine = fine;
        again = placed.again;
        stands = placed.stands;
        well = placed.well;
        alone = λ other stands well. one_well_formed here.again placed.again other fine placed.stands placed.well stands well;
        equal = placed.equal;
        printed_again = sym (ap printed (form_alike placed.again)) ∙ ap printed_sheet placed.equal ∙ ap printed (form_alike sheet);
        seen = placed.seen;
      }

  -- WITH AN LF BEHIND IT

  pub line_spelled : (forms : List Tree) × (rest : ℕ) × Spelled (line (printed_sheet sheet)) 1 forms rest
  line_spelled =
      let here = spells_again in
      let forms = here.again ∷ [] in
      let fed = with_feed (printed_sheet sheet) 1 forms (length (printed_sheet sheet)) here.spelled in
      (forms, fed.0, fed.1)

  pub line_reads_back : (forms : List Tree) (rest : ℕ) → Spelled (line (printed_sheet sheet)) 1 forms rest → IsReadBack sheet forms
  line_reads_back forms rest spelled =
      let bare = without_feed (printed_sheet sheet) 1 forms rest spelled in reads_back forms bare.0 bare.1
