-- The form that is printed for a sheet stands for it, but for offsets, where another form does.
use Rattle.std.proofs.Common.{ℕ, ◌-◌, [], ◌∷◌, refl}
use Rattle.rc_base.specs.Tree.{Tree, word, list, nil, cons, IsOpenAtMost}
use Rattle.rc_sheet_spec.specs.Sheet.{Best, highest, lowest, Sheet}
use Rattle.rc_sheet_spec.specs.Stands.{StandsBest, StandsScoring, Stands}
use Rattle.rc_sheet_spec.specs.Printing.{best_form, scoring_form, sheet_form}
use Rattle.rc_sheet_spec.specs.WellFormed.{HasWords}
use Rattle.rc_print.specs.Respelled.{IsRespelled, in_order}
use Rattle.rc_print.specs.Unplaced.{unplaced, IsBare}
use Rattle.rc_print.proofs.Copied.{Copies, keyword_copied, part_copied, end_copied, least_copied}
use Rattle.rc_print.proofs.CopiedNames.{two_copied, self_fits}
use Rattle.rc_print.proofs.CopiedExpressions.{int_copied}
use Rattle.rc_print.proofs.CopiedItems.{items_copied}
use Rattle.rc_print.proofs.CopiedSetup.{setup_copied}

best_copied : (best : Best) → Copies (StandsBest best) (StandsBest best) (best_form best)
best_copied highest = keyword_copied "max" refl
best_copied lowest = keyword_copied "min" refl

module _ (sheet : Sheet) (words : HasWords sheet) where
  scoring_copied : Copies (StandsScoring sheet) (StandsScoring (unplaced sheet)) (scoring_form sheet)
  scoring_copied = two_copied "scoring" refl (best_copied sheet.best) (int_copied sheet words self_fits sheet.score)

  -- what is printed for a sheet for which a form stands
  pub record GoodSheet (form : Tree) : Type 0 where
    pub stands : Stands (unplaced sheet) (sheet_form sheet)
    pub bare : IsBare (sheet_form sheet)
    pub opened : (room : ℕ) → IsOpenAtMost room form → IsOpenAtMost room (sheet_form sheet)
    pub spelled : IsRespelled (in_order form) (sheet_form sheet)

  pub sheet_copied : (form : Tree) → Stands sheet form → GoodSheet form
  sheet_copied (word bytes from to) stands = absurd stands
  sheet_copied (list nil from to) stands = absurd stands
  sheet_copied (list (cons game nil) from to) stands = absurd stands.1
  sheet_copied (list (cons game (cons setup parts)) from to) stands =
      let first = (keyword_copied "game" refl).of game stands.0 in
      let second = setup_copied sheet words setup stands.1.0 in
      let last = part_copied scoring_copied end_copied in
      let others = (least_copied 2 (items_copied sheet words (scoring_form sheet ∷ []) sheet.items last)).of parts stands.1.1 in
      record {
        stands = (first.0, (second.stands, others.1));
        bare = (refl, refl, (first.1, (second.bare, others.2)));
        opened = λ room opened. (
          opened.0,
          (
            first.2.0 (room - 1) opened.1.0,
            (
              second.opened (room - 1) opened.1.1.0,
              others.3.0
                  (room - 1) opened.1.1.1,
            ),
          ),
        );
        spelled = (first.2.1, (second.spelled, others.3.1));
      }
