-- A form that is the same but for offsets stands for a sheet that is the same but for offsets.
use Rattle.std.proofs.Common.{◌≡◌, ℕ, ◌-◌}
use Rattle.rc_base.specs.Tree.{Tree, word, list, Trees, nil, cons, IsOpenAtMost, AreOpenAtMost}
use Rattle.rc_form.specs.SameForm.{SameForm, SameForms}
use Rattle.rc_sheet_spec.specs.Sheet.{Best, highest, lowest, SheetItems, IntExpr, Sheet}
use Rattle.rc_sheet_spec.specs.Rows.{◌▸◌, End, AtLeast, Some, Row, Atom}
use Rattle.rc_sheet_spec.specs.Naming.{Naming, self_scope, sheet_naming}
use Rattle.rc_sheet_spec.specs.StandsSetup.{StandsSetup}
use Rattle.rc_sheet_spec.specs.StandsExpressions.{StandsInt}
use Rattle.rc_sheet_spec.specs.StandsItems.{StandItems}
use Rattle.rc_sheet_spec.specs.Stands.{StandsBest, StandsScoring, Stands}
use Rattle.rc_print.specs.Unplaced.{items_unplaced, int_unplaced, unplaced}
use Rattle.rc_sheet.proofs.Moved.Common.{Keeps, Moves, word_keeps, row_keeps, part_keeps, end_keeps, least_keeps, row_moves, behind_kept, before_kept, least_moves}
use Rattle.rc_sheet.proofs.Moved.Expressions.{int_moves}
use Rattle.rc_sheet.proofs.Moved.Items.{items_move}
use Rattle.rc_sheet.proofs.Moved.Setup.{setup_keeps}

-- as many lists are open
mutual
  pub same_opened : (room : ℕ) (form other : Tree) → SameForm form other → IsOpenAtMost room form → IsOpenAtMost room other
  same_opened room (word bytes from to) (word others start end) same opened = tt
  same_opened room (word bytes from to) (list parts start end) same opened = absurd same
  same_opened room (list parts from to) (word bytes start end) same opened = absurd same
  same_opened room (list forms from to) (list others start end) same opened =
      (opened.0, all_opened (room - 1) forms others same opened.1)

  all_opened : (room : ℕ) (forms others : Trees) → SameForms forms others → AreOpenAtMost room forms → AreOpenAtMost room others
  all_opened room nil nil same opened = tt
  all_opened room nil (cons other others) same opened = absurd same
  all_opened room (cons form forms) nil same opened = absurd same
  all_opened room (cons form forms) (cons other others) same opened =
      (same_opened room form other same.0 opened.0, all_opened room forms others same.1 opened.1)

best_keeps : (best : Best) → Keeps (StandsBest best)
best_keeps highest = word_keeps
best_keeps lowest = word_keeps

-- a sheet with other items and another score
abbrev pub with_body : Sheet → SheetItems → IntExpr → Sheet
with_body sheet items score =
    record {
      players = sheet.players;
      teams = sheet.teams;
      names = sheet.names;
      decks = sheet.decks;
      points = sheet.points;
      locs = sheet.locs;
      nums = sheet.nums;
      items = items;
      best = sheet.best;
      score = score;
    }

module _ (sheet : Sheet) where
  abbrev naming : Naming
  naming = sheet_naming sheet

  scoring_moves : Moves (StandsScoring (unplaced sheet))
      (λ again. Row (Atom "scoring" ▸ StandsBest sheet.best ▸ StandsInt naming self_scope again ▸ End))
      (λ again. int_unplaced again ≡ int_unplaced sheet.score)
  scoring_moves =
      row_moves (behind_kept word_keeps (behind_kept (best_keeps sheet.best)
      (before_kept (int_moves naming self_scope sheet.score) end_keeps)))

  -- a setup of the sheet without its offsets is one of a sheet with another body
  other_setup : (items : SheetItems) (score : IntExpr) (lines : Trees) → StandsSetup naming (unplaced sheet) lines
      → StandsSetup naming (with_body sheet items score) lines
  other_setup items score lines stands = record {
    lines_alone = stands.lines_alone;
    players = stands.players;
    teams = stands.teams;
    decks = stands.decks;
    points = stands.points;
  }

  -- the body of a sheet for which the form stands, and which is the same but for offsets
  pub record Placed (form : Tree) : Type 0 where
    pub items : SheetItems
    pub score : IntExpr
    pub stands : Stands (with_body sheet items score) form
    pub same_items : items_unplaced items ≡ items_unplaced sheet.items
    pub same_score : int_unplaced score ≡ int_unplaced sheet.score

  abbrev StandsWith : SheetItems × IntExpr → Tree → Type 0
  StandsWith body =
      Row (Atom "game"
      ▸ Row (Atom "setup" ▸ Some (StandsSetup naming (unplaced sheet)))
      ▸ AtLeast 2 (StandItems naming body.0
      (Row (Atom "scoring" ▸ StandsBest sheet.best ▸ StandsInt naming self_scope body.1 ▸ End) ▸ End)))

  body_moves : Moves (Stands (unplaced sheet)) StandsWith
      (λ body. (items_unplaced body.0 ≡ items_unplaced sheet.items) × (int_unplaced body.1 ≡ int_unplaced sheet.score))
  body_moves =
      row_moves (behind_kept word_keeps
      (behind_kept (row_keeps (part_keeps word_keeps (least_keeps 1 (setup_keeps naming (unplaced sheet)))))
      (least_moves 2 (items_move naming sheet.items (before_kept scoring_moves end_keeps)))))

  stands_with : (items : SheetItems) (score : IntExpr) (form : Tree) → StandsWith (items, score) form
      → Stands (with_body sheet items score) form
  stands_with items score (word bytes from to) stands = absurd stands
  stands_with items score (list nil from to) stands = absurd stands
  stands_with items score (list (cons game nil) from to) stands = absurd stands.1
  stands_with items score (list (cons game (cons (word bytes start end) parts)) from to) stands = absurd stands.1.0
  stands_with items score (list (cons game (cons (list nil start end) parts)) from to) stands = absurd stands.1.0
  stands_with items score (list (cons game (cons (list (cons setup lines) start end) parts)) from to) stands =
      (stands.0, ((stands.1.0.0, (stands.1.0.1.0, other_setup items score lines stands.1.0.1.1)), stands.1.1))

  pub sheet_moves : (form other : Tree) → SameForm form other → Stands (unplaced sheet) form → Placed other
  sheet_moves form other same stands =
      let found = body_moves.of form other same stands in
      record {
        items = found.again.0;
        score = found.again.1;
        stands = stands_with found.again.0 found.again.1 other found.stands;
        same_items = found.same.0;
        same_score = found.same.1;
      }
