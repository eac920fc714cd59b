-- The trick game: the text of its form, and its sheet.
use Rattle.std.specs.Prelude.{ℕ, List, [], ◌∷◌, ◌++◌, codes}
use Rattle.rc_base.specs.Tree.{Tree}
use Rattle.rc_base.specs.Spelled.{Spelled}
use Rattle.rc_sheet_spec.specs.Sheet.{Sheet}
use Rattle.rc_sheet.specs.Accepted.{IsAccepted}

-- the text
abbrev pub trick_text : List ℕ
trick_text =
    codes "(game\n"
    ++ codes "(setup (create players 4)\n"
    ++ codes "(create deck (game hloc STOCK) (deck (RANK (3 4 5 6 7 8 9 10)) (SUIT (C D H S))))\n"
    ++ codes "(create deck (game hloc STOCK) (deck (RANK (A)) (SUIT (C D H))))\n"
    ++ codes "(put points POWER ((RANK (3) 3) (RANK (4) 4) (RANK (5) 5) (RANK (6) 6) (RANK (7) 7)\n"
    ++ codes "(RANK (8) 8) (RANK (9) 9) (RANK (10) 10) (RANK (A) 11))))\n"
    ++ codes "(do (shuffle (game hloc STOCK))\n"
    ++ codes "(all player 'P (repeat 6 (move (top (game hloc STOCK)) (top ('P iloc HAND))))))\n"
    ++ codes "(stage player (end (all player 'P (= (size ('P iloc HAND)) 0)))\n"
    ++ codes "(stage player (end (all player 'P (= (size ('P vloc TRICK)) 1)))\n"
    ++ codes "(choice (any ((current player) iloc HAND) 'C\n"
    ++ codes "(if (or (= (size (game mem LEAD)) 0)\n"
    ++ codes "(= (attr 'C SUIT) (attr (top (game mem LEAD)) SUIT))\n"
    ++ codes "(not (any ((current player) iloc HAND) 'D\n"
    ++ codes "(= (attr 'D SUIT) (attr (top (game mem LEAD)) SUIT)))))\n"
    ++ codes "(if (= (size (game mem LEAD)) 0) (remember 'C (top (game mem LEAD))))\n"
    ++ codes "(move 'C (top ((current player) vloc TRICK)))))))\n"
    ++ codes "(do (set (game sto BEST) 0)\n"
    ++ codes "(all player 'P\n"
    ++ codes "(if (and (= (attr (top ('P vloc TRICK)) SUIT) (attr (top (game mem LEAD)) SUIT))\n"
    ++ codes "(> (points (top ('P vloc TRICK)) using POWER) (game sto BEST)))\n"
    ++ codes "(set (game sto BEST) (points (top ('P vloc TRICK)) using POWER))\n"
    ++ codes "(all player 'Q (set ('Q sto LAST) 0))\n"
    ++ codes "(set ('P sto LAST) 1)\n"
    ++ codes "(cycle next 'P)))\n"
    ++ codes "(all player 'P (move all ('P vloc TRICK) (top (game vloc USED))))\n"
    ++ codes "(forget (top (game mem LEAD)))))\n"
    ++ codes "(scoring max ('SELF sto LAST)))\n"

-- The text spells one form, and this is the sheet that it is accepted as.
pub record IsTrickGame (sheet : Sheet) : Type 0 where
  pub form : Tree
  pub rest : ℕ
  pub spelled : Spelled trick_text 1 (form ∷ []) rest
  pub accepted : IsAccepted form sheet
