-- Sheets and parts of sheets whose forms are known, to try the definitions on.
use Rattle.std.specs.Prelude.{ℕ, ◌+◌, List, [], ◌∷◌, ◌++◌, length, codes, pos, None}
use Rattle.rc_base.specs.Token.{Token, opening, closing, atom, odd, tokens}
use Rattle.rc_base.specs.Tree.{Tree, word, list, nil}
use Rattle.rc_base.specs.Deck.{no_group, group, no_branch, branch}
use Rattle.rc_sheet_spec.specs.Sheet.{highest, game_class, player_class, vloc, iloc, hloc, game, current_player, who_var, Who, top, Loc, card_var, top_card, cards_in, sum_of, size_of, literal, eq_int, all_of, each_player, each_card, move, repeat, for_each, do_alt, any_alt, do_item, stage, choice, Sheet}
use Rattle.rc_sheet_spec.specs.Lists.{effects_from, items_from}
use Rattle.rc_sheet_spec.specs.Printing.{packed}

-- Reads on, with the lists that are open, the innermost first: where each begins, and its parts so far.
abbrev pub read_on : List (ℕ × List Tree) → List Tree → List Token → List Tree
read_on open_lists done [] = done
read_on [] done (opening at ∷ ts) = read_on ((at, []) ∷ []) done ts
read_on [] done (token ∷ ts) = done
read_on (inner ∷ outer) done (opening at ∷ ts) = read_on ((at, []) ∷ inner ∷ outer) done ts
read_on (inner ∷ []) done (closing at ∷ ts) = read_on [] (done ++ list (packed inner.1) inner.0 (at + 1) ∷ []) ts
read_on (inner ∷ next ∷ outer) done (closing at ∷ ts) =
    read_on ((next.0, next.1 ++ list (packed inner.1) inner.0 (at + 1) ∷ []) ∷ outer) done ts
read_on (inner ∷ outer) done (atom at bytes ∷ ts) =
    read_on ((inner.0, inner.1 ++ word bytes at (at + length bytes) ∷ []) ∷ outer) done ts
read_on (inner ∷ outer) done (odd at ∷ ts) = done

-- the first of some trees
abbrev pub first_of_them : List Tree → Tree
first_of_them [] = list nil 0 0
first_of_them (tree ∷ trees) = tree

-- the form that a text spells
abbrev pub form_of : List ℕ → Tree
form_of text = first_of_them (read_on [] [] (tokens text))

abbrev pub four_cards_text : List ℕ
four_cards_text =
    codes "(game\n(setup (create players 2)\n(create deck (game hloc STOCK) (deck (RANK (1 2 3 4))))\n(put points WORTH ((RANK (1) 1) (RANK (2) 2) (RANK (3) 3) (RANK (4) 4))))\n(do (all player 'P (repeat 2 (move (top (game hloc STOCK)) (top ('P iloc HAND))))))\n(stage player (end (all player 'P (= (size ('P iloc HAND)) 0)))\n(choice (any ((current player) iloc HAND) 'C\n(do (move 'C (top ((current player) vloc PLAYED)))))))\n(scoring max (sum ('SELF vloc PLAYED) using WORTH)))\n"

-- the same on one line, without the line's end
abbrev pub four_cards_one_line : List ℕ
four_cards_one_line =
    codes "(game (setup (create players 2) (create deck (game hloc STOCK) (deck (RANK (1 2 3 4)))) (put points WORTH ((RANK (1) 1) (RANK (2) 2) (RANK (3) 3) (RANK (4) 4)))) (do (all player 'P (repeat 2 (move (top (game hloc STOCK)) (top ('P iloc HAND)))))) (stage player (end (all player 'P (= (size ('P iloc HAND)) 0))) (choice (any ((current player) iloc HAND) 'C (do (move 'C (top ((current player) vloc PLAYED))))))) (scoring max (sum ('SELF vloc PLAYED) using WORTH)))"

abbrev loc_at : Who → ℕ → ℕ → Loc
loc_at who name at = record { who = who; name = name; at = at }

-- each player is dealt two cards and plays them one by one
abbrev pub four_cards : Sheet
four_cards =
    record {
      players = 2;
      teams = None;
      names = record {
        attrs = codes "RANK" ∷ [];
        values = codes "1" ∷ codes "2" ∷ codes "3" ∷ codes "4" ∷ [];
        maps = codes "WORTH" ∷ [];
        locs = codes "STOCK" ∷ codes "HAND" ∷ codes "PLAYED" ∷ [];
        nums = [];
        vars = codes "'P" ∷ codes "'C" ∷ [];
      };
      decks =
          record {
            loc = 0;
            groups = group 0
                (branch 0 no_group (branch 1 no_group (branch 2 no_group (branch 3 no_group no_branch)))) no_group;
          } ∷ [];
      points =
          (record { attr = 0; values = 0 ∷ []; points = pos 1 }
          ∷ record { attr = 0; values = 1 ∷ []; points = pos 2 }
          ∷ record { attr = 0; values = 2 ∷ []; points = pos 3 }
          ∷ record { attr = 0; values = 3 ∷ []; points = pos 4 }
          ∷ []) ∷ [];
      locs =
          record { name = 0; kind = hloc; class = game_class }
          ∷ record { name = 1; kind = iloc; class = player_class }
          ∷ record { name = 2; kind = vloc; class = player_class }
          ∷ [];
      nums = [];
      items = items_from (
          do_item (effects_from (
          for_each each_player 0 (effects_from (
          repeat (literal (pos 2)) (effects_from (
          move (top_card (cards_in (loc_at game 0 202))) top (loc_at (who_var 0) 1 226) ∷ [])) ∷ [])) ∷ []))
          ∷ stage 0 player_class
          (all_of each_player 0 (eq_int (size_of (cards_in (loc_at (who_var 0) 1 289))) (literal (pos 0))))
          (items_from (
          choice 0 (
          any_alt (each_card (cards_in (loc_at current_player 1 323))) 1
          (do_alt (effects_from (move (card_var 0) top (loc_at current_player 2 373) ∷ []))) ∷ []) ∷ []))
          ∷ []);
      best = highest;
      score = sum_of (cards_in (loc_at (who_var 0) 2 428)) 0;
    }
