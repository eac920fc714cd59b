-- Sheets and forms that try one clause of a definition each.
use Rattle.std.specs.Prelude.{ℕ, zero, suc, List, [], ◌∷◌, codes, pos, Some, replicate}
use Rattle.rc_base.specs.Tree.{Tree, word, list, nil, cons}
use Rattle.rc_base.specs.Deck.{no_group, group, no_branch, branch}
use Rattle.rc_sheet_spec.specs.Sheet.{player_class, team_class, vloc, game, do_alt, shuffle, do_item, choice, stage, Effects, SheetItems, Sheet}
use Rattle.rc_sheet_spec.specs.Lists.{effects_from, items_from}
use Rattle.rc_sheet_spec.specs.Examples.{four_cards}
use Rattle.rc_sheet_spec.specs.PartExamples.{parts, swapped, in_teams, truth, loc_at}

-- shuffles the one location, whose form begins here
abbrev pub shuffled : ℕ → Effects
shuffled at = effects_from (shuffle (loc_at game 0 at) ∷ [])

abbrev pub shuffled_item : ℕ → SheetItems
shuffled_item at = items_from (do_item (shuffled at) ∷ [])

-- a sheet with a line of teams before all others
abbrev pub teams_text : List ℕ
teams_text =
    codes "(game (setup (create teams (0 2) (1)) (put points M ((A (Y) 1))) (create deck (game vloc P) (deck (A (X Y)))) (create players 3)) (do (shuffle (game vloc P))) (scoring min 0))"

abbrev pub of_teams_text : Sheet
of_teams_text = record in_teams { items = shuffled_item 143 }

-- the same with other teams, and with none
abbrev pub of_other_teams : Sheet
of_other_teams = record of_teams_text { teams = Some ((0 ∷ []) ∷ (1 ∷ 2 ∷ []) ∷ []) }

abbrev pub of_no_teams : Sheet
of_no_teams = record swapped { players = 3; items = shuffled_item 143 }

-- two lines of players, and the sheet that one of them would make
abbrev pub two_lines_text : List ℕ
two_lines_text =
    codes "(game (setup (put points M ((A (Y) 1))) (create deck (game vloc P) (deck (A (X Y)))) (create players 01) (create players 01)) (do (shuffle (game vloc P))) (scoring min -0))"

abbrev pub of_two_lines : Sheet
of_two_lines = record swapped { items = shuffled_item 139 }

-- so many names of locations that each of two teams has one of, and that each of three players has one of as a team
abbrev pub with_team_locs : ℕ → Sheet
with_team_locs n = record in_teams { locs = replicate n (record { name = 0; kind = vloc; class = team_class }) }

abbrev pub with_lone_locs : ℕ → Sheet
with_lone_locs n =
    record swapped { players = 3; locs = replicate n (record { name = 0; kind = vloc; class = team_class }) }

-- so many names of numbers that each of three players has one of
abbrev pub with_player_nums : ℕ → Sheet
with_player_nums n = record in_teams { nums = replicate n (record { name = 0; class = player_class }) }

-- so many attributes, values and point maps
abbrev pub with_names : ℕ → ℕ → ℕ → Sheet
with_names attrs values maps =
    record four_cards {
      names = record {
        attrs = replicate attrs (codes "A");
        values = replicate values (codes "V");
        maps = replicate maps (codes "M");
        locs = [];
        nums = [];
        vars = [];
      };
    }

-- one stage with two choices, of these numbers
abbrev pub with_numbers : ℕ → ℕ → ℕ → Sheet
with_numbers place first second =
    record swapped {
      items = items_from (
          stage place player_class truth (items_from (
          choice first (do_alt (shuffled 0) ∷ []) ∷ choice second (do_alt (shuffled 0) ∷ []) ∷ [])) ∷ []);
    }

-- the values numbered the other way round
abbrev pub renamed : Sheet
renamed =
    record swapped {
      names = record {
        attrs = codes "A" ∷ [];
        values = codes "Y" ∷ codes "X" ∷ [];
        maps = codes "M" ∷ [];
        locs = codes "P" ∷ [];
        nums = [];
        vars = [];
      };
      decks = record { loc = 0; groups = group 0 (branch 1 no_group (branch 0 no_group no_branch)) no_group } ∷ [];
      points = (record { attr = 0; values = 0 ∷ []; points = pos 1 } ∷ []) ∷ [];
    }

-- a sheet that binds the variable of the score
abbrev pub binding_self : Sheet
binding_self =
    record parts {
      names = record {
        attrs = codes "SUIT" ∷ [];
        values = [];
        maps = [];
        locs = [];
        nums = [];
        vars = codes "'SELF" ∷ [];
      };
    }

-- so many lists, one in the other
abbrev pub nested : ℕ → Tree
nested zero = word (codes "a") 0 0
nested (suc n) = list (cons (nested n) nil) 0 0
