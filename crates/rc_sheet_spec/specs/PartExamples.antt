-- Parts of sheets whose forms are known, and sheets at their limits, to try the definitions on.
use Rattle.std.specs.Prelude.{ℕ, ◌+◌, zero, suc, List, [], ◌∷◌, codes, pos, None, Some, replicate, true}
use Rattle.rc_base.specs.Deck.{Groups, no_group, group, Branches, no_branch, branch}
use Rattle.rc_sheet_spec.specs.Sheet.{Sort, player_sort, card_sort, group_sort, lowest, game_class, player_class, team_class, vloc, iloc, mem, Who, game, Loc, Num, literal, choice, do_item, shuffle, eq_int, Test, stage, Sheet, DeckLine, no_item}
use Rattle.rc_sheet_spec.specs.Lists.{effects_from, items_from}
use Rattle.rc_sheet_spec.specs.Naming.{Naming, Variable, Scope, sheet_naming}
use Rattle.rc_sheet_spec.specs.WellFormed.{Around}
use Rattle.rc_sheet_spec.specs.Examples.{four_cards}

-- a sheet with names of each kind
abbrev pub parts : Sheet
parts =
    record four_cards {
      names = record {
        attrs = codes "SUIT" ∷ codes "RANK" ∷ [];
        values = codes "HEARTS" ∷ codes "2" ∷ [];
        maps = codes "WORTH" ∷ [];
        locs = codes "PILE" ∷ codes "HAND" ∷ codes "SEEN" ∷ [];
        nums = codes "BID" ∷ codes "BANK" ∷ [];
        vars = codes "'P" ∷ codes "'C" ∷ codes "'G" ∷ [];
      };
      locs =
          record { name = 0; kind = vloc; class = game_class }
          ∷ record { name = 1; kind = iloc; class = team_class }
          ∷ record { name = 2; kind = mem; class = game_class }
          ∷ [];
      nums = record { name = 0; class = player_class } ∷ record { name = 1; class = team_class } ∷ [];
    }

abbrev pub naming : Naming
naming = sheet_naming parts

abbrev pub variable : List ℕ → Sort → Variable
variable word sort = record { word = word; sort = sort }

-- a player, a card and a group
abbrev pub three : Scope
three = variable (codes "'P") player_sort ∷ variable (codes "'C") card_sort ∷ variable (codes "'G") group_sort ∷ []

-- so many binders around, and the stages of players and teams
abbrev pub around_by : Scope → ℕ → ℕ → Around
around_by scope binders repeats =
    record { scope = scope; binders = binders; player_stage = true; team_stage = true; repeats = repeats }

-- a test that holds
abbrev pub truth : Test
truth = eq_int (literal (pos 0)) (literal (pos 0))

-- one value without inner groups
abbrev pub single : Branches
single = branch 0 no_group no_branch

abbrev pub loc_at : Who → ℕ → ℕ → Loc
loc_at who name at = record { who = who; name = name; at = at }

abbrev pub num_of : Who → ℕ → Num
num_of who name = record { who = who; name = name }

-- A sheet whose points line comes first, and whose names are numbered by the deck all the same.
abbrev pub swapped_text : List ℕ
swapped_text =
    codes "(game (setup (put points M ((A (Y) 1))) (create deck (game vloc P) (deck (A (X Y)))) (create players 01)) (do (shuffle (game vloc P))) (scoring min -0))"

abbrev pub swapped : Sheet
swapped =
    record {
      players = 1;
      teams = None;
      names = record {
        attrs = codes "A" ∷ [];
        values = codes "X" ∷ codes "Y" ∷ [];
        maps = codes "M" ∷ [];
        locs = codes "P" ∷ [];
        nums = [];
        vars = [];
      };
      decks = record { loc = 0; groups = group 0 (branch 0 no_group (branch 1 no_group no_branch)) no_group } ∷ [];
      points = (record { attr = 0; values = 1 ∷ []; points = pos 1 } ∷ []) ∷ [];
      locs = record { name = 0; kind = vloc; class = game_class } ∷ [];
      nums = [];
      items = items_from (do_item (effects_from (shuffle (loc_at game 0 119) ∷ [])) ∷ []);
      best = lowest;
      score = literal (pos 0);
    }

-- and with teams
abbrev pub in_teams : Sheet
in_teams = record swapped { players = 3; teams = Some ((0 ∷ 2 ∷ []) ∷ (1 ∷ []) ∷ []) }

-- so many groups of two values, each with an attribute of its own
abbrev pub pairs_from : ℕ → ℕ → Groups
pairs_from attr zero = no_group
pairs_from attr (suc n) = group attr (branch 0 no_group (branch 1 no_group no_branch)) (pairs_from (attr + 1) n)

abbrev pub deck_of : Groups → DeckLine
deck_of groups = record { loc = 0; groups = groups }

-- one deck of so many groups of two values, and so many decks of one card
abbrev pub with_cards : ℕ → ℕ → Sheet
with_cards pairs more = record four_cards { decks = deck_of (pairs_from 0 pairs) ∷ replicate more (deck_of no_group) }

-- so many names of locations that each player has one of
abbrev pub with_locs : ℕ → Sheet
with_locs n = record four_cards { locs = replicate n (record { name = 0; kind = vloc; class = player_class }) }

-- so many numbers of the game
abbrev pub with_nums : ℕ → Sheet
with_nums n = record four_cards { nums = replicate n (record { name = 0; class = game_class }) }

-- so many stages beside one another
abbrev pub with_stages : ℕ → Sheet
with_stages n = record four_cards { items = items_from (replicate n (stage 0 player_class truth no_item)) }

-- so many choices
abbrev pub with_choices : ℕ → Sheet
with_choices n = record four_cards { items = items_from (replicate n (choice 0 [])) }

abbrev pub with_players : ℕ → Sheet
with_players n = record four_cards { players = n; locs = [] }
