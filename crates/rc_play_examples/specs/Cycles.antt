-- Sources: stages whose next member is named, or that are turned.
use Rattle.std.specs.Prelude.{ℕ, List, codes}

abbrev pub turning : List ℕ
turning = codes "(game (setup (create players 3) (create deck (game hloc BOX) (deck (A (X))))) (stage player (end (= (game sto N) 4)) (choice (do (inc (game sto N) 1) (cycle reverse)))) (scoring max (game sto N)))\n(plan (seats (script) (script) (script)) (matches (0 0)) (turns 100))\n"

abbrev pub naming : List ℕ
naming = codes "(game (setup (create players 3) (create deck (game hloc BOX) (deck (A (X))))) (stage player (end (= (game sto N) 4)) (choice (do (inc (game sto N) 1) (cycle next (current player))))) (scoring max (game sto N)))\n(plan (seats (script) (script) (script)) (matches (0 0)) (turns 100))\n"

abbrev pub cycle_next_twice : List ℕ
cycle_next_twice = codes "; Of several cycle next in one round the last one counts.\n; Players 0, 1 and 2 are named in turn, so 2 comes next, and again: seats 0 2 2.\n; Where the first name stays, seat 0 goes on: 0 0 0.\n(game\n(setup (create players 3) (create deck (game hloc BOX) (deck (A (X)))))\n(stage player (end (= (game sto N) 3))\n  (choice\n    (do (inc (game sto N) 1) (all player 'P (cycle next 'P)))))\n(scoring max (game sto N)))\n(plan (seats (script) (script) (script)) (matches (0 0)) (turns 10))\n"

abbrev pub name_and_turn : List ℕ
name_and_turn = codes "; A named member leaves the direction as it is, and a reverse leaves the name.\n; Seat 0 names player 2 and turns the direction: seats 0 2 1 0.\n; Where the name puts the direction forward again it is 0 2 3 0; where the reverse drops the name, 0 3 2 1.\n(game\n(setup (create players 4) (create deck (game hloc BOX) (deck (A (X)))))\n(stage player (end (= (game sto N) 4))\n  (choice\n    (any player 'P\n      (do\n        (inc (game sto N) 1)\n        (if (= (game sto N) 1) (cycle next 'P) (cycle reverse))))))\n(scoring max (game sto N)))\n(plan (seats (script 2) (script) (script) (script)) (matches (0 0)) (turns 10))\n"

abbrev pub team_stage_turned : List ℕ
team_stage_turned = codes "; cycle reverse turns the innermost stage of whatever class, here a team stage in a player stage.\n; Under seat 0 the teams 0 and 2 come (1 and 2), under seat 1 a new stage with 0 and 1 (3 and 4): 4 4 2.\n; Were the player stage turned, seat 2 would follow seat 0, and the teams would have 4, 6 and 0.\n(game\n(setup (create players 3) (create deck (game hloc BOX) (deck (A (X)))))\n(stage player (end (= (game sto N) 4))\n  (do (set (game sto K) 0))\n  (stage team (end (= (game sto K) 2))\n    (choice\n      (do\n        (inc (game sto N) 1)\n        (inc (game sto K) 1)\n        (inc ((current team) sto CAME) (game sto N))\n        (if (= (game sto N) 1) (cycle reverse))))))\n(scoring max ((team of 'SELF) sto CAME)))\n(plan (seats (script) (script) (script)) (matches (0 0)) (turns 20))\n"

abbrev pub next_team : List ℕ
next_team = codes "; cycle next of a team names in the innermost team stage, also from inside a player stage.\n; The teams come in the order 0 2 1, as seat 0 picks them, and get 1, 2 and 3.\n; Where the name is lost the order is 0 1 2.\n(game\n(setup (create players 3) (create deck (game hloc BOX) (deck (A (X)))))\n(stage team (end (= (game sto N) 3))\n  (do (inc (game sto N) 1) (inc ((current team) sto CAME) (game sto N)) (set (game sto K) 0))\n  (stage player (end (= (game sto K) 1))\n    (choice\n      (any player 'P\n        (do (inc (game sto K) 1) (cycle next (team of 'P)))))))\n(scoring max ((team of 'SELF) sto CAME)))\n(plan (seats (script 2 1 0) (script) (script)) (matches (0 0)) (turns 20))\n"

abbrev pub inner_start : List ℕ
inner_start = codes "; The nearest enclosing player stage gives the start, also past a team stage in between.\n; Outer players 0, 1 and 2, each with a team stage of one round and in it one inner round: seats 0 1 2.\n; Where only the stage directly around is looked at, seat 0 comes each time.\n(game\n(setup (create players 3) (create deck (game hloc BOX) (deck (A (X)))))\n(stage player (end (= (game sto N) 3))\n  (do (set (game sto K) 0))\n  (stage team (end (= (game sto K) 1))\n    (stage player (end (= (game sto K) 1))\n      (choice (do (inc (game sto N) 1) (inc (game sto K) 1))))))\n(scoring max (game sto N)))\n(plan (seats (script) (script) (script)) (matches (0 0)) (turns 20))\n"
