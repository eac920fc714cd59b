-- Sources: scores and rank points.
use Rattle.std.specs.Prelude.{ℕ, List, codes}

abbrev pub two_teams : List ℕ
two_teams = codes "(game (setup (create players 3) (create teams (0 2) (1)) (create deck (game hloc BOX) (deck (A (X))))) (stage player (end (= (game sto N) 4)) (choice (do (inc (game sto N) 1) (cycle reverse)))) (scoring max (game sto N)))\n(plan (seats (script) (script) (script)) (matches (0 0)) (turns 100))\n"

abbrev pub rich_team : List ℕ
rich_team = codes "; A team's score is the exact sum of its members' scores, which isn't clamped.\n; 2000000000 is more than 1000000005. Clamped both are 1000000000, and everybody gets 2.\n(game\n(setup\n  (create players 4)\n  (create teams (0 1) (2 3))\n  (create deck (game hloc STOCK) (deck (PIP (1 2 3 4))))\n  (put points GOLD ((PIP (2 3 4) 1000000000) (PIP (1) 5))))\n(do\n  (all player 'P (move (top (game hloc STOCK)) (top ('P vloc WON)))))\n(scoring max (sum ('SELF vloc WON) using GOLD)))\n(plan (seats (script) (script) (script) (script)) (matches (0 0)) (turns 10))\n"

abbrev pub card_by_card : List ℕ
card_by_card = codes "; The points of one card are clamped by themselves, before a sum adds them.\n; The ace of spades has 2000000000, clamped 1000000000; the king adds -999999993: 7.\n; A sum over all entries at once would score 1000000000.\n(game\n(setup\n  (create players 1)\n  (create deck (game vloc PILE) (deck (RANK ((A (SUIT (S))) K))))\n  (put points GOLD ((RANK (A) 1000000000) (SUIT (S) 1000000000) (RANK (K) -999999993))))\n(do\n  (set (game sto N) (sum (game vloc PILE) using GOLD)))\n(scoring max (game sto N)))\n(plan (seats (script)) (matches (0 0)) (turns 10))\n"

abbrev pub sum_once : List ℕ
sum_once = codes "; A sum over a collection is added exactly and clamped once, at its end.\n; 1000000000 + 1000000000 - 1000000000 is 1000000000.\n; Clamped at each step it would be 0.\n(game\n(setup\n  (create players 1)\n  (create deck (game vloc PILE) (deck (PIP (1 2 3))))\n  (put points GOLD ((PIP (1 2) 1000000000) (PIP (3) -1000000000))))\n(do\n  (set (game sto N) (sum (game vloc PILE) using GOLD)))\n(scoring max (game sto N)))\n(plan (seats (script)) (matches (0 0)) (turns 10))\n"
