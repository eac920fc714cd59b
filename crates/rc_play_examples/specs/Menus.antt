-- Sources: menus, and what is picked from them.
use Rattle.std.specs.Prelude.{ℕ, List, codes}

abbrev pub last_of_the_pile : List ℕ
last_of_the_pile = codes "(game\n(setup (create players 1) (create deck (game vloc PILE) (deck (A (1 2 3 4 5 6 7 8 9 10 11 12 13 14 15 16 17 18 19 20)) (B (1 2 3 4 5 6 7 8 9 10 11 12 13 14 15)))))\n(stage player (end (= 0 1)) (choice (any (game vloc PILE) 'C (do (inc (game sto N) 1)))))\n(scoring max 0))\n(plan (seats (script 255)) (matches (0 0)) (turns 2))\n"

abbrev pub first_of_the_pile : List ℕ
first_of_the_pile = codes "(game\n(setup (create players 1) (create deck (game vloc PILE) (deck (A (1 2 3 4 5 6 7 8 9 10 11 12 13 14 15 16 17 18 19 20)) (B (1 2 3 4 5 6 7 8 9 10 11 12 13 14 15)))))\n(stage player (end (= 0 1)) (choice (any (game vloc PILE) 'C (do (inc (game sto N) 1)))))\n(scoring max 0))\n(plan (seats (script 256)) (matches (0 0)) (turns 2))\n"

abbrev pub two_alternatives : List ℕ
two_alternatives = codes "; A menu has the first 256 items over all its alternatives.\n; 200 cards stand in two alternatives; item 255 is the second one's card 56, which is COL 6 ROW 6.\n; Without the cut there are 400 items, and 511 modulo 400 is item 111 of the first: 1000.\n(game\n(setup\n  (create players 1)\n  (create deck (game vloc PILE) (deck\n    (COL (1 2 3 4 5 6 7 8 9 10 11 12 13 14 15 16 17 18 19 20))\n    (ROW (1 2 3 4 5 6 7 8 9 10))))\n  (put points PLACE ((COL (6) 50) (ROW (6) 6))))\n(stage player (end (> (game sto N) 0))\n  (choice\n    (any (game vloc PILE) 'C (do (set (game sto N) 1000)))\n    (any (game vloc PILE) 'C (do (set (game sto N) (points 'C using PLACE))))))\n(scoring max (game sto N)))\n(plan (seats (script 511)) (matches (0 0)) (turns 10))\n"

abbrev pub nested_domains : List ℕ
nested_domains = codes "; Of two nested `any` the outer one varies slowest.\n; 13 14 15 23 24 25: item 4 of 6 is 24. With the inner one slowest, 13 23 14 24 15 25, it is 15.\n(game\n(setup\n  (create players 1)\n  (create deck (game vloc A) (deck (PIP (1 2))))\n  (create deck (game vloc B) (deck (PIP (3 4 5))))\n  (put points WORTH ((PIP (1) 1) (PIP (2) 2) (PIP (3) 3) (PIP (4) 4) (PIP (5) 5))))\n(stage player (end (> (game sto N) 0))\n  (choice\n    (any (game vloc A) 'C\n      (any (game vloc B) 'D\n        (do (set (game sto N) (+ (* 10 (points 'C using WORTH)) (points 'D using WORTH))))))))\n(scoring max (game sto N)))\n(plan (seats (script 4)) (matches (0 0)) (turns 10))\n"

abbrev pub guard_once : List ℕ
guard_once = codes "; A guard is asked when the menu is made; the effects of the picked item then all run.\n; The first effect makes the guard false, the second still runs: 11. Asked again it would be 1.\n(game\n(setup (create players 1) (create deck (game hloc BOX) (deck (A (X)))))\n(stage player (end (> (game sto N) 0))\n  (choice\n    (if (= (game sto N) 0) (inc (game sto N) 1) (inc (game sto N) 10))))\n(scoring max (game sto N)))\n(plan (seats (script)) (matches (0 0)) (turns 10))\n"
