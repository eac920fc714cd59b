-- Sources: effects that run others.
use Rattle.std.specs.Prelude.{ℕ, List, codes}

abbrev pub many_times : List ℕ
many_times = codes "; repeat is clamped to 1000 times. Without that the score is 1005.\n(game\n(setup (create players 1) (create deck (game hloc BOX) (deck (A (X)))))\n(do\n  (repeat 1005 (inc (game sto N) 1)))\n(scoring max (game sto N)))\n(plan (seats (script)) (matches (0 0)) (turns 10))\n"

abbrev pub less_than_never : List ℕ
less_than_never = codes "; repeat with a number below 0 or with 0 does nothing.\n; N stays 7. Taken as 3 times it would be 10, as a huge unsigned number 1007.\n(game\n(setup (create players 1) (create deck (game hloc BOX) (deck (A (X)))))\n(do\n  (set (game sto N) 7)\n  (repeat -3 (inc (game sto N) 1))\n  (repeat 0 (inc (game sto N) 1)))\n(scoring max (game sto N)))\n(plan (seats (script)) (matches (0 0)) (turns 10))\n"

abbrev pub count_once : List ℕ
count_once = codes "; repeat takes its number once, before the first time.\n; N is 4, and each time takes 2 from it: still four times. Asked again each time it would be 2.\n(game\n(setup (create players 1) (create deck (game hloc BOX) (deck (A (X)))))\n(do\n  (set (game sto N) 4)\n  (repeat (game sto N)\n    (inc (game sto TIMES) 1)\n    (dec (game sto N) 2)))\n(scoring max (game sto TIMES)))\n(plan (seats (script)) (matches (0 0)) (turns 10))\n"

abbrev pub all_or_none : List ℕ
all_or_none = codes "; `if` runs all its effects or none; it has no part for false, and the test is made once.\n; The first runs both effects (1 and 10), the second none: 11.\n; Read as then and else it would be 101; with the test made again before the second effect, 1.\n(game\n(setup (create players 1) (create deck (game hloc BOX) (deck (A (X)))))\n(do\n  (if (= (game sto N) 0) (inc (game sto N) 1) (inc (game sto N) 10))\n  (if (= (game sto N) 0) (inc (game sto N) 1000) (inc (game sto N) 100)))\n(scoring max (game sto N)))\n(plan (seats (script)) (matches (0 0)) (turns 10))\n"

abbrev pub moved_once : List ℕ
moved_once = codes "; move all takes its collection once: the filter isn't asked again between two cards.\n; At the start the box has fewer than two cards, so all four pass and go.\n; Asked again before each card it would stop at 2.\n(game\n(setup\n  (create players 1)\n  (create deck (game vloc PILE) (deck (PIP (1 2 3 4)))))\n(do\n  (move all (filter (game vloc PILE) 'C (< (size (game vloc BOX)) 2)) (top (game vloc BOX))))\n(scoring max (size (game vloc BOX))))\n(plan (seats (script)) (matches (0 0)) (turns 10))\n"

abbrev pub all_once : List ℕ
all_once = codes "; `all` over a collection takes it once, while its body changes the location.\n; The pile has four cards, each time the top one goes: four times, and the box has 4.\n; A walk by places along the shrinking pile stops after 2.\n(game\n(setup\n  (create players 1)\n  (create deck (game vloc PILE) (deck (PIP (1 2 3 4)))))\n(do\n  (all (game vloc PILE) 'C\n    (inc (game sto TIMES) 1)\n    (move (top (game vloc PILE)) (top (game vloc BOX)))))\n(scoring max (+ (* 10 (game sto TIMES)) (size (game vloc BOX)))))\n(plan (seats (script)) (matches (0 0)) (turns 10))\n"
