-- Sources: collections, and cards taken from them.
use Rattle.std.specs.Prelude.{ℕ, List, codes}

abbrev pub cut_inside : List ℕ
cut_inside = codes "; Also a collection that stands inside another one is cut to its first 512.\n; The 15 cards A 20 are the last of 300; of the pile taken twice the filter meets them once.\n; A cut of the outermost collection alone would score 30.\n(game\n(setup\n  (create players 1)\n  (create deck (game vloc PILE) (deck\n    (A (1 2 3 4 5 6 7 8 9 10 11 12 13 14 15 16 17 18 19 20))\n    (B (1 2 3 4 5 6 7 8 9 10 11 12 13 14 15)))))\n(do\n  (set (game sto FOUND)\n    (size (filter (union (game vloc PILE) (game vloc PILE)) 'C (is 'C A 20)))))\n(scoring max (game sto FOUND)))\n(plan (seats (script)) (matches (0 0)) (turns 10))\n"

abbrev pub ties : List ℕ
ties = codes "; max and min give the first of the cards that tie.\n; The pile is 1 2 3 4 5. Under HEAT 2 and 3 are hottest, 4 and 5 coldest: the read is 24.\n; The last of a tie would read 35.\n(game\n(setup\n  (create players 1)\n  (create deck (game vloc PILE) (deck (PIP (1 2 3 4 5))))\n  (put points HEAT ((PIP (1) 20) (PIP (2 3) 50) (PIP (4 5) 10)))\n  (put points WORTH ((PIP (1) 1) (PIP (2) 2) (PIP (3) 3) (PIP (4) 4) (PIP (5) 5))))\n(do\n  (set (game sto N) (points (max (game vloc PILE) using HEAT) using WORTH))\n  (set (game sto M) (points (min (game vloc PILE) using HEAT) using WORTH)))\n(scoring max (+ (* 10 (game sto N)) (game sto M))))\n(plan (seats (script)) (matches (0 0)) (turns 10))\n"

abbrev pub nothing : List ℕ
nothing = codes "; top, bottom, max and min of an empty collection give nothing, which equals only nothing.\n; The four tests are worth 1, 10, 100, 1000, and all but the third are true: 1011.\n; Where nothing is unequal to all, itself too, the score is 1000.\n(game\n(setup\n  (create players 1)\n  (create deck (game vloc PILE) (deck (PIP (1))))\n  (put points WORTH ((PIP (1) 1))))\n(do\n  (if (= (top (game vloc NONE)) (bottom (game vloc NONE))) (inc (game sto N) 1))\n  (if (= (max (game vloc NONE) using WORTH) (min (game vloc NONE) using WORTH)) (inc (game sto N) 10))\n  (if (= (top (game vloc NONE)) (top (game vloc PILE))) (inc (game sto N) 100))\n  (if (!= (bottom (game vloc NONE)) (bottom (game vloc PILE))) (inc (game sto N) 1000)))\n(scoring max (game sto N)))\n(plan (seats (script)) (matches (0 0)) (turns 10))\n"

abbrev pub groups : List ℕ
groups = codes "; partition lists the groups in the order in which their values first appear in the collection.\n; The pile is 1 S, 2 H, 3 S, 4 without suit, 5 D: groups S (1 3), H (2), D (5); the 4 is in none.\n; By name (D H S) item 0 would be the 5, by the first mention in the sheet (H D S) the 2.\n; With a group for the card without a suit there would be 4 items.\n(game\n(setup\n  (put points SUITS ((SUIT (H D S) 1)))\n  (create players 1)\n  (create deck (game vloc PILE) (deck\n    (PIP ((1 (SUIT (S))) (2 (SUIT (H))) (3 (SUIT (S))) 4 (5 (SUIT (D)))))))\n  (put points WORTH ((PIP (1) 1) (PIP (2) 2) (PIP (3) 3) (PIP (4) 4) (PIP (5) 5))))\n(stage player (end (> (game sto READ) 0))\n  (choice\n    (any (partition (game vloc PILE) SUIT) 'G\n      (do (all 'G 'C (set (game sto READ) (+ (* 10 (game sto READ)) (points 'C using WORTH))))))))\n(scoring max (game sto READ)))\n(plan (seats (script)) (matches (0 0)) (turns 10))\n"
