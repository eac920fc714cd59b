-- Sources: shuffles, random picks and rollouts, in several matches.
use Rattle.std.specs.Prelude.{ℕ, List, codes}

abbrev pub five_shuffled : List ℕ
five_shuffled = codes "; One shuffle of 1 2 3 4 5 in deal 1, by key32(1,1,0,0).\n; Its words 1489600331 1011583306 2319271736 3563607617, scaled to 5 4 3 2, are the places 1 0 1 1:\n; 1 5 3 4 2, then 4 5 3 1 2, then 4 3 5 1 2, then the same. Swapping upward, words modulo the\n; length, or other keys give other orders.\n(game\n(setup\n  (create players 1)\n  (create deck (game hloc PILE) (deck (PIP (1 2 3 4 5))))\n  (put points WORTH ((PIP (1) 1) (PIP (2) 2) (PIP (3) 3) (PIP (4) 4) (PIP (5) 5))))\n(do\n  (shuffle (game hloc PILE))\n  (all (game hloc PILE) 'C (set (game sto READ) (+ (* 10 (game sto READ)) (points 'C using WORTH)))))\n(scoring max (game sto READ)))\n(plan (seats (script)) (matches (1 0)) (turns 10))\n"

abbrev pub shuffled_twice : List ℕ
shuffled_twice = codes "; The second shuffle of a match has number 1 and a key of its own.\n; In deal 4 number 0 makes 4 3 2 1 of 1 2 3 4; number 1 has the places 2 0 1 and makes 1 3 4 2 of that.\n; The same key again, or the next words of the first key, give another order.\n(game\n(setup\n  (create players 1)\n  (create deck (game hloc PILE) (deck (PIP (1 2 3 4))))\n  (put points WORTH ((PIP (1) 1) (PIP (2) 2) (PIP (3) 3) (PIP (4) 4))))\n(do\n  (shuffle (game hloc PILE))\n  (shuffle (game hloc PILE))\n  (all (game hloc PILE) 'C (set (game sto READ) (+ (* 10 (game sto READ)) (points 'C using WORTH)))))\n(scoring max (game sto READ)))\n(plan (seats (script)) (matches (4 0)) (turns 10))\n"

abbrev pub nothing_shuffled : List ℕ
nothing_shuffled = codes "; A shuffle of an empty location or of one card takes no word and still counts.\n; So the pile is shuffled by number 2 of deal 3, to 3 4 2 1, and the line says 3.\n; Were the small ones not counted, number 0 would make 2 1 3 4 of it.\n(game\n(setup\n  (create players 1)\n  (create deck (game hloc PILE) (deck (PIP (1 2 3 4))))\n  (create deck (game hloc ONE) (deck (PIP (5))))\n  (put points WORTH ((PIP (1) 1) (PIP (2) 2) (PIP (3) 3) (PIP (4) 4) (PIP (5) 5))))\n(do\n  (shuffle (game hloc EMPTY))\n  (shuffle (game hloc ONE))\n  (shuffle (game hloc PILE))\n  (all (game hloc PILE) 'C (set (game sto READ) (+ (* 10 (game sto READ)) (points 'C using WORTH)))))\n(scoring max (game sto READ)))\n(plan (seats (script)) (matches (3 0)) (turns 10))\n"

abbrev pub picked_by_turn : List ℕ
picked_by_turn = codes "; A random seat picks by the turn count before its decision, here 1, 3 and 5.\n; The words of key32(0,2,0,1), key32(0,2,0,3) and key32(0,2,0,5) are 1834232246, 4164952797 and\n; 2457034716; scaled to 7 they are 2 6 4. By the count after the decision it would be 0 6 0,\n; by the number of the seat's decision 1 2 0.\n(game\n(setup\n  (create players 1)\n  (create deck (game vloc PILE) (deck (PIP (1 2 3 4 5 6 7)))))\n(stage player (end (= (game sto N) 3))\n  (choice (any (game vloc PILE) 'C (do (inc (game sto N) 1)))))\n(scoring max (game sto N)))\n(plan (seats (random 0)) (matches (0 0)) (turns 10))\n"

abbrev pub picked_by_seat : List ℕ
picked_by_seat = codes "; In match 1 the strategies have changed seats; the key has the number of the seat, not of the strategy.\n; Match 1: seat 0 picks by k 2 and seat number 0 item 6, seat 1 by k 1 and number 1 item 2.\n; With the strategies' numbers it would be 3 and 1.\n(game\n(setup\n  (create players 2)\n  (create deck (game vloc PILE) (deck (PIP (1 2 3 4 5 6 7)))))\n(stage player (end (= (game sto N) 2))\n  (choice (any (game vloc PILE) 'C (do (inc (game sto N) 1)))))\n(scoring max (game sto N)))\n(plan (seats (random 1) (random 2)) (matches (0 0) (0 0)) (turns 10))\n"

abbrev pub range_of_matches : List ℕ
range_of_matches = codes "; (from deal seat count) counts both numbers up: here (7 3), (8 4) and (9 5).\n; Three matches, not four, and the seats' seed goes up with the deal.\n(game\n(setup\n  (create players 1)\n  (create deck (game vloc PILE) (deck (PIP (1 2 3 4))))\n  (put points WORTH ((PIP (1) 1) (PIP (2) 2) (PIP (3) 3) (PIP (4) 4))))\n(do (shuffle (game vloc PILE)))\n(stage player (end (> (game sto N) 0))\n  (choice (any (game vloc PILE) 'C (do (inc (game sto N) (points 'C using WORTH))))))\n(scoring max (game sto N)))\n(plan (seats (random 4)) (matches (from 7 3 3)) (turns 10))\n"

abbrev pub points_summed : List ℕ
points_summed = codes "; Standings add up the rank points of each strategy over all matches, in whatever seat it sat.\n; Strategy 0 always takes the 3, strategy 1 the 1, so strategy 0 has 2 rank points in each match: 6 and 0.\n; Added up by seat it would be 4 and 2, by scores 9 and 3.\n(game\n(setup\n  (create players 2)\n  (create deck (game vloc PILE) (deck (PIP (1 2 3))))\n  (put points WORTH ((PIP (1) 1) (PIP (2) 2) (PIP (3) 3))))\n(stage player (end (= (game sto MADE) 2))\n  (choice\n    (any (game vloc PILE) 'C\n      (do (inc (game sto MADE) 1) (inc ((current player) sto N) (points 'C using WORTH))))))\n(scoring max ('SELF sto N)))\n(plan (seats (script 2) (script 0)) (matches (0 0) (0 0) (0 0)) (turns 10))\n"

abbrev pub rolled : List ℕ
rolled = codes "; Rollout seats on the sheet of seeds/random-by-seat: redrawn deals, playouts and the first item with the largest total.\n(game\n(setup\n  (create players 2)\n  (create deck (game vloc PILE) (deck (PIP (1 2 3 4 5 6 7)))))\n(stage player (end (= (game sto N) 2))\n  (choice (any (game vloc PILE) 'C (do (inc (game sto N) 1)))))\n(scoring max (game sto N)))\n(plan (seats (rollout 3 0) (random 0)) (matches (0 2)) (turns 10))\n"

abbrev pub rolled_in_turn : List ℕ
rolled_in_turn = codes "; Rollout seats on the sheet of seeds/random-by-seat-after-rotation: redrawn deals, playouts and the first item with the largest total.\n(game\n(setup\n  (create players 2)\n  (create deck (game vloc PILE) (deck (PIP (1 2 3 4 5 6 7)))))\n(stage player (end (= (game sto N) 2))\n  (choice (any (game vloc PILE) 'C (do (inc (game sto N) 1)))))\n(scoring max (game sto N)))\n(plan (seats (rollout 3 1) (random 2)) (matches (0 0) (0 0)) (turns 10))\n"
