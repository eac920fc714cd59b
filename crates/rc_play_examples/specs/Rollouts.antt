-- Sources: what rollouts add up, and by what the playouts draw.
use Rattle.std.specs.Prelude.{ℕ, List, codes}

abbrev pub most_gained : List ℕ
most_gained = codes "; A playout gains rank points, 2 where the other player is worse and 1 where he is equal; the first of the largest totals is taken.\n; Seat 0 takes a card worth 0, 1 or 2, and seat 1 has 0 points: the totals are 1 2 2, and item 1 is taken.\n; By the smallest total it would be item 0; by the last of the largest, or by scores added up, item 2.\n(game\n(setup\n  (create players 2)\n  (create deck (game vloc PILE) (deck (PIP (1 2 3))))\n  (put points WORTH ((PIP (2) 1) (PIP (3) 2))))\n(stage player (end (= (game sto MADE) 1))\n  (choice\n    (any (game vloc PILE) 'C\n      (do (inc (game sto MADE) 1) (inc ((current player) sto N) (points 'C using WORTH))))))\n(scoring max ('SELF sto N)))\n(plan (seats (rollout 1 0) (script)) (matches (0 0)) (turns 10))\n"

abbrev pub picked_behind : List ℕ
picked_behind = codes "; In a playout every seat picks by key32(k,256i+4,s,w) with the number of the item in w; i is the seat that rolls out.\n; Seat 1 picks next, in the playout of item x by key32(4,4,19,x*2^32). The first words for the items 0 to 3 are 1043738222,\n; 1896751534, 1548605502 and 2087242292, scaled to 4 the items 0 1 1 1. So 1 2 3 4 meet 1 2 2 2: the totals are 1 1 2 2, item 2.\n; Without x all meet 1: totals 1 2 2 2, item 1. By the keys of shuffles, 256i+5, they meet 1 3 3 1: totals 1 0 1 2, item 3.\n(game\n(setup\n  (create players 2)\n  (create deck (game vloc PILE) (deck (PIP (1 2 3 4))))\n  (put points WORTH ((PIP (1) 1) (PIP (2) 2) (PIP (3) 3) (PIP (4) 4))))\n(stage player (end (= (game sto MADE) 2))\n  (choice\n    (any (game vloc PILE) 'C\n      (do (inc (game sto MADE) 1) (set ((current player) sto N) (points 'C using WORTH))))))\n(scoring max ('SELF sto N)))\n(plan (seats (rollout 1 4) (script)) (matches (7 19)) (turns 10))\n"

abbrev pub drawn_together : List ℕ
drawn_together = codes "; Picks and shuffles of a playout are counted together from 0 by j, and w = r*2^48 + x*2^32 + j has round, item and count.\n; Seat 1 rolls out. The stock is redrawn by key32(43,259,95,r) to 1 3 2 and to 2 3 1. Shuffles by key32(43,261,95,w) have j 0 and 2,\n; and seat 0's pick by key32(43,260,95,w) has j 1. Seat 1 gets 3 4 6 4 against 1 2 9 3, and then 3 6 9 4 against 8 6 3 8: the totals\n; are 2 3 2 2, item 1. Without round or count it would be item 0. It would be item 2 without the item, with the two keys exchanged,\n; with picks and shuffles counted apart, and with the stock as it lies.\n(game\n(setup\n  (create players 2)\n  (create deck (game vloc ROW) (deck (PIP (1 2 3 4))))\n  (create deck (game hloc STOCK) (deck (PIP (1 2 3))))\n  (put points WORTH ((PIP (1) 1) (PIP (2) 2) (PIP (3) 3) (PIP (4) 4))))\n(stage player (end (= (game sto MADE) 3))\n  (choice\n    (any (game vloc ROW) 'C\n      (do\n        (inc (game sto MADE) 1)\n        (shuffle (game hloc STOCK))\n        (set ((current player) sto N)\n          (* (points 'C using WORTH) (points (top (game hloc STOCK)) using WORTH)))))))\n(scoring max ('SELF sto N)))\n(plan (seats (script) (rollout 2 43)) (matches (1 95)) (turns 10))\n"
