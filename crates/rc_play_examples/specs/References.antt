-- Sources: references to cards.
use Rattle.std.specs.Prelude.{ℕ, List, codes}

abbrev pub topmost : List ℕ
topmost = codes "; forget takes the topmost reference that has the same face.\n; The mem reads 1 2 1 3, noted from four cards. To forget its bottom takes out the upper 1: 123.\n; To take the named one itself would leave 213, to take all of that face 23.\n(game\n(setup\n  (create players 1)\n  (create deck (game vloc PILE) (deck (PIP (1 2 1 3))))\n  (put points WORTH ((PIP (1) 1) (PIP (2) 2) (PIP (3) 3))))\n(do\n  (all (game vloc PILE) 'D (remember 'D (top (game mem NOTES))))\n  (forget (bottom (game mem NOTES)))\n  (all (game mem NOTES) 'C (set (game sto READ) (+ (* 10 (game sto READ)) (points 'C using WORTH)))))\n(scoring max (game sto READ)))\n(plan (seats (script)) (matches (0 0)) (turns 10))\n"

abbrev pub two_places : List ℕ
two_places = codes "; forget takes the reference out of the mem in which it was read, and of no other.\n; LEFT and RIGHT hold two equal references each; one is forgotten in LEFT: 1 and 2.\n; Taken out of every mem it would be 1 and 1, out of the last mem 2 and 1.\n(game\n(setup\n  (create players 1)\n  (create deck (game vloc PILE) (deck (PIP (1)))))\n(do\n  (repeat 2 (remember (top (game vloc PILE)) (top (game mem LEFT))))\n  (repeat 2 (remember (top (game vloc PILE)) (top (game mem RIGHT))))\n  (forget (top (game mem LEFT))))\n(scoring max (+ (* 10 (size (game mem LEFT))) (size (game mem RIGHT)))))\n(plan (seats (script)) (matches (0 0)) (turns 10))\n"

abbrev pub forgotten_twice : List ℕ
forgotten_twice = codes "; A variable keeps the reference that it was bound to, also when that one has been forgotten.\n; The mem is 1 2 1 and the upper 1 is picked. The first forget takes it, the second the other 1: a 2 is left.\n; Where the second one finds that its reference is gone and does nothing, 1 and 2 are left: 3.\n(game\n(setup\n  (create players 1)\n  (create deck (game vloc PILE) (deck (PIP (1 2 1))))\n  (put points WORTH ((PIP (1) 1) (PIP (2) 2))))\n(do (all (game vloc PILE) 'C (remember 'C (top (game mem NOTES)))))\n(stage player (end (< (size (game mem NOTES)) 3))\n  (choice\n    (any (filter (game mem NOTES) 'C (is 'C PIP 1)) 'D\n      (do (forget 'D) (forget 'D)))))\n(scoring max (sum (game mem NOTES) using WORTH)))\n(plan (seats (script 1)) (matches (0 0)) (turns 10))\n"

abbrev pub full_place : List ℕ
full_place = codes "; A mem holds 512 references; what is remembered beyond that changes nothing.\n; 600 times the 2 on top, then the 1 at the bottom: 512 references and the bottom one is a 2.\n; Without the limit, or where a full mem drops another one for it, the bottom one is the 1: 5121.\n(game\n(setup\n  (create players 1)\n  (create deck (game vloc PILE) (deck (PIP (1 2))))\n  (put points WORTH ((PIP (1) 1) (PIP (2) 2))))\n(do\n  (repeat 600 (remember (top (game vloc PILE)) (top (game mem NOTES))))\n  (remember (bottom (game vloc PILE)) (bottom (game mem NOTES)))\n  (set (game sto N) (+ (* 10 (size (game mem NOTES))) (points (bottom (game mem NOTES)) using WORTH))))\n(scoring max (game sto N)))\n(plan (seats (script)) (matches (0 0)) (turns 10))\n"

abbrev pub full_places : List ℕ
full_places = codes "; All mem together hold 1024 references.\n; Three players want 400 each, and the third gets the last 224. Without the common limit he gets 400.\n(game\n(setup\n  (create players 3)\n  (create deck (game vloc PILE) (deck (PIP (1)))))\n(do\n  (all player 'P\n    (repeat 400 (remember (top (game vloc PILE)) (top ('P mem NOTES))))))\n(scoring max (size ('SELF mem NOTES))))\n(plan (seats (script) (script) (script)) (matches (0 0)) (turns 10))\n"
