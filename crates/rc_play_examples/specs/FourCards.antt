-- Sources: two players with two cards each, who put them on the table one by one.
use Rattle.std.specs.Prelude.{ℕ, List, codes}

abbrev pub four_cards : List ℕ
four_cards = codes "(game\n(setup (create players 2)\n(create deck (game hloc STOCK) (deck (RANK (1 2 3 4))))\n(put points WORTH ((RANK (1) 1) (RANK (2) 2) (RANK (3) 3) (RANK (4) 4))))\n(do (all player 'P (repeat 2 (move (top (game hloc STOCK)) (top ('P iloc HAND))))))\n(stage player (end (all player 'P (= (size ('P iloc HAND)) 0)))\n(choice (any ((current player) iloc HAND) 'C\n(do (move 'C (top ((current player) vloc PLAYED)))))))\n(scoring max (sum ('SELF vloc PLAYED) using WORTH)))\n(plan (seats (script) (script)) (matches (0 0)) (turns 100))\n"

abbrev pub three_turns : List ℕ
three_turns = codes "(game\n(setup (create players 2)\n(create deck (game hloc STOCK) (deck (RANK (1 2 3 4))))\n(put points WORTH ((RANK (1) 1) (RANK (2) 2) (RANK (3) 3) (RANK (4) 4))))\n(do (all player 'P (repeat 2 (move (top (game hloc STOCK)) (top ('P iloc HAND))))))\n(stage player (end (all player 'P (= (size ('P iloc HAND)) 0)))\n(choice (any ((current player) iloc HAND) 'C\n(do (move 'C (top ((current player) vloc PLAYED)))))))\n(scoring max (sum ('SELF vloc PLAYED) using WORTH)))\n(plan (seats (script) (script)) (matches (0 0)) (turns 3))\n"

abbrev pub one_turn : List ℕ
one_turn = codes "(game\n(setup (create players 2)\n(create deck (game hloc STOCK) (deck (RANK (1 2 3 4))))\n(put points WORTH ((RANK (1) 1) (RANK (2) 2) (RANK (3) 3) (RANK (4) 4))))\n(do (all player 'P (repeat 2 (move (top (game hloc STOCK)) (top ('P iloc HAND))))))\n(stage player (end (all player 'P (= (size ('P iloc HAND)) 0)))\n(choice (any ((current player) iloc HAND) 'C\n(do (move 'C (top ((current player) vloc PLAYED)))))))\n(scoring max (sum ('SELF vloc PLAYED) using WORTH)))\n(plan (seats (script) (script)) (matches (0 0)) (turns 1))\n"

abbrev pub one_scripted : List ℕ
one_scripted = codes "(game\n(setup (create players 2)\n(create deck (game hloc STOCK) (deck (RANK (1 2 3 4))))\n(put points WORTH ((RANK (1) 1) (RANK (2) 2) (RANK (3) 3) (RANK (4) 4))))\n(do (all player 'P (repeat 2 (move (top (game hloc STOCK)) (top ('P iloc HAND))))))\n(stage player (end (all player 'P (= (size ('P iloc HAND)) 0)))\n(choice (any ((current player) iloc HAND) 'C\n(do (move 'C (top ((current player) vloc PLAYED)))))))\n(scoring max (sum ('SELF vloc PLAYED) using WORTH)))\n(plan (seats (script 1) (script)) (matches (0 0)) (turns 100))\n"

abbrev pub three_scripted : List ℕ
three_scripted = codes "(game\n(setup (create players 2)\n(create deck (game hloc STOCK) (deck (RANK (1 2 3 4))))\n(put points WORTH ((RANK (1) 1) (RANK (2) 2) (RANK (3) 3) (RANK (4) 4))))\n(do (all player 'P (repeat 2 (move (top (game hloc STOCK)) (top ('P iloc HAND))))))\n(stage player (end (all player 'P (= (size ('P iloc HAND)) 0)))\n(choice (any ((current player) iloc HAND) 'C\n(do (move 'C (top ((current player) vloc PLAYED)))))))\n(scoring max (sum ('SELF vloc PLAYED) using WORTH)))\n(plan (seats (script 3) (script)) (matches (0 0)) (turns 100))\n"

abbrev pub hidden_sum : List ℕ
hidden_sum = codes "(game\n(setup (create players 2)\n(create deck (game hloc STOCK) (deck (RANK (1 2 3 4))))\n(put points WORTH ((RANK (1) 1) (RANK (2) 2) (RANK (3) 3) (RANK (4) 4))))\n(do (all player 'P (repeat 2 (move (top (game hloc STOCK)) (top ('P iloc HAND))))))\n(stage player (end (all player 'P (= (size ('P iloc HAND)) 0)))\n(choice (any ((current player) iloc HAND) 'C\n(do (all player 'P (if (> (sum ('P iloc HAND) using WORTH) 100) (inc (game sto SEEN) 1))) (move 'C (top ((current player) vloc PLAYED)))))))\n(scoring max (sum ('SELF vloc PLAYED) using WORTH)))\n(plan (seats (script) (script)) (matches (0 0)) (turns 100))\n"

abbrev pub no_item : List ℕ
no_item = codes "(game\n(setup (create players 2)\n(create deck (game hloc STOCK) (deck (RANK (1 2 3 4))))\n(put points WORTH ((RANK (1) 1) (RANK (2) 2) (RANK (3) 3) (RANK (4) 4))))\n(do (all player 'P (repeat 2 (move (top (game hloc STOCK)) (top ('P iloc HAND))))))\n(stage player (end (all player 'P (= (size ('P iloc HAND)) 0)))\n(choice (any ((current player) iloc HAND) 'C\n(if (= 0 1) (move 'C (top ((current player) vloc PLAYED)))))))\n(scoring max (sum ('SELF vloc PLAYED) using WORTH)))\n(plan (seats (script) (script)) (matches (0 0)) (turns 5))\n"

abbrev pub lowest : List ℕ
lowest = codes "(game\n(setup (create players 2)\n(create deck (game hloc STOCK) (deck (RANK (1 2 3 4))))\n(put points WORTH ((RANK (1) 1) (RANK (2) 2) (RANK (3) 3) (RANK (4) 4))))\n(do (all player 'P (repeat 2 (move (top (game hloc STOCK)) (top ('P iloc HAND))))))\n(stage player (end (all player 'P (= (size ('P iloc HAND)) 0)))\n(choice (any ((current player) iloc HAND) 'C\n(do (move 'C (top ((current player) vloc PLAYED)))))))\n(scoring min (sum ('SELF vloc PLAYED) using WORTH)))\n(plan (seats (script) (script)) (matches (0 0)) (turns 100))\n"

abbrev pub by_way_of_a_pile : List ℕ
by_way_of_a_pile = codes "(game\n(setup (create players 2)\n(create deck (game hloc STOCK) (deck (RANK (1 2 3 4))))\n(put points WORTH ((RANK (1) 1) (RANK (2) 2) (RANK (3) 3) (RANK (4) 4))))\n(do (all player 'P (repeat 2 (move (top (game hloc STOCK)) (top ('P iloc HAND))))))\n(stage player (end (all player 'P (= (size ('P iloc HAND)) 0)))\n(choice (any ((current player) iloc HAND) 'C\n(do (move 'C (top (game vloc PILE))) (move 'C (top ((current player) vloc PLAYED)))))))\n(scoring max (sum ('SELF vloc PLAYED) using WORTH)))\n(plan (seats (script) (script)) (matches (0 0)) (turns 100))\n"
