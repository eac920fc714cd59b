-- A point map to try the definitions on.
use Rattle.std.specs.Prelude.{List, [], ◌∷◌, pos, neg_ℤ}
use Rattle.rc_base.specs.Deck.{Entry}

-- 1,000,000,000 for the values 1 and 2 of attribute 0, 5 for value 2 written twice, and -7 for value 2 of attribute 1
abbrev pub three_entries : List Entry
three_entries =
    record { attr = 0; values = 1 ∷ 2 ∷ []; points = pos 1000000000 }
    ∷ record { attr = 0; values = 2 ∷ 2 ∷ []; points = pos 5 }
    ∷ record { attr = 1; values = 2 ∷ []; points = neg_ℤ (pos 7) }
    ∷ []
