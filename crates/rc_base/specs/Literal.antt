-- Number literals: one to eighteen digits, and in a sheet an optional `-` before them.
use Rattle.std.specs.Prelude.{ℕ, ◌+◌, ◌*◌, ◌-◌, Bool, ◌&&◌, nat_le, ◌==◌, if◌then◌else◌, List, [], ◌∷◌, length, fold, ℤ, pos, neg_ℤ, Option, Some, None, option_map}
use Rattle.std.specs.List.{list_all}

abbrev pub is_digit : ℕ → Bool
is_digit b = nat_le 48 b && nat_le b 57

-- the number that digits spell in base ten
abbrev pub value_of : List ℕ → ℕ
value_of digits = fold (λ value digit. value * 10 + (digit - 48)) 0 digits

-- the number that a literal without a sign spells
abbrev pub natural : List ℕ → Option ℕ
natural word = if nat_le 1 (length word) && nat_le (length word) 18 && list_all is_digit word then Some (value_of word)
    else None

-- the number that a literal spells
abbrev pub integer : List ℕ → Option ℤ
integer [] = None
integer (b ∷ word) =
    if b == 45 then option_map (λ size. neg_ℤ (pos size)) (natural word) else option_map pos (natural (b ∷ word))
