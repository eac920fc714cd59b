-- What lists of each length mention themselves.
use Rattle.std.proofs.Common.{◌≡◌, List, [], length, sym, arith}
use Rattle.rc_form.specs.declared.form.Form.{Form}
use Rattle.rc_form.specs.Form.{trees_of, packed}
use Rattle.rc_sheet_spec.specs.FormMentions.{value_word, map_word}
use Rattle.rc_resolve.specs.Mentions.{Mentions, loc_mention, num_mention}
use Rattle.rc_resolve.specs.Known.{with_all, own}
use Rattle.rc_resolve.proofs.Lengths.{attr_other, value_other, map_other, loc_other, num_other}

-- three parts mention no value and no point map
pub no_value_of_three : (forms : List Form) → length forms ≡ 3 → [] ≡ value_word (packed (trees_of forms))
no_value_of_three forms three = value_other forms (λ four. absurd (omega arith))

pub no_map_of_three : (forms : List Form) → length forms ≡ 3 → [] ≡ map_word (packed (trees_of forms))
no_map_of_three forms three = map_other forms (λ four. absurd (omega arith))

-- four mention no location and no stored number
pub no_location_of_four : (forms : List Form) → length forms ≡ 4 → [] ≡ loc_mention (packed (trees_of forms))
no_location_of_four forms four = loc_other forms (λ three. absurd (omega arith))

pub no_number_of_four : (forms : List Form) → length forms ≡ 4 → [] ≡ num_mention (packed (trees_of forms))
no_number_of_four forms four = num_other forms (λ three. absurd (omega arith))

-- lists of other lengths mention nothing
pub own_other : (known : Mentions) (forms : List Form) → (length forms ≡ 3 → ⊥) → (length forms ≡ 4 → ⊥)
    → known ≡ with_all known (own (packed (trees_of forms)))
own_other known forms three four =
    rw (
      sym (attr_other forms three four),
      sym (value_other forms four),
      sym (map_other forms four),
      sym (loc_other forms three),
      sym (num_other forms three),
    )
