-- How names, stages and choices are numbered: by the order in which they are first mentioned.
use Rattle.std.specs.Prelude.{◌≡◌, ℕ, ◌+◌, ◌<◌, ◌⊎◌, List, [], ◌∷◌, length, slice_index_or, map, flat_map}
use Rattle.rc_base.specs.Words.{different}
use Rattle.rc_base.specs.Numbers.{below}
use Rattle.rc_sheet_spec.specs.Sheet.{Sheet}
use Rattle.rc_sheet_spec.specs.Mentions.{Mention, attr_of, value_of, map_of, loc_of, num_of, var_of, mentions, stages_in, sites_in}

-- the words of one kind that a sheet mentions, in order
abbrev pub mentioned : Sheet → (Mention → List ℕ) → List (List ℕ) → List (List ℕ)
mentioned sheet of_kind words = map (λ n. slice_index_or words n []) (flat_map of_kind (mentions sheet))

-- The names of each kind are the different words among all mentions, in the order of their first mention. Stages and
-- choices are counted in the order of the text.
pub record IsNumbered (sheet : Sheet) : Type 0 where
  pub attrs : sheet.names.attrs ≡ different (mentioned sheet attr_of sheet.names.attrs)
  pub values : sheet.names.values ≡ different (mentioned sheet value_of sheet.names.values)
  pub maps : sheet.names.maps ≡ different (mentioned sheet map_of sheet.names.maps)
  pub locs : sheet.names.locs ≡ different (mentioned sheet loc_of sheet.names.locs)
  pub nums : sheet.names.nums ≡ different (mentioned sheet num_of sheet.names.nums)
  pub vars : sheet.names.vars ≡ different (mentioned sheet var_of sheet.names.vars)
  pub loc_numbers : map (λ loc. loc.name) sheet.locs ≡ below (length sheet.names.locs)
  pub num_numbers : map (λ num. num.name) sheet.nums ≡ below (length sheet.names.nums)
  pub stages : stages_in sheet.items ≡ below (length (stages_in sheet.items))
  pub sites : sites_in sheet.items ≡ below (length (sites_in sheet.items))

-- Names are numbered one by one: of these mentions, in order, each is of a name that is numbered already, or of the next
-- one. So many names are numbered before them, and so many behind them.
abbrev pub Extends : ℕ → List ℕ → ℕ → Type 0
Extends before [] after = before ≡ after
Extends before (n ∷ ns) after =
    ((n < before) × Extends before ns after) ⊎ ((n ≡ before) × Extends (before + 1) ns after)
