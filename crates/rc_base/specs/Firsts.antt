-- The first entry of each key.
use Rattle.std.specs.Prelude.{◌≡◌, Bool, if◌then◌else◌, List, [], ◌∷◌, ◌++◌}
use Rattle.std.specs.declared.cmp.Ordering.{Ordering}
use Rattle.std.specs.List.{list_any}
use Rattle.std.specs.BTreeSet.{BTreeSet, contains}

module _ {K V : Type 0} (eq : K → K → Bool) where
  -- one of the entries has the key
  abbrev pub has_key : K → List (K × V) → Bool
  has_key key entries = list_any (λ entry. eq key entry.0) entries

  -- these entries, and one more where it is the first of its key
  abbrev pub with_first : List (K × V) → K → V → List (K × V)
  with_first entries key value = if has_key key entries then entries else entries ++ (key, value) ∷ []

-- the index has the keys of the entries
abbrev pub HasKeys : {K V : Type 0} → (K → K → Bool) → (K → K → Ordering) → BTreeSet K → List (K × V) → Type 0
HasKeys {K} eq cmp keys entries = (key : K) → contains cmp keys key ≡ has_key eq key entries
