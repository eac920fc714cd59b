-- What a new name for a book opens: the ledgers of its looks, hits and keeps.
use Rattle.std.specs.Prelude.{◌≡◌, ℕ}
use Rattle.rc_cache.specs.declared.naming.Fresh.{Fresh}

-- these are their names
abbrev pub HasNames : Fresh → ℕ → ℕ → ℕ → Type 0
HasNames fresh looks hits keeps = (fresh.looks.name ≡ looks) × (fresh.hits.name ≡ hits) × (fresh.keeps.name ≡ keeps)

-- and each has so many parts, one for each lane
abbrev pub HasParts : Fresh → ℕ → Type 0
HasParts fresh lanes = (fresh.looks.parts ≡ lanes) × (fresh.hits.parts ≡ lanes) × (fresh.keeps.parts ≡ lanes)
