-- What an alternative offers: the positions, from outside to inside, at which its guard holds.
use Rattle.std.specs.Prelude.{◌≡◌, ℕ, true, List, [], ◌∷◌, ◌++◌, slice_get, Some, AllPairs, Contains, All}
use Rattle.rc_base.specs.Deck.{IsBefore}
use Rattle.rc_sheet_spec.specs.Sheet.{Alt, do_alt, if_alt, any_alt}
use Rattle.rc_play_spec.specs.Value.{Scene, Bind, test_value, members}

module _ {C : Type 0} (scene : Scene C) where
  abbrev pub Offers : List (Bind C) → Alt → List ℕ → Type 0
  Offers vars (do_alt effects) spots = spots ≡ []
  Offers vars (if_alt guard effects) spots = (spots ≡ []) × (test_value scene vars guard ≡ true)
  Offers vars (any_alt domain bound alt) spots =
      (k : ℕ) × (m : Bind C) × (rest : List ℕ) × (spots ≡ k ∷ rest)
      × (slice_get (members scene vars domain) k ≡ Some m) × Offers (vars ++ m ∷ []) alt rest

  -- an alternative's place and what it offers
  abbrev pub OffersOne : List Alt → List ℕ → Type 0
  OffersOne alts path =
      (k : ℕ) × (alt : Alt) × (spots : List ℕ) × (path ≡ k ∷ spots) × (slice_get alts k ≡ Some alt)
      × Offers [] alt spots

  -- all that is offered and nothing else, in the order of a dictionary
  pub record AreOffers (alts : List Alt) (paths : List (List ℕ)) : Type 0 where
    pub ordered : AllPairs IsBefore paths
    pub offered : All (OffersOne alts) paths
    pub every : (path : List ℕ) → OffersOne alts path → Contains paths path
