-- The menu of a choice: what its mover may pick.
use Rattle.std.specs.Prelude.{ℕ, ◌+◌, ◌==◌, if◌then◌else◌, List, [], ◌∷◌, ◌++◌, take, map, slice_index_or}
use Rattle.rc_base.specs.Limits.{most_items}
use Rattle.rc_sheet_spec.specs.Sheet.{Effects, no_effect, Alt, do_alt, if_alt, any_alt, SheetItem, do_item, stage, choice, SheetItems, no_item, item, Sheet}
use Rattle.rc_play_spec.specs.Value.{Scene, Bind, player_bound, test_value, members}

-- an alternative, by its place, with the positions of its bindings in their domains, from outside to inside
pub record Item : Type 0 where
  pub alt : ℕ
  pub spots : List ℕ

-- the alternatives of the choice with this number, as a list of one
abbrev mutual
  pub alts_in_item : ℕ → SheetItem → List (List Alt)
  alts_in_item site (do_item effects) = []
  alts_in_item site (stage place class end body) = alts_in site body
  alts_in_item site (choice number alts) = if number == site then alts ∷ [] else []

  pub alts_in : ℕ → SheetItems → List (List Alt)
  alts_in site no_item = []
  alts_in site (item i items) = alts_in_item site i ++ alts_in site items

abbrev pub alts_at : Sheet → ℕ → List Alt
alts_at sheet site = slice_index_or (alts_in site sheet.items) 0 []

-- what f gives for each member, with the member's position before it; the first member's position is n
abbrev pub from_each : {M : Type 0} → (M → List (List ℕ)) → ℕ → List M → List (List ℕ)
from_each f n [] = []
from_each f n (m ∷ members) = map (λ spots. n ∷ spots) (f m) ++ from_each f (n + 1) members

abbrev pub item_of : List ℕ → Item
item_of [] = record { alt = 0; spots = [] }
item_of (alt ∷ spots) = record { alt = alt; spots = spots }

-- the effects of an alternative
abbrev pub effects_of : Alt → Effects
effects_of (do_alt effects) = effects
effects_of (if_alt guard effects) = effects
effects_of (any_alt domain bound alt) = effects_of alt

-- the alternative in this place
abbrev pub alt_in : List Alt → ℕ → Alt
alt_in alts n = slice_index_or alts n (do_alt no_effect)

module _ {C : Type 0} (scene : Scene C) where
  -- The positions at which an alternative's guard holds, an outer one varying slowest. A domain is read under the bindings
  -- outside it.
  abbrev pub spots_of : List (Bind C) → Alt → List (List ℕ)
  spots_of vars (do_alt effects) = [] ∷ []
  spots_of vars (if_alt guard effects) = if test_value scene vars guard then [] ∷ [] else []
  spots_of vars (any_alt domain bound alt) =
      from_each (λ m. spots_of (vars ++ m ∷ []) alt) 0 (members scene vars domain)

  -- all that alternatives offer, each the alternative's place and its positions
  abbrev pub paths_of : List Alt → List (List ℕ)
  paths_of alts = from_each (spots_of []) 0 alts

  -- the first of them, up to a limit
  abbrev pub menu_from : List Alt → List Item
  menu_from alts = map item_of (take most_items (paths_of alts))

  -- the menu of a choice site
  abbrev pub menu_of : ℕ → List Item
  menu_of site = menu_from (alts_at scene.known.sheet site)

  -- what an item's positions bind, from outside to inside
  abbrev pub bindings_of : List (Bind C) → Alt → List ℕ → List (Bind C)
  bindings_of vars (do_alt effects) spots = vars
  bindings_of vars (if_alt guard effects) spots = vars
  bindings_of vars (any_alt domain bound alt) [] = vars
  bindings_of vars (any_alt domain bound alt) (spot ∷ spots) =
      bindings_of (vars ++ slice_index_or (members scene vars domain) spot (player_bound 0) ∷ []) alt spots
