-- Which code stands for which sheet.
use Rattle.std.specs.Prelude.{◌≡◌, ℕ, ◌+◌, List, [], ◌∷◌, ◌++◌, length, slice_get, Some}
use Rattle.rc_sheet_spec.specs.Sheet.{Effect, move, move_all, remember, forget, shuffle, set_to, increase, decrease, when, repeat, for_each, next_is, turn_round, peek, Effects, no_effect, effect, Alt, do_alt, if_alt, any_alt, SheetItem, do_item, stage, choice, SheetItems, no_item, item, Sheet}
use Rattle.rc_sheet_spec.specs.Mentions.{sites_in}
use Rattle.rc_code.specs.Instruction.{Block, Instruction, simple, if_true, so_often, one_by_one, do_all, begin_stage, offer, end_body, SitePlace, Code}

-- An effect that holds no others is one instruction. One that holds others is an instruction with their code behind it, and says how
-- long that is. Effects stand one behind the other.
abbrev mutual
  pub EffectStands : Effect → List Instruction → Type 0
  EffectStands (move card end loc) code = code ≡ simple (move card end loc) ∷ []
  EffectStands (move_all cards end loc) code = code ≡ simple (move_all cards end loc) ∷ []
  EffectStands (remember card end loc) code = code ≡ simple (remember card end loc) ∷ []
  EffectStands (forget card) code = code ≡ simple (forget card) ∷ []
  EffectStands (shuffle loc) code = code ≡ simple (shuffle loc) ∷ []
  EffectStands (set_to num value) code = code ≡ simple (set_to num value) ∷ []
  EffectStands (increase num value) code = code ≡ simple (increase num value) ∷ []
  EffectStands (decrease num value) code = code ≡ simple (decrease num value) ∷ []
  EffectStands (when test effects) code =
      (inside : List Instruction) × (code ≡ if_true test (length inside) ∷ inside) × EffectsStand effects inside
  EffectStands (repeat count effects) code =
      (inside : List Instruction) × (code ≡ so_often count (length inside) ∷ inside) × EffectsStand effects inside
  EffectStands (for_each domain bound effects) code =
      (inside : List Instruction) × (code ≡ one_by_one domain bound (length inside) ∷ inside)
      × EffectsStand effects inside
  EffectStands (next_is who) code = code ≡ simple (next_is who) ∷ []
  EffectStands turn_round code = code ≡ simple turn_round ∷ []
  EffectStands (peek cards who) code = code ≡ simple (peek cards who) ∷ []

  pub EffectsStand : Effects → List Instruction → Type 0
  EffectsStand no_effect code = code ≡ []
  EffectsStand (effect e effects) code =
      (first : List Instruction) × (rest : List Instruction) × (code ≡ first ++ rest) × EffectStands e first
      × EffectsStand effects rest

-- an alternative is the code of its effects; its guards and domains stay with the choice
abbrev pub AltStands : Alt → List Instruction → Type 0
AltStands (do_alt effects) code = EffectsStand effects code
AltStands (if_alt guard effects) code = EffectsStand effects code
AltStands (any_alt domain bound alt) code = AltStands alt code

-- The alternatives of a choice, one behind the other inside it. Each has a block, which says how many of the instructions inside the
-- choice stand before its own, and how many its own are.
abbrev pub AltsStand : ℕ → List Alt → List Block → List Instruction → Type 0
AltsStand before [] blocks code = (blocks ≡ []) × (code ≡ [])
AltsStand before (alt ∷ alts) blocks code =
    (first : List Instruction) × (rest : List Instruction) × (others : List Block) × (code ≡ first ++ rest)
    × (blocks ≡ record { before = before; inside = length first } ∷ others) × AltStands alt first
    × AltsStand (before + length first) alts others rest

-- Items whose code begins at the place `at`, inside the stages that begin at the places `outer`, from outside to inside. A stage's body
-- is followed by its end. At a choice's number the table of sites has its place, with those of the stages around it.
module _ (sites : List SitePlace) where
  abbrev mutual
    pub ItemStands : List ℕ → ℕ → SheetItem → List Instruction → Type 0
    ItemStands outer at (do_item effects) code =
        (inside : List Instruction) × (code ≡ do_all (length inside) ∷ inside) × EffectsStand effects inside
    ItemStands outer at (stage number class end body) code =
        (inside : List Instruction)
        × (code ≡ begin_stage number class end (length inside + 1) ∷ inside ++ end_body ∷ [])
        × ItemsStand (outer ++ at ∷ []) (at + 1) body inside
    ItemStands outer at (choice site alts) code =
        (inside : List Instruction) × (blocks : List Block) × (code ≡ offer site alts blocks (length inside) ∷ inside)
        × AltsStand 0 alts blocks inside × (slice_get sites site ≡ Some (record { outer = outer; place = at }))

    pub ItemsStand : List ℕ → ℕ → SheetItems → List Instruction → Type 0
    ItemsStand outer at no_item code = code ≡ []
    ItemsStand outer at (item i items) code =
        (first : List Instruction) × (rest : List Instruction) × (code ≡ first ++ rest)
        × ItemStands outer at i first × ItemsStand outer (at + length first) items rest

-- Code stands for a sheet where its list stands for the sheet's items, and it has as many places as the sheet has choice sites.
pub record StandsFor (sheet : Sheet) (code : Code) : Type 0 where
  pub items : ItemsStand code.sites [] 0 sheet.items code.list
  pub sites : length code.sites ≡ length (sites_in sheet.items)
