-- The code that is made of a tree stands for it, and says it.
use Rattle.std.proofs.Common.{◌≡◌, ℕ, ◌+◌, List, [], ◌∷◌, ◌++◌, length, drop, slice_get, Some, refl, sym, ap, ap₂, ◌∙◌, subst, append_assoc, append-nil, length-append, arith}
use Rattle.std.specs.List.{AllZip, range_with_len}
use Rattle.std.proofs.lemmas.List.{take_at, drop_at}
use Rattle.rc_sheet_spec.specs.Sheet.{Effect, move, move_all, remember, forget, shuffle, set_to, increase, decrease, when, repeat, for_each, next_is, turn_round, peek, Effects, no_effect, effect, Alt, do_alt, if_alt, any_alt, SheetItem, do_item, stage, choice, SheetItems, no_item, item, Sheet}
use Rattle.rc_base.specs.Numbers.{below}
use Rattle.rc_sheet_spec.specs.Mentions.{sites_in, sites_in_item}
use Rattle.rc_play_spec.specs.Menu.{effects_of}
use Rattle.rc_code.specs.Instruction.{Instruction, if_true, so_often, one_by_one, end_body, SitePlace, Code}
use Rattle.rc_code.specs.Meaning.{effects_in, items_in}
use Rattle.rc_code.specs.Stands.{EffectStands, EffectsStand, AltStands, AltsStand, ItemStands, ItemsStand, StandsFor}
use Rattle.rc_code.specs.Compiled.{effect_code, effects_code, alts_code, blocks_from, item_code, items_code, item_sites, items_sites}
use Rattle.rc_code.proofs.MeaningLemmas.{first_and_rest, items_do, items_stage, items_choice}

-- IT STANDS FOR THE TREE

mutual
  effect_stands : (e : Effect) → EffectStands e (effect_code e)
  effect_stands (move card end loc) = refl
  effect_stands (move_all cards end loc) = refl
  effect_stands (remember card end loc) = refl
  effect_stands (forget card) = refl
  effect_stands (shuffle loc) = refl
  effect_stands (set_to num value) = refl
  effect_stands (increase num value) = refl
  effect_stands (decrease num value) = refl
  effect_stands (when test effects) = (effects_code effects, refl, effects_stand effects)
  effect_stands (repeat count effects) = (effects_code effects, refl, effects_stand effects)
  effect_stands (for_each domain bound effects) = (effects_code effects, refl, effects_stand effects)
  effect_stands (next_is who) = refl
  effect_stands turn_round = refl
  effect_stands (peek cards who) = refl

  pub effects_stand : (effects : Effects) → EffectsStand effects (effects_code effects)
  effects_stand no_effect = refl
  effects_stand (effect e effects) = (effect_code e, effects_code effects, refl, effect_stands e, effects_stand effects)

alt_stands : (alt : Alt) → AltStands alt (effects_code (effects_of alt))
alt_stands (do_alt effects) = effects_stand effects
alt_stands (if_alt guard effects) = effects_stand effects
alt_stands (any_alt domain bound alt) = alt_stands alt

alts_stand : (before : ℕ) (alts : List Alt) → AltsStand before alts (blocks_from before alts) (alts_code alts)
alts_stand before [] = (refl, refl)
alts_stand before (alt ∷ alts) =
    let next = before + length (effects_code (effects_of alt)) in
    (effects_code (effects_of alt), alts_code alts, blocks_from next alts, refl, refl, alt_stands alt, alts_stand next alts)

-- there is a place for each number
mutual
  pub as_many_item : (outer : List ℕ) (at : ℕ) (i : SheetItem) → length (sites_in_item i) ≡ length (item_sites outer at i)
  as_many_item outer at (do_item effects) = refl
  as_many_item outer at (stage number class end body) = as_many (outer ++ at ∷ []) (at + 1) body
  as_many_item outer at (choice site alts) = refl

  pub as_many : (outer : List ℕ) (at : ℕ) (items : SheetItems) → length (sites_in items) ≡ length (items_sites outer at items)
  as_many outer at no_item = refl
  as_many outer at (item i items) =
      let next = at + length (item_code i) in
      length-append (sites_in_item i) (sites_in items)
      ∙ ap₂ (λ a b. a + b) (as_many_item outer at i) (as_many outer next items)
      ∙ sym (length-append (item_sites outer at i) (items_sites outer next items))

module _ {A B : Type 0} (R : A → B → Type 0) where
  zip_parts : (xs ys : List A) (ps qs : List B) → length xs ≡ length ps → AllZip R (xs ++ ys) (ps ++ qs) → AllZip R xs ps × AllZip R ys qs
  zip_parts [] ys [] qs same all = (tt, all)
  zip_parts [] ys (p ∷ ps) qs same all = absurd (omega (arith, same))
  zip_parts (x ∷ xs) ys [] qs same all = absurd (omega (arith, same))
  zip_parts (x ∷ xs) ys (p ∷ ps) qs same all = let rest = zip_parts xs ys ps qs (omega (arith, same)) all.1 in ((all.0, rest.0), rest.1)

-- a table that has the places of the choices at their numbers
module _ (sites : List SitePlace) where
  abbrev IsAt : ℕ → SitePlace → Type 0
  IsAt site place = slice_get sites site ≡ Some place

  mutual
    item_stands : (outer : List ℕ) (at : ℕ) (i : SheetItem) → AllZip IsAt (sites_in_item i) (item_sites outer at i) →
        ItemStands sites outer at i (item_code i)
    item_stands outer at (do_item effects) are = (effects_code effects, refl, effects_stand effects)
    item_stands outer at (stage number class end body) are = (items_code body, refl, items_stand (outer ++ at ∷ []) (at + 1) body are)
    item_stands outer at (choice site alts) are = (alts_code alts, blocks_from 0 alts, refl, alts_stand 0 alts, are.0)

    items_stand : (outer : List ℕ) (at : ℕ) (items : SheetItems) → AllZip IsAt (sites_in items) (items_sites outer at items) →
        ItemsStand sites outer at items (items_code items)
    items_stand outer at no_item are = refl
    items_stand outer at (item i items) are =
        let next = at + length (item_code i) in
        let parts =
        zip_parts IsAt (sites_in_item i) (sites_in items) (item_sites outer at i) (items_sites outer next items) (as_many_item outer at i) are in
        (item_code i, items_code items, refl, item_stands outer at i parts.0, items_stand outer next items parts.1)

-- places in their order are at the numbers that count them
counted : (front places : List SitePlace) → AllZip (IsAt (front ++ places)) (range_with_len (length front) (length places)) places
counted front [] = tt
counted front (place ∷ places) =
    let rest = counted (front ++ place ∷ []) places in
    let all = append_assoc front (place ∷ []) places in
    let next = length-append front (place ∷ []) in (
      get_behind front place places,
      subst (λ n. AllZip (IsAt (front ++ place ∷ places)) (range_with_len n (length places)) places) next
          (subst (λ whole. AllZip (IsAt whole) (range_with_len (length (front ++ place ∷ [])) (length places)) places) all rest),
    )
  where
    get_behind : (front : List SitePlace) (place : SitePlace) (places : List SitePlace) → slice_get (front ++ place ∷ places) (length front) ≡ Some place
    get_behind [] place places = refl
    get_behind (p ∷ front) place places = get_behind front place places

-- the code that is made of a sheet whose choices are numbered in order stands for the sheet
pub compiled_stands : (sheet : Sheet) → sites_in sheet.items ≡ below (length (sites_in sheet.items)) →
    StandsFor sheet (record { list = items_code sheet.items; sites = items_sites [] 0 sheet.items })
compiled_stands sheet numbered =
    let places = items_sites [] 0 sheet.items in
    let many = as_many [] 0 sheet.items in
    let are = subst (λ numbers. AllZip (IsAt places) numbers places) (ap below (sym many) ∙ sym numbered) (counted [] places) in
    record { items = items_stand places [] 0 sheet.items are; sites = sym many }

pub stands_as : (sheet : Sheet) (list : List Instruction) (sites : List SitePlace) → sites_in sheet.items ≡ below (length (sites_in sheet.items)) →
    list ≡ items_code sheet.items → sites ≡ items_sites [] 0 sheet.items → StandsFor sheet (record { list = list; sites = sites })
stands_as sheet list sites numbered code places =
    subst (StandsFor sheet) (ap₂ made (sym code) (sym places)) (compiled_stands sheet numbered)
  where
    made : List Instruction → List SitePlace → Code
    made list sites = record { list = list; sites = sites }

-- CODE THAT STANDS FOR EFFECTS SAYS THEM

-- effects behind others
abbrev joined : Effects → Effects → Effects
joined no_effect es = es
joined (effect e rest) es = effect e (joined rest es)

joined-none : (es : Effects) → joined es no_effect ≡ es
joined-none no_effect = refl
joined-none (effect e es) = ap (effect e) (joined-none es)

mutual
  -- an instruction that holds others, and what is behind it
  says_one : (e : Effect) (code rest : List Instruction) → EffectStands e code → effects_in (code ++ rest) ≡ effect e (effects_in rest)
  says_one (move card end loc) code rest is = ap (λ c. effects_in (c ++ rest)) is
  says_one (move_all cards end loc) code rest is = ap (λ c. effects_in (c ++ rest)) is
  says_one (remember card end loc) code rest is = ap (λ c. effects_in (c ++ rest)) is
  says_one (forget card) code rest is = ap (λ c. effects_in (c ++ rest)) is
  says_one (shuffle loc) code rest is = ap (λ c. effects_in (c ++ rest)) is
  says_one (set_to num value) code rest is = ap (λ c. effects_in (c ++ rest)) is
  says_one (increase num value) code rest is = ap (λ c. effects_in (c ++ rest)) is
  says_one (decrease num value) code rest is = ap (λ c. effects_in (c ++ rest)) is
  says_one (when test effects) code rest is =
      let inside = is.0 in
      ap (λ c. effects_in (c ++ rest)) is.1
      ∙ first_and_rest (if_true test (length inside)) (inside ++ rest)
      ∙ ap (λ c. effect (when test (effects_in c)) (effects_in (drop (length inside) (inside ++ rest)))) (take_at inside rest (length inside) refl)
      ∙ ap (λ c. effect (when test (effects_in inside)) (effects_in c)) (drop_at inside rest (length inside) refl)
      ∙ ap (λ es. effect (when test es) (effects_in rest)) (ap effects_in (sym (append-nil inside)) ∙ says_before effects inside [] is.2 ∙ joined-none effects)
  says_one (repeat count effects) code rest is =
      let inside = is.0 in
      ap (λ c. effects_in (c ++ rest)) is.1
      ∙ first_and_rest (so_often count (length inside)) (inside ++ rest)
      ∙ ap (λ c. effect (repeat count (effects_in c)) (effects_in (drop (length inside) (inside ++ rest)))) (take_at inside rest (length inside) refl)
      ∙ ap (λ c. effect (repeat count (effects_in inside)) (effects_in c)) (drop_at inside rest (length inside) refl)
      ∙ ap (λ es. effect (repeat count es) (effects_in rest)) (ap effects_in (sym (append-nil inside)) ∙ says_before effects inside [] is.2 ∙ joined-none effects)
  says_one (for_each domain bound effects) code rest is =
      let inside = is.0 in
      ap (λ c. effects_in (c ++ rest)) is.1
      ∙ first_and_rest (one_by_one domain bound (length inside)) (inside ++ rest)
      ∙ ap (λ c. effect (for_each domain bound (effects_in c)) (effects_in (drop (length inside) (inside ++ rest)))) (take_at inside rest (length inside) refl)
      ∙ ap (λ c. effect (for_each domain bound (effects_in inside)) (effects_in c)) (drop_at inside rest (length inside) refl)
      ∙ ap (λ es. effect (for_each domain bound es) (effects_in rest)) (ap effects_in (sym (append-nil inside)) ∙ says_before effects inside [] is.2 ∙ joined-none effects)
  says_one (next_is who) code rest is = ap (λ c. effects_in (c ++ rest)) is
  says_one turn_round code rest is = ap (λ c. effects_in (c ++ rest)) is
  says_one (peek cards who) code rest is = ap (λ c. effects_in (c ++ rest)) is

  says_before : (es : Effects) (code rest : List Instruction) → EffectsStand es code → effects_in (code ++ rest) ≡ joined es (effects_in rest)
  says_before no_effect code rest is = ap (λ c. effects_in (c ++ rest)) is
  says_before (effect e es) code rest is =
      ap (λ c. effects_in (c ++ rest)) is.2
      ∙ ap effects_in (append_assoc is.0 is.1 rest)
      ∙ says_one e is.0 (is.1 ++ rest) is.3
      ∙ ap (effect e) (says_before es is.1 rest is.4)

-- the effects that a code stands for are those in it
pub says_effects : (es : Effects) (code : List Instruction) → EffectsStand es code → effects_in code ≡ es
says_effects es code is = ap effects_in (sym (append-nil code)) ∙ says_before es code [] is ∙ joined-none es

-- CODE THAT STANDS FOR ITEMS SAYS THEM

abbrev pub joined_items : SheetItems → SheetItems → SheetItems
joined_items no_item is = is
joined_items (item i rest) is = item i (joined_items rest is)

pub joined_items-none : (is : SheetItems) → joined_items is no_item ≡ is
joined_items-none no_item = refl
joined_items-none (item i is) = ap (item i) (joined_items-none is)

-- items behind items
module _ (sites : List SitePlace) where
  mutual
    says_item : (outer : List ℕ) (at : ℕ) (i : SheetItem) (code rest : List Instruction) → ItemStands sites outer at i code →
        items_in (code ++ rest) ≡ item i (items_in rest)
    says_item outer at (do_item effects) code rest is =
        let inside = is.0 in
        ap (λ c. items_in (c ++ rest)) is.1
        ∙ items_do (length inside) (inside ++ rest)
        ∙ ap (λ c. item (do_item (effects_in c)) (items_in (drop (length inside) (inside ++ rest)))) (take_at inside rest (length inside) refl)
        ∙ ap (λ c. item (do_item (effects_in inside)) (items_in c)) (drop_at inside rest (length inside) refl)
        ∙ ap (λ es. item (do_item es) (items_in rest)) (says_effects effects inside is.2)
    says_item outer at (stage number class end body) code rest is =
        let inside = is.0 in
        let whole = append_assoc inside (end_body ∷ []) rest in
        ap (λ c. items_in (c ++ rest)) is.1
        ∙ items_stage number class end (length inside + 1) ((inside ++ end_body ∷ []) ++ rest)
        ∙ ap (λ c. item (stage number class end (items_in c)) (items_in (drop (length inside + 1) ((inside ++ end_body ∷ []) ++ rest)))) whole
        ∙ ap (λ c. item (stage number class end (items_in (inside ++ end_body ∷ rest))) (items_in c))
        (drop_at (inside ++ end_body ∷ []) rest (length inside + 1) (length-append inside (end_body ∷ [])))
        ∙ ap (λ is. item (stage number class end is) (items_in rest))
        (says_before_items (outer ++ at ∷ []) (at + 1) body inside (end_body ∷ rest) is.2 ∙ joined_items-none body)
    says_item outer at (choice site alts) code rest is =
        let inside = is.0 in
        ap (λ c. items_in (c ++ rest)) is.2
        ∙ items_choice site alts is.1 (length inside) (inside ++ rest)
        ∙ ap (λ c. item (choice site alts) (items_in c)) (drop_at inside rest (length inside) refl)

    pub says_before_items : (outer : List ℕ) (at : ℕ) (is : SheetItems) (code rest : List Instruction) → ItemsStand sites outer at is code →
        items_in (code ++ rest) ≡ joined_items is (items_in rest)
    says_before_items outer at no_item code rest is = ap (λ c. items_in (c ++ rest)) is
    says_before_items outer at (item i items) code rest is =
        ap (λ c. items_in (c ++ rest)) is.2
        ∙ ap items_in (append_assoc is.0 is.1 rest)
        ∙ says_item outer at i is.0 (is.1 ++ rest) is.3
        ∙ ap (item i) (says_before_items outer (at + length is.0) items is.1 rest is.4)

  -- the items that a code stands for are those in it
  pub says_items : (outer : List ℕ) (at : ℕ) (is : SheetItems) (code : List Instruction) → ItemsStand sites outer at is code → items_in code ≡ is
  says_items outer at is code stands =
      ap items_in (sym (append-nil code)) ∙ says_before_items outer at is code [] stands ∙ joined_items-none is
