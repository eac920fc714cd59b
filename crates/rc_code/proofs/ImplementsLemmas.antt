-- Code that stands for a well formed sheet implements it: each of its instructions is fit for the sheet.
use Rattle.std.proofs.Common.{◌≡◌, ℕ, zero, suc, ◌+◌, ◌≤◌, ◌==◌, List, [], ◌∷◌, ◌++◌, length, take, drop, slice_get, Some, inl, refl, sym, ap, ◌∙◌, subst, append_assoc, append-nil, length-append, arith}
use Rattle.std.proofs.lemmas.List.{take_at, drop_at}
use Rattle.std.proofs.lemmas.Bool.{eq-eqb, cond-true}
use Rattle.rc_sheet_spec.specs.Sheet.{Class, game_class, player_class, team_class, Test, Effect, move, move_all, remember, forget, shuffle, set_to, increase, decrease, when, repeat, for_each, next_is, turn_round, peek, Effects, no_effect, effect, Alt, do_alt, if_alt, any_alt, SheetItem, do_item, stage, choice, SheetItems, no_item, item, Sheet}
use Rattle.rc_sheet_spec.specs.Lists.{item_list}
use Rattle.rc_sheet_spec.specs.WellFormed.{Around, outside, in_stage, AreEffects, IsItem, AreItems, IsWellFormed}
use Rattle.rc_play_spec.specs.Menu.{alts_at, alt_in, effects_of}
use Rattle.rc_play_spec.specs.Step.{Stage, Part, todo, round, turn, todos}
use Rattle.rc_play_spec.specs.Decision.{left_in, left_in_item}
use Rattle.rc_play_spec.proofs.SiteLemmas.{IsIn, IsIn-left, IsIn-right, only_one, times, times-once, count_items, first_alts, alts_at_left}
use Rattle.rc_code.specs.Instruction.{Block, Instruction, simple, if_true, so_often, one_by_one, do_all, begin_stage, offer, end_body, SitePlace, Code}
use Rattle.rc_code.specs.Meaning.{effects_in, block_in}
use Rattle.rc_code.specs.Stands.{EffectStands, EffectsStand, AltStands, AltsStand, ItemStands, ItemsStand, StandsFor}
use Rattle.rc_code.specs.Implements.{HoldsNone, IsSimple, AreSimple, IsTestOutside, IsChoiceOf, Implements}
use Rattle.rc_code.proofs.CompiledLemmas.{says_effects, says_items}

-- THE BLOCKS OF ALTERNATIVES

says_alt : (alt : Alt) (code : List Instruction) → AltStands alt code → effects_in code ≡ effects_of alt
says_alt (do_alt effects) code stands = says_effects effects code stands
says_alt (if_alt guard effects) code stands = says_effects effects code stands
says_alt (any_alt domain bound alt) code stands = says_alt alt code stands

-- each alternative's block, behind others and before more code
each_block : (front : List Instruction) (alts : List Alt) (blocks : List Block) (code rest : List Instruction) (n : ℕ) →
    AltsStand (length front) alts blocks code → effects_in (block_in (slice_get blocks n) (front ++ (code ++ rest))) ≡ effects_of (alt_in alts n)
each_block front [] blocks code rest n stands = ap (λ bs. effects_in (block_in (slice_get bs n) (front ++ (code ++ rest)))) stands.0
each_block front (alt ∷ alts) blocks code rest zero stands =
    let first = stands.0 in
    let more = stands.1 in
    let whole : front ++ (code ++ rest) ≡ front ++ (first ++ (more ++ rest)) =
    ap (λ c. front ++ c) (ap (λ c. c ++ rest) stands.3 ∙ append_assoc first more rest) in
    ap (λ bs. effects_in (block_in (slice_get bs 0) (front ++ (code ++ rest)))) stands.4
    ∙ ap (λ c. effects_in (take (length first) (drop (length front) c))) whole
    ∙ ap (λ c. effects_in (take (length first) c)) (drop_at front (first ++ (more ++ rest)) (length front) refl)
    ∙ ap effects_in (take_at first (more ++ rest) (length first) refl)
    ∙ says_alt alt first stands.5
each_block front (alt ∷ alts) blocks code rest (suc n) stands =
    let first = stands.0 in
    let more = stands.1 in
    let others = stands.2 in
    let whole : front ++ (code ++ rest) ≡ (front ++ first) ++ (more ++ rest) =
    ap (λ c. front ++ c) (ap (λ c. c ++ rest) stands.3 ∙ append_assoc first more rest) ∙ sym (append_assoc front first (more ++ rest)) in
    let behind = subst (λ k. AltsStand k alts others more) (sym (length-append front first)) stands.6 in
    ap (λ bs. effects_in (block_in (slice_get bs (suc n)) (front ++ (code ++ rest)))) stands.4
    ∙ ap (λ c. effects_in (block_in (slice_get others n) c)) whole
    ∙ each_block (front ++ first) alts others more rest n behind

-- INSTRUCTIONS THAT ARE FIT FOR A SHEET

module _ (sheet : Sheet) where
  -- an instruction, before the code behind it
  abbrev Fits : Instruction → List Instruction → Type 0
  Fits (simple e) behind = HoldsNone e
  Fits (if_true test inside) behind = Unit {0}
  Fits (so_often count inside) behind = Unit {0}
  Fits (one_by_one domain bound inside) behind = Unit {0}
  Fits (do_all inside) behind = (around : Around) × (around.binders ≡ 0) × AreEffects sheet around (effects_in (take inside behind))
  Fits (begin_stage number class end inside) behind = IsTestOutside sheet end
  Fits (offer site alts blocks inside) behind = IsChoiceOf sheet site alts blocks behind
  Fits end_body behind = Unit {0}

  -- each instruction of a code, before the rest
  abbrev AllFit : List Instruction → List Instruction → Type 0
  AllFit [] rest = Unit {0}
  AllFit (i ∷ code) rest = Fits i (code ++ rest) × AllFit code rest

  fit_both : (a b rest : List Instruction) → AllFit a (b ++ rest) → AllFit b rest → AllFit (a ++ b) rest
  fit_both [] b rest are bs = bs
  fit_both (i ∷ a) b rest are bs = (subst (Fits i) (sym (append_assoc a b rest)) are.0, fit_both a b rest are.1 bs)

  fit_there : (code rest : List Instruction) (n : ℕ) (i : Instruction) → AllFit code rest → slice_get code n ≡ Some i → Fits i (drop (n + 1) code ++ rest)
  fit_there [] rest n i all is = absurd (cc)
  fit_there (j ∷ code) rest zero i all is = let same : j ≡ i = cc in subst (λ k. Fits k (code ++ rest)) same all.0
  fit_there (j ∷ code) rest (suc n) i all is =
      let more : suc n + 1 ≡ suc (n + 1) = omega arith in
      subst (λ k. Fits i (drop k (j ∷ code) ++ rest)) (sym more) (fit_there code rest n i all.1 is)

  fit_simple : (i : Instruction) (behind : List Instruction) → Fits i behind → IsSimple i
  fit_simple (simple e) behind fits = fits
  fit_simple (if_true test inside) behind fits = tt
  fit_simple (so_often count inside) behind fits = tt
  fit_simple (one_by_one domain bound inside) behind fits = tt
  fit_simple (do_all inside) behind fits = tt
  fit_simple (begin_stage number class end inside) behind fits = tt
  fit_simple (offer site alts blocks inside) behind fits = tt
  fit_simple end_body behind fits = tt

  all_simple : (code rest : List Instruction) → AllFit code rest → AreSimple code
  all_simple [] rest all = tt
  all_simple (i ∷ code) rest all = (fit_simple i (code ++ rest) all.0, all_simple code rest all.1)

  -- the code of effects
  mutual
    effect_fits : (e : Effect) (code rest : List Instruction) → EffectStands e code → AllFit code rest
    effect_fits (move card end loc) code rest is = subst (λ c. AllFit c rest) (sym is) (tt, tt)
    effect_fits (move_all cards end loc) code rest is = subst (λ c. AllFit c rest) (sym is) (tt, tt)
    effect_fits (remember card end loc) code rest is = subst (λ c. AllFit c rest) (sym is) (tt, tt)
    effect_fits (forget card) code rest is = subst (λ c. AllFit c rest) (sym is) (tt, tt)
    effect_fits (shuffle loc) code rest is = subst (λ c. AllFit c rest) (sym is) (tt, tt)
    effect_fits (set_to num value) code rest is = subst (λ c. AllFit c rest) (sym is) (tt, tt)
    effect_fits (increase num value) code rest is = subst (λ c. AllFit c rest) (sym is) (tt, tt)
    effect_fits (decrease num value) code rest is = subst (λ c. AllFit c rest) (sym is) (tt, tt)
    effect_fits (when test effects) code rest is = subst (λ c. AllFit c rest) (sym is.1) (tt, effects_fit effects is.0 rest is.2)
    effect_fits (repeat count effects) code rest is = subst (λ c. AllFit c rest) (sym is.1) (tt, effects_fit effects is.0 rest is.2)
    effect_fits (for_each domain bound effects) code rest is = subst (λ c. AllFit c rest) (sym is.1) (tt, effects_fit effects is.0 rest is.2)
    effect_fits (next_is who) code rest is = subst (λ c. AllFit c rest) (sym is) (tt, tt)
    effect_fits turn_round code rest is = subst (λ c. AllFit c rest) (sym is) (tt, tt)
    effect_fits (peek cards who) code rest is = subst (λ c. AllFit c rest) (sym is) (tt, tt)

    effects_fit : (effects : Effects) (code rest : List Instruction) → EffectsStand effects code → AllFit code rest
    effects_fit no_effect code rest is = subst (λ c. AllFit c rest) (sym is) tt
    effects_fit (effect e effects) code rest is =
        subst (λ c. AllFit c rest) (sym is.2)
        (fit_both is.0 is.1 rest (effect_fits e is.0 (is.1 ++ rest) is.3) (effects_fit effects is.1 rest is.4))

  alt_fits : (alt : Alt) (code rest : List Instruction) → AltStands alt code → AllFit code rest
  alt_fits (do_alt effects) code rest is = effects_fit effects code rest is
  alt_fits (if_alt guard effects) code rest is = effects_fit effects code rest is
  alt_fits (any_alt domain bound alt) code rest is = alt_fits alt code rest is

  alts_fit : (before : ℕ) (alts : List Alt) (blocks : List Block) (code rest : List Instruction) → AltsStand before alts blocks code → AllFit code rest
  alts_fit before [] blocks code rest is = subst (λ c. AllFit c rest) (sym is.1) tt
  alts_fit before (alt ∷ alts) blocks code rest is =
      subst (λ c. AllFit c rest) (sym is.3)
      (fit_both is.0 is.1 rest (alt_fits alt is.0 (is.1 ++ rest) is.5) (alts_fit (before + length is.0) alts is.2 is.1 rest is.6))

  -- what is around the parts of a stage
  same_binders : (class : Class) (around : Around) → (in_stage class around).binders ≡ around.binders
  same_binders game_class around = refl
  same_binders player_class around = refl
  same_binders team_class around = refl

  stage_parts : (around : Around) (number : ℕ) (class : Class) (end : Test) (body : SheetItems) → around.binders ≡ 0 →
      IsItem sheet around (stage number class end body) → IsTestOutside sheet end × AreItems sheet (in_stage class around) body
  stage_parts around number game_class end body none well = absurd well
  stage_parts around number player_class end body none well = ((in_stage player_class around, none, well.0), well.2)
  stage_parts around number team_class end body none well = ((in_stage team_class around, none, well.0), well.2)

  -- the choices that are first in these are the sheet's
  abbrev AreSame : (ℕ → List (List Part)) → Type 0
  AreSame lefts = (site : ℕ) (alts : List Alt) (left : List Part) → IsIn (todo (choice site alts) ∷ left) (lefts site) → alts ≡ alts_at sheet site

  module _ (sites : List SitePlace) where
    mutual
      item_fits : (around : Around) (outer : List ℕ) (at : ℕ) (i : SheetItem) (left : List Part) (code rest : List Instruction) → around.binders ≡ 0 →
          IsItem sheet around i → AreSame (λ site. left_in_item site i left) → ItemStands sites outer at i code → AllFit code rest
      item_fits around outer at (do_item effects) left code rest none well same is =
          let says = ap effects_in (take_at is.0 rest (length is.0) refl) ∙ says_effects effects is.0 is.2 in
          subst (λ c. AllFit c rest) (sym is.1)
          ((around, none, subst (AreEffects sheet around) (sym says) well.1), effects_fit effects is.0 rest is.2)
      item_fits around outer at (stage number class end body) left code rest none well same is =
          let parts = stage_parts around number class end body none well in
          let s : Stage = record { number = number; class = class; end = end; body = body } in
          let body_fits =
          items_fit (in_stage class around) (outer ++ at ∷ []) (at + 1) body (turn s ∷ round s ∷ left) is.0 (end_body ∷ rest)
          (same_binders class around ∙ none) parts.1 same is.2 in
          subst (λ c. AllFit c rest) (sym is.1) (parts.0, fit_both is.0 (end_body ∷ []) rest body_fits (tt, tt))
      item_fits around outer at (choice site alts) left code rest none well same is =
          let first = todo (choice site alts) ∷ left in
          let among = subst (IsIn first) (sym (cond-true (site == site) (first ∷ []) [] (eq-eqb site site refl))) (inl refl) in
          let fits : IsChoiceOf sheet site alts is.1 (is.0 ++ rest) =
          record {
            same = same site alts left among;
            well = (around, none, well.2);
            each = λ n. each_block [] alts is.1 is.0 rest n is.3;
          } in
          subst (λ c. AllFit c rest) (sym is.2) (fits, alts_fit 0 alts is.1 is.0 rest is.3)

      items_fit : (around : Around) (outer : List ℕ) (at : ℕ) (items : SheetItems) (left : List Part) (code rest : List Instruction) → around.binders ≡ 0 →
          AreItems sheet around items → AreSame (λ site. left_in site items left) → ItemsStand sites outer at items code → AllFit code rest
      items_fit around outer at no_item left code rest none well same is = subst (λ c. AllFit c rest) (sym is) tt
      items_fit around outer at (item i items) left code rest none well same is =
          let next = todos (item_list items) ++ left in
          let one =
          item_fits around outer at i next is.0 (is.1 ++ rest) none well.0
          (λ site alts more among. same site alts more (IsIn-left _ (left_in_item site i next) (left_in site items left) among)) is.3 in
          let others =
          items_fit around outer (at + length is.0) items left is.1 rest none well.1
          (λ site alts more among. same site alts more (IsIn-right _ (left_in_item site i next) (left_in site items left) among)) is.4 in
          subst (λ c. AllFit c rest) (sym is.2) (fit_both is.0 is.1 rest one others)

-- a choice that is first at a site of a well formed sheet has the sheet's alternatives
same_alts : (sheet : Sheet) → IsWellFormed sheet → AreSame sheet (λ site. left_in site sheet.items [])
same_alts sheet formed site alts left among =
    let once = times-once site 0 _ in
    let few : length (left_in site sheet.items []) ≤ 1 =
    subst (λ k. k ≤ 1) (sym (count_items site sheet.items [] ∙ ap (times site) formed.numbered.sites)) once in
    sym (alts_at_left sheet site ∙ ap first_alts (only_one (todo (choice site alts) ∷ left) [] (left_in site sheet.items []) few among))

pub standing_implements : (sheet : Sheet) (code : Code) → StandsFor sheet code → IsWellFormed sheet →
    Implements sheet code.list
standing_implements sheet code stands formed =
    let all = items_fit sheet code.sites outside [] 0 sheet.items [] code.list [] refl formed.items (same_alts sheet formed) stands.items in
    record {
      items = says_items code.sites [] 0 sheet.items code.list stands.items;
      simples = all_simple sheet code.list [] all;
      effects = λ place inside is. at place (do_all inside) all is;
      ends = λ place number class end inside is. at place (begin_stage number class end inside) all is;
      choices = λ place site alts blocks inside is. at place (offer site alts blocks inside) all is;
    }
  where
    at : (place : ℕ) (i : Instruction) → AllFit sheet code.list [] → slice_get code.list place ≡ Some i → Fits sheet i (drop (place + 1) code.list)
    at place i all is = subst (Fits sheet i) (append-nil (drop (place + 1) code.list)) (fit_there sheet code.list [] place i all is)
