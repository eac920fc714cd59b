-- Effects, alternatives and items, printed in the place of their forms.
use Rattle.std.proofs.Common.{List, [], ◌∷◌, ◌++◌, map, refl}
use Rattle.rc_base.specs.Tree.{Tree, Trees}
use Rattle.rc_sheet_spec.specs.Sheet.{End as Place, top, bottom, Loc, Effect, move, move_all, remember, forget, shuffle, set_to, increase, decrease, when, repeat, for_each, next_is, turn_round, peek, Effects, no_effect, effect, Alt, do_alt, if_alt, any_alt, Class, game_class, player_class, team_class, SheetItem, do_item, stage, choice, SheetItems, no_item, item, Sheet}
use Rattle.rc_sheet_spec.specs.Rows.{◌▸◌, End, Some}
use Rattle.rc_sheet_spec.specs.Naming.{Naming, Scope, bind, sort_of, sheet_naming}
use Rattle.rc_sheet_spec.specs.Printing.{packed, Bound, spot_form, effect_form, effect_forms, alt_form, class_form, item_form, item_forms}
use Rattle.rc_sheet_spec.specs.StandsEffects.{StandsSpot, StandsEffect, StandEffects}
use Rattle.rc_sheet_spec.specs.StandsItems.{StandsAlt, StandAlts, StandsClass, StandsItem, StandItems}
use Rattle.rc_sheet_spec.specs.WellFormed.{HasWords}
use Rattle.rc_print.specs.Unplaced.{loc_unplaced, effect_unplaced, effects_unplaced, alt_unplaced, item_unplaced, items_unplaced}
use Rattle.rc_print.proofs.Copied.{Copies, AreCopied, keyword_copied, row_copied, part_copied, end_copied, least_copied}
use Rattle.rc_print.proofs.CopiedNames.{one_copied, two_copied, Fits, none_fit, owner_copied, bind_fits, loc_copied, num_copied}
use Rattle.rc_print.proofs.CopiedExpressions.{ranged_copied, card_copied, coll_copied, int_copied, test_copied, range_copied, domain_copied}

module _ (sheet : Sheet) (words : HasWords sheet) where
  abbrev naming : Naming
  naming = sheet_naming sheet

  spot_copied : {scope : Scope} {bound : Bound} → Fits scope bound → (end : Place) (loc : Loc)
      → Copies (StandsSpot naming scope end loc) (StandsSpot naming scope end (loc_unplaced loc)) (spot_form naming bound end loc)
  spot_copied fits top loc = one_copied "top" refl (loc_copied sheet words fits loc)
  spot_copied fits bottom loc = one_copied "bottom" refl (loc_copied sheet words fits loc)

  mutual
    effect_copied : {scope : Scope} {bound : Bound} → Fits scope bound → (e : Effect)
        → Copies (StandsEffect naming scope e) (StandsEffect naming scope (effect_unplaced e)) (effect_form naming bound e)
    effect_copied fits (move card end loc) =
        two_copied "move" refl (card_copied sheet words fits card) (spot_copied fits end loc)
    effect_copied fits (move_all cards end loc) =
        row_copied (part_copied (keyword_copied "move" refl) (part_copied (keyword_copied "all" refl)
        (part_copied (coll_copied sheet words fits cards) (part_copied (spot_copied fits end loc) end_copied))))
    effect_copied fits (remember card end loc) =
        two_copied "remember" refl (card_copied sheet words fits card) (spot_copied fits end loc)
    effect_copied fits (forget card) = one_copied "forget" refl (card_copied sheet words fits card)
    effect_copied fits (shuffle loc) = one_copied "shuffle" refl (loc_copied sheet words fits loc)
    effect_copied fits (set_to num value) =
        two_copied "set" refl (num_copied sheet words fits num) (int_copied sheet words fits value)
    effect_copied fits (increase num value) =
        two_copied "inc" refl (num_copied sheet words fits num) (int_copied sheet words fits value)
    effect_copied fits (decrease num value) =
        two_copied "dec" refl (num_copied sheet words fits num) (int_copied sheet words fits value)
    effect_copied fits (when t effects) =
        row_copied (part_copied (keyword_copied "if" refl) (part_copied (test_copied sheet words fits t)
        (least_copied 1 (effects_copied fits effects))))
    effect_copied fits (repeat times effects) =
        row_copied (part_copied (keyword_copied "repeat" refl) (part_copied (int_copied sheet words fits times)
        (least_copied 1 (effects_copied fits effects))))
    effect_copied {scope = scope} fits (for_each domain var effects) =
        ranged_copied sheet words "all" refl domain var (λ sort. Some (StandEffects naming (bind naming scope var sort) effects))
        (λ sort. Some (StandEffects naming (bind naming scope var sort) (effects_unplaced effects)))
        (range_copied sheet words fits domain)
        (λ form stands. least_copied 1 (effects_copied (bind_fits sheet words fits (sort_of domain) var form stands) effects))
    effect_copied fits (next_is who) = two_copied "cycle" refl (keyword_copied "next" refl) (owner_copied fits who)
    effect_copied fits turn_round = one_copied "cycle" refl (keyword_copied "reverse" refl)
    effect_copied fits (peek cards who) = two_copied "peek" refl (coll_copied sheet words fits cards) (owner_copied fits who)

    effects_copied : {scope : Scope} {bound : Bound} → Fits scope bound → (effects : Effects)
        → AreCopied (StandEffects naming scope effects) (StandEffects naming scope (effects_unplaced effects))
        (packed (effect_forms naming bound effects))
    effects_copied fits no_effect = end_copied
    effects_copied fits (effect e effects) = part_copied (effect_copied fits e) (effects_copied fits effects)

  alt_copied : (alt : Alt) {scope : Scope} {bound : Bound} → Fits scope bound
      → Copies (StandsAlt naming scope alt) (StandsAlt naming scope (alt_unplaced alt)) (alt_form naming bound alt)
  alt_copied (do_alt effects) fits =
      row_copied (part_copied (keyword_copied "do" refl) (least_copied 1 (effects_copied fits effects)))
  alt_copied (if_alt guard effects) fits =
      row_copied (part_copied (keyword_copied "if" refl) (part_copied (test_copied sheet words fits guard)
      (least_copied 1 (effects_copied fits effects))))
  alt_copied (any_alt domain var alt) {scope = scope} fits =
      ranged_copied sheet words "any" refl domain var (λ sort. StandsAlt naming (bind naming scope var sort) alt ▸ End)
      (λ sort. StandsAlt naming (bind naming scope var sort) (alt_unplaced alt) ▸ End) (domain_copied sheet words fits domain)
      (λ form stands. part_copied (alt_copied alt (bind_fits sheet words fits (sort_of domain) var form stands)) end_copied)

  alts_copied : (alts : List Alt)
      → AreCopied (StandAlts naming alts) (StandAlts naming (map alt_unplaced alts)) (packed (map (alt_form naming []) alts))
  alts_copied [] = end_copied
  alts_copied (alt ∷ alts) = part_copied (alt_copied alt none_fit) (alts_copied alts)

  class_copied : (class : Class) → Copies (StandsClass class) (StandsClass class) (class_form class)
  class_copied game_class = record { of = λ form stands. absurd stands }
  class_copied player_class = keyword_copied "player" refl
  class_copied team_class = keyword_copied "team" refl

  mutual
    item_copied : (i : SheetItem) → Copies (StandsItem naming i) (StandsItem naming (item_unplaced i)) (item_form naming i)
    item_copied (do_item effects) =
        row_copied (part_copied (keyword_copied "do" refl) (least_copied 1 (effects_copied none_fit effects)))
    item_copied (stage place class end body) =
        row_copied (part_copied (keyword_copied "stage" refl) (part_copied (class_copied class)
        (part_copied (one_copied "end" refl (test_copied sheet words none_fit end)) (least_copied 1 (body_copied body)))))
    item_copied (choice site alts) =
        row_copied (part_copied (keyword_copied "choice" refl) (least_copied 1 (alts_copied alts)))

    -- with nothing behind them
    body_copied : (items : SheetItems)
        → AreCopied (StandItems naming items End) (StandItems naming (items_unplaced items) End)
        (packed (item_forms naming items))
    body_copied no_item = end_copied
    body_copied (item i items) = part_copied (item_copied i) (body_copied items)

  -- and with parts behind them
  pub items_copied : {P Q : Trees → Type 0} (others : List Tree) (items : SheetItems) → AreCopied P Q (packed others)
      → AreCopied (StandItems naming items P) (StandItems naming (items_unplaced items) Q)
      (packed (item_forms naming items ++ others))
  items_copied others no_item rest = rest
  items_copied others (item i items) rest = part_copied (item_copied i) (items_copied others items rest)
