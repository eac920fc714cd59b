-- Effects, alternatives and items, where their forms are moved.
use Rattle.std.proofs.Common.{◌≡◌, List, [], ◌∷◌, map, refl, ap, ap₂}
use Rattle.rc_base.specs.Tree.{Trees}
use Rattle.rc_sheet_spec.specs.Sheet.{End as Place, top, bottom, Loc, Effect, move, move_all, remember, forget, shuffle, set_to, increase, decrease, when, repeat, for_each, next_is, turn_round, peek, Effects, no_effect, effect, Alt, do_alt, if_alt, any_alt, Class, game_class, player_class, team_class, SheetItem, do_item, stage, choice, SheetItems, no_item, item}
use Rattle.rc_sheet_spec.specs.Rows.{◌▸◌, End, Some}
use Rattle.rc_sheet_spec.specs.Naming.{Naming, Scope, bind, sort_of}
use Rattle.rc_sheet_spec.specs.StandsExpressions.{StandsRange, StandsDomain}
use Rattle.rc_sheet_spec.specs.StandsEffects.{StandsSpot, StandsEffect, StandEffects}
use Rattle.rc_sheet_spec.specs.StandsItems.{StandsAlt, StandAlts, StandsClass, StandsItem, StandItems}
use Rattle.rc_print.specs.Unplaced.{loc_unplaced, domain_unplaced, effect_unplaced, effects_unplaced, alt_unplaced, item_unplaced, items_unplaced}
use Rattle.rc_sheet.proofs.Moved.Common.{Keeps, Moves, AllMove, word_keeps, row_keeps, part_keeps, end_keeps, still, made, all_made, kept, row_moves, behind_kept, before_kept, least_moves, headed, one_moves, part_moves, two_move}
use Rattle.rc_sheet.proofs.Moved.Expressions.{owner_keeps, loc_moves, num_keeps, ranged_moves, card_moves, coll_moves, int_moves, test_moves, range_moves, domain_moves}

class_keeps : (class : Class) → Keeps (StandsClass class)
class_keeps game_class = record { of = λ form other same stands. absurd stands }
class_keeps player_class = word_keeps
class_keeps team_class = word_keeps

module _ (naming : Naming) where
  spot_moves : (scope : Scope) (end : Place) (loc : Loc)
      → Moves (StandsSpot naming scope end (loc_unplaced loc)) (StandsSpot naming scope end) (λ again. loc_unplaced again ≡ loc_unplaced loc)
  spot_moves scope top loc = one_moves "top" (loc_moves naming scope loc)
  spot_moves scope bottom loc = one_moves "bottom" (loc_moves naming scope loc)

  mutual
    effect_moves : (scope : Scope) (e : Effect)
        → Moves (StandsEffect naming scope (effect_unplaced e)) (StandsEffect naming scope) (λ again. effect_unplaced again ≡ effect_unplaced e)
    effect_moves scope (move card end loc) =
        made (λ both. move both.0 end both.1) (two_move "move" (card_moves naming scope card) (spot_moves scope end loc))
        (λ both same. ap₂ (λ c l. move c end l) same.0 same.1)
    effect_moves scope (move_all cards end loc) =
        made (λ both. move_all both.0 end both.1)
        (row_moves (behind_kept word_keeps (behind_kept word_keeps
        (part_moves (coll_moves naming scope cards) (before_kept (spot_moves scope end loc) end_keeps)))))
        (λ both same. ap₂ (λ c l. move_all c end l) same.0 same.1)
    effect_moves scope (remember card end loc) =
        made (λ both. remember both.0 end both.1)
        (two_move "remember" (card_moves naming scope card) (spot_moves scope end loc))
        (λ both same. ap₂ (λ c l. remember c end l) same.0 same.1)
    effect_moves scope (forget card) = made forget (one_moves "forget" (card_moves naming scope card)) (λ a same. ap forget same)
    effect_moves scope (shuffle loc) = made shuffle (one_moves "shuffle" (loc_moves naming scope loc)) (λ a same. ap shuffle same)
    effect_moves scope (set_to num value) =
        made (λ a. set_to num a)
        (row_moves (behind_kept word_keeps (behind_kept (num_keeps naming scope num)
        (before_kept (int_moves naming scope value) end_keeps))))
        (λ a same. ap (λ v. set_to num v) same)
    effect_moves scope (increase num value) =
        made (λ a. increase num a)
        (row_moves (behind_kept word_keeps (behind_kept (num_keeps naming scope num)
        (before_kept (int_moves naming scope value) end_keeps))))
        (λ a same. ap (λ v. increase num v) same)
    effect_moves scope (decrease num value) =
        made (λ a. decrease num a)
        (row_moves (behind_kept word_keeps (behind_kept (num_keeps naming scope num)
        (before_kept (int_moves naming scope value) end_keeps))))
        (λ a same. ap (λ v. decrease num v) same)
    effect_moves scope (when t effects) =
        made (λ both. when both.0 both.1)
        (row_moves (behind_kept word_keeps (part_moves (test_moves naming scope t) (least_moves 1 (effects_move scope effects)))))
        (λ both same. ap₂ when same.0 same.1)
    effect_moves scope (repeat times effects) =
        made (λ both. repeat both.0 both.1)
        (row_moves (behind_kept word_keeps (part_moves (int_moves naming scope times)
        (least_moves 1 (effects_move scope effects)))))
        (λ both same. ap₂ repeat same.0 same.1)
    effect_moves scope (for_each domain var effects) =
        made (λ both. for_each both.0 var both.1)
        (ranged_moves naming "all" domain var (StandsRange naming scope)
        (λ sort effects. Some (StandEffects naming (bind naming scope var sort) effects)) (range_moves naming scope domain)
        (least_moves 1 (effects_move (bind naming scope var (sort_of (domain_unplaced domain))) effects)))
        (λ both same. ap₂ (λ d e. for_each d var e) same.0 same.1)
    effect_moves scope (next_is who) =
        still (next_is who) refl
        (row_keeps (part_keeps word_keeps (part_keeps word_keeps (part_keeps (owner_keeps scope who) end_keeps))))
    effect_moves scope turn_round = still turn_round refl (row_keeps (part_keeps word_keeps (part_keeps word_keeps end_keeps)))
    effect_moves scope (peek cards who) =
        made (λ a. peek a who)
        (headed "peek" (coll_moves naming scope cards) (part_keeps (owner_keeps scope who) end_keeps))
        (λ a same. ap (λ c. peek c who) same)

    effects_move : (scope : Scope) (effects : Effects)
        → AllMove (StandEffects naming scope (effects_unplaced effects)) (StandEffects naming scope)
        (λ again. effects_unplaced again ≡ effects_unplaced effects)
    effects_move scope no_effect = all_made (λ one. no_effect) (kept end_keeps) (λ one same. refl)
    effects_move scope (effect e effects) =
        all_made (λ both. effect both.0 both.1) (part_moves (effect_moves scope e) (effects_move scope effects))
        (λ both same. ap₂ effect same.0 same.1)

  alt_moves : (alt : Alt) (scope : Scope)
      → Moves (StandsAlt naming scope (alt_unplaced alt)) (StandsAlt naming scope) (λ again. alt_unplaced again ≡ alt_unplaced alt)
  alt_moves (do_alt effects) scope =
      made do_alt (row_moves (behind_kept word_keeps (least_moves 1 (effects_move scope effects)))) (λ a same. ap do_alt same)
  alt_moves (if_alt guard effects) scope =
      made (λ both. if_alt both.0 both.1)
      (row_moves (behind_kept word_keeps (part_moves (test_moves naming scope guard)
      (least_moves 1 (effects_move scope effects)))))
      (λ both same. ap₂ if_alt same.0 same.1)
  alt_moves (any_alt domain var alt) scope =
      made (λ both. any_alt both.0 var both.1)
      (ranged_moves naming "any" domain var (StandsDomain naming scope)
      (λ sort alt. StandsAlt naming (bind naming scope var sort) alt ▸ End) (domain_moves naming scope domain)
      (before_kept (alt_moves alt (bind naming scope var (sort_of (domain_unplaced domain)))) end_keeps))
      (λ both same. ap₂ (λ d a. any_alt d var a) same.0 same.1)

  alts_move : (alts : List Alt)
      → AllMove (StandAlts naming (map alt_unplaced alts)) (StandAlts naming) (λ again. map alt_unplaced again ≡ map alt_unplaced alts)
  alts_move [] = all_made (λ one. []) (kept end_keeps) (λ one same. refl)
  alts_move (alt ∷ alts) =
      all_made (λ both. both.0 ∷ both.1) (part_moves (alt_moves alt []) (alts_move alts)) (λ both same. ap₂ ◌∷◌ same.0 same.1)

  mutual
    item_moves : (i : SheetItem)
        → Moves (StandsItem naming (item_unplaced i)) (StandsItem naming) (λ again. item_unplaced again ≡ item_unplaced i)
    item_moves (do_item effects) =
        made do_item (row_moves (behind_kept word_keeps (least_moves 1 (effects_move [] effects)))) (λ a same. ap do_item same)
    item_moves (stage place class end body) =
        made (λ both. stage place class both.0 both.1)
        (row_moves (behind_kept word_keeps (behind_kept (class_keeps class)
        (part_moves (one_moves "end" (test_moves naming [] end)) (least_moves 1 (body_moves body))))))
        (λ both same. ap₂ (λ t b. stage place class t b) same.0 same.1)
    item_moves (choice site alts) =
        made (λ a. choice site a) (row_moves (behind_kept word_keeps (least_moves 1 (alts_move alts))))
        (λ a same. ap (λ l. choice site l) same)

    -- with nothing behind them
    body_moves : (items : SheetItems)
        → AllMove (StandItems naming (items_unplaced items) End) (λ again. StandItems naming again End)
        (λ again. items_unplaced again ≡ items_unplaced items)
    body_moves no_item = all_made (λ one. no_item) (kept end_keeps) (λ one same. refl)
    body_moves (item i items) =
        all_made (λ both. item both.0 both.1) (part_moves (item_moves i) (body_moves items))
        (λ both same. ap₂ item same.0 same.1)

  -- and with parts behind them
  pub items_move : {B : Type 0} {P : Trees → Type 0} {Q : B → Trees → Type 0} {Same : B → Type 0} (items : SheetItems)
      → AllMove P Q Same
      → AllMove (StandItems naming (items_unplaced items) P) (λ (both : SheetItems × B). StandItems naming both.0 (Q both.1))
      (λ both. (items_unplaced both.0 ≡ items_unplaced items) × Same both.1)
  items_move no_item rest = all_made (λ b. (no_item, b)) rest (λ b same. (refl, same))
  items_move (item i items) rest =
      all_made (λ both. (item both.0 both.1.0, both.1.1)) (part_moves (item_moves i) (items_move items rest))
      (λ both same. (ap₂ item same.0 same.1.0, same.1.1))
