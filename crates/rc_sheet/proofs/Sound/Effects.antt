-- Spots, effects, domains and alternatives that stand for a well formed sheet's have no fault by themselves.
use Prim.Native.String.{String}
use Rattle.std.proofs.Common.{◌≡◌, ℕ, suc, Bool, true, false, not, cond, nat_le, List, [], ◌∷◌, ◌++◌, Option, Some, None, option_map, slice_get, refl, sym, ap, ◌∙◌, arith, lt-ltb}
use Rattle.std.specs.Prelude.{codes}
use Rattle.std.proofs.lemmas.Option.{same_Some}
use Rattle.std.proofs.lemmas.Bool.{lt-leb}
use Rattle.rc_base.specs.Tree.{Tree, word, list, Trees, nil, cons}
use Rattle.rc_sheet_spec.specs.Sheet.{Class, game_class, player_class, team_class, Sort, LocKind, vloc, iloc, hloc, mem, LocName, End, top, bottom, Loc, Num, IntExpr, Domain, each_player, each_card, each_group, Effect, move, move_all, remember, forget, shuffle, set_to, increase, decrease, when, repeat, for_each, next_is, turn_round, peek, Effects, no_effect, effect, Alt, do_alt, if_alt, any_alt, Sheet}
use Rattle.rc_sheet_spec.specs.Rows.{◌▸◌, Row, Atom}
use Rattle.rc_sheet_spec.specs.Rows.{End as Last}
use Rattle.rc_sheet_spec.specs.Rows.{Some as Full}
use Rattle.rc_base.specs.Limits.{most_repeats}
use Rattle.rc_sheet_spec.specs.Naming.{bind, sort_of, class_of, Named, Binder, sheet_naming}
use Rattle.rc_sheet_spec.specs.Naming.{kind_word as kind_bytes}
use Rattle.rc_sheet_spec.specs.StandsExpressions.{StandsOwner, StandsLoc, StandsNum, StandsCard, StandsColl, StandsInt, StandsTest, StandsRange, StandsDomain}
use Rattle.rc_sheet_spec.specs.StandsEffects.{StandsSpot, StandsEffect, StandEffects}
use Rattle.rc_sheet_spec.specs.StandsItems.{StandsAlt}
use Rattle.rc_sheet_spec.specs.WellFormed.{Around, is_mem, in_repeat, behind, IsHolder, IsInStage, IsPlace, IsInt, IsDomain, IsEffect, AreEffects, IsAlt}
use Rattle.rc_check.specs.Faults.{is_word, rule_of}
use Rattle.rc_check.specs.declared.keyword.Keyword.{Keyword}
use Rattle.rc_check.specs.declared.keyword.Keyword.TheVariants as keyword
use Rattle.rc_check.specs.declared.grammar.Symbol.{Symbol}
use Rattle.rc_check.specs.declared.grammar.Symbol.TheVariants as symbol
use Rattle.rc_check.specs.declared.grammar.Rule.{Rule}
use Rattle.rc_check.specs.declared.grammar.Rule.TheVariants as rule
use Rattle.rc_check.specs.Classes.{bound_in}
use Rattle.rc_check.specs.declared.role.Role.{Role}
use Rattle.rc_check.specs.declared.role.Role.TheVariants.{No as no_role, CardLocation as card_location, ReferenceLocation as reference_location}
use Rattle.rc_check.specs.SecondParts.{Part, parts_at, sort_over}
use Rattle.rc_check.specs.SecondFaults.{is_unnamed, is_in_stage, is_other_side}
use Rattle.rc_sheet.proofs.GoodParts.{Each}
use Rattle.rc_sheet.proofs.One.Rows.{behind_word, row_one, row_two, row_three, row_word, row_word_part, row_part, row_words, two_parts, first_part}
use Rattle.rc_sheet.proofs.One.Names.{Apart, loc_rule_alone, num_rule_alone}
use Rattle.rc_sheet.proofs.One.Effects.{card_held}
use Rattle.rc_sheet.proofs.Sound.Parts.{standing, IsRow, head_seat, plain_seat, all_join, AllSound, Sound, plain_atom, list_sound, sound_list, easy_sound, rest_sound, AreGiven}
use Rattle.rc_sheet.proofs.Sound.Names.{owner_class, owner_place, fixed, owner_sound, Takes, loc_sound, num_sound}
use Rattle.rc_sheet.proofs.Sound.Rows.{range_sort, domain_sort, then, attr_sound, player_sound, bound_word, Binds, binds_so, behind_sound, behind_apart, binder_form, two_sound, many_sound, binder_sound}
use Rattle.rc_sheet.proofs.Sound.Expressions.{card_sound, coll_sound, int_sound, test_sound, range_sound}

-- the kind of a location tells whether it holds references
pub mem_told : (found : Option LocName) (kind : List ℕ) (b : Bool) → option_map (λ l. kind_bytes l.kind) found ≡ Some kind
    → option_map (λ l. is_mem l.kind) found ≡ Some b → is_word keyword.Mem kind ≡ b
mem_told None kind b is is' = absurd cc
mem_told (Some l) kind b is is' =
    ap (is_word keyword.Mem) (sym (same_Some (kind_bytes l.kind) kind is)) ∙ told l.kind ∙ same_Some (is_mem l.kind) b is'
  where
    told : (kind : LocKind) → is_word keyword.Mem (kind_bytes kind) ≡ is_mem kind
    told vloc = refl
    told kind = refl

-- a stage that is around is around
stage_around : (around : Around) (class : Class) → IsInStage around class → is_in_stage around class ≡ true
stage_around around game_class is = absurd is
stage_around around player_class is = is
stage_around around team_class is = is

-- A sheet, and all parts of a form, which give what the sheet's setup gives.
module _ (sheet : Sheet) (all : List Part) (given : AreGiven sheet all) where
  -- what a role wants of others than locations is nothing
  pub record Bears (role : Role) : Type 0 where
    pub named : (bytes : List ℕ) → is_unnamed all role bytes ≡ false
    pub other : (q : Symbol) (around : Around) (beside : Trees) (above : List (List ℕ))
        → is_other_side (standing q around role beside above) role ≡ false

  cards_bear : Bears card_location
  cards_bear = record { named = λ bytes. refl; other = λ q around beside above. refl }

  references_bear : Bears reference_location
  references_bear = record { named = λ bytes. refl; other = λ q around beside above. refl }

  -- the locations that the places of cards and of references take
  takes_cards : (around : Around) (loc : Loc) → IsPlace sheet around false loc → Takes sheet all card_location loc
  takes_cards around loc is mention kind class = mem_told (slice_get sheet.locs loc.name) mention.kind false kind is.1

  takes_references : (around : Around) (loc : Loc) → IsPlace sheet around true loc → Takes sheet all reference_location loc
  takes_references around loc is mention kind class =
      ap not (mem_told (slice_get sheet.locs loc.name) mention.kind true kind is.1)

  -- SPOT
  abbrev SpotSound : Around → Role → Tree → Type 0
  SpotSound around role tree =
      (beside : Trees) (above : List (List ℕ))
      → AllSound sheet all (parts_at (Some (standing symbol.Spot around role beside above)) tree)

  spot_sound : (around : Around) (references : Bool) (end : End) (loc : Loc) (role : Role) (tree : Tree) → Bears role
      → Takes sheet all role loc → Apart around.scope → StandsSpot (sheet_naming sheet) around.scope end loc tree
      → IsPlace sheet around references loc → SpotSound around role tree
  spot_sound around references top loc role tree bears takes alone stands is =
      row_one "top" (StandsLoc (sheet_naming sheet) around.scope loc) (SpotSound around role) tree stands
      (λ f t from to l here beside above.
      list_sound sheet all (standing symbol.Spot around role beside above) rule.TopOf
      (cons (word (codes "top") f t) (cons l nil)) from to refl
      (record { once = refl; known = refl; kind_fits = bears.other symbol.Spot around beside above; shallow = refl; said = tt })
      (let whole = cons (word (codes "top") f t) (cons l nil) in (
        plain_atom sheet all (standing (symbol.Word keyword.Top) around role whole (above ++ [])) (codes "top") f refl
            (bears.named (codes "top")) (bears.other (symbol.Word keyword.Top) around whole (above ++ [])),
        all_join sheet all _ [] (loc_sound sheet all symbol.Location around loc l role whole (above ++ []) loc_rule_alone alone
            (bears.other symbol.Location around whole (above ++ [])) takes here is.0.0) tt,
      )))
  spot_sound around references bottom loc role tree bears takes alone stands is =
      row_one "bottom" (StandsLoc (sheet_naming sheet) around.scope loc) (SpotSound around role) tree stands
      (λ f t from to l here beside above.
      list_sound sheet all (standing symbol.Spot around role beside above) rule.BottomOf
      (cons (word (codes "bottom") f t) (cons l nil)) from to refl
      (record { once = refl; known = refl; kind_fits = bears.other symbol.Spot around beside above; shallow = refl; said = tt })
      (let whole = cons (word (codes "bottom") f t) (cons l nil) in (
        plain_atom sheet all (standing (symbol.Word keyword.Bottom) around role whole (above ++ [])) (codes "bottom") f refl
            (bears.named (codes "bottom")) (bears.other (symbol.Word keyword.Bottom) around whole (above ++ [])),
        all_join sheet all _ [] (loc_sound sheet all symbol.Location around loc l role whole (above ++ []) loc_rule_alone alone
            (bears.other symbol.Location around whole (above ++ [])) takes here is.0.0) tt,
      )))

  -- effects behind a head, and behind one part or two more
  abbrev pub EffectSound : Around → Tree → Type 0
  EffectSound around tree = Sound sheet all symbol.Effect around tree

  pub do_sound : (q : Symbol) (around : Around) (f t from to : ℕ) (parts : Trees)
      → rule_of q (cons (word (codes "do") f t) parts) ≡ Some rule.Do → Each (EffectSound around) parts
      → Sound sheet all q around (list (cons (word (codes "do") f t) parts) from to)
  do_sound q around f t from to parts told each =
      many_sound sheet all given "do" rule.Do _ symbol.Effect (refl, λ at parts. (refl, tt)) (λ at parts n. refl) q around f t
      from to parts told each

  if_sound : (q : Symbol) (around : Around) (f t from to : ℕ) (x : Tree) (parts : Trees)
      → rule_of q (cons (word (codes "if") f t) (cons x parts)) ≡ Some rule.If → Sound sheet all symbol.Test around x
      → Each (EffectSound around) parts
      → Sound sheet all q around (list (cons (word (codes "if") f t) (cons x parts)) from to)
  if_sound q around f t from to x parts told sound each =
      sound_list sheet all q rule.If around (cons (word (codes "if") f t) (cons x parts)) from to told
      (easy_sound sheet all rule.If refl around _)
      (λ p r b a. (
        fixed sheet all _ _ _ _ _ _,
        then sheet all given symbol.Test around _ _ x _ sound
            (rest_sound sheet all (λ k. suc (suc k)) (λ k. omega arith) (standing p around r b a) rule.If
            (cons (word (codes "if") f t) (cons x parts)) symbol.Effect around (a ++ []) (λ k. refl) 0 parts each),
      ))

  repeat_sound : (around : Around) (f t from to : ℕ) (x : Tree) (parts : Trees) → nat_le most_repeats around.repeats ≡ false
      → Sound sheet all symbol.Integer around x → Each (EffectSound (in_repeat around)) parts
      → EffectSound around (list (cons (word (codes "repeat") f t) (cons x parts)) from to)
  repeat_sound around f t from to x parts room sound each =
      sound_list sheet all symbol.Effect rule.Repeat around (cons (word (codes "repeat") f t) (cons x parts)) from to refl
      (λ p r b a from plain. record { once = refl; known = refl; kind_fits = plain.other; shallow = room; said = tt })
      (λ p r b a. (
        fixed sheet all _ _ _ _ _ _,
        then sheet all given symbol.Integer around _ _ x _ sound
            (rest_sound sheet all (λ k. suc (suc k)) (λ k. omega arith) (standing p around r b a) rule.Repeat
            (cons (word (codes "repeat") f t) (cons x parts)) symbol.Effect (in_repeat around) (a ++ [])
            (λ k. ap (λ inner. Some (standing symbol.Effect (cond inner (in_repeat around) around) no_role
            (cons (word (codes "repeat") f t) (cons x parts)) (a ++ []))) (lt-ltb 1 (suc (suc k)) (omega arith))) 0 parts each),
      ))

  each_sound : (around : Around) (bound : ℕ) (sort : Sort) (bytes : List ℕ) (f t f' t' from to : ℕ) (c : Tree) (parts : Trees)
      → Binds sheet all given around bound bytes → sort_over c ≡ sort → Sound sheet all symbol.Members around c
      → Each (EffectSound (behind sheet around bound sort)) parts
      → EffectSound around (list (cons (word (codes "all") f t) (cons c (cons (word bytes f' t') parts))) from to)
  each_sound around bound sort bytes f t f' t' from to c parts binds same sound each =
      let whole = cons (word (codes "all") f t) (cons c (cons (word bytes f' t') parts)) in
      let inner = bound_in around bytes (sort_over c) in
      sound_list sheet all symbol.Effect rule.Each around whole from to refl
      (binder_form sheet all given rule.Each around whole refl binds.fresh binds.room)
      (λ p r b a. (
        fixed sheet all _ _ _ _ _ _,
        then sheet all given symbol.Members around _ _ c _ sound (
          plain_atom sheet all (standing symbol.Variable around no_role whole (a ++ [])) bytes f' refl refl refl,
          rest_sound sheet all (λ k. suc (suc (suc k))) (λ k. omega arith) (standing p around r b a) rule.Each whole
              symbol.Effect inner (a ++ [])
              (λ k. ap (λ deep. Some (standing symbol.Effect (cond deep inner around) no_role whole (a ++ [])))
              (lt-ltb 2 (suc (suc (suc k))) (omega arith))) 0 parts (all_bound parts each),
        ),
      ))
    where
      all_bound : (parts : Trees) → Each (EffectSound (behind sheet around bound sort)) parts
          → Each (EffectSound (bound_in around bytes (sort_over c))) parts
      all_bound nil each = tt
      all_bound (cons tree parts) each = (
        behind_sound sheet all given symbol.Effect around bound bytes (sort_over c) sort tree binds same each.0,
        all_bound
            parts each.1,
      )

  -- `(set NUM INT)` and the like
  counter_sound : (text : String) (r : Rule) (k : Keyword) → IsRow r (head_seat k ∷ plain_seat symbol.Counter ∷ plain_seat symbol.Integer ∷ [])
      → ((f t : ℕ) (x y : Tree) → rule_of symbol.Effect (cons (word (codes text) f t) (cons x (cons y nil))) ≡ Some r)
      → (around : Around) (num : Num) (value : IntExpr) (tree : Tree) → Apart around.scope
      → Row (Atom text ▸ StandsNum (sheet_naming sheet) around.scope num ▸ StandsInt (sheet_naming sheet) around.scope value ▸ Last)
      tree
      → IsHolder around num.who → IsInt sheet around value → EffectSound around tree
  counter_sound text r k row told around num value tree alone stands is is' =
      row_two text (StandsNum (sheet_naming sheet) around.scope num) (StandsInt (sheet_naming sheet) around.scope value)
      (EffectSound around) tree stands
      (λ f t from to n v here there. two_sound sheet all given text r k symbol.Counter symbol.Integer row symbol.Effect around f t
      from to n v (told f t n v) (num_sound sheet all symbol.Counter around num n num_rule_alone alone here is)
      (int_sound sheet all given around value v alone there is').0)

  mutual
    -- EFFECT
    pub effect_sound : (around : Around) (e : Effect) (tree : Tree) → Apart around.scope
        → StandsEffect (sheet_naming sheet) around.scope e tree → IsEffect sheet around e → EffectSound around tree
    effect_sound around (move card end loc) tree alone stands is =
        row_two "move" (StandsCard (sheet_naming sheet) around.scope card) (StandsSpot (sheet_naming sheet) around.scope end loc)
        (EffectSound around) tree stands
        (λ f t from to c s here there. sound_list sheet all symbol.Effect rule.Move around
        (cons (word (codes "move") f t) (cons c (cons s nil))) from to
        (card_held (sheet_naming sheet) around.scope card
        (λ c. rule_of symbol.Effect (cons (word (codes "move") f t) (cons c (cons s nil))) ≡ Some rule.Move) c here
        (λ rest from to. refl) (λ parts from to. refl))
        (easy_sound sheet all rule.Move refl around _)
        (λ p r b a. (
          fixed sheet all _ _ _ _ _ _,
          then sheet all given symbol.Card around _ _ c _ (card_sound sheet all given around card c alone here is.0).0
              (all_join sheet all _ [] (spot_sound around false end loc card_location s cards_bear
              (takes_cards around loc is.1) alone there is.1 _ _) tt),
        )))
    effect_sound around (move_all cards end loc) tree alone stands is =
        row_words "move" "all"
        (StandsColl (sheet_naming sheet) around.scope cards ▸ StandsSpot (sheet_naming sheet) around.scope end loc ▸ Last)
        (EffectSound around) tree stands
        (λ f t f' t' from to parts more. two_parts (StandsColl (sheet_naming sheet) around.scope cards)
        (StandsSpot (sheet_naming sheet) around.scope end loc)
        (λ l. EffectSound around (list (cons (word (codes "move") f t) (cons (word (codes "all") f' t') l)) from to)) parts more
        (λ c s here there. sound_list sheet all symbol.Effect rule.MoveAll around
        (cons (word (codes "move") f t) (cons (word (codes "all") f' t') (cons c (cons s nil)))) from to refl
        (easy_sound sheet all rule.MoveAll refl around _)
        (λ p r b a. (
          fixed sheet all _ _ _ _ _ _,
          (
            fixed sheet all _ _ _ _ _ _,
            then sheet all given symbol.Collection around _ _ c _ (coll_sound sheet all given around cards c alone here is.0).0
                (all_join sheet all _ [] (spot_sound around false end loc card_location s cards_bear
                (takes_cards around loc is.1) alone there is.1 _ _) tt),
          ),
        ))))
    effect_sound around (remember card end loc) tree alone stands is =
        row_two "remember" (StandsCard (sheet_naming sheet) around.scope card) (StandsSpot (sheet_naming sheet) around.scope end loc)
        (EffectSound around) tree stands
        (λ f t from to c s here there. sound_list sheet all symbol.Effect rule.Remember around
        (cons (word (codes "remember") f t) (cons c (cons s nil))) from to refl
        (easy_sound sheet all rule.Remember refl around _)
        (λ p r b a. (
          fixed sheet all _ _ _ _ _ _,
          then sheet all given symbol.Card around _ _ c _ (card_sound sheet all given around card c alone here is.0).0
              (all_join sheet all _ [] (spot_sound around true end loc reference_location s references_bear
              (takes_references around loc is.1) alone there is.1 _ _) tt),
        )))
    effect_sound around (forget card) tree alone stands is =
        row_one "forget" (StandsCard (sheet_naming sheet) around.scope card) (EffectSound around) tree stands
        (λ f t from to c here. sound_list sheet all symbol.Effect rule.Forget around
        (cons (word (codes "forget") f t) (cons c nil)) from to refl
        (easy_sound sheet all rule.Forget refl around _)
        (λ p r b a. (
          fixed sheet all _ _ _ _ _ _,
          then sheet all given symbol.Card around _ _ c _ (card_sound sheet all given around card c alone here is).0 tt,
        )))
    effect_sound around (shuffle loc) tree alone stands is =
        row_one "shuffle" (StandsLoc (sheet_naming sheet) around.scope loc) (EffectSound around) tree stands
        (λ f t from to l here. sound_list sheet all symbol.Effect rule.Shuffle around
        (cons (word (codes "shuffle") f t) (cons l nil)) from to refl
        (easy_sound sheet all rule.Shuffle refl around _)
        (λ p r b a. (
          fixed sheet all _ _ _ _ _ _,
          all_join sheet all _ []
              (loc_sound sheet all symbol.Location around loc l card_location _ _ loc_rule_alone alone refl
              (takes_cards around loc is) here
              is.0.0) tt,
        )))
    effect_sound around (set_to num value) tree alone stands is =
        counter_sound "set" rule.Set _ (refl, λ at parts. (refl, (refl, (refl, tt)))) (λ f t x y. refl) around num value tree
        alone stands is.0.0 is.1
    effect_sound around (increase num value) tree alone stands is =
        counter_sound "inc" rule.Increase _ (refl, λ at parts. (refl, (refl, (refl, tt)))) (λ f t x y. refl) around num value tree
        alone stands is.0.0 is.1
    effect_sound around (decrease num value) tree alone stands is =
        counter_sound "dec" rule.Decrease _ (refl, λ at parts. (refl, (refl, (refl, tt)))) (λ f t x y. refl) around num value tree
        alone stands is.0.0 is.1
    effect_sound around (when t effects) tree alone stands is =
        row_part "if" (StandsTest (sheet_naming sheet) around.scope t) (Full (StandEffects (sheet_naming sheet) around.scope effects))
        (EffectSound around) tree stands
        (λ f g from to x es here there. if_sound symbol.Effect around f g from to x es refl
        (test_sound sheet all given around t x alone here is.0) (effects_sound around effects es alone there.1 is.2))
    effect_sound around (repeat times effects) tree alone stands is =
        row_part "repeat" (StandsInt (sheet_naming sheet) around.scope times)
        (Full (StandEffects (sheet_naming sheet) around.scope effects)) (EffectSound around) tree stands
        (λ f g from to x es here there. repeat_sound around f g from to x es (lt-leb most_repeats around.repeats is.1)
        (int_sound sheet all given around times x alone here is.0).0
        (effects_sound (in_repeat around) effects es alone there.1 is.3))
    effect_sound around (for_each domain bound effects) tree alone stands is =
        row_part "all" (StandsRange (sheet_naming sheet) around.scope domain)
        (Binder (sheet_naming sheet) bound
        ▸ Full (StandEffects (sheet_naming sheet) (bind (sheet_naming sheet) around.scope bound (sort_of domain)) effects))
        (EffectSound around) tree stands
        (λ f g from to r parts here more. first_part (Binder (sheet_naming sheet) bound)
        (Full (StandEffects (sheet_naming sheet) (bind (sheet_naming sheet) around.scope bound (sort_of domain)) effects))
        (λ l. EffectSound around (list (cons (word (codes "all") f g) (cons r l)) from to)) parts more
        (λ v es binds there.
        let inner = effects_sound (behind sheet around bound (sort_of domain)) effects es
        (behind_apart sheet all given around bound (sort_of domain) alone is.1) there.1 is.3 in
        bound_word (sheet_naming sheet) bound
        (λ v. EffectSound around (list (cons (word (codes "all") f g) (cons r (cons v es))) from to)) v binds
        (λ bytes f' t' found. each_sound around bound (sort_of domain) bytes f g f' t' from to r es
        (binds_so sheet all given around bound bytes is.1 found) (range_sort (sheet_naming sheet) around.scope domain r here)
        (range_sound sheet all given around domain r alone here is.0) inner)))
    effect_sound around (next_is who) tree alone stands is =
        row_word_part "cycle" "next" (StandsOwner around.scope who) (EffectSound around) tree stands
        (λ f t f' t' from to o here. sound_list sheet all symbol.Effect rule.Next around
        (cons (word (codes "cycle") f t) (cons (word (codes "next") f' t') (cons o nil))) from to refl
        (λ p r b a from plain. record {
          once = refl;
          known = ap not (ap (is_in_stage around) (owner_class around.scope who o here) ∙ stage_around around (class_of who)
              is.1);
          kind_fits = plain.other;
          shallow = refl;
          said = tt;
        })
        (λ p r b a. (
          fixed sheet all _ _ _ _ _ _,
          (
            fixed sheet all _ _ _ _ _ _,
            then sheet all given symbol.Owner around _ _ o _
                (owner_sound sheet all symbol.Owner around who o owner_place alone here is.0) tt,
          ),
        )))
    effect_sound around turn_round tree alone stands is =
        row_word "cycle" "reverse" (EffectSound around) tree stands
        (λ f t f' t' from to. sound_list sheet all symbol.Effect rule.Reverse around
        (cons (word (codes "cycle") f t) (cons (word (codes "reverse") f' t') nil)) from to refl
        (λ p r b a from plain. record { once = refl; known = ap not is; kind_fits = plain.other; shallow = refl; said = tt })
        (λ p r b a. (fixed sheet all _ _ _ _ _ _, (fixed sheet all _ _ _ _ _ _, tt))))
    effect_sound around (peek cards who) tree alone stands is =
        row_two "peek" (StandsColl (sheet_naming sheet) around.scope cards) (StandsOwner around.scope who)
        (EffectSound around) tree stands
        (λ f t from to c o here there. two_sound sheet all given "peek" rule.Peek _ symbol.Collection symbol.Owner
        (refl, λ at parts. (refl, (refl, (refl, tt)))) symbol.Effect around f t from to c o refl
        (coll_sound sheet all given around cards c alone here is.0).0
        (owner_sound sheet all symbol.Owner around who o owner_place alone there is.1))

    pub effects_sound : (around : Around) (effects : Effects) (trees : Trees) → Apart around.scope
        → StandEffects (sheet_naming sheet) around.scope effects trees → AreEffects sheet around effects
        → Each (EffectSound around) trees
    effects_sound around no_effect nil alone stands are = tt
    effects_sound around no_effect (cons tree trees) alone stands are = absurd stands
    effects_sound around (effect e effects) nil alone stands are = absurd stands
    effects_sound around (effect e effects) (cons tree trees) alone stands are =
        (effect_sound around e tree alone stands.0 are.0, effects_sound around effects trees alone stands.1 are.1)

  -- DOMAIN
  pub domain_sound : (around : Around) (domain : Domain) (tree : Tree) → Apart around.scope
      → StandsDomain (sheet_naming sheet) around.scope domain tree → IsDomain sheet around domain
      → Sound sheet all symbol.Domain around tree
  domain_sound around each_player tree alone stands is = player_sound sheet all given symbol.Domain around tree stands
  domain_sound around (each_card cards) tree alone stands is = (coll_sound sheet all given around cards tree alone stands is).1
  domain_sound around (each_group cards attr) tree alone stands is =
      row_two "partition" (StandsColl (sheet_naming sheet) around.scope cards) (Named sheet.names.attrs attr)
      (Sound sheet all symbol.Domain around) tree stands
      (λ f t from to c n here named. sound_list sheet all symbol.Domain rule.Partition around
      (cons (word (codes "partition") f t) (cons c (cons n nil))) from to refl
      (easy_sound sheet all rule.Partition refl around _)
      (λ p r b a. (
        fixed sheet all _ _ _ _ _ _,
        then sheet all given symbol.Collection around _ _ c _ (coll_sound sheet all given around cards c alone here is.0).0
            (all_join sheet all _ [] (attr_sound sheet all given around attr n _ _ named is.1) tt),
      )))

  -- ALT
  pub alt_sound : (around : Around) (alt : Alt) (tree : Tree) → Apart around.scope
      → StandsAlt (sheet_naming sheet) around.scope alt tree → IsAlt sheet around alt
      → Sound sheet all symbol.Alternative around tree
  alt_sound around (do_alt effects) tree alone stands is =
      behind_word "do" (Full (StandEffects (sheet_naming sheet) around.scope effects)) (Sound sheet all symbol.Alternative around)
      tree
      stands
      (λ f t from to es there. do_sound symbol.Alternative around f t from to es refl
      (effects_sound around effects es alone there.1 is.1))
  alt_sound around (if_alt guard effects) tree alone stands is =
      row_part "if" (StandsTest (sheet_naming sheet) around.scope guard) (Full (StandEffects (sheet_naming sheet) around.scope effects))
      (Sound sheet all symbol.Alternative around) tree stands
      (λ f g from to x es here there. if_sound symbol.Alternative around f g from to x es refl
      (test_sound sheet all given around guard x alone here is.0) (effects_sound around effects es alone there.1 is.2))
  alt_sound around (any_alt domain bound alt) tree alone stands is =
      row_three "any" (StandsDomain (sheet_naming sheet) around.scope domain) (Binder (sheet_naming sheet) bound)
      (StandsAlt (sheet_naming sheet) (bind (sheet_naming sheet) around.scope bound (sort_of domain)) alt)
      (Sound sheet all symbol.Alternative around) tree stands
      (λ f g from to d v x here binds there.
      let inner = alt_sound (behind sheet around bound (sort_of domain)) alt x
      (behind_apart sheet all given around bound (sort_of domain) alone is.1) there is.2 in
      bound_word (sheet_naming sheet) bound
      (λ v. Sound sheet all symbol.Alternative around
      (list (cons (word (codes "any") f g) (cons d (cons v (cons x nil)))) from to)) v binds
      (λ bytes f' t' found. binder_sound sheet all given "any" rule.AnyOf _ symbol.Domain symbol.Alternative refl
      (λ at parts. (refl, (refl, (refl, tt)))) (λ at parts. refl) symbol.Alternative around bound (sort_of domain) bytes f g f' t'
      from to d x refl
      (binds_so sheet all given around bound bytes is.1 found) (domain_sort (sheet_naming sheet) around.scope domain d here)
      (domain_sound around domain d alone here is.0) inner))
