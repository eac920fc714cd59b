-- Tests of all players that compare a number of each with one that is the same for all.
use Rattle.std.proofs.Common.{◌≡◌, ℕ, ◌+◌, ◌<◌, ℤ, pos, false, Bool, List, [], ◌∷◌, ◌++◌, length, map, slice_get, Option, Some, None, option_map, refl, sym, ap, ap₂, ◌∙◌}
use Rattle.std.specs.Prelude.{IfSome}
use Rattle.std.specs.List.{list_all}
use Rattle.std.specs.Ordering.{int_eq}
use Rattle.rc_base.specs.Numbers.{below}
use Rattle.rc_sheet_spec.specs.Sheet.{player_class, who_var, Loc, LocName, Num, NumName, CollExpr, cards_in, IntExpr, literal, number, size_of, Test, eq_int, all_of, each_player}
use Rattle.rc_sheet_spec.specs.Naming.{class_of}
use Rattle.rc_play_spec.specs.Owners.{place_among}
use Rattle.rc_play_spec.specs.Scene.{CardValue}
use Rattle.rc_play_spec.specs.Value.{Scene as PureScene, Bind as PureBind, player_bound, player_of, who_value, number_there, cards_there, cut, int_value, test_value}
use Rattle.rc_code.specs.declared.atoms.Comparator.{Comparator}
use Rattle.rc_code.specs.declared.atoms.Comparator.TheVariants.{Equal}
use Rattle.rc_value.specs.declared.comparing.Own.{Own}
use Rattle.rc_value.specs.declared.comparing.Own.TheVariants.{Number, Size}
use Rattle.rc_value.specs.declared.comparing.SoughtNumber.{SoughtNumber}
use Rattle.rc_value.specs.Comparing.{compare, held, held_at, place_held, suits}
use Rattle.rc_value.specs.Comparing.{ArePaired, IsHisOwn, IsSameForAll, IsSuited}
use Rattle.rc_value.specs.Over.{over}
use Rattle.rc_value.proofs.OverLemmas.{over_alike}
use Rattle.rc_value.proofs.OwnLemmas.{own_among}
use Rattle.rc_value.proofs.WantedLemmas.{at_end}

-- what the innermost variable stands for
bound_player : (vars : List (PureBind CardValue)) (player place : ℕ) → length vars ≡ place → player_of (slice_get (vars ++ player_bound player ∷ []) place) ≡ player
bound_player vars player place is = ap (λ n. player_of (slice_get (vars ++ player_bound player ∷ []) n)) (sym is) ∙ ap player_of (at_end vars (player_bound player))

-- what the player has that it stands for: a number, or cards in a location
pub number_own : (place : ℕ) (num : Num) → num.who ≡ who_var place → IsHisOwn place (number num) (Number num.name)
number_own place num his = λ s vars player count.
    ap (λ who. number_there s.known.numbers (place_among s.known.sheet (class_of who) (map (λ (l : NumName). l.class) s.known.sheet.nums) num.name (who_value s.known (vars ++ player_bound player ∷ []) who))) his
    ∙ ap (λ n. number_there s.known.numbers (place_among s.known.sheet player_class (map (λ (l : NumName). l.class) s.known.sheet.nums) num.name n)) (bound_player vars player place count)

pub size_own : (place : ℕ) (loc : Loc) → loc.who ≡ who_var place → IsHisOwn place (size_of (cards_in loc)) (Size loc.name)
size_own place loc his = λ s vars player count.
    ap (λ who. pos (length (cut (cards_there s (place_among s.known.sheet (class_of who) (map (λ (l : LocName). l.class) s.known.sheet.locs) loc.name (who_value s.known (vars ++ player_bound player ∷ []) who)))))) his
    ∙ ap (λ n. pos (length (cut (cards_there s (place_among s.known.sheet player_class (map (λ (l : LocName). l.class) s.known.sheet.locs) loc.name n))))) (bound_player vars player place count)

-- where there is no place, and what a player has, found from the place of what the first one has
pub held_nowhere : (s : PureScene CardValue) (own : Own) → held_at s own None ≡ pos 0
held_nowhere s (Number name) = refl
held_nowhere s (Size name) = refl

pub held_further : (s : PureScene CardValue) (own : Own) (player : ℕ) → player < s.known.sheet.players →
    held_at s own (option_map (λ at. at + player) (place_held s.known.sheet own 0)) ≡ held s own player
held_further s (Number name) player lt =
    let classes = map (λ (num : NumName). num.class) s.known.sheet.nums in
    ap (held_at s (Number name)) (sym (own_among s.known.sheet player lt classes name))
held_further s (Size name) player lt =
    let classes = map (λ (loc : LocName). loc.class) s.known.sheet.locs in
    ap (held_at s (Size name)) (sym (own_among s.known.sheet player lt classes name))

module _ (s : PureScene CardValue) (vars : List (PureBind CardValue)) where
  -- two numbers, of which the first is his
  module _ (a b : IntExpr) (place : ℕ) (own : Own) (how : Comparator) (count : place ≡ length vars) where
    pub paired_his : (w : Option SoughtNumber) → IsHisOwn place a own →
        IfSome w (λ w. (w.own ≡ own) × (w.how ≡ how) × IsSameForAll s vars b w.against) → IfSome w (ArePaired s vars a how b)
    paired_his None his told = told
    paired_his (Some w) his told = λ player.
        ap₂ (compare how) (his s vars player (sym count)) (told.2 (player_bound player))
        ∙ ap₂ (λ h o. compare h (held s o player) w.against) (sym told.1) (sym told.0)

  -- a test of them
  pub suited_is : (t : Test) (a b : IntExpr) (how : Comparator) (w : Option SoughtNumber) →
      ((vars : List (PureBind CardValue)) → test_value s vars t ≡ compare how (int_value s vars a) (int_value s vars b)) →
      IfSome w (ArePaired s vars a how b) → IfSome w (IsSuited s vars t)
  suited_is t a b how None same told = told
  suited_is t a b how (Some w) same told = λ player. same (vars ++ player_bound player ∷ []) ∙ told player

  -- all of them, or one
  pub over_players : (any : Bool) (t : Test) (w : SoughtNumber) (players : List ℕ) → IsSuited s vars t w →
      over any (suits s w) players ≡ over any (λ m. test_value s (vars ++ m ∷ []) t) (map (λ n. player_bound n) players)
  over_players any t w players is = over_alike any (suits s w) (λ m. test_value s (vars ++ m ∷ []) t) (λ n. player_bound n) players is

-- the test itself, outside all binders
abbrev his_cards : ℕ → ℕ → CollExpr
his_cards name at = cards_in (record { who = who_var 0; name = name; at = at })

pub each_held : (s : PureScene CardValue) (name at bound : ℕ) (count : ℤ) →
    list_all (suits s (record { own = Size name; how = Equal; against = count })) (below s.known.sheet.players)
    ≡ test_value s [] (all_of each_player bound (eq_int (size_of (his_cards name at)) (literal count)))
each_held s name at bound count =
    let own = size_own 0 (record { who = who_var 0; name = name; at = at }) refl in
    over_players s [] false (eq_int (size_of (his_cards name at)) (literal count)) (record { own = Size name; how = Equal; against = count })
    (below s.known.sheet.players) (λ player. ap (λ n. int_eq n count) (own s [] player refl))
