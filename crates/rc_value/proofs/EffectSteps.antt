-- Effects seen as what they are, and one player after the other.
use Rattle.std.proofs.Common.{◌≡◌, ℕ, zero, suc, ◌+◌, ◌<◌, ◌≤◌, List, [], ◌∷◌, length, drop, map, refl, sym, ap, ◌∙◌, arith}
use Rattle.std.specs.Prelude.{fold}
use Rattle.std.specs.List.{range_with_len}
use Rattle.std.proofs.lemmas.List.FromFn.{length-range_with_len}
use Rattle.rc_base.specs.Numbers.{below}
use Rattle.rc_play_spec.specs.Scene.{CardValue}
use Rattle.rc_play_spec.specs.Value.{Bind, player_bound}
use Rattle.rc_play_spec.specs.Effects.{Dealing, does_one}
use Rattle.rc_ast.specs.declared.effects.Effect.{Effect}
use Rattle.rc_ast.specs.Effects.{effect_seen}
use Rattle.rc_table.specs.Laid.{Laid}
use Rattle.rc_rules.specs.declared.control.Frame.{Frame}
use Rattle.rc_value.specs.declared.context.Context.{Context}
use Rattle.rc_value.specs.Point.{point_of}
use Rattle.rc_value.specs.Leads.{LeadsTo}

-- an effect that shuffles nothing
pub led : (context : Context) (dealing : Dealing ℕ) (state : ℕ) (e f : Effect) (before after : Laid)
    (frames frames' : List Frame) → e ≡ f → LeadsTo context (effect_seen f) before frames after frames' →
    does_one context.about.now dealing context.scope.now (effect_seen e) (point_of before frames state)
    ≡ point_of after frames' state
led context dealing state e f before after frames frames' is leads =
    ap (λ e. does_one context.about.now dealing context.scope.now (effect_seen e) (point_of before frames state)) is
    ∙ leads dealing state

module _ {A : Type 0} (f : A → Bind CardValue → A) where
  players_on : (a n k : ℕ) (now mid last : A) → k < n → f now (player_bound (a + k)) ≡ mid →
      fold f now (map (λ n. player_bound n) (drop k (range_with_len a n))) ≡ last →
      fold f mid (map (λ n. player_bound n) (drop (k + 1) (range_with_len a n))) ≡ last
  players_on a zero k now mid last lt one rest = absurd (omega (arith, lt))
  players_on a (suc n) zero now mid last lt one rest =
      let here : a ≡ a + 0 = omega arith in
      ap (λ p. fold f p (map (λ n. player_bound n) (range_with_len (a + 1) n)))
      (sym one ∙ ap (λ k. f now (player_bound k)) (sym here)) ∙ rest
  players_on a (suc n) (suc k) now mid last lt one rest =
      let next : a + 1 + k ≡ a + suc k = omega arith in
      let two : suc k + 1 ≡ suc (k + 1) = omega arith in
      ap (λ m. fold f mid (map (λ n. player_bound n) (drop m (range_with_len a (suc n))))) two
      ∙ players_on (a + 1) n k now mid last (omega (arith, lt)) (ap (λ k. f now (player_bound k)) next ∙ one) rest

  -- one player more
  pub one_player : (n k : ℕ) (now mid last : A) → k < n → f now (player_bound k) ≡ mid →
      fold f now (map (λ n. player_bound n) (drop k (below n))) ≡ last →
      fold f mid (map (λ n. player_bound n) (drop (k + 1) (below n))) ≡ last
  one_player n k now mid last lt one rest =
      let here : 0 + k ≡ k = omega arith in
      players_on 0 n k now mid last lt (ap (λ k. f now (player_bound k)) here ∙ one) rest

  none_left : (ns : List ℕ) (k : ℕ) → length ns ≤ k → drop k ns ≡ []
  none_left [] zero le = refl
  none_left [] (suc k) le = refl
  none_left (n ∷ ns) zero le = absurd (omega (arith, le))
  none_left (n ∷ ns) (suc k) le = none_left ns k (omega (arith, le))

  -- no player is left
  pub no_player : (n k : ℕ) (now : A) → n ≤ k → fold f now (map (λ n. player_bound n) (drop k (below n))) ≡ now
  no_player n k now le =
      ap (λ ns. fold f now (map (λ n. player_bound n) ns))
      (none_left (below n) k (omega (arith, le, length-range_with_len 0 n)))
