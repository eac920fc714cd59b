-- Totals, a round more and an item more.
use Rattle.std.proofs.Common.{◌≡◌, ℕ, zero, suc, ◌+◌, ◌-◌, ◌<◌, ◌≤◌, List, [], ◌∷◌, ◌++◌, length, map, get_or, replicate, unwrap_or, refl, sym, ap, ◌∙◌, arith}
use Rattle.std.specs.Prelude.{All, sum_by}
use Rattle.std.specs.List.{range_with_len}
use Rattle.std.proofs.lemmas.List.FromFn.{length-map-range_with_len, get_or-map-range_with_len}
use Rattle.std.proofs.lemmas.List.Elements.{All-append, All-cons, All-nil}
use Rattle.rc_base.specs.Numbers.{below}
use Rattle.rc_play_spec.specs.About.{About, menu_at}
use Rattle.rc_play_spec.specs.View.{View}
use Rattle.rc_play_spec.specs.Shape.{shape_of}
use Rattle.rc_play_spec.specs.Draws.{key32, drawn_for, search_redraws}
use Rattle.rc_play_spec.specs.Step.{decide}
use Rattle.rc_play_spec.specs.Strategy.{menu_size}
use Rattle.rc_play_spec.specs.ChoiceLaws.{SizeRedrawn}
use Rattle.rc_sheet_spec.specs.Sight.{IsInSight}
use Rattle.rc_redraw.specs.Need.{IsAtDecision}
use Rattle.rc_rules.proofs.PointLemmas.{mapped_push, summed_push}
use Rattle.rc_play_spec.specs.Search.{Rival, dealing_in, root_of, gain, total, totals, tried, plain_steps}
use Rattle.rc_search.specs.Looking.{tried_with}
use Rattle.rc_search.specs.Rounds.{in_rounds, way_in, root_on, gain_on, tried_on}

all_push : (P : ℕ → Type 0) (xs : List ℕ) (x : ℕ) → All P xs → P x → All P (xs ++ x ∷ [])
all_push P xs x all is = All-append P xs (x ∷ []) all (All-cons P x [] is (All-nil P))

module _ (about : About) (rival : Rival) (seed : ℕ) (view : View) where
  abbrev at : ℕ → ℕ → ℕ
  at round x = total about (in_rounds round rival) seed view x

  pub none_yet : replicate (menu_size about view) 0 ≡ totals about (in_rounds 0 rival) seed view
  none_yet = from 0 (menu_size about view) where
    from : (a n : ℕ) → replicate n 0 ≡ map (at 0) (range_with_len a n)
    from a zero = refl
    from a (suc n) = ap (λ xs. 0 ∷ xs) (from (a + 1) n)

  pub long : (round : ℕ) (found : List ℕ) → found ≡ totals about (in_rounds round rival) seed view → length found ≡ menu_size about view
  long round found is = ap length is ∙ length-map-range_with_len (at round) 0 (menu_size about view)

  pub total_there : (round x : ℕ) (found : List ℕ) → found ≡ totals about (in_rounds round rival) seed view → x < menu_size about view → get_or found x 0 ≡ at round x
  total_there round x found is lt = ap (λ xs. get_or xs x 0) is ∙ get_or-map-range_with_len (at round) 0 (menu_size about view) x x 0 lt (omega arith)

  -- one item more
  pub one_more : (round x old new : ℕ) (more : List ℕ) → more ≡ map (at (round + 1)) (below x) → old ≡ at round x →
      new ≡ gain_on about (way_in rival seed view round) view (rival.depth - 1) x → more ++ (old + new) ∷ [] ≡ map (at (round + 1)) (below (x + 1))
  one_more round x old new more is there gains =
      let push = summed_push (λ r. gain about rival seed view r x) round in
      let sum : old + new ≡ at (round + 1) x = omega (arith, there, gains, push) in
      ap (λ front. front ++ (old + new) ∷ []) is ∙ ap (λ n. map (at (round + 1)) (below x) ++ n ∷ []) sum ∙ sym (mapped_push (at (round + 1)) x)

  -- what a round tries
  pub tried_round : SizeRedrawn → about.shape ≡ shape_of about.sheet → IsInSight about.sheet → IsAtDecision about view → 1 ≤ rival.depth → (round : ℕ) →
      tried about (dealing_in about rival seed view round) rival.depth (decide view.seat (unwrap_or view.control.site 0)) (root_of about rival seed view round) 0
      ≡ tried_on about (way_in rival seed view round) view (rival.depth - 1)
  tried_round law shape sight decision deep round =
      let way = way_in rival seed view round in
      let root = root_on about way view in
      let depth : rival.depth ≡ suc (rival.depth - 1) = omega (arith, deep) in
      let site = unwrap_or view.control.site 0 in
      let size = law about decision.site view (key32 rival.key (drawn_for view.seat search_redraws) seed round) shape sight decision.of_sound decision.moves decision.fits.stands in
      let there = ap (λ o. length (menu_at about (unwrap_or o 0) root.table view.control)) decision.fits.stands in
      ap (λ d. tried about (dealing_in about rival seed view round) d (decide view.seat site) root 0) depth
      ∙ ap (tried_with about way (rival.depth - 1) root 0) (there ∙ sym size)

  abbrev pub tried_first : ℕ → ℕ
  tried_first rounds = sum_by (λ round. tried_on about (way_in rival seed view round) view (rival.depth - 1)) (below rounds)

  pub tried_more : (rounds : ℕ) → tried_first (rounds + 1) ≡ tried_first rounds + tried_on about (way_in rival seed view rounds) view (rival.depth - 1)
  tried_more rounds = summed_push (λ round. tried_on about (way_in rival seed view round) view (rival.depth - 1)) rounds

  pub tried_all : SizeRedrawn → about.shape ≡ shape_of about.sheet → IsInSight about.sheet → IsAtDecision about view → 1 ≤ rival.depth → (rounds : ℕ) →
      plain_steps about (in_rounds rounds rival) seed view ≡ tried_first rounds
  tried_all law shape sight decision deep zero = refl
  tried_all law shape sight decision deep (suc rounds) =
      let same : suc rounds ≡ rounds + 1 = omega arith in
      let rest = tried_all law shape sight decision deep rounds in
      let push = summed_push (λ round. tried about (dealing_in about rival seed view round) rival.depth (decide view.seat (unwrap_or view.control.site 0)) (root_of about rival seed view round) 0) rounds in
      let push' = tried_more rounds in
      let here = tried_round law shape sight decision deep rounds in
      ap (λ n. plain_steps about (in_rounds n rival) seed view) same ∙ (let e : plain_steps about (in_rounds (rounds + 1) rival) seed view ≡ tried_first (rounds + 1) = omega (arith, push, push', rest, here) in e)
      ∙ ap tried_first (sym same)

pub small_push : (most : ℕ) (xs : List ℕ) (x : ℕ) → All (λ n. n ≤ most) xs → x ≤ most → All (λ n. n ≤ most) (xs ++ x ∷ [])
small_push most xs x all le = all_push (λ n. n ≤ most) xs x all le

pub small_none : (most : ℕ) → All (λ n. n ≤ most) []
small_none most = All-nil (λ n. n ≤ most)

pub small_zeros : (most n : ℕ) → All (λ k. k ≤ most) (replicate n 0)
small_zeros most zero = All-nil (λ k. k ≤ most)
small_zeros most (suc n) = All-cons (λ k. k ≤ most) 0 (replicate n 0) (omega arith) (small_zeros most n)

-- in range the default doesn't matter
pub get_any : (xs : List ℕ) (n d e : ℕ) → n < length xs → get_or xs n d ≡ get_or xs n e
get_any [] n d e lt = absurd (omega (arith, lt))
get_any (x ∷ xs) zero d e lt = refl
get_any (x ∷ xs) (suc n) d e lt = get_any xs n d e (omega (arith, lt))
