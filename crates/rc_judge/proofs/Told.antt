-- The score that stands at a place in the record of a play.
use Rattle.std.proofs.Common.{◌≡◌, ℕ, zero, suc, ◌+◌, ◌<◌, List, length, map, get_or, slice_get, slice_index_or, ℤ, pos, Some, arith, sym, ap, ◌∙◌}
use Rattle.std.specs.List.{range_with_len}
use Rattle.std.proofs.lemmas.List.FromFn.{length-map-range_with_len}
use Rattle.rc_base.specs.Numbers.{below}
use Rattle.rc_deck.proofs.RangeLemmas.{at_range}
use Rattle.rc_play_spec.specs.About.{About}
use Rattle.rc_play_spec.specs.Step.{Config}
use Rattle.rc_play_spec.specs.Scores.{rank_points, scores_of, score_at}
use Rattle.rc_play_spec.specs.Rows.{scores_at}

in_range : {X : Type 0} (f : ℕ → X) (a n k : ℕ) → k < n → slice_get (map f (range_with_len a n)) k ≡ Some (f (a + k))
in_range f a zero k lt = absurd (omega (arith, lt))
in_range f a (suc n) zero lt = let same : a ≡ a + 0 = omega arith in ap (λ i. Some (f i)) same
in_range f a (suc n) (suc k) lt =
    let same : (a + 1) + k ≡ a + suc k = omega arith in in_range f (a + 1) n k (omega (arith, lt)) ∙ ap (λ i. Some (f i)) same

pub long_scores : (about : About) (c : Config) (scores : List ℤ) → scores ≡ scores_of about c.table c.control → length scores ≡ about.sheet.players
long_scores about c scores is = ap length is ∙ length-map-range_with_len _ 0 about.sheet.players

pub score_told : (about : About) (c : Config) (scores : List ℤ) (points : List ℕ) (k : ℕ) → scores ≡ scores_of about c.table c.control →
    points ≡ map (rank_points about.sheet scores) (below about.sheet.players) → k < length scores →
    slice_get (scores_at about c) k ≡ Some (record { player = k; score = slice_index_or scores k (pos 0); points = slice_index_or points k 0 })
score_told about c scores points k is ranked lt =
    let few : k < about.sheet.players = omega (arith, lt, long_scores about c scores is) in
    let same : 0 + k ≡ k = omega arith in
    let worth : slice_index_or points k 0 ≡ rank_points about.sheet scores k =
    ap (λ xs. get_or xs k 0) ranked ∙ at_range (rank_points about.sheet scores) 0 about.sheet.players k 0 few ∙ ap (rank_points about.sheet scores) same in
    in_range (score_at about (scores_of about c.table c.control)) 0 about.sheet.players k few
    ∙ ap (λ i. Some (score_at about (scores_of about c.table c.control) i)) same
    ∙ ap (λ all. Some (score_at about all k)) (sym is)
    ∙ ap (λ p. Some (record { player = k; score = slice_index_or scores k (pos 0); points = p })) (sym worth)
