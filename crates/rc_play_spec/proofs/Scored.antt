-- The scores of a match are in the ranges of their lines.
use Rattle.std.proofs.Common.{◌≡◌, ℕ, ◌<◌, [], ◌∷◌, map, pos, Some, ap, subst, arith}
use Rattle.std.specs.List.{AllByRecursion}
use Rattle.std.proofs.lemmas.Int.{ints}
use Rattle.rc_base.specs.Clamp.{IsWithinClamp}
use Rattle.rc_base.specs.Numbers.{below}
use Rattle.rc_base.specs.Transcript.{Score}
use Rattle.rc_sheet_spec.specs.WellFormed.{scored as around_score}
use Rattle.rc_play_spec.specs.Lines.{scored, IsInRange}
use Rattle.rc_play_spec.specs.Table.{Table, IsSound}
use Rattle.rc_play_spec.specs.Control.{Control}
use Rattle.rc_play_spec.specs.Value.{player_bound}
use Rattle.rc_play_spec.specs.About.{About, scene_at}
use Rattle.rc_play_spec.specs.Play.{Played}
use Rattle.rc_play_spec.specs.Scores.{score_of, scores_of, score_at}
use Rattle.rc_play_spec.specs.Plan.{Plan, deal_at}
use Rattle.rc_play_spec.specs.Draws.{key32}
use Rattle.rc_play_spec.specs.Keyed.{dealing_of, keyed_play}
use Rattle.rc_play_spec.proofs.Bounds.{number_bounded}
use Rattle.rc_play_spec.proofs.CardLemmas.{map_each, get_each, numbers_below}
use Rattle.rc_play_spec.proofs.DrawLemmas.{permuted-is}
use Rattle.rc_play_spec.proofs.FitLemmas.{keyed_leads}
use Rattle.rc_play_spec.proofs.PlayoutLemmas.{points_bounded}
use Rattle.rc_play_spec.proofs.SoundPlays.{reached_sound}
use Rattle.rc_play_spec.specs.PlayedBack.{IsPlayable}

zero_within : IsWithinClamp (pos 0)
zero_within = (omega (arith, ints), omega (arith, ints))

module _ (about : About) (plan : Plan) (is : IsPlayable about plan) where
  -- the table at the end of a match is sound
  end_sound : (m : ℕ) (p : Played ℕ) → keyed_play about plan m ≡ Some p → IsSound about.shape p.table
  end_sound m p played =
      let lead = keyed_leads about plan m (ap (λ shape. shape.places) is.shape) is.sight is.well.numbered.sites p played in
      let deal = (deal_at plan m).deal in
      subst (IsSound about.shape) lead.2.table
      (reached_sound about (dealing_of deal) is.shape is.well (λ k size. permuted-is (key32 deal 1 k 0) (below size)) (map (λ pick. pick.item) p.picks) 0
      lead.0 lead.1)

  scores_within : (table : Table) (control : Control) → IsSound about.shape table → AllByRecursion IsWithinClamp (scores_of about table control)
  scores_within table control sound =
      map_each (λ player. player < about.sheet.players) IsWithinClamp (score_of about table control)
      (λ player less.
      number_bounded (scene_at about table control.frames) about.sheet around_score (player_bound player ∷ []) about.sheet.score is.well.score sound.clamped)
      (below about.sheet.players) (numbers_below 0 about.sheet.players about.sheet.players (omega arith))

  abbrev IsScoreInRange : Score → Type 0
  IsScoreInRange score = IsInRange (scored score)

  pub scores_in_range : (m : ℕ) (p : Played ℕ) → keyed_play about plan m ≡ Some p →
      AllByRecursion IsScoreInRange (map (score_at about (scores_of about p.table p.control)) (below about.sheet.players))
  scores_in_range m p played =
      let scores = scores_of about p.table p.control in
      let players = is.well.limits.players in
      map_each (λ player. player < about.sheet.players) IsScoreInRange (score_at about scores)
      (λ player less.
      let points = points_bounded about.sheet scores player less in (
        omega (arith, less, players),
        get_each IsWithinClamp (pos 0) zero_within scores player (scores_within p.table p.control (end_sound m p played)),
        omega (arith, points, players),
      ))
      (below about.sheet.players) (numbers_below 0 about.sheet.players about.sheet.players (omega arith))
