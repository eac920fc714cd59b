-- The rows of the judge: why a line is illegal, by where the play stands after the match's choices before it. The first row that
-- applies tells.
use Rattle.std.specs.Prelude.{ℕ, ◌==◌, nat_lt, Bool, true, false, not, ◌&&◌, ◌||◌, if◌then◌else◌, List, length, map, slice_get, Option, Some, None}
use Rattle.std.specs.Ordering.{int_eq}
use Rattle.rc_base.specs.Numbers.{below}
use Rattle.rc_base.specs.Transcript.{Pick, Ending, done, limit, Score, Record, Standing}
use Rattle.rc_play_spec.specs.About.{About, menu_at}
use Rattle.rc_play_spec.specs.Step.{Config, Stop, decide, is_done, is_limit}
use Rattle.rc_play_spec.specs.Stop.{Stopped}
use Rattle.rc_play_spec.specs.Scores.{scores_of, score_at}
use Rattle.rc_play_spec.specs.Plan.{Plan, deal_at}
use Rattle.rc_play_spec.specs.House.{standings_of}
use Rattle.rc_play_spec.specs.ItemBounds.{Bound}
use Rattle.rc_play_spec.specs.Bounds.{are_bounds}
use Rattle.rc_play_spec.specs.Naming.{marks_there}
use Rattle.rc_play_spec.specs.Why.{Why, by_match, by_shuffle, by_seat, by_menu, by_item, by_name, by_end, by_score, by_standing}

-- nothing where a test holds
abbrev pub unless : Bool → Why → Option Why
unless b why = if b then None else Some why

-- the first of two rows that applies
infixl 9 ◌or◌
abbrev pub ◌or◌ : Option Why → Option Why → Option Why
None or y = y
(Some x) or y = Some x

-- the play doesn't stand at a decision
abbrev pub has_ended : Stop → Bool
has_ended (decide seat site) = false
has_ended is_done = true
has_ended is_limit = true

-- the word of an end line tells this stop
abbrev pub is_ending : Ending → Stop → Bool
is_ending e (decide seat site) = false
is_ending done is_done = true
is_ending done is_limit = false
is_ending limit is_done = false
is_ending limit is_limit = true

-- ---- match lines

-- the match before lacks score lines
abbrev pub lacking_row : About → Record → Option Why
lacking_row about r = unless (not (nat_lt (length r.scores) about.sheet.players)) by_score

-- a match line where match m of the plan comes next, if there is one
abbrev pub opening_row : Plan → (m number deal seats : ℕ) → Option Why
opening_row plan m number deal seats =
    unless (nat_lt m (length plan.matches) && number == m && deal == (deal_at plan m).deal
    && seats == (deal_at plan m).seats) by_match

-- ---- choose lines

abbrev pub decision_row : About → Pick → Stop → Config → Option Why
decision_row about p is_done c = Some by_end
decision_row about p is_limit c = Some by_end
decision_row about p (decide seat site) c =
    unless (p.seat == seat && p.site == site) by_seat or unless
    (p.size == length (menu_at about site c.table c.control)) by_menu
    or unless (nat_lt p.item p.size) by_item

abbrev pub stopped_row : About → Option (Stopped ℕ) → Pick → Option Why
stopped_row about None p = Some by_end
stopped_row about (Some at) p = decision_row about p at.stop at.config

-- where marks are told, they are those of the item
abbrev pub named_row : About → Option (Stopped ℕ) → Pick → Option (List Bound) → Option Why
named_row about at p None = None
named_row about at p (Some marks) = unless (are_bounds marks (marks_there about at p)) by_name

abbrev pub chosen_row : About → Option (Stopped ℕ) → Pick → Option (List Bound) → Option Why
chosen_row about at p marks = stopped_row about at p or named_row about at p marks

-- ---- shuffles and end lines; the dealer's state is the count of the shuffles

abbrev pub shuffled_row : Option (Stopped ℕ) → ℕ → Option Why
shuffled_row None n = Some by_end
shuffled_row (Some at) n = unless (has_ended at.stop) by_end or unless (n == at.dealer) by_shuffle

-- told is the number of the shuffles line, 0 where there is none
abbrev pub ending_row : Option (Stopped ℕ) → (told : ℕ) → Ending → ℕ → Option Why
ending_row None told e turn = Some by_end
ending_row (Some at) told e turn =
    unless (has_ended at.stop) by_end or unless (not (told == 0) || at.dealer == 0) by_shuffle
    or unless (is_ending e at.stop && turn == at.config.control.turn) by_end

-- ---- score lines

abbrev pub is_score : Score → Score → Bool
is_score s t = s.player == t.player && int_eq s.score t.score && s.points == t.points

abbrev pub is_the_score : Score → Option Score → Bool
is_the_score s None = false
is_the_score s (Some t) = is_score s t

-- each player's score where the play stands
abbrev pub scores_at : About → Config → List Score
scores_at about c = map (score_at about (scores_of about c.table c.control)) (below about.sheet.players)

-- the k-th score line of a match, from 0: there is one for each player
abbrev pub scored_row : About → Option (Stopped ℕ) → ℕ → Score → Option Why
scored_row about None k s = Some by_score
scored_row about (Some at) k s = unless (is_the_score s (slice_get (scores_at about at.config) k)) by_score

-- ---- standing lines

abbrev pub is_standing : Standing → Standing → Bool
is_standing s t = s.place == t.place && s.strategy == t.strategy && s.points == t.points

abbrev pub is_the_standing : Standing → Option Standing → Bool
is_the_standing s None = false
is_the_standing s (Some t) = is_standing s t

-- the plan has a further match
abbrev pub further_row : Plan → List Record → Option Why
further_row plan matches = unless (not (nat_lt (length matches) (length plan.matches))) by_match

-- The k-th standing line behind these matches, from 0. The plan's standings are one for each strategy.
abbrev pub ranked_row : Plan → List Record → ℕ → Standing → Option Why
ranked_row plan matches k s =
    further_row plan matches or unless (is_the_standing s (slice_get (standings_of plan matches) k)) by_standing

-- the end of a text behind so many standings: some are missing
abbrev pub end_row : Plan → List Record → ℕ → Option Why
end_row plan matches k = unless (not (nat_lt k (length (standings_of plan matches)))) by_standing
