-- What a legal transcript tells can be measured.
use Rattle.std.proofs.Common.{◌≡◌, ◌≤◌, ◌+◌, ℕ, List, [], ◌∷◌, length, map, flat_map, sym, ap, ◌∙◌, subst, arith}
use Rattle.std.specs.List.{AllByRecursion}
use Rattle.std.specs.Prelude.{All}
use Rattle.std.proofs.lemmas.List.{length-map}
use Rattle.std.proofs.lemmas.List.Elements.{All-from_recursion}
use Rattle.rc_base.specs.Clamp.{IsWithinClamp}
use Rattle.rc_base.specs.Limits.{longest_text}
use Rattle.rc_base.specs.Numbers.{below}
use Rattle.rc_base.specs.Transcript.{Record}
use Rattle.rc_deck.proofs.RangeLemmas.{below_length}
use Rattle.rc_deck.proofs.EachLemmas.{parts_of_append}
use Rattle.rc_play_spec.specs.About.{About}
use Rattle.rc_play_spec.specs.Keyed.{dealing_of}
use Rattle.rc_play_spec.specs.Plan.{Plan as PurePlan}
use Rattle.rc_play_spec.specs.Limits.{IsWithinLimits}
use Rattle.rc_rules.specs.declared.plan.Plan.{Plan}
use Rattle.rc_rules.specs.declared.record.MatchRecord.{MatchRecord}
use Rattle.rc_rules.specs.declared.record.Score.{Score}
use Rattle.rc_rules.specs.Plan.{plan_seen, strategy_seen}
use Rattle.rc_rules.specs.Record.{pick_seen, score_seen, record_seen, standing_seen}
use Rattle.rc_play_spec.specs.Lines.{Line, opening, chosen, shuffled, ending, scored, ranked, IsInRange}
use Rattle.rc_play_spec.specs.HouseText.{ended_lines, record_lines, lines_of, IsHouseText}
use Rattle.rc_play_spec.specs.Legal.{IsLegal, AreRecords}
use Rattle.rc_play_spec.proofs.Fitting.{choices_in, picks_in, choices_of_matches}
use Rattle.rc_text.specs.House.{house_text_seen}
use Rattle.rc_text.specs.declared.house.HouseText.{HouseText}
use Rattle.rc_house.specs.Measured.{IsMeasurable}

-- no more choices are in lines than there are lines
few_choices : (ls : List Line) → choices_in ls ≤ length ls
few_choices [] = omega arith
few_choices (chosen p ∷ ls) = let few = few_choices ls in omega (arith, few)
few_choices (opening n deal seats ∷ ls) = let few = few_choices ls in omega (arith, few)
few_choices (shuffled n ∷ ls) = let few = few_choices ls in omega (arith, few)
few_choices (ending e turn ∷ ls) = let few = few_choices ls in omega (arith, few)
few_choices (scored s ∷ ls) = let few = few_choices ls in omega (arith, few)
few_choices (ranked s ∷ ls) = let few = few_choices ls in omega (arith, few)

-- and no more are in one match than in all
each_few : (most : ℕ) (matches : List MatchRecord) → picks_in (map record_seen matches) ≤ most
    → AllByRecursion (λ r. length r.picks.items ≤ most) matches
each_few most [] few = tt
each_few most (r ∷ matches) few =
    let count = length-map r.picks.items pick_seen in
    (omega (arith, few, count), each_few most matches (omega (arith, few)))

-- the record of a play has a score for each player
each_scored : (about : About) (plan : PurePlan) (m : ℕ) (matches : List MatchRecord)
    → AreRecords about dealing_of plan m (map record_seen matches)
    → AllByRecursion (λ r. length r.scores.items ≡ about.sheet.players) matches
each_scored about plan m [] are = tt
each_scored about plan m (r ∷ matches) are =
    let count = length-map r.scores.items score_seen in
    let told = ap (λ (r : Record). length r.scores) are.0.tells in
    let each = length-map (below about.sheet.players) _ in
    (sym count ∙ told ∙ each ∙ below_length about.sheet.players, each_scored about plan (m + 1) matches are.1)

-- where a line's numbers are in their ranges, a score is within the clamp
scores_within : (scores : List Score) → AllByRecursion IsInRange (map scored (map score_seen scores))
    → AllByRecursion (λ s. IsWithinClamp s.score) scores
scores_within [] all = tt
scores_within (s ∷ scores) all = (all.0.1, scores_within scores all.1)

each_within : (matches : List MatchRecord) → AllByRecursion IsInRange (flat_map record_lines (map record_seen matches))
    → AllByRecursion (λ r. All (λ s. IsWithinClamp s.score) r.scores.items) matches
each_within [] all = tt
each_within (r ∷ matches) all =
    let both = parts_of_append IsInRange (record_lines (record_seen r)) (flat_map record_lines (map record_seen matches)) all in
    let lines = parts_of_append IsInRange (ended_lines (record_seen r)) (map scored (map score_seen r.scores.items)) both.0 in
    (All-from_recursion (λ s. IsWithinClamp s.score) r.scores.items (scores_within r.scores.items lines.1), each_within matches both.1)

pub measurable : (about : About) (plan : Plan) (text : HouseText) → IsWithinLimits (plan_seen plan)
    → length (plan_seen plan).strategies ≡ about.sheet.players → IsHouseText (house_text_seen text)
    → length (lines_of (house_text_seen text)) ≤ longest_text
    → IsLegal about dealing_of (plan_seen plan) (house_text_seen text)
    → IsMeasurable plan text.matches.items
measurable about plan text within seats is few legal =
    let matches = text.matches.items in
    let records = map record_seen matches in
    let standings = map standing_seen text.standings.items in
    let count = legal.count in
    let own = length-map matches record_seen in
    let planned = length-map plan.strategies.items strategy_seen in
    let some = within.count.0 in
    let most = within.count.1 in
    let players = within.seats.1 in
    let choices = few_choices (lines_of (house_text_seen text)) in
    let all = choices_of_matches records standings in
    let lines = parts_of_append IsInRange (flat_map record_lines records) (map ranked standings) is.ranges in
    record {
      some = omega (arith, some, own, count);
      few = omega (arith, most, own, count);
      strategies = omega (arith, players, planned);
      scores = All-from_recursion (λ r. length r.scores.items ≡ length plan.strategies.items) matches
          (subst (λ n. AllByRecursion (λ r. length r.scores.items ≡ n) matches) (sym seats ∙ planned)
          (each_scored about (plan_seen plan) 0 matches legal.records));
      clamped = All-from_recursion (λ r. All (λ s. IsWithinClamp s.score) r.scores.items) matches (each_within matches lines.0);
      picks = All-from_recursion (λ r. length r.picks.items ≤ longest_text) matches
          (each_few longest_text matches (omega (arith, few, choices, all)));
    }
