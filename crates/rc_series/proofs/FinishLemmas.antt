-- What all workers did, put in order.
use Rattle.std.proofs.Common.{◌≡◌, ℕ, ◌<◌, Bool, List, [], ◌∷◌, ◌++◌, map, flat_map, filter_map, length, All, refl, sym, ap, ◌∙◌, subst}
use Rattle.std.specs.List.{AllByRecursion}
use Rattle.std.specs.List.Sorted.{IsPermutation, IsNonDecreasingBy}
use Rattle.std.proofs.lemmas.List.{length-map}
use Rattle.std.proofs.lemmas.List.Concat.{length-flat_map}
use Rattle.std.proofs.lemmas.List.Elements.{All-from_recursion, recursion_from_All}
use Rattle.std.proofs.lemmas.List.Sorted.{All-permutation}
use Rattle.rc_base.specs.Numbers.{below}
use Rattle.rc_play_spec.specs.About.{About}
use Rattle.rc_play_spec.specs.Plan.{Plan}
use Rattle.rc_play_spec.specs.Keyed.{keyed_match}
use Rattle.rc_match.specs.declared.playing.Played.{Played}
use Rattle.rc_redraw.specs.Counts.{Counts}
use Rattle.rc_match.specs.Asks.{asks_of}
use Rattle.rc_series.specs.Series.{IsNotedAs, looks_of, matches_of, played_seen}
use Rattle.rc_claims.specs.Claims.{Pass, fresh}
use Rattle.atomic_table.specs.Seated.{TableId}
use Rattle.rc_series.specs.declared.turn.Worker.{Worker}
use Rattle.rc_series.specs.Turns.{IsRecordIn, number_of, asked_by_all, counted}
use Rattle.rc_series.specs.Gathered.{IsGathered}
use Rattle.rc_series.proofs.NumberLemmas.{all_counted, claimed_in_order, length_range}

-- records of matches are what the plan has at their numbers
records_at : (noted : Bool) (about : About) (plan : Plan) (records : List Played) → AllByRecursion (IsRecordIn noted about plan) records →
    map played_seen records ≡ filter_map (keyed_match about plan) (map number_of records)
records_at noted about plan [] all = refl
records_at noted about plan (p ∷ ps) all = rw all.0.0 (ap (λ l. played_seen p ∷ l) (records_at noted about plan ps all.1))

each_scored : (noted : Bool) (about : About) (plan : Plan) (records : List Played) → AllByRecursion (IsRecordIn noted about plan) records →
    AllByRecursion (λ (p : Played). length p.record.scores.items ≡ about.sheet.players) records
each_scored noted about plan [] all = tt
each_scored noted about plan (p ∷ ps) all = (all.0.1, each_scored noted about plan ps all.1)

each_noted : (noted : Bool) (about : About) (plan : Plan) (records : List Played) → AllByRecursion (IsRecordIn noted about plan) records →
    AllByRecursion (IsNotedAs noted about plan) records
each_noted noted about plan [] all = tt
each_noted noted about plan (p ∷ ps) all = (all.0.2, each_noted noted about plan ps all.1)

module _ {C : Type 0} (name : C → ℕ) (counts : C → Counts) (noted : Bool) (about : About) (plan : Plan) (workers : List (Worker C)) (pass : Pass) (claimed sorted : List Played)
    (choosers : List C) (drawn : ℕ) (is : IsGathered name counts noted about plan workers pass claimed choosers) (all : IsPermutation (below drawn) pass.numbers) where
  past : length (counted (length plan.matches) pass.numbers) < length pass.numbers
  past = subst (λ n. n < length pass.numbers) (sym (ap length is.numbers ∙ length-map claimed number_of)) is.past

  module _ (same : IsPermutation claimed sorted) where
    sorted_are : AllByRecursion (IsRecordIn noted about plan) sorted
    sorted_are =
        recursion_from_All (IsRecordIn noted about plan) sorted
        (All-permutation (IsRecordIn noted about plan) claimed sorted same (All-from_recursion (IsRecordIn noted about plan) claimed is.are))

    pub all_records : IsNonDecreasingBy number_of sorted → map played_seen sorted ≡ matches_of about plan
    all_records up =
        records_at noted about plan sorted sorted_are
        ∙ ap (filter_map (keyed_match about plan)) (claimed_in_order number_of claimed sorted (length plan.matches) drawn pass.numbers all is.numbers past same up)

    pub all_there : IsNonDecreasingBy number_of sorted → length sorted ≡ length plan.matches
    all_there up =
        sym (length-map sorted number_of)
        ∙ ap length (claimed_in_order number_of claimed sorted (length plan.matches) drawn pass.numbers all is.numbers past same up)
        ∙ length_range 0 (length plan.matches)

    pub all_scored : All (λ (p : Played). length p.record.scores.items ≡ about.sheet.players) sorted
    all_scored = All-from_recursion (λ (p : Played). length p.record.scores.items ≡ about.sheet.players) sorted (each_scored noted about plan sorted sorted_are)

    pub all_noted : All (IsNotedAs noted about plan) sorted
    all_noted = All-from_recursion (IsNotedAs noted about plan) sorted (each_noted noted about plan sorted sorted_are)

  pub all_looks : asked_by_all about plan (map number_of claimed) ≡ length (looks_of about plan)
  all_looks =
      ap (asked_by_all about plan) (sym is.numbers)
      ∙ all_counted (λ n. length (asks_of about plan n)) (length plan.matches) drawn pass.numbers all past
      ∙ sym (length-flat_map (asks_of about plan) (below (length plan.matches)))

-- the workers' passes have all holders
pub all_holders : {C : Type 0} (table : TableId) (workers : List (Worker C)) (holders : List ℕ) → map (λ w. w.pass) workers ≡ map (fresh table) holders →
    flat_map (λ w. w.pass.holders) workers ≡ holders
all_holders {C} table workers holders is = by workers ∙ ap (flat_map (λ (p : Pass). p.holders)) is ∙ single holders
  where
    by : (ws : List (Worker C)) → flat_map (λ w. w.pass.holders) ws ≡ flat_map (λ (p : Pass). p.holders) (map (λ w. w.pass) ws)
    by [] = refl
    by (w ∷ ws) = ap (λ l. w.pass.holders ++ l) (by ws)

    single : (hs : List ℕ) → flat_map (λ (p : Pass). p.holders) (map (fresh table) hs) ≡ hs
    single [] = refl
    single (h ∷ hs) = ap (λ l. h ∷ l) (single hs)

-- what is told of the workers' choosers is told of these choosers
pub of_choosers : {C X : Type 0} (f : C → X) (workers : List (Worker C)) (choosers : List C) → map (λ w. w.chooser) workers ≡ choosers →
    map (λ (w : Worker C). f w.chooser) workers ≡ map f choosers
of_choosers {C} f workers choosers is = by workers ∙ ap (map f) is
  where
    by : (ws : List (Worker C)) → map (λ (w : Worker C). f w.chooser) ws ≡ map f (map (λ w. w.chooser) ws)
    by [] = refl
    by (w ∷ ws) = ap (λ l. f w.chooser ∷ l) (by ws)
