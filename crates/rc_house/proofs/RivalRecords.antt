-- The records of matches in which a search plays, one match more.
use Rattle.std.proofs.Common.{◌≡◌, ℕ, ◌+◌, List, [], ◌∷◌, ◌++◌, map, length, Some, refl, sym, ap, ◌∙◌}
use Rattle.std.specs.Prelude.{filter_map}
use Rattle.std.proofs.lemmas.List.{length-map, map-append}
use Rattle.std.proofs.lemmas.List.Elements.{filter_map-append}
use Rattle.rc_base.specs.Numbers.{below}
use Rattle.rc_base.specs.Transcript.{Record}
use Rattle.rc_deck.proofs.RangeLemmas.{below_push}
use Rattle.rc_play_spec.specs.About.{About}
use Rattle.rc_play_spec.specs.Plan.{Plan}
use Rattle.rc_rules.specs.declared.plan.Plan.{Plan as StoredPlan}
use Rattle.rc_rules.specs.declared.record.MatchRecord.{MatchRecord}
use Rattle.rc_rules.specs.Plan.{deal_seen, plan_seen}
use Rattle.rc_rules.specs.Record.{record_seen}
use Rattle.rc_play_spec.specs.Search.{Rival}
use Rattle.rc_play_spec.specs.Rivals.{rival_match, rival_records}

module _ (about : About) (rival : Rival) (plan : Plan) where
  -- the records of the first matches
  abbrev pub first_records : ℕ → List Record
  first_records count = filter_map (rival_match about rival plan) (below count)

  alone : (n : ℕ) (r : Record) → rival_match about rival plan n ≡ Some r → filter_map (rival_match about rival plan) (n ∷ []) ≡ r ∷ []
  alone n r is = rw is refl

  one_more : (n : ℕ) (r : Record) → rival_match about rival plan n ≡ Some r → first_records (n + 1) ≡ first_records n ++ r ∷ []
  one_more n r is =
      ap (filter_map (rival_match about rival plan)) (below_push n)
      ∙ filter_map-append (rival_match about rival plan) (below n) (n ∷ [])
      ∙ ap (λ more. first_records n ++ more) (alone n r is)

  pub played_more : (n : ℕ) (records : List MatchRecord) (r : MatchRecord) → rival_match about rival plan n ≡ Some (record_seen r) →
      map record_seen records ≡ first_records n → map record_seen (records ++ r ∷ []) ≡ first_records (n + 1)
  played_more n records r is so_far =
      map-append record_seen records (r ∷ []) ∙ ap (λ front. front ++ record_seen r ∷ []) so_far ∙ sym (one_more n (record_seen r) is)

-- as many as a plan has are all
pub all_played : (about : About) (rival : Rival) (plan : StoredPlan) →
    first_records about rival (plan_seen plan) (length plan.matches.items) ≡ rival_records about rival (plan_seen plan)
all_played about rival plan = ap (first_records about rival (plan_seen plan)) (sym (length-map plan.matches.items deal_seen))
