-- What was noted of each match, told over all matches of a plan.
use Rattle.std.proofs.Common.{◌≡◌, ℕ, zero, suc, ◌+◌, Bool, true, false, List, [], ◌∷◌, ◌++◌, map, length, Some, Vec, Global, refl, sym, ap, ◌∙◌, subst}
use Rattle.std.specs.Prelude.{filter_map, flat_map, option_map, All}
use Rattle.std.specs.List.{AllByRecursion, range_with_len}
use Rattle.std.proofs.lemmas.List.{length-map}
use Rattle.std.proofs.lemmas.List.Elements.{All-from_recursion, recursion_from_All}
use Rattle.rc_base.specs.Transcript.{Pick, Record, Standing}
use Rattle.rc_play_spec.specs.About.{About}
use Rattle.rc_play_spec.specs.House.{standings_of}
use Rattle.rc_play_spec.specs.ItemBounds.{Bound as PureBound}
use Rattle.rc_play_spec.specs.Keyed.{chooser_of, dealing_of, keyed_match}
use Rattle.rc_play_spec.specs.Plan.{Plan, deal_at}
use Rattle.rc_play_spec.specs.Scores.{record_of}
use Rattle.rc_play_spec.proofs.PlayLemmas.{play_ends}
use Rattle.rc_play_spec.specs.Along.{marks_from, marks_over}
use Rattle.rc_play_spec.specs.HouseText.{NamedText as PureNamed}
use Rattle.rc_play_spec.specs.Judged.{play_after}
use Rattle.rc_play_spec.specs.PlayedLaws.{played_text, told_in}
use Rattle.rc_rules.specs.declared.record.MatchRecord.{MatchRecord}
use Rattle.rc_rules.specs.declared.plan.Plan.{Plan as StoredPlan}
use Rattle.rc_rules.specs.Bounds.{bounds_seen, match_bounds}
use Rattle.rc_rules.specs.Plan.{deal_seen, plan_seen}
use Rattle.rc_rules.specs.Record.{pick_seen, record_seen, standing_seen}
use Rattle.rc_match.specs.declared.playing.Played.{Played}
use Rattle.rc_match.specs.Named.{IsNoted}
use Rattle.rc_match.proofs.NamingLemmas.{noted_long}
use Rattle.rc_text.specs.BoundSeen.{all_bounds, AreFor}
use Rattle.rc_text.specs.House.{named_seen, Fits}
use Rattle.rc_text.specs.declared.house.NamedText.{NamedText}
use Rattle.rc_series.specs.Series.{IsNotedAs, IsTold, lists_of, matches_of, played_seen, records_below}

-- a list of records is one of what was played
records_twice : (played : List Played) → map record_seen (map (λ p. p.record) played) ≡ map played_seen played
records_twice [] = refl
records_twice (p ∷ played) = ap (λ rs. played_seen p ∷ rs) (records_twice played)

-- what holds of each value's image
each_mapped : {X Y : Type 0} (f : X → Y) (P : Y → Type 0) (xs : List X) → AllByRecursion (λ x. P (f x)) xs → AllByRecursion P (map f xs)
each_mapped f P [] all = tt
each_mapped f P (x ∷ xs) all = (all.0, each_mapped f P xs all.1)

pub all_mapped : {X Y : Type 0} (f : X → Y) (P : Y → Type 0) (xs : List X) → All (λ x. P (f x)) xs → All P (map f xs)
all_mapped f P xs all = All-from_recursion P (map f xs) (each_mapped f P xs (recursion_from_All (λ x. P (f x)) xs all))

module _ (about : About) (plan : Plan) where
  -- each match has a record, which has its number
  has_record : (m : ℕ) → (r : Record) × (keyed_match about plan m ≡ Some r) × (r.number ≡ m)
  has_record m =
      let d = deal_at plan m in
      let play = play_ends about (dealing_of d.deal) (chooser_of about plan m) 0 in
      (record_of about m d.deal d.seats play.0, ap (option_map (record_of about m d.deal d.seats)) play.1, refl)

  -- so the record of a match has its number
  pub numbered : (m : ℕ) (r : Record) → keyed_match about plan m ≡ Some r → r.number ≡ m
  numbered m r is =
      let other = has_record m in
      let both : Some r ≡ Some other.0 = sym is ∙ other.1 in
      let same : r ≡ other.0 = cc in
      ap (λ (r : Record). r.number) same ∙ other.2

  pub noted_as : (noted : Bool) (m : ℕ) (p : Played) → keyed_match about plan m ≡ Some (played_seen p) → IsNoted noted about plan m p → IsNotedAs noted about plan p
  noted_as noted m p is bounds = subst (λ n. IsNoted noted about plan n p) (sym (numbered m (played_seen p) is)) bounds

  one_more : (m : ℕ) (ms : List ℕ) (r : Record) → keyed_match about plan m ≡ Some r →
      filter_map (keyed_match about plan) (m ∷ ms) ≡ r ∷ filter_map (keyed_match about plan) ms
  one_more m ms r is = rw is refl

  marks_told : (from count : ℕ) (played : List Played) → map played_seen played ≡ filter_map (keyed_match about plan) (range_with_len from count) →
      AllByRecursion (IsNotedAs true about plan) played →
      all_bounds (map (λ p. p.bounds) played) ≡ marks_over about dealing_of plan from (map played_seen played)
  marks_told from zero [] is all = refl
  marks_told from zero (p ∷ played) is all = absurd cc
  marks_told from (suc count) [] is all = refl
  marks_told from (suc count) (p ∷ played) is all =
      let r = has_record from in
      let parts : played_seen p ∷ map played_seen played ≡ r.0 ∷ filter_map (keyed_match about plan) (range_with_len (from + 1) count) =
      is ∙ one_more from (range_with_len (from + 1) count) r.0 r.1 in
      let first : played_seen p ≡ r.0 = cc in
      let rest : map played_seen played ≡ filter_map (keyed_match about plan) (range_with_len (from + 1) count) = cc in
      let number : p.record.number ≡ from = ap (λ (r : Record). r.number) first ∙ r.2 in
      let here : match_bounds p.bounds ≡ marks_from about dealing_of plan from (play_after about dealing_of plan from []) (played_seen p).picks =
      all.0 ∙ ap (λ m. marks_from about dealing_of plan m (play_after about dealing_of plan m []) (played_seen p).picks) number in
      (λ i. here i ++ marks_told (from + 1) count played rest all.1 i)

  each_fits : (noted : Bool) (played : List Played) → noted ≡ true → AllByRecursion (IsNotedAs noted about plan) played →
      AreFor (map (λ p. p.record) played) (map (λ p. p.bounds) played)
  each_fits noted [] is all = refl
  each_fits noted (p ∷ played) is all =
      (λ i. noted_long about plan p.record.number noted bounds_seen pick_seen p.bounds.items p.record.picks.items all.0 is i ∷ each_fits noted played is all.1 i)

  lists_fit : (noted : Bool) (played : List Played) → noted ≡ true → AllByRecursion (IsNotedAs noted about plan) played →
      AreFor (map (λ p. p.record) played) (lists_of noted played)
  lists_fit true played is all = each_fits true played refl all
  lists_fit false played is all = absurd cc

  marks_in : (noted : Bool) (played : List Played) → map played_seen played ≡ matches_of about plan → AllByRecursion (IsNotedAs noted about plan) played →
      all_bounds (lists_of noted played) ≡ (told_in noted about plan (played_text about plan)).marks
  marks_in true played is all = marks_told 0 (length plan.matches) played is all ∙ ap (marks_over about dealing_of plan 0) is
  marks_in false played is all = refl

  told_parts : (noted : Bool) (text : _) (marks : List (List PureBound)) → text ≡ played_text about plan →
      marks ≡ (told_in noted about plan (played_text about plan)).marks → record { text = text; marks = marks } ≡ told_in noted about plan (played_text about plan)
  told_parts true text marks same told = (λ i. record { text = same i; marks = told i })
  told_parts false text marks same told = (λ i. record { text = same i; marks = told i })

  -- a text of all matches with these lists: its records, its standings, and what it tells as a whole
  pub all_told : (noted : Bool) (played : List Played) (named : NamedText) → map played_seen played ≡ matches_of about plan → All (IsNotedAs noted about plan) played →
      named.text.matches.items ≡ map (λ p. p.record) played →
      map standing_seen named.text.standings.items ≡ standings_of plan (map played_seen played) →
      named.bounds.items ≡ lists_of noted played →
      (map record_seen named.text.matches.items ≡ matches_of about plan)
      × (map standing_seen named.text.standings.items ≡ standings_of plan (matches_of about plan))
      × IsTold noted about plan named
  all_told noted played named is all matches standings lists =
      let each = recursion_from_All (IsNotedAs noted about plan) played all in
      let records : map record_seen named.text.matches.items ≡ matches_of about plan = ap (map record_seen) matches ∙ records_twice played ∙ is in
      let ranked : map standing_seen named.text.standings.items ≡ standings_of plan (matches_of about plan) = standings ∙ ap (standings_of plan) is in (
        records,
        ranked,
        record {
          told = told_parts noted _ _ (λ i. record { matches = records i; standings = ranked i }) (ap all_bounds lists ∙ marks_in noted played is each);
          fits = λ e. subst (λ bounds. AreFor named.text.matches.items bounds) (sym lists)
              (subst (λ records. AreFor records (lists_of noted played)) (sym matches) (lists_fit noted played e each));
        },
      )

-- the records of as many matches as a plan has are all
pub all_records : (about : About) (plan : StoredPlan) → records_below about (plan_seen plan) (length plan.matches.items) ≡ matches_of about (plan_seen plan)
all_records about plan = ap (records_below about (plan_seen plan)) (sym (length-map plan.matches.items deal_seen))
