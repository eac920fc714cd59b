-- The records of a plan's matches and what they ask, match by match.
use Rattle.std.proofs.Common.{◌≡◌, ℕ, zero, suc, ◌+◌, ◌-◌, ◌≤◌, List, [], ◌∷◌, ◌++◌, append-nil, append_assoc, map, length, Some, refl, sym, ap, ◌∙◌, subst, arith}
use Rattle.std.specs.Prelude.{filter_map, flat_map}
use Rattle.std.proofs.lemmas.List.{length-map, map-append}
use Rattle.std.proofs.lemmas.List.Concat.{flat_map-append}
use Rattle.std.proofs.lemmas.List.Elements.{filter_map-append}
use Rattle.rc_base.specs.Numbers.{below}
use Rattle.rc_base.specs.Transcript.{Record}
use Rattle.rc_deck.proofs.RangeLemmas.{below_push}
use Rattle.rc_play_spec.specs.About.{About}
use Rattle.rc_play_spec.specs.Plan.{Plan}
use Rattle.rc_play_spec.specs.Keyed.{keyed_match}
use Rattle.rc_redraw.specs.Counts.{Counts}
use Rattle.rc_redraw.specs.Choosing.{AsksAll, AsksSome}
use Rattle.rc_rules.specs.declared.plan.Plan.{Plan as StoredPlan}
use Rattle.rc_rules.specs.Plan.{deal_seen, plan_seen}
use Rattle.rc_match.specs.Asks.{asks_of}
use Rattle.rc_match.specs.declared.playing.Played.{Played}
use Rattle.rc_match.proofs.AskLemmas.{IsFront, asks_then, some_then, some_of}
use Rattle.rc_series.specs.Series.{looks_below, looks_of, played_seen, records_below}

-- one match more
one_more : (about : About) (plan : Plan) (n : ℕ) (r : Record) → keyed_match about plan n ≡ Some r → records_below about plan (n + 1) ≡ records_below about plan n ++ r ∷ []
one_more about plan n r is =
    ap (filter_map (keyed_match about plan)) (below_push n) ∙ filter_map-append (keyed_match about plan) (below n) (n ∷ [])
    ∙ ap (λ more. records_below about plan n ++ more) (alone n r is)
  where
    alone : (n : ℕ) (r : Record) → keyed_match about plan n ≡ Some r → filter_map (keyed_match about plan) (n ∷ []) ≡ r ∷ []
    alone n r is = rw is refl

pub told_more : (about : About) (plan : Plan) (n : ℕ) (records : List Played) (played' : Played) → keyed_match about plan n ≡ Some (played_seen played') →
    map played_seen records ≡ records_below about plan n →
    map played_seen (records ++ played' ∷ []) ≡ records_below about plan (n + 1)
told_more about plan n records played' is so_far =
    map-append played_seen records (played' ∷ []) ∙ ap (λ front. front ++ played_seen played' ∷ []) so_far
    ∙ sym (one_more about plan n (played_seen played') is)

-- what one match more asks
pub looks_more : (about : About) (plan : Plan) (n : ℕ) → looks_below about plan n ++ asks_of about plan n ≡ looks_below about plan (n + 1)
looks_more about plan n =
    sym (ap (λ ns. flat_map (asks_of about plan) ns) (below_push n) ∙ flat_map-append (asks_of about plan) (below n) (n ∷ [])
    ∙ ap (λ keys. looks_below about plan n ++ keys) (append-nil (asks_of about plan n)))

-- what the first matches ask is a front of what more of them ask
more_front : (about : About) (plan : Plan) (n d : ℕ) → IsFront (looks_below about plan n) (looks_below about plan (n + d))
more_front about plan n zero =
    let same : n ≡ n + 0 = omega arith in
    ([], append-nil (looks_below about plan n) ∙ ap (looks_below about plan) same)
more_front about plan n (suc d) =
    let same : (n + d) + 1 ≡ n + suc d = omega arith in
    let rest = more_front about plan n d in
    let there = asks_of about plan (n + d) in (
      rest.0 ++ there,
      sym (append_assoc (looks_below about plan n) rest.0 there) ∙ ap (λ keys. keys ++ there) rest.1
          ∙ looks_more about plan (n + d) ∙ ap (looks_below about plan) same,
    )

pub front_below : (about : About) (plan : Plan) (n k : ℕ) → n ≤ k → IsFront (looks_below about plan n) (looks_below about plan k)
front_below about plan n k few =
    let same : n + (k - n) ≡ k = omega (arith, few) in
    subst (λ j. IsFront (looks_below about plan n) (looks_below about plan j)) same (more_front about plan n (k - n))

-- one match more of these
pub asked_more : (about : About) (plan : Plan) (n : ℕ) (before between after : Counts) (steps steps' steps'' : ℕ) →
    AsksAll (looks_below about plan n) before between steps steps' → AsksAll (asks_of about plan n) between after steps' steps'' →
    AsksAll (looks_below about plan (n + 1)) before after steps steps''
asked_more about plan n before between after steps steps' steps'' first here =
    subst (λ keys. AsksAll keys before after steps steps'') (looks_more about plan n)
    (asks_then (looks_below about plan n) (asks_of about plan n) before between after steps steps' steps'' first here)

-- where memory runs out in a match of these
pub stopped_in : (about : About) (plan : Plan) (n k : ℕ) (before between after : Counts) (steps steps' steps'' : ℕ) → n + 1 ≤ k →
    AsksAll (looks_below about plan n) before between steps steps' → AsksSome (asks_of about plan n) between after steps' steps'' →
    AsksSome (looks_below about plan k) before after steps steps''
stopped_in about plan n k before between after steps steps' steps'' few first here =
    some_of (looks_below about plan (n + 1)) (looks_below about plan k) before after steps steps'' (front_below about plan (n + 1) k few)
    (subst (λ keys. AsksSome keys before after steps steps'') (looks_more about plan n)
    (some_then (looks_below about plan n) (asks_of about plan n) before between after steps steps' steps'' first here))

-- the record of one match of these
pub match_alike : (about about' : About) (plan plan' : Plan) (m m' : ℕ) → about ≡ about' → plan ≡ plan' → m ≡ m' →
    keyed_match about plan m ≡ keyed_match about' plan' m'
match_alike about about' plan plan' m m' same same_plan same_match =
    ap (λ a. keyed_match a plan m) same ∙ ap (λ p. keyed_match about' p m) same_plan ∙ ap (keyed_match about' plan') same_match

-- what one match of these asks
pub asked_alike : (about about' : About) (plan plan' : Plan) (m m' : ℕ) → about ≡ about' → plan ≡ plan' → m ≡ m' →
    asks_of about plan m ≡ asks_of about' plan' m'
asked_alike about about' plan plan' m m' same same_plan same_match =
    ap (λ a. asks_of a plan m) same ∙ ap (λ p. asks_of about' p m) same_plan ∙ ap (asks_of about' plan') same_match

-- what all matches ask
pub all_looks : (about : About) (plan : StoredPlan) → looks_below about (plan_seen plan) (length plan.matches.items) ≡ looks_of about (plan_seen plan)
all_looks about plan = ap (looks_below about (plan_seen plan)) (sym (length-map plan.matches.items deal_seen))
