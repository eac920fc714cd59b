-- A worker's matches, one after the other.
use Rattle.std.proofs.Common.{◌≡◌, ℕ, ◌<◌, ◌≤◌, Bool, List, [], ◌∷◌, length, length-append, map, All, Option, Some, None, option_map, unwrap_or, Result, Ok, Err, IfOk, OnOk, refl, sym, ap, ◌∙◌, subst, arith}
use Rattle.std.specs.List.{AllByRecursion}
use Rattle.std.proofs.lemmas.List.{length-map}
use Rattle.rc_play_spec.specs.About.{About}
use Rattle.rc_deck.specs.declared.memory.Memory.{Memory}
use Rattle.rc_base.specs.Transcript.{Record}
use Rattle.rc_play_spec.specs.Plan.{Plan}
use Rattle.rc_play_spec.specs.Play.{Played as Play}
use Rattle.rc_play_spec.specs.Keyed.{keyed_match}
use Rattle.rc_play_spec.specs.Scores.{record_of}
use Rattle.rc_match.specs.declared.playing.Played.{Played}
use Rattle.rc_redraw.specs.Asking.{Key}
use Rattle.rc_redraw.specs.Counts.{Counts}
use Rattle.rc_redraw.specs.Choosing.{AsksAll}
use Rattle.rc_match.specs.Named.{IsNoted}
use Rattle.rc_match.proofs.AskLemmas.{looks_rise, keeps_rise}
use Rattle.rc_series.specs.Series.{played_seen}
use Rattle.rc_claims.specs.Claims.{Pass, with_number}
use Rattle.rc_series.proofs.NamedLemmas.{numbered as number_is}
use Rattle.rc_series.specs.Turns.{IsRecordIn, number_of, asked_by_all, Rise, IsWork}
use Rattle.rc_series.proofs.NumberLemmas.{counted_before}

-- what keys ask
pub keys_rise : (keys : List Key) (before after : Counts) (steps steps' : ℕ) → AsksAll keys before after steps steps' → Rise (length keys) before after
keys_rise keys before after steps steps' asked =
    let keeps = keeps_rise keys before after steps steps' asked in
    record { looked = looks_rise keys before after steps steps' asked; hit = keeps.0; kept = keeps.1 }

-- a claim behind which nothing is left
pub worked : (noted : Bool) (about : About) (plan : Plan) (before pass after : Pass) (name name' : ℕ) (asked asked' : Counts) (records : List Played) (last : ℕ) →
    pass.table ≡ before.table → pass.holders ≡ before.holders → pass.numbers ≡ map number_of records →
    All (λ n. n < length plan.matches) pass.numbers → length plan.matches ≤ last → after ≡ with_number pass last →
    AllByRecursion (IsRecordIn noted about plan) records → name' ≡ name → Rise (asked_by_all about plan (map number_of records)) asked asked' →
    IsWork noted about plan before after name name' asked asked' records
worked noted about plan before pass after name name' asked asked' records last own holders numbers all late is are named rise =
    rw is
    record {
      own = own;
      holders = holders;
      numbers = counted_before (length plan.matches) pass.numbers last all late ∙ numbers;
      past = omega (arith, length-append pass.numbers (last ∷ []), ap length numbers, length-map records number_of);
      are = are;
      named = named;
      rise = rise;
    }

-- the record of a match has its number
numbered : (about : About) (m deal seats : ℕ) (o : Option (Play ℕ)) →
    unwrap_or (option_map (λ (r : Record). r.number) (option_map (record_of about m deal seats) o)) m ≡ m
numbered about m deal seats None = refl
numbered about m deal seats (Some p) = refl

-- what a match of these gives
pub numbers_it : (about : About) (plan : Plan) (n : ℕ) (result : Result Played Memory) →
    IfOk result (λ p. keyed_match about plan n ≡ Some (played_seen p)) → IfOk result (λ p. p.record.number ≡ n)
numbers_it about plan n (Err lack) is = tt
numbers_it about plan n (Ok p) is = number_is about plan n (played_seen p) is

pub is_record : (noted : Bool) (about : About) (plan : Plan) (n : ℕ) (result : Result Played Memory) →
    IfOk result (λ p. keyed_match about plan n ≡ Some (played_seen p)) → IfOk result (λ p. length p.record.scores.items ≡ about.sheet.players) →
    IfOk result (IsNoted noted about plan n) → IfOk result (IsRecordIn noted about plan)
is_record noted about plan n (Err lack) is each bounds = tt
is_record noted about plan n (Ok p) is each bounds =
    let number = number_is about plan n (played_seen p) is in
    (ap (keyed_match about plan) number ∙ is, each, subst (λ m. IsNoted noted about plan m p) (sym number) bounds)

pub rises_so : (keys : List Key) (result : Result Played Memory) (before after : Counts) (s s' : ℕ) →
    OnOk result (AsksAll keys before after s s') → OnOk result (Rise (length keys) before after)
rises_so keys (Err lack) before after s s' asked = tt
rises_so keys (Ok p) before after s s' asked = keys_rise keys before after s s' asked
