-- How words ended, from what their command did.
use Rattle.std.proofs.Common.{◌≡◌, ◌<◌, ◌≤◌, ◌⊎◌, ℕ, Bool, true, false, List, inl, inr, refl, sym, subst, ◌∙◌, arith}
use Rattle.std.proofs.lemmas.Bool.{cases_lt}
use Rattle.rc_house.specs.Command.{IsCommand, options_of, workers_of}
use Rattle.rc_house.specs.declared.command.Command.{Command}
use Rattle.rc_house.proofs.Within.{command_within}
use Rattle.rc_house.specs.declared.status.Status.{Status}
use Rattle.rc_house.specs.declared.status.Status.TheVariants.{Usage}
use Rattle.rc_house.specs.Status.{line_of}
use Rattle.rc_house.specs.Port.{Port, Ports, ports, Took, NoCountFell}
use Rattle.rc_house.specs.Players.{AreWithin, CanPlay}
use Rattle.rc_house.specs.Running.{NamesNone, no_command, too_many, unread}
use Rattle.rc_house.specs.Ends.{Runs, Rests, RefusesMany, ended_by, Ending, Ends, alone, shared, usage, no_memory}

-- the options of each command are within their limits
pub options_within : (words : List (List ℕ)) (command : Command) → IsCommand words command → AreWithin (options_of command)
options_within words command is =
    let within = command_within words command is in
    record { some_workers = within.0; workers = within.1; some_cache = within.2; cache = within.3 }

-- a command has one worker, or more
one_or_more : (words : List (List ℕ)) (command : Command) → IsCommand words command → (workers_of command ≡ 1) ⊎ (1 < workers_of command)
one_or_more words command is = by (cases_lt 1 (workers_of command))
  where
    by : (1 < workers_of command) ⊎ (workers_of command ≤ 1) → (workers_of command ≡ 1) ⊎ (1 < workers_of command)
    by (inl more) = inr more
    by (inr few) = let some = (options_within words command is).some_workers in inl (omega (arith, few, some))

pub more_than_one : (words : List (List ℕ)) (command : Command) → IsCommand words command → (workers_of command ≡ 1 → ⊥) → 1 < workers_of command
more_than_one words command is not_one = by (one_or_more words command is)
  where
    by : (workers_of command ≡ 1) ⊎ (1 < workers_of command) → 1 < workers_of command
    by (inl one) = absurd (not_one one)
    by (inr more) = more

-- where nothing was run, the line of the status was noted
rested : (status result : Status) (source out notes notes' : Port) (steps : ℕ) → result ≡ status → Took notes notes' (line_of status)
    → Rests result (ports source out notes) (ports source out notes') steps steps
rested status result source out notes notes' steps same noted =
    record {
      unread = refl;
      refuses = record { untouched = refl; noted = subst (λ told. Took notes notes' (line_of told)) (sym same) noted };
      uncounted = refl;
    }

-- and only its count of faults may have risen
only_noted : (source out notes notes' : Port) → notes.faults ≤ notes'.faults → NoCountFell (ports source out notes) (ports source out notes')
only_noted source out notes notes' counted = record { source = omega arith; out = omega arith; notes = counted }

-- a command that was run
pub ran : (many : Bool) (words : List (List ℕ)) (command : Command) (before after : Ports) (steps steps' : ℕ) (status : Status)
    → IsCommand words command → CanPlay many (workers_of command) → Runs command before after steps steps' status → NoCountFell before after
    → Ends (ended_by many) words before after steps steps' status
ran true words command before after steps steps' status is can runs counted =
    record { ending = by (one_or_more words command is); no_count_fell = counted }
  where
    by : (workers_of command ≡ 1) ⊎ (1 < workers_of command) → Ending Runs words before after steps steps' status
    by (inl one) = alone command is one runs
    by (inr more) = shared command is more runs
ran false words command before after steps steps' status is one runs counted =
    record { ending = alone command is one runs; no_count_fell = counted }

-- a command that names more workers than can play
has_many : (many : Bool) (words : List (List ℕ)) (command : Command) (before after : Ports) (steps : ℕ) (status : Status)
    → IsCommand words command → (CanPlay many (workers_of command) → ⊥) → status ≡ Usage → Rests status before after steps steps
    → Ending (ended_by many) words before after steps steps status
has_many true words command before after steps status is can same rests = absurd (can tt)
has_many false words command before after steps status is can same rests = by (one_or_more words command is)
  where
    by : (workers_of command ≡ 1) ⊎ (1 < workers_of command) → Ending RefusesMany words before after steps steps status
    by (inl one) = absurd (can one)
    by (inr more) = shared command is more (same, rests)

-- words that name no command here
pub none_ran : (many : Bool) (words : List (List ℕ)) (source out notes notes' : Port) (steps : ℕ) (status result : Status)
    → NamesNone many words status → result ≡ status → Took notes notes' (line_of status) → notes.faults ≤ notes'.faults
    → Ends (ended_by many) words (ports source out notes) (ports source out notes') steps steps result
none_ran many words source out notes notes' steps status result none same noted counted =
    record { ending = by none; no_count_fell = only_noted source out notes notes' counted }
  where
    rests : Rests result (ports source out notes) (ports source out notes') steps steps
    rests = rested status result source out notes notes' steps same noted

    by : NamesNone many words status → Ending (ended_by many) words (ports source out notes) (ports source out notes') steps steps result
    by (no_command none is) = usage none (same ∙ is) rests
    by (too_many command named can is) =
        has_many many words command (ports source out notes) (ports source out notes') steps result named can (same ∙ is) rests
    by (unread is) = no_memory (same ∙ is) rests
