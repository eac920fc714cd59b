-- The options of a command are within their limits.
use Rattle.std.proofs.Common.{ℕ, ◌≤◌, List, Option, Some, None, arith}
use Rattle.rc_house.specs.Words.{HasNumber, HasOptions, usual_options}
use Rattle.rc_house.specs.Command.{IsCommand, options_of}
use Rattle.rc_house.specs.declared.option.OptionName.TheVariants as option
use Rattle.rc_house.specs.declared.options.Options.{Options}
use Rattle.rc_house.specs.declared.reader.Playing.{Playing}
use Rattle.rc_house.specs.declared.reader.Playing.TheVariants as playing
use Rattle.rc_house.specs.declared.command.Command.{Command}
use Rattle.rc_house.specs.declared.command.Command.TheVariants.{Play, Check, Sheet, Bench, Migrate, Watch, Measure, Rival}

abbrev pub IsWithin : Options → Type 0
IsWithin options = (1 ≤ options.workers) × (options.workers ≤ 64) × (1 ≤ options.cache) × (options.cache ≤ 65536)

-- an option's number is within its limits
number_within : (text : Option (List ℕ)) (usual most n : ℕ) → 1 ≤ usual → usual ≤ most → HasNumber usual most text n → (1 ≤ n) × (n ≤ most)
number_within None usual most n some few has = (omega (arith, some, has), omega (arith, few, has))
number_within (Some text) usual most n some few has = (has.2, has.3)

given_within : (kind : Playing) (words : List (List ℕ)) (options : Options) → HasOptions kind words options → IsWithin options
given_within kind words options (texts, (are, workers, cache, format)) =
    let own = number_within (texts option.Workers) 1 64 options.workers (omega arith) (omega arith) workers in
    let totals = number_within (texts option.Cache) 1024 65536 options.cache (omega arith) (omega arith) cache in
    (own.0, own.1, totals.0, totals.1)

usual_within : IsWithin usual_options
usual_within = (omega arith, omega arith, omega arith, omega arith)

pub command_within : (words : List (List ℕ)) (command : Command) → IsCommand words command → IsWithin (options_of command)
command_within words (Play options) is = given_within playing.Play is.0 options is.2
command_within words Check is = usual_within
command_within words Sheet is = usual_within
command_within words (Bench number options) is = let bench = is.2 in given_within playing.Bench bench.1 options bench.4
command_within words Migrate is = usual_within
command_within words (Watch seat number) is = usual_within
command_within words Measure is = usual_within
command_within words (Rival rival) is = usual_within
