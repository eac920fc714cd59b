-- What the readers of options are told: options with one text each, and no help and no version.
use Rattle.std.specs.Prelude.{ℕ, List, codes, Some, true}
use Rattle.clap.specs.Words.{App, Rule, new_app, new_rule, with_rule}
use Rattle.clap.specs.declared.builder.action.ArgAction.TheVariants.{Set}
use Rattle.rc_house.specs.declared.reader.Playing.{Playing}
use Rattle.rc_house.specs.declared.reader.Playing.TheVariants.{Play, Bench}

abbrev pub option_rule : List ℕ → Rule
option_rule name = record (new_rule name) { long = Some name; action = Some Set }

abbrev pub bare_app : List ℕ → App
bare_app command = record (new_app command) {
  top = record (new_app command).top {
    no_binary_name = true;
    disable_help_flag = true;
    disable_version_flag = true;
  };
}

-- how many threads play, and how many totals are kept
abbrev pub players_app : List ℕ → App
players_app command =
    with_rule (with_rule (bare_app command) (option_rule (codes "workers"))) (option_rule (codes "cache"))

abbrev pub options_app : Playing → App
options_app Play = with_rule (players_app (codes "play")) (option_rule (codes "format"))
options_app Bench = players_app (codes "bench")
