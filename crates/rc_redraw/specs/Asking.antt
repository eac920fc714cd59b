-- Asks and keys as the definitions of play have them.
use Rattle.std.specs.Prelude.{ℕ, ◌*◌}
use Rattle.rc_play_spec.specs.About.{About}
use Rattle.rc_play_spec.specs.Strategy.{menu_size}
use Rattle.rc_play_spec.specs.Tally.{Ask as PureAsk}
use Rattle.rc_view.specs.Seen.{view_seen}
use Rattle.rc_redraw.specs.declared.asking.Ask.{Ask}
use Rattle.rc_redraw.specs.declared.asking.Key.{Key as StoredKey}

-- an ask in matches of an about
pub record Key : Type 0 where
  pub about : About
  pub ask : PureAsk

abbrev pub ask_seen : Ask → PureAsk
ask_seen ask = record { rounds = ask.rounds; key = ask.key; seed = ask.seed; view = view_seen ask.view }

abbrev pub key_seen : StoredKey → Key
key_seen key = record { about = key.about.value; ask = ask_seen key.ask.value }

-- how many playouts its totals take: one for each item in each round
abbrev pub cost_of : Key → ℕ
cost_of key = key.ask.rounds * menu_size key.about key.ask.view
