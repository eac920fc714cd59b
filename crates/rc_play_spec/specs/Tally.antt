-- Rollouts: what the items of a decision gain in plays from redrawn tables, by what keys give.
use Rattle.std.specs.Prelude.{ℕ, ◌+◌, ◌*◌, ◌%◌, List, length, map, sum_by, Option, Some, None}
use Rattle.rc_base.specs.Numbers.{below}
use Rattle.rc_play_spec.specs.View.{View}
use Rattle.rc_play_spec.specs.About.{About, menu_at}
use Rattle.rc_play_spec.specs.Draws.{key32, keyed, redraws, playout_picks, playout_shuffles, drawn_for}
use Rattle.rc_play_spec.specs.Redraw.{redraw}
use Rattle.rc_play_spec.specs.Effects.{Dealing}
use Rattle.rc_play_spec.specs.Step.{Config}
use Rattle.rc_play_spec.specs.Decision.{at_site, choose}
use Rattle.rc_play_spec.specs.Play.{Chooser, Played, from_stop, stop_behind, played_on}
use Rattle.rc_play_spec.specs.Scores.{scores_of, rank_points}
use Rattle.rc_play_spec.specs.Strategy.{Totals, menu_size}

-- what a rollout is asked: how many rounds, by which key and seed of the seats, for which view
pub record Ask : Type 0 where
  pub rounds : ℕ
  pub key : ℕ
  pub seed : ℕ
  pub view : View

-- the second number of the keys of an ask
abbrev pub use_of : Ask → ℕ → ℕ
use_of ask purpose = drawn_for ask.view.seat purpose

-- the number of the j-th draw of the playout of item x in a round
abbrev pub draw_number : ℕ → ℕ → ℕ → ℕ
draw_number round x j = round * 281474976710656 + x * 4294967296 + j

-- picks and shuffles of a playout are counted together, from 0, modulo 2^32
abbrev pub one_draw_more : ℕ → ℕ
one_draw_more j = (j + 1) % 4294967296

-- Shuffles and picks of a playout: its state is the count of its draws.
abbrev pub playout_dealing : Ask → ℕ → ℕ → Dealing ℕ
playout_dealing ask round x =
    record {
      order = λ j size. keyed.order ask.key (use_of ask playout_shuffles) ask.seed (draw_number round x j) size;
      next = λ j size. one_draw_more j;
    }

abbrev pub playout_chooser : About → Ask → ℕ → ℕ → Chooser ℕ
playout_chooser about ask round x seat site table control j = (
  keyed.pick ask.key (use_of ask playout_picks) ask.seed (draw_number round x j)
      (length (menu_at about site table control)),
  one_draw_more j,
)

-- the redrawn table of a round, at the site of the decision
abbrev pub redrawn_at : About → Ask → ℕ → Config
redrawn_at about ask round =
    at_site about (redraw about.shape ask.view (key32 ask.key (use_of ask redraws) ask.seed round)) ask.view.control

-- the play on from there, with item x chosen first
abbrev pub playout : About → Ask → ℕ → ℕ → Option (Played ℕ)
playout about ask round x =
    let dealing = playout_dealing ask round x in
    from_stop (played_on about dealing (playout_chooser about ask round x) about.turns)
    (stop_behind about dealing (choose about dealing 0 x (redrawn_at about ask round)))

-- the rank points of the seat at its end
abbrev pub gain_of : About → ℕ → Option (Played ℕ) → ℕ
gain_of about seat None = 0
gain_of about seat (Some p) = rank_points about.sheet (scores_of about p.table p.control) seat

-- what an item gains over all rounds
abbrev pub total : About → Ask → ℕ → ℕ
total about ask x = sum_by (λ round. gain_of about ask.view.seat (playout about ask round x)) (below ask.rounds)

-- the totals of the menu's items
abbrev pub tally : About → Ask → List ℕ
tally about ask = map (total about ask) (below (menu_size about ask.view))

abbrev pub tallied : About → Totals
tallied about rounds key seed view = tally about (record { rounds = rounds; key = key; seed = seed; view = view })
