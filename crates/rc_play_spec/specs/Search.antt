-- Searches: what the items of a decision are worth some decisions deep, in plays from redrawn tables, where each mover
-- takes what is best for it.
use Rattle.std.specs.Prelude.{ℕ, zero, suc, ◌+◌, ◌-◌, ◌*◌, ◌%◌, List, [], length, map, sum_by}
use Rattle.std.specs.Prelude.{slice_index, slice_index_or, Option, Some, None, unwrap_or}
use Rattle.rc_base.specs.Numbers.{below}
use Rattle.rc_play_spec.specs.View.{View}
use Rattle.rc_play_spec.specs.About.{About, menu_at}
use Rattle.rc_play_spec.specs.Draws.{key32, keyed, drawn_for, search_redraws, search_shuffles}
use Rattle.rc_play_spec.specs.Redraw.{redraw}
use Rattle.rc_play_spec.specs.Effects.{Dealing}
use Rattle.rc_play_spec.specs.Step.{Config, Stop, decide, is_done, is_limit}
use Rattle.rc_play_spec.specs.Stop.{Stopped}
use Rattle.rc_play_spec.specs.Decision.{at_site, choose}
use Rattle.rc_play_spec.specs.Play.{stop_behind}
use Rattle.rc_play_spec.specs.Scores.{scores_of, rank_points}
use Rattle.rc_play_spec.specs.Strategy.{menu_size, first_largest}

-- in whose place of a plan's strategies a search plays, how many decisions deep it looks, over how many rounds, and by
-- which key
pub record Rival : Type 0 where
  pub strategy : ℕ
  pub depth : ℕ
  pub rounds : ℕ
  pub key : ℕ

-- The shuffles on the way from the root of a round are counted from 0, modulo 2^48.
abbrev pub one_shuffle_more : ℕ → ℕ
one_shuffle_more j = (j + 1) % 281474976710656

abbrev pub search_dealing : (key seat seed round : ℕ) → Dealing ℕ
search_dealing key seat seed round =
    record {
      order = λ j size. keyed.order key (drawn_for seat search_shuffles) seed (round * 281474976710656 + j) size;
      next = λ j size. one_shuffle_more j;
    }

-- all players' rank points where a match stands
abbrev pub all_points : About → Config → List ℕ
all_points about c = map (rank_points about.sheet (scores_of about c.table c.control)) (below about.sheet.players)

-- of lists of rank points the first one of those in which a player has the most
abbrev pub best_for : ℕ → List (List ℕ) → List ℕ
best_for player lists = slice_index_or lists (first_largest (map (λ points. slice_index points player) lists)) []

-- what holds of a stop; a match always comes to one
abbrev pub at_stop : {A : Type 0} → A → (Stop → Config → ℕ → A) → Option (Stopped ℕ) → A
at_stop none follow None = none
at_stop none follow (Some at) = follow at.stop at.config at.dealer

module _ (about : About) (dealing : Dealing ℕ) where
  -- the next stop behind an item of a decision, before which so many shuffles were made
  abbrev pub next_behind : Config → ℕ → ℕ → Option (Stopped ℕ)
  next_behind c made x = stop_behind about dealing (choose about dealing made x c)

  -- What a stop is worth to each player, so many decisions deep: at an end, and where no decision is left, the rank
  -- points there, and at a decision what the mover's best item leads to.
  abbrev pub worth : ℕ → Stop → Config → ℕ → List ℕ
  worth depth is_done c made = all_points about c
  worth depth is_limit c made = all_points about c
  worth zero (decide seat site) c made = all_points about c
  worth (suc depth) (decide seat site) c made =
      let items = below (length (menu_at about site c.table c.control)) in
      best_for seat (map (λ x. at_stop [] (worth depth) (next_behind c made x)) items)

  -- how many items that tries
  abbrev pub tried : ℕ → Stop → Config → ℕ → ℕ
  tried depth is_done c made = 0
  tried depth is_limit c made = 0
  tried zero (decide seat site) c made = 0
  tried (suc depth) (decide seat site) c made =
      let items = below (length (menu_at about site c.table c.control)) in
      length (menu_at about site c.table c.control)
      + sum_by (λ x. at_stop 0 (tried depth) (next_behind c made x)) items

module _ (about : About) (rival : Rival) (seed : ℕ) (view : View) where
  -- the shuffles of a round, and the table from which it starts, at the site of the decision
  abbrev pub dealing_in : ℕ → Dealing ℕ
  dealing_in round = search_dealing rival.key view.seat seed round

  abbrev pub root_of : ℕ → Config
  root_of round =
      at_site about
      (redraw about.shape view (key32 rival.key (drawn_for view.seat search_redraws) seed round))
      view.control

  -- what an item is worth to the seat in a round
  abbrev pub gain : ℕ → ℕ → ℕ
  gain round x =
      slice_index
      (at_stop []
      (worth about (dealing_in round) (rival.depth - 1))
      (next_behind about (dealing_in round) (root_of round) 0 x))
      view.seat

  -- and over all rounds
  abbrev pub total : ℕ → ℕ
  total x = sum_by (λ round. gain round x) (below rival.rounds)

  -- the totals of the menu's items
  abbrev pub totals : List ℕ
  totals = map total (below (menu_size about view))

  -- the item that is chosen
  abbrev pub searched : ℕ
  searched = first_largest totals

  -- how many items a search tries that leaves none out
  abbrev pub plain_steps : ℕ
  plain_steps =
      let stop = decide view.seat (unwrap_or view.control.site 0) in
      sum_by (λ round. tried about (dealing_in round) rival.depth stop (root_of round) 0) (below rival.rounds)
