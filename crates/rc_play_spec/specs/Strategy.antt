-- What strategies choose: a function of the seat's view and of the seed of the seats, and of what keys give.
use Rattle.std.specs.Prelude.{ℕ, ◌%◌, max, ◌==◌, List, length, fold, slice_index, unwrap_or}
use Rattle.std.specs.List.{position_or_len}
use Rattle.rc_play_spec.specs.Menu.{menu_of}
use Rattle.rc_play_spec.specs.View.{View, view_scene}
use Rattle.rc_play_spec.specs.About.{About}
use Rattle.rc_play_spec.specs.Plan.{Strategy, scripted, random, rollout}
use Rattle.rc_play_spec.specs.Draws.{Draws, picks, drawn_for}

-- The total of each item of the menu, over so many rounds of playouts by a key and a seed: a function of the view.
abbrev pub Totals : Type 0
Totals = (rounds key seed : ℕ) → View → List ℕ

-- A strategy's item, by the seed of the seats and the view.
abbrev pub Choice : Type 0
Choice = Strategy → ℕ → View → ℕ

-- the item that a script takes at its seat's j-th decision, out of so many: the script's j-th number, or 0 past its end
abbrev pub scripted_item : List ℕ → ℕ → ℕ → ℕ
scripted_item script j size = slice_index script j % size

-- How many items the menu has, as far as the view says: as many as in each table that the view is redrawn to. The view of a decision
-- has a site.
abbrev pub menu_size : About → View → ℕ
menu_size about view = length (menu_of (view_scene about.sheet about.shape view) (unwrap_or view.control.site 0))

-- the place of the first of the largest
abbrev pub first_largest : List ℕ → ℕ
first_largest totals = position_or_len (λ total. total == fold max 0 totals) totals

-- A script gives its number for the seat's next decision, modulo the size of the menu, and 0 past its end. The key of a random
-- pick is made of the strategy's key, the seat, the seed and the turn count. A rollout takes the first of the largest totals.
abbrev pub choice_by : About → Draws → Totals → Choice
choice_by about draws totals (scripted numbers) seed view =
    scripted_item numbers (slice_index view.control.made view.seat) (menu_size about view)
choice_by about draws totals (random key) seed view =
    draws.pick key (drawn_for view.seat picks) seed view.control.turn (menu_size about view)
choice_by about draws totals (rollout rounds key) seed view = first_largest (totals rounds key seed view)
