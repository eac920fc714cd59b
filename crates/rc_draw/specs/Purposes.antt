-- What the draws of a seat are for.
use Rattle.std.specs.Prelude.{ℕ}
use Rattle.rc_play_spec.specs.Draws.{picks, redraws, playout_picks, playout_shuffles, search_redraws, search_shuffles}
use Rattle.rc_draw.specs.declared.purpose.Purpose.{Purpose}
use Rattle.rc_draw.specs.declared.purpose.Purpose.TheVariants.{Pick, Redraw, PlayoutPick, PlayoutShuffle, SearchRedraw, SearchShuffle}

-- the number that parts the keys of draws for this from those for anything else
abbrev pub purpose_number : Purpose → ℕ
purpose_number Pick = picks
purpose_number Redraw = redraws
purpose_number PlayoutPick = playout_picks
purpose_number PlayoutShuffle = playout_shuffles
purpose_number SearchRedraw = search_redraws
purpose_number SearchShuffle = search_shuffles
