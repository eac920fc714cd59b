-- Lines as the definitions of house texts have them.
use Rattle.std.specs.Prelude.{Option, Some, None, option_map, List}
use Rattle.arrayvec.specs.ArrayVec.{ArrayVec}
use Rattle.rc_rules.specs.declared.bound.Bound.{Bound}
use Rattle.rc_rules.specs.declared.record.Pick.{Pick}
use Rattle.rc_rules.specs.Record.{pick_seen, ending_seen, score_seen, standing_seen}
use Rattle.rc_play_spec.specs.ItemBounds.{Bound as PureBound}
use Rattle.rc_play_spec.specs.Lines.{Line as PureLine, Marked, opening, chosen, shuffled, ending, scored, ranked}
use Rattle.rc_rules.specs.Bounds.{bounds_seen}
use Rattle.rc_text.specs.declared.lines.Line.{Line}
use Rattle.rc_text.specs.declared.lines.Line.TheVariants.{Opening, Chosen, Shuffled, Ending, Scored, Ranked}

abbrev pub line_seen : Line → PureLine
line_seen (Opening number deal seats) = opening number deal seats
line_seen (Chosen pick bounds) = chosen (pick_seen pick)
line_seen (Shuffled shuffles) = shuffled shuffles
line_seen (Ending stop turn) = ending (ending_seen stop) turn
line_seen (Scored score) = scored (score_seen score)
line_seen (Ranked standing) = ranked (standing_seen standing)

abbrev pub marks_seen : Line → Option (List PureBound)
marks_seen (Chosen pick bounds) = option_map bounds_seen bounds
marks_seen (Opening number deal seats) = None
marks_seen (Shuffled shuffles) = None
marks_seen (Ending stop turn) = None
marks_seen (Scored score) = None
marks_seen (Ranked standing) = None

abbrev pub marked_seen : Line → Marked
marked_seen line = (line_seen line, marks_seen line)

abbrev pub choice_seen : Pick × Option (ArrayVec Bound) → Marked
choice_seen choice = (chosen (pick_seen choice.0), option_map bounds_seen choice.1)

-- a choice has marks
abbrev pub IsTold : Line → Type 0
IsTold (Chosen pick (Some bounds)) = Unit {0}
IsTold (Chosen pick None) = ⊥
IsTold (Opening number deal seats) = Unit {0}
IsTold (Shuffled shuffles) = Unit {0}
IsTold (Ending stop turn) = Unit {0}
IsTold (Scored score) = Unit {0}
IsTold (Ranked standing) = Unit {0}

-- it isn't a choice
abbrev pub IsBare : Line → Type 0
IsBare (Chosen pick bounds) = ⊥
IsBare (Opening number deal seats) = Unit {0}
IsBare (Shuffled shuffles) = Unit {0}
IsBare (Ending stop turn) = Unit {0}
IsBare (Scored score) = Unit {0}
IsBare (Ranked standing) = Unit {0}
