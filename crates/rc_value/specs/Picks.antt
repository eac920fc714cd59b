-- Collections that are gathered, and what is taken of a collection.
use Rattle.std.specs.Prelude.{Bool, true, false, List, int_lt, Option}
use Rattle.rc_sheet_spec.specs.Sheet.{CollExpr, group_var, cards_in, filtered, union_of, known_in}
use Rattle.rc_play_spec.specs.Value.{Scene, best_of, int_more, worth}
use Rattle.rc_play_spec.specs.Ends.{first_of, last_of}
use Rattle.rc_play_spec.specs.Scene.{CardValue}
use Rattle.rc_value.specs.declared.loops.Which.{Which}
use Rattle.rc_value.specs.declared.loops.Which.TheVariants.{Top, Bottom, Max, Min}

-- whether the cards are gathered from others, and not those of one location or variable
abbrev pub is_gathered : CollExpr → Bool
is_gathered (group_var var) = false
is_gathered (cards_in loc) = false
is_gathered (filtered cards bound t) = true
is_gathered (union_of parts) = true
is_gathered (known_in loc) = true

abbrev pub picked_of : Scene CardValue → Which → List CardValue → Option CardValue
picked_of scene Top cards = last_of cards
picked_of scene Bottom cards = first_of cards
picked_of scene (Max points) cards = best_of int_more (worth scene points) cards
picked_of scene (Min points) cards = best_of int_lt (worth scene points) cards
