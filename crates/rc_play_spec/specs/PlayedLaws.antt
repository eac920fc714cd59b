-- What is played, as a text of either format; and statements of laws: that it is legal.
use Rattle.std.specs.Prelude.{◌≡◌, ℕ, Bool, true, false, List, [], None}
use Rattle.rc_sheet_spec.specs.Sight.{IsInSight}
use Rattle.rc_play_spec.specs.ItemBounds.{Bound}
use Rattle.rc_play_spec.specs.Naming.{legend_of}
use Rattle.rc_play_spec.specs.HouseText.{HouseText, Format, plain, naming, NamedText, text_in}
use Rattle.rc_play_spec.specs.Shape.{shape_of}
use Rattle.rc_play_spec.specs.About.{About}
use Rattle.rc_play_spec.specs.Plan.{Plan}
use Rattle.rc_play_spec.specs.House.{records_of, standings_of}
use Rattle.rc_play_spec.specs.Keyed.{choice_of, dealing_of, keyed_house_text}
use Rattle.rc_play_spec.specs.MatchLaws.{HasNumberedSites}
use Rattle.rc_play_spec.specs.Along.{judged, marks_of_text}
use Rattle.rc_play_spec.specs.Legal.{IsLegalText}

-- what a plan's keys make of its matches, as a value: their records, and the standings of these
abbrev pub played_text : About → Plan → HouseText
played_text about plan =
    let records = records_of about dealing_of (choice_of about) plan in
    record { matches = records; standings = standings_of plan records }

-- the marks that tell what the items of a legal text bind, one after the other over all matches
abbrev pub bounds_of : About → Plan → HouseText → List (List Bound)
bounds_of about plan t = marks_of_text about dealing_of plan t

-- a text as it is told in a format
abbrev pub told_in : (named : Bool) → About → Plan → HouseText → NamedText
told_in false about plan t = record { text = t; marks = [] }
told_in true about plan t = record { text = t; marks = bounds_of about plan t }

-- the format for an about: without marks, or with them and with the legend of its faces
abbrev pub format_by : (named : Bool) → About → Format
format_by false about = plain
format_by true about = naming (legend_of about.sheet about.shape)

-- the house text of a plan in either format
abbrev pub house_text_in : (named : Bool) → About → Plan → List ℕ
house_text_in named about plan = text_in (format_by named about) (told_in named about plan (played_text about plan))

-- without marks its bytes are the house text of the plan
abbrev pub HouseTextIsPlayed : Type 0
HouseTextIsPlayed = (about : About) (plan : Plan) → keyed_house_text about plan ≡ house_text_in false about plan

-- What is played is legal. Of the sheet it asks that choices are numbered in the order of the text and that it keeps the sight rule;
-- of the plan it asks nothing.
abbrev pub PlayedIsLegal : Type 0
PlayedIsLegal =
    (named : Bool) (about : About) (plan : Plan) → about.shape ≡ shape_of about.sheet → IsInSight about.sheet →
    HasNumberedSites about.sheet →
    IsLegalText about dealing_of plan named (told_in named about plan (played_text about plan))

-- and so the judge finds no illegal line in it
abbrev pub PlayedIsPassed : Type 0
PlayedIsPassed =
    (named : Bool) (head : ℕ) (about : About) (plan : Plan) → about.shape ≡ shape_of about.sheet →
    IsInSight about.sheet → HasNumberedSites about.sheet →
    judged about dealing_of plan head (told_in named about plan (played_text about plan)) ≡ None
