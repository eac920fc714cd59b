-- House texts as the definitions of transcripts have them, and the bytes that they stand for.
use Rattle.std.specs.Prelude.{ℕ, List, [], ◌∷◌, ◌++◌, map, flat_map, Vec}
use Rattle.std.specs.Global.{Global}
use Rattle.arrayvec.specs.ArrayVec.{ArrayVec}
use Rattle.rc_base.specs.Transcript.{house_text, standing_line}
use Rattle.rc_rules.specs.Record.{record_seen, standing_seen}
use Rattle.rc_rules.specs.declared.record.MatchRecord.{MatchRecord}
use Rattle.rc_play_spec.specs.HouseText.{HouseText as PureText, NamedText as PureNamed}
use Rattle.rc_play_spec.specs.TextParts.{record_told}
use Rattle.rc_rules.specs.Bounds.{match_bounds}
use Rattle.rc_text.specs.BoundSeen.{all_bounds, AreFor}
use Rattle.rc_rules.specs.declared.bound.Bound.{Bound}
use Rattle.rc_text.specs.declared.house.HouseText.{HouseText}
use Rattle.rc_text.specs.declared.house.NamedText.{NamedText}

-- the bytes of the whole text in the format that tells no marks
abbrev pub text_of : HouseText → List ℕ
text_of text = house_text (map record_seen text.matches.items) (map standing_seen text.standings.items)

-- the matches and the standings that it tells
abbrev pub house_text_seen : HouseText → PureText
house_text_seen text =
    record { matches = map record_seen text.matches.items; standings = map standing_seen text.standings.items }

-- with its marks, one after the other
abbrev pub named_seen : NamedText → PureNamed
named_seen named = record { text = house_text_seen named.text; marks = all_bounds named.bounds.items }

-- there is one list for each match, with an entry for each of its choices
abbrev pub Fits : NamedText → Type 0
Fits named = AreFor named.text.matches.items named.bounds.items

-- ---- part by part, where the marks stand in lists of matches

abbrev pub records_told : List (Vec (ArrayVec Bound) Global) → List MatchRecord → List ℕ
records_told bounds [] = []
records_told [] (r ∷ matches) = record_told [] (record_seen r) ++ records_told [] matches
records_told (b ∷ bounds) (r ∷ matches) = record_told (match_bounds b) (record_seen r) ++ records_told bounds matches

abbrev pub parts_of : HouseText → List (Vec (ArrayVec Bound) Global) → List ℕ
parts_of text bounds =
    records_told bounds text.matches.items ++ flat_map standing_line (map standing_seen text.standings.items)
