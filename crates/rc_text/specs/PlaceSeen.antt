-- Places in a text as the definitions of house texts have them, with the marks so far.
use Rattle.std.specs.Prelude.{◌≡◌, List, [], ◌++◌, length, map}
use Rattle.rc_base.specs.Transcript.{Record}
use Rattle.rc_rules.specs.Record.{record_seen, standing_seen}
use Rattle.rc_play_spec.specs.ItemBounds.{Bound as PureBound}
use Rattle.rc_play_spec.specs.Reading.{Place as PurePlace, headed, playing, told, stopped, scoring, ranking}
use Rattle.rc_play_spec.specs.Reading.{Stand, inside}
use Rattle.rc_rules.specs.Bounds.{match_bounds}
use Rattle.rc_text.specs.BoundSeen.{all_bounds, AreFor}
use Rattle.rc_text.specs.declared.places.Matches.{Matches}
use Rattle.rc_text.specs.declared.places.OpenMatch.{OpenMatch}
use Rattle.rc_text.specs.declared.places.Progress.{Progress}
use Rattle.rc_text.specs.declared.places.Progress.TheVariants.{Headed, Playing, Told, Stopped, Scoring, Ranking}

abbrev pub place_seen : Progress → PurePlace
place_seen Headed = headed
place_seen (Playing before played) = playing (map record_seen before.records.items) (record_seen played.record)
place_seen (Told before played) = told (map record_seen before.records.items) (record_seen played.record)
place_seen (Stopped before played) = stopped (map record_seen before.records.items) (record_seen played.record)
place_seen (Scoring before played) = scoring (map record_seen before.records.items) (record_seen played.record)
place_seen (Ranking matches standings) =
    ranking (map record_seen matches.records.items) (map standing_seen standings.items)

-- the marks of closed matches, of an open one, and of both
abbrev pub marks_of : Matches → List (List PureBound)
marks_of matches = all_bounds matches.bounds.items

abbrev pub open_marks : OpenMatch → List (List PureBound)
open_marks played = match_bounds played.bounds

abbrev pub marks_before : Matches → OpenMatch → List (List PureBound)
marks_before before played = marks_of before ++ open_marks played

abbrev pub marks_with : Progress → List (List PureBound)
marks_with Headed = []
marks_with (Playing before played) = marks_before before played
marks_with (Told before played) = marks_before before played
marks_with (Stopped before played) = marks_before before played
marks_with (Scoring before played) = marks_before before played
marks_with (Ranking matches standings) = marks_of matches

abbrev pub stand_seen : Progress → Stand
stand_seen place = inside (place_seen place) (marks_with place)

-- an open match behind these, and behind the marks of these
abbrev pub open_stand : List Record → List (List PureBound) → OpenMatch → Stand
open_stand before marks played = inside (playing before (record_seen played.record)) (marks ++ open_marks played)

-- There is one list for each match, with an entry for each of its choices.
abbrev pub AreFit : Matches → Type 0
AreFit matches = AreFor matches.records.items matches.bounds.items

abbrev pub IsFit : OpenMatch → Type 0
IsFit played = length played.bounds.items ≡ length played.record.picks.items

abbrev pub StandsFit : Progress → Type 0
StandsFit Headed = Unit {0}
StandsFit (Playing before played) = AreFit before × IsFit played
StandsFit (Told before played) = AreFit before × IsFit played
StandsFit (Stopped before played) = AreFit before × IsFit played
StandsFit (Scoring before played) = AreFit before × IsFit played
StandsFit (Ranking matches standings) = AreFit matches
