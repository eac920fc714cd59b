-- Records and standings as the definitions of transcripts have them.
use Rattle.std.specs.Prelude.{map}
use Rattle.rc_base.specs.Transcript.{Pick as PurePick, Ending, done, limit, Score as PureScore, Record, Standing as PureStanding}
use Rattle.rc_rules.specs.declared.record.Pick.{Pick}
use Rattle.rc_rules.specs.declared.record.Ended.{Ended}
use Rattle.rc_rules.specs.declared.record.Ended.TheVariants.{Done, Limit}
use Rattle.rc_rules.specs.declared.record.Score.{Score}
use Rattle.rc_rules.specs.declared.record.MatchRecord.{MatchRecord}
use Rattle.rc_rules.specs.declared.record.Standing.{Standing}

abbrev pub pick_seen : Pick → PurePick
pick_seen pick = record { seat = pick.seat; site = pick.site; item = pick.item; size = pick.size }

abbrev pub ending_seen : Ended → Ending
ending_seen Done = done
ending_seen Limit = limit

abbrev pub score_seen : Score → PureScore
score_seen score = record { player = score.player; score = score.score; points = score.points }

abbrev pub record_seen : MatchRecord → Record
record_seen r =
    record {
      number = r.number;
      deal = r.deal;
      seats = r.seats;
      picks = map pick_seen r.picks.items;
      shuffles = r.shuffles;
      ending = ending_seen r.stop;
      turn = r.turn;
      scores = map score_seen r.scores.items;
    }

abbrev pub standing_seen : Standing → PureStanding
standing_seen standing = record { place = standing.place; strategy = standing.strategy; points = standing.points }
