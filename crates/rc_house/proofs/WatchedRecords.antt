-- What the record of a match says of its log.
use Rattle.std.proofs.Common.{◌≡◌, ℕ, ◌<◌, length, Some, sym, ap, ◌∙◌, subst, arith}
use Rattle.rc_base.specs.Transcript.{Record}
use Rattle.rc_sheet_spec.specs.Sight.{IsInSight}
use Rattle.rc_sheet_spec.specs.WellFormed.{IsWellFormed}
use Rattle.rc_play_spec.specs.Shape.{shape_of}
use Rattle.rc_play_spec.specs.About.{About}
use Rattle.rc_play_spec.specs.Plan.{Plan}
use Rattle.rc_play_spec.specs.Keyed.{dealing_of, keyed_match}
use Rattle.rc_log_spec.specs.Laws.{AllCount}
use Rattle.rc_log_spec.specs.MatchLaws.{IsWatchable, RecordsTellViews, ChoicesHaveViews, MatchViewsCount}
use Rattle.rc_log_spec.specs.Views.{views_in}

-- an about keeps a well formed sheet in sight with its shape, and its turn limit is a word
pub watchable : (about kept counted : About) (turns : ℕ) → kept ≡ about → counted ≡ about → kept.shape ≡ shape_of kept.sheet → IsWellFormed kept.sheet →
    IsInSight kept.sheet → turns ≡ counted.turns → turns < 4294967296 → IsWatchable about
watchable about kept counted turns same same' shape well sight is le =
    record {
      shape = subst (λ (about : About). about.shape ≡ shape_of about.sheet) same shape;
      well = subst (λ (about : About). IsWellFormed about.sheet) same well;
      sight = subst (λ (about : About). IsInSight about.sheet) same sight;
      turns = let limit = ap (λ (about : About). about.turns) same' in omega (arith, is, limit, le);
    }

-- the views at the choices of the record count
pub views_count : (about : About) (plan : Plan) (m seat : ℕ) (r : Record) → IsWatchable about → RecordsTellViews → MatchViewsCount → keyed_match about plan m ≡ Some r →
    AllCount about.shape seat (views_in about (dealing_of r.deal) seat r.picks)
views_count about plan m seat r is tell count recorded = subst (AllCount about.shape seat) (tell about plan m seat r recorded) (count about plan m seat is)

-- and there is one for each of these
pub each_viewed : (about : About) (plan : Plan) (m seat : ℕ) (r : Record) → IsWatchable about → RecordsTellViews → ChoicesHaveViews → keyed_match about plan m ≡ Some r →
    length (views_in about (dealing_of r.deal) seat r.picks) ≡ length r.picks
each_viewed about plan m seat r is tell each recorded = ap length (sym (tell about plan m seat r recorded)) ∙ each about plan m seat r is recorded
