use Rattle.std.specs.Prelude.{string_bytes}
use Rattle.std.proofs.Common.{ap, ◌∙◌, ◌++◌}
use Rattle.rc_base.specs.Transcript.{line}
use Rattle.rc_view.specs.declared.sight.Sight.{Sight}
use Rattle.rc_view.specs.Seen.{sight_seen}
use Rattle.rc_log_spec.specs.Lines.{place_text}
use Rattle.rc_seatlog.proofs.WriteLemmas.{places_step}
use Rattle.rc_seatlog.proofs.write.write_places.Goals as goal

pub loop-loc-preserved : goal.loop-loc-preserved
loop-loc-preserved c =
    places_step (string_bytes c.args.out.now) (string_bytes c.loop-loc.out) (string_bytes c.write_place.new.out) c.args.sights.now c.loop-loc.loc c.index-sights-loc.result
    c.loop-loc-test.true c.loop-loc.invariant
    (c.in_ok-write_place.ensures
    ∙ ap (λ (sight : Sight). string_bytes c.loop-loc.out ++ line (place_text c.loop-loc.loc (sight_seen sight))) c.index-sights-loc.is)
