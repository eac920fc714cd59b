use Rattle.std.proofs.Common.{◌≡◌, length, sym, ap, ◌∙◌, arith}
use Rattle.std.proofs.lemmas.Grind.{common_steps}
use Rattle.std.specs.List.{refill}
use Rattle.rc_sheet_spec.specs.Sheet.{player_class, team_class}
use Rattle.rc_play_spec.specs.Owners.{current_in}
use Rattle.rc_play_spec.specs.Effects.{turned}
use Rattle.rc_rules.specs.Control.{frames_seen}
use Rattle.rc_value.proofs.Innermost.{turned_current}
use Rattle.rc_value.proofs.cycling.turn_round.Goals as goal

pub returns-clause-stands : goal.returns-clause-stands
returns-clause-stands c =
    let old = c.args.frames.now.items in
    let sheet = c.args.context.now.about.now.sheet in
    let stands = c.requires.stands in
    let e : frames_seen (refill (length old) old c.turn_innermost.new.frames) ≡ turned (frames_seen old) = grind (arith, common_steps) in (
      stands.0,
      (
        stands.1.0 ∙ sym (ap (current_in sheet player_class) e ∙ turned_current sheet player_class (frames_seen old)),
        stands.1.1 ∙ sym (ap (current_in sheet team_class) e ∙ turned_current sheet team_class (frames_seen old)),
      ),
      stands.2,
    )
