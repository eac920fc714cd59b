use Rattle.std.proofs.Common.{◌+◌, option_map, ap, ap₂, ◌∙◌, rules, SFits, w64}
use Rattle.std.proofs.lemmas.Int.{to_z-of_z}
use Rattle.rc_value.specs.Comparing.{compare, held_at}
use Rattle.rc_value.specs.Scene.{scene_seen}
use Rattle.rc_value.proofs.ComparingLemmas.{held_further}
use Rattle.rc_value.proofs.comparing.does_suit.Goals as goal

pub returns : goal.returns
returns c =
    let scene = scene_seen c.args.scene.now in
    let suited = c.args.suited in
    let held_fits : SFits w64 c.held_behind.result = search rules in
    let against_fits : SFits w64 suited.against = search rules in
    c.compare.ensures
    ∙ ap₂ (compare suited.how) (
    to_z-of_z w64 c.held_behind.result held_fits ∙ c.held_behind.ensures
    ∙ ap (λ first. held_at scene suited.own (option_map (λ at. at + c.args.player) first)) c.requires.first
    ∙ held_further scene suited.own c.args.player c.requires.there
    ) (to_z-of_z w64 suited.against against_fits)
