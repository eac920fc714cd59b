use Rattle.std.proofs.Common.{ap, ◌∙◌, rules, SFits, w64}
use Rattle.std.specs.List.{list_all}
use Rattle.std.proofs.lemmas.Int.{to_z-of_z}
use Rattle.rc_base.specs.Numbers.{below}
use Rattle.rc_code.specs.declared.atoms.Comparator.TheVariants.{Equal}
use Rattle.rc_value.specs.Comparing.{suits}
use Rattle.rc_value.specs.declared.comparing.Own.TheVariants.{Size}
use Rattle.rc_value.specs.Scene.{scene_seen}
use Rattle.rc_value.proofs.ComparingLemmas.{each_held}
use Rattle.rc_value.proofs.comparing.each_has.Goals as goal

pub returns : goal.returns
returns c =
    let scene = scene_seen c.args.scene.now in
    let fits : SFits w64 c.args.count = search rules in
    let kept = to_z-of_z w64 c.args.count fits in
    λ bound at.
    c.over_suited.ensures ∙ ap (λ n. list_all (suits scene (record { own = Size c.args.name; how = Equal; against = n })) (below scene.known.sheet.players)) kept
    ∙ each_held scene c.args.name at bound c.args.count
