use Rattle.std.proofs.Common.{◌≡◌, ℤ, [], sym, ap, ◌∙◌, rules, SFits, w64, arith}
use Rattle.std.proofs.lemmas.Grind.{common_steps}
use Rattle.std.proofs.lemmas.Int.{to_z-of_z}
use Rattle.rc_play_spec.specs.Value.{test_value}
use Rattle.rc_play_spec.specs.About.{scene_at}
use Rattle.rc_rules.specs.Control.{frames_seen}
use Rattle.rc_value.specs.Scene.{scene_seen}
use Rattle.rc_code.specs.declared.flat.FlatTest.TheVariants.{EachHas}
use Rattle.rc_code.specs.FlatMeaning.{flat_meant}
use Rattle.rc_value.proofs.scoring.code_has_ended.Goals as goal

pub returns-in-Some-EachHas : goal.returns-in-Some-EachHas
returns-in-Some-EachHas c =
    let it = c.in-Some-EachHas in
    let each = λ (count : ℤ). EachHas it.field-0-0 it.name it.field-0-2 count in
    let seen = scene_seen c.with_current-scene.result in
    let scene = scene_at c.args.about.now c.args.table.now.table (frames_seen c.args.control.now.frames.items) in
    let here : seen ≡ scene = grind (arith, common_steps) in
    let fits : SFits w64 it.count = search rules in
    let kept = to_z-of_z w64 it.count fits in
    c.each_has.ensures it.field-0-0 it.field-0-2 ∙ ap (λ count. test_value seen [] (flat_meant (each count))) kept
    ∙ ap (λ s. test_value s [] (flat_meant (each it.count))) here
    ∙ ap (λ f. test_value scene [] (flat_meant f)) (sym it.field-0-is) ∙ ap (test_value scene []) it.ensures.same
