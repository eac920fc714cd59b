use Rattle.std.proofs.Common.{◌≡◌, ◌<◌, ◌≤◌, length, slice_index_or, rules, sym, ◌∙◌, arith}
use Rattle.std.proofs.lemmas.Grind.{common_steps}
use Rattle.rc_text.proofs.Parts.{told_is, told_none}
use Rattle.rc_text.proofs.bounds.bounds_told.Goals as goal

pub returns-in-Some : goal.returns-in-Some
returns-in-Some c =
    let a = c.in-Some.ensures.lookup in
    let told = c.args.told.now in
    let less : c.args.place < length told = search rules in
    let is : c.in-Some.bounds.now ≡ slice_index_or told c.args.place c.in-Some.bounds.now = search rules in
    c.deref.ensures.value ∙ told_is told c.args.place c.in-Some.bounds.now less is

pub returns-in-None : goal.returns-in-None
returns-in-None c =
    let a = c.in-None.ensures.lookup in
    let le : length c.args.told.now ≤ c.args.place = grind (arith, common_steps) in
    sym (told_none c.args.told.now c.args.place le)
