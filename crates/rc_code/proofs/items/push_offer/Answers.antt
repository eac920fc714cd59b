use Rattle.std.proofs.Common.{◌≡◌, ◌-◌, ◌∷◌, length, ◌∙◌, arith}
use Rattle.rc_ast.specs.Items.{alts_seen}
use Rattle.rc_code.specs.Instruction.{end_body}
use Rattle.rc_code.specs.Compiled.{alts_code}
use Rattle.rc_code.proofs.ListLemmas.{grown, filled, same_offer}
use Rattle.rc_code.proofs.items.push_offer.Goals as goal

pub returns-in-Ok-copy_offers : goal.returns-in-Ok-copy_offers
returns-in-Ok-copy_offers c =
    let old = c.args.list.now.items in
    let more = c.push_inside_choice.new.list.items in
    let code = alts_code (alts_seen c.args.alts.now.items) in
    let here = c.len-at.ensures ∙ c.args.list.now.ok.0 in
    let there = c.len.ensures ∙ c.push_inside_choice.new.list.ok.0 in
    let many = grown old more (end_body ∷ code) c.in-Ok.ensures.code in
    let inside : c.len.result - c.len-at.result - 1 ≡ length code = omega (arith, many, here, there) in
    let one = same_offer c.args.site _ _ _ _ _ _ c.in-Ok-copy_offers.ensures c.in-Ok.ensures.blocks inside in
    filled old more c.write.new.list.items code end_body _ _ c.len-at.result c.in-Ok.ensures.code here c.write.ensures one
