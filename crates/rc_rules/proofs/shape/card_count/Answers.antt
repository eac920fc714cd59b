use Rattle.std.proofs.Common.{arith}
use Rattle.rc_deck.specs.Tree.{groups_of}
use Rattle.rc_deck.specs.Product.{faces_of_groups}
use Rattle.rc_deck.proofs.PathLaws.{AreFaces-faces_of_groups, length-AreFaces}
use Rattle.rc_rules.proofs.shape.card_count.Goals as goal

pub returns : goal.returns
returns c =
    let groups = groups_of c.args.tree.now in
    let are = AreFaces-faces_of_groups groups in
    let counted = c.count_of.ensures.counts (faces_of_groups groups) are in
    let same = length-AreFaces groups (faces_of_groups groups) are in
    let few = c.requires in
    omega (arith, counted, same, few)
