use Rattle.std.proofs.Common.{min, sym, ap, ◌∙◌}
use Rattle.rc_deck.specs.Tree.{groups_of}
use Rattle.rc_deck.specs.Product.{faces_of_groups}
use Rattle.rc_deck.proofs.PathLaws.{AreFaces-faces_of_groups, length-AreFaces}
use Rattle.rc_deck.proofs.counting.count_of.Goals as goal

pub returns-clause-counts : goal.returns-clause-counts
returns-clause-counts c =
    λ faces are. c.count_groups.ensures ∙ ap (min c.args.cap) (sym (length-AreFaces (groups_of c.args.tree.now) faces are))

pub returns-clause-listed : goal.returns-clause-listed
returns-clause-listed c =
    let groups = groups_of c.args.tree.now in
    let are = AreFaces-faces_of_groups groups in
    (faces_of_groups groups, are, c.count_groups.ensures ∙ ap (min c.args.cap) (sym (length-AreFaces groups (faces_of_groups groups) are)))
