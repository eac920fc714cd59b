use Rattle.std.proofs.Common.{◌∙◌, ap, Some, option_map}
use Rattle.rc_base.specs.Deck.{no_group}
use Rattle.rc_deck.specs.Tree.{groups_in}
use Rattle.rc_resolve.specs.Reading.{plain}
use Rattle.rc_resolve.proofs.BuildLemmas.{branch_is}
use Rattle.rc_resolve.proofs.tree_reading.plain_branch.Goals as goal

pub returns-in-Some : goal.returns-in-Some
returns-in-Some g c =
    let none = c.new-in-Some.ensures.inner ∙ ap groups_in c.new.ensures.items in
    ap (λ b. Some b) (branch_is c.new-in-Some.result c.in-Some.value no_group c.new-in-Some.ensures.value none) ∙ ap (option_map plain) c.in-Some.ensures
