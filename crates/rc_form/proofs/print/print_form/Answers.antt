use Rattle.std.proofs.Common.{◌≡◌, sym, subst, rules}
use Rattle.rc_base.specs.Tree.{printed}
use Rattle.rc_form.specs.Form.{tree_of}
use Rattle.rc_form.specs.SameForm.{SpellsAgain}
use Rattle.rc_form.proofs.PrintedIsSpelled.{SpellsAgain-printed}
use Rattle.rc_form.proofs.print.print_form.Goals as goal

pub returns-in-Ok-clause-again : goal.returns-in-Ok-clause-again
returns-in-Ok-clause-again c =
    let tree = tree_of c.args.form.now in
    let bytes : c.push_form.new.out.items ≡ printed tree = search rules in
    subst (SpellsAgain tree) (sym bytes) (SpellsAgain-printed tree c.requires c.in-Ok.ensures.of_atoms)
