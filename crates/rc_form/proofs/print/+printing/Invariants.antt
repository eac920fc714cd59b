use Rattle.std.proofs.Common.{◌≡◌, ◌++◌, drop}
use Rattle.rc_base.specs.Tree.{printed_behind}
use Rattle.rc_form.specs.Form.{trees_of, packed}
use Rattle.rc_form.specs.SameForm.{AreOfAtoms}
use Rattle.rc_form.proofs.print.+printing.Given as goal

-- what is printed and what is left are the whole
abbrev pub invariant-push_parts-loop-form : goal.invariant-push_parts-loop-form
invariant-push_parts-loop-form l =
    record {
      bytes : l.out.items ++ printed_behind (packed (trees_of (drop l.form-index l.others))) ≡ l.initial.out.items ++ printed_behind (packed (trees_of l.others));
      of_atoms : AreOfAtoms (packed (trees_of (drop l.form-index l.others))) → AreOfAtoms (packed (trees_of l.others));
    }
