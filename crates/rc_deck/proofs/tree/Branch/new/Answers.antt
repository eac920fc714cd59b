use Rattle.std.proofs.Common.{◌≡◌, ◌∙◌, sym, ap, rules}
use Rattle.rc_deck.specs.Tree.{groups_in}
use Rattle.rc_deck.specs.declared.tree.Branch.{roll-Branch, out-Branch}
use Rattle.rc_deck.specs.declared.tree.Branch.TheViews.{the_lemmas}
use Rattle.rc_deck.proofs.TreeLemmas.{value_of_out, inner_of_out}
use Rattle.rc_deck.proofs.tree.Branch.new.Goals as goal

pub returns : goal.returns
returns c =
    let made = roll-Branch (record { value = c.args.value; groups = c.args.groups }) in
    let out : out-Branch made ≡ record { value = c.args.value; groups = c.args.groups } = search (rules, the_lemmas) in
    record {
      value = sym (value_of_out made) ∙ ap (λ b. b.value) out;
      inner = sym (inner_of_out made) ∙ ap (λ b. groups_in b.groups.items) out;
    }
