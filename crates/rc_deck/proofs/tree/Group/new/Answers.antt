use Rattle.std.proofs.Common.{◌≡◌, ◌∙◌, sym, ap, rules}
use Rattle.rc_deck.specs.Tree.{branches_in}
use Rattle.rc_deck.specs.declared.tree.Group.{roll-Group, out-Group}
use Rattle.rc_deck.specs.declared.tree.Branch.TheViews.{the_lemmas}
use Rattle.rc_deck.proofs.TreeLemmas.{attr_of_out, branches_of_out}
use Rattle.rc_deck.proofs.tree.Group.new.Goals as goal

pub returns : goal.returns
returns c =
    let made = roll-Group (record { attr = c.args.attr; values = c.args.values }) in
    let out : out-Group made ≡ record { attr = c.args.attr; values = c.args.values } = search (rules, the_lemmas) in
    record {
      attr = sym (attr_of_out made) ∙ ap (λ g. g.attr) out;
      branches = sym (branches_of_out made) ∙ ap (λ g. branches_in g.values.items) out;
    }
