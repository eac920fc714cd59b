use Rattle.std.proofs.Common.{length, sym, ap, subst, ◌∙◌}
use Rattle.rc_form.specs.Form.{trees_of}
use Rattle.rc_form.specs.Read.{read}
use Rattle.rc_form.specs.Reader.{complete, pendings, AreWithin, innermost_first}
use Rattle.rc_form.proofs.OpenLists.{put_form, within_put}
use Rattle.rc_form.proofs.reader.FormReader.put.Goals as goal

pub returns-clause-took : goal.returns-clause-took
returns-clause-took c = λ ts.
    let reader = c.args.self.now in
    let stack = innermost_first reader in
    put_form reader.want stack reader.forms.items c.args.form ts c.requires
    ∙ ap (λ forms. read reader.want (trees_of (complete stack forms)) (pendings stack forms) ts)
    (sym c.in_ok-push.ensures.items)

pub returns-clause-in_order : goal.returns-clause-in_order
returns-clause-in_order c =
    let reader = c.args.self.now in
    let stack = innermost_first reader in
    subst (λ forms. AreWithin (length forms) stack) (sym c.in_ok-push.ensures.items)
    (within_put stack reader.forms.items c.args.form c.requires)
