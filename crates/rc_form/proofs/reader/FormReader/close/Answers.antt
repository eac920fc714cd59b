use Rattle.std.proofs.Common.{◌∷◌, ◌+◌, [], reverse, take, drop, sym, ap, ◌∙◌}
use Rattle.std.proofs.lemmas.List.{reverse-append}
use Rattle.rc_base.specs.Token.{closing}
use Rattle.rc_base.specs.Tree.{list}
use Rattle.rc_form.specs.Form.{trees_of, packed}
use Rattle.rc_form.specs.Read.{read, read_with}
use Rattle.rc_form.specs.Reader.{complete, pendings}
use Rattle.rc_form.proofs.ReadSteps.{read_closing}
use Rattle.rc_form.proofs.reader.FormReader.close.Goals as goal

pub returns-in-Ok-put-clause-took : goal.returns-in-Ok-put-clause-took
returns-in-Ok-put-clause-took c = λ ts.
    let want = c.args.self.now.want in
    let at = c.args.at in
    let forms = c.args.self.now.forms.items in
    let inner = c.in-Some.inner in
    let outer = reverse c.pop.new.self.items in
    let before = take inner.start forms in
    let parts = trees_of (drop inner.start forms) in
    let opened = ap reverse c.in-Some.ensures.items ∙ reverse-append c.pop.new.self.items (inner ∷ []) in
    let tree = c.list_form.ensures
    ∙ ap (λ parts. list (packed (trees_of parts)) inner.from (at + 1)) (c.into_bump_slice.ensures ∙
    c.in-Ok.ensures.tail) in
    let behind = c.split_off.new.self.items in
    ap (λ stack. read want (trees_of (complete stack forms)) (pendings stack forms) (closing at ∷ ts)) opened
    ∙ read_closing want (trees_of (complete outer before)) (record { from = inner.from; parts = parts })
    (pendings outer before) at ts
    ∙ ap
    (λ forms. read_with want (trees_of (complete outer forms)) (pendings outer forms)
    (list (packed parts) inner.from (at + 1)) ts)
    (sym c.in-Ok.ensures.items)
    ∙ ap (λ tree. read_with want (trees_of (complete outer behind)) (pendings outer behind) tree ts) (sym tree)
    ∙ c.in-Ok-put.ensures.took ts
