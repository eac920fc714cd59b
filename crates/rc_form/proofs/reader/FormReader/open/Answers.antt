use Rattle.std.proofs.Common.{◌≡◌, ◌<◌, ◌≤◌, ◌∷◌, ◌++◌, [], length, reverse, sym, ap, ◌∙◌, rules}
use Rattle.std.proofs.lemmas.List.{length-reverse, reverse-append}
use Rattle.rc_form.specs.Form.{trees_of}
use Rattle.rc_form.specs.Read.{read}
use Rattle.rc_form.specs.Reader.{complete, pendings, innermost_first, done_of, stack_of}
use Rattle.rc_form.specs.declared.reader.OpenList.{OpenList}
use Rattle.rc_form.proofs.OpenLists.{open_list, length-pendings, is_wanted}
use Rattle.rc_form.proofs.ReadSteps.{read_opening, read_too_deep}
use Rattle.rc_form.proofs.reader.FormReader.open.Goals as goal

pub returns-then-len-ge-MOST_OPEN-clause-fault : goal.returns-then-len-ge-MOST_OPEN-clause-fault
returns-then-len-ge-MOST_OPEN-clause-fault c = λ ts.
    let reader = c.args.self.now in
    let many : 64 ≤ length (stack_of reader) =
    rw (length-pendings (innermost_first reader) reader.forms.items, length-reverse reader.open_lists.items)
    (search rules) in
    rw (c.at.ensures) (read_too_deep reader.want (done_of reader) (stack_of reader) c.args.at ts many)

pub returns-clause-took : goal.returns-clause-took
returns-clause-took c = λ ts.
    let reader = c.args.self.now in
    let stack = innermost_first reader in
    let forms = reader.forms.items in
    let few : length (stack_of reader) < 64 =
    rw (length-pendings stack forms, length-reverse reader.open_lists.items) (search rules) in
    let wanted = is_wanted reader.want stack forms (rw (length-reverse reader.open_lists.items) c.requires.reading) in
    let list : OpenList = record { from = c.args.at; start = c.len-2.result } in
    let more : c.push.new.self.items ≡ reader.open_lists.items ++ list ∷ [] = search rules in
    let opened = ap reverse more ∙ reverse-append reader.open_lists.items (list ∷ []) in
    read_opening reader.want (done_of reader) (stack_of reader) c.args.at ts wanted few
    ∙ open_list reader.want stack forms c.args.at c.len-2.result ts (search rules)
    ∙ ap (λ s. read reader.want (trees_of (complete s forms)) (pendings s forms) ts) (sym opened)
