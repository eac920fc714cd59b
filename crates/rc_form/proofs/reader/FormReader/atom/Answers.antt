use Rattle.std.proofs.Common.{◌≡◌, ◌<◌, ◌≤◌, ◌+◌, length, drop, rules, ap, ◌∙◌, sym, arith}
use Rattle.rc_form.proofs.Tokens.{taken_front, parts-atom_front, tokens_at-atom}
use Rattle.rc_form.proofs.ReadSteps.{read_atom, read_atom_long}
use Rattle.std.proofs.lemmas.List.{length-reverse}
use Rattle.rc_base.specs.Tree.{word}
use Rattle.rc_form.specs.Form.{tree_of}
use Rattle.rc_form.specs.Read.{read_with}
use Rattle.rc_form.specs.Lexer.{tokens_at}
use Rattle.rc_form.specs.Reader.{done_of, stack_of, innermost_first}
use Rattle.rc_form.proofs.OpenLists.{length-pendings}
use Rattle.rc_base.specs.Token.{atom_front}
use Rattle.rc_form.proofs.reader.FormReader.atom.Goals as goal

pub of-word-requires-clause-parts : goal.of-word-requires-clause-parts
of-word-requires-clause-parts c =
    let bytes = drop c.args.from c.args.text.now in
    rw (taken_front bytes c.args.from c.atom_end-to.result c.atom_end-to.ensures.reach) (parts-atom_front bytes)

pub returns-in-Ok-clause-took : goal.returns-in-Ok-clause-took
returns-in-Ok-clause-took c =
    let reader = c.args.self.now in
    let reach = c.atom_end-to.ensures.reach in
    let front = atom_front (drop c.args.from c.args.text.now) in
    let done = done_of reader in
    let stack = stack_of reader in
    let behind = tokens_at c.args.text.now (c.args.from + length front) in
    let inside : 0 < length stack =
    rw (length-pendings (innermost_first reader) reader.forms.items, length-reverse reader.open_lists.items)
    (search rules) in
    let short : length front ≤ 64 = omega arith in
    let bytes : c.of-word.result ≡ front = c.of-word.ensures ∙ taken_front (drop c.args.from c.args.text.now) c.args.from c.atom_end-to.result reach in
    let tree : tree_of c.atom_form.result ≡ word front c.args.from (c.args.from + length front) =
    c.atom_form.ensures ∙ ap (λ w. word w c.args.from c.atom_end-to.result) bytes ∙ ap (word front c.args.from) reach in
    rw (tokens_at-atom c.args.text.now c.args.from c.requires.inside c.requires.part, reach)
    (read_atom reader.want done stack c.args.from front behind inside short ∙ ap (λ t. read_with reader.want done stack t behind) (sym tree) ∙ c.in-Ok.ensures.took behind)

pub returns-then-to-from-gt-MOST_BYTES-clause-fault : goal.returns-then-to-from-gt-MOST_BYTES-clause-fault
returns-then-to-from-gt-MOST_BYTES-clause-fault c =
    let reader = c.args.self.now in
    let front = atom_front (drop c.args.from c.args.text.now) in
    let inside : 0 < length (stack_of reader) =
    rw (length-pendings (innermost_first reader) reader.forms.items, length-reverse reader.open_lists.items)
    (search rules) in
    let long : 64 < length front = omega arith in
    rw (
      c.at-then-to-from-gt-MOST_BYTES.ensures,
      tokens_at-atom c.args.text.now c.args.from c.requires.inside c.requires.part,
    )
    (read_atom_long reader.want (done_of reader) (stack_of reader) c.args.from front
    (tokens_at c.args.text.now (c.args.from + length front)) inside long)
