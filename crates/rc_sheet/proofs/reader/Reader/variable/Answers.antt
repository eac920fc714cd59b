use Rattle.std.proofs.Common.{◌<◌, length, ap, IfSome, subst, ◌∙◌, position, bytes_eq}
use Rattle.rc_sheet_spec.specs.Naming.{Naming}
use Rattle.rc_sheet.proofs.Numbers.{found, within}
use Rattle.rc_sheet.proofs.reader.Reader.variable.Goals as goal

pub returns-clause-number : goal.returns-clause-number
returns-clause-number c =
    let words = c.self.inside.names.vars.items in
    c.copied.ensures ∙ c.get.ensures.value
    ∙ found words c.self.inside.variables c.self.invariant.numbers c.of.result
    ∙ ap (λ word. position (bytes_eq word) words) (c.of.ensures ∙ c.to_word.ensures)
    ∙ ap (λ (naming : Naming). position (bytes_eq c.args.word.now) naming.names.vars) c.self.view_is

pub returns-clause-within : goal.returns-clause-within
returns-clause-within c =
    let words = c.self.inside.names.vars.items in
    subst (λ (naming : Naming). IfSome c.copied.result (λ number. number < length naming.names.vars)) c.self.view_is
    (within words c.of.result c.copied.result
    (c.copied.ensures ∙ c.get.ensures.value ∙ found words c.self.inside.variables c.self.invariant.numbers c.of.result))
