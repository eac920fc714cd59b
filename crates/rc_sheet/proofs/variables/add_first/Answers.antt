use Rattle.std.proofs.Common.{sym, ap, ◌∙◌, Some, cond, is_some}
use Rattle.std.specs.BTreeMap.{get, is_at}
use Rattle.rc_sheet.proofs.Numbers.{order, one_more, one_again}
use Rattle.rc_sheet.proofs.variables.add_first.Goals as goal

pub returns-then-contains_key : goal.returns-then-contains_key
returns-then-contains_key c words numbers is =
    one_again words c.args.numbers.now c.args.word numbers
    (ap (λ bytes. is_some (get order c.args.numbers.now bytes)) (sym c.of-word.ensures)
    ∙ sym c.contains_key.ensures ∙ c.if-contains_key.true)

pub returns : goal.returns
returns c words numbers is =
    one_more words c.args.numbers.now c.insert.new.self c.args.word c.args.number numbers is
    (ap (λ bytes. is_some (get order c.args.numbers.now bytes)) (sym c.of-word.ensures)
    ∙ sym c.contains_key.ensures ∙ c.if-contains_key.false)
    (λ other. c.in_ok-insert.ensures.updates.0 other
    ∙ ap (λ bytes. cond (is_at (order bytes) other) (Some c.args.number) (get order c.args.numbers.now other)) c.of-word.ensures)
