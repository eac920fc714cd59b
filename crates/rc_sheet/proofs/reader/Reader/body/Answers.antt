use Rattle.std.proofs.Common.{◌≡◌, ◌∙◌, sym, length}
use Rattle.std.proofs.lemmas.Bool.{eq-eqb, eqb-true, false≢true}
use Rattle.rc_sheet.proofs.ItemLemmas.{body_read, body_alone}
use Rattle.rc_sheet.proofs.reader.Reader.body.Goals as goal

pub returns-then-is_empty : goal.returns-then-is_empty
returns-then-is_empty c =
    let front = c.in-Some.items.now in
    let none : length front ≡ 0 = eqb-true _ _ (sym c.if-is_empty.ensures) in
    body_alone c.args.self.now c.args.parts.now front c.in-Some.scoring.now c.in-Some.ensures.cases.0 none

pub returns : goal.returns
returns c =
    let front = c.in-Some.items.now in
    let last = c.in-Some.scoring.now in
    rw (← body_read c.args.self.now c.args.parts.now front last c.in-Some.ensures.cases.0
    (λ none. false≢true (c.if-is_empty.ensures ∙ eq-eqb _ _ none))) c.items_and_score.ensures
