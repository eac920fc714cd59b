use Rattle.std.proofs.Common.{◌≡◌, ℕ, ◌+◌, Result, Ok, Err, sym, subst}
use Rattle.std.specs.Result.{IfOk, OnOk}
use Rattle.std.proofs.lemmas.List.{length-reverse}
use Rattle.rc_form.specs.Reader.{done_of, stack_of, innermost_first}
use Rattle.rc_form.proofs.OpenLists.{is_wanted}
use Rattle.rc_form.proofs.ReadSteps.{read_odd}
use Rattle.rc_form.specs.Lexer.{tokens_at}
use Rattle.rc_form.proofs.Tokens.{tokens_at-opening, tokens_at-closing, tokens_at-odd}
use Rattle.rc_form.proofs.reader.FormReader.take.Goals as goal

-- what holds of the only value holds of the value
IfOk-at : {E : Type 0} (r : Result ℕ E) (n : ℕ) (P : ℕ → Type 0) → IfOk r (λ x. x ≡ n) → OnOk r (P n) → IfOk r P
IfOk-at (Ok x) n P only holds = subst P (sym only) holds
IfOk-at (Err e) n P only holds = tt

pub returns-then-byte-eq40-clause-fault : goal.returns-then-byte-eq40-clause-fault
returns-then-byte-eq40-clause-fault c =
    rw (tokens_at-opening c.args.text.now c.args.at c.requires.inside c.if-byte-eq40.true)
    (c.open.ensures.fault (tokens_at c.args.text.now (c.args.at + 1)))

pub returns-then-byte-eq41-clause-fault : goal.returns-then-byte-eq41-clause-fault
returns-then-byte-eq41-clause-fault c =
    rw (tokens_at-closing c.args.text.now c.args.at c.requires.inside c.if-byte-eq41.true)
    (c.close.ensures.fault (tokens_at c.args.text.now (c.args.at + 1)))

pub returns-clause-fault : goal.returns-clause-fault
returns-clause-fault c =
    let reader = c.args.self.now in
    rw (tokens_at-odd c.args.text.now c.args.at c.requires.inside c.requires.begins (sym c.if-may_stand_in_atom.ensures) c.if-byte-eq40.false c.if-byte-eq41.false, c.at.ensures)
    (read_odd reader.want (done_of reader) (stack_of reader) c.args.at (tokens_at c.args.text.now (c.args.at + 1))
    (is_wanted reader.want (innermost_first reader) reader.forms.items
    (rw (length-reverse reader.open_lists.items) c.requires.reading)))

pub returns-then-byte-eq40-clause-took : goal.returns-then-byte-eq40-clause-took
returns-then-byte-eq40-clause-took c =
    rw (tokens_at-opening c.args.text.now c.args.at c.requires.inside c.if-byte-eq40.true)
    (IfOk-at c.open.result (c.args.at + 1) _ c.open.ensures.behind (c.open.ensures.took (tokens_at c.args.text.now (c.args.at + 1))))

pub returns-then-byte-eq41-clause-took : goal.returns-then-byte-eq41-clause-took
returns-then-byte-eq41-clause-took c =
    rw (tokens_at-closing c.args.text.now c.args.at c.requires.inside c.if-byte-eq41.true)
    (IfOk-at c.close.result (c.args.at + 1) _ c.close.ensures.behind (c.close.ensures.took (tokens_at c.args.text.now (c.args.at + 1))))
