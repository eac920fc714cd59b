use Rattle.std.proofs.Common.{sym, ◌∙◌}
use Rattle.rc_menu.proofs.FollowingLemmas.{split_so}
use Rattle.rc_menu.proofs.following.split_of.Goals as goal

pub returns-clause-split : goal.returns-clause-split
returns-clause-split c =
    (split_so c.args.guard.now c.in-Some-split_last.before.now c.in-Some.rest.now c.in-Some-split_last.one.now
    c.in-Some.field-0-0.now c.in-OfCard.card_test
    (c.requires.fixed.2 c.if-not-follows.false) c.requires.fixed.1 (sym c.as_slice-parts.ensures.value
    ∙ c.in-Some.ensures.cases.0) c.in-Some-split_last.ensures.cases.0 c.in-OfCard.is).0

pub returns-clause-parts : goal.returns-clause-parts
returns-clause-parts c =
    (split_so c.args.guard.now c.in-Some-split_last.before.now c.in-Some.rest.now c.in-Some-split_last.one.now
    c.in-Some.field-0-0.now c.in-OfCard.card_test
    (c.requires.fixed.2 c.if-not-follows.false) c.requires.fixed.1 (sym c.as_slice-parts.ensures.value
    ∙ c.in-Some.ensures.cases.0) c.in-Some-split_last.ensures.cases.0 c.in-OfCard.is).1.0

pub returns-clause-then : goal.returns-clause-then
returns-clause-then c =
    (split_so c.args.guard.now c.in-Some-split_last.before.now c.in-Some.rest.now c.in-Some-split_last.one.now
    c.in-Some.field-0-0.now c.in-OfCard.card_test
    (c.requires.fixed.2 c.if-not-follows.false) c.requires.fixed.1 (sym c.as_slice-parts.ensures.value
    ∙ c.in-Some.ensures.cases.0) c.in-Some-split_last.ensures.cases.0 c.in-OfCard.is).1.1
