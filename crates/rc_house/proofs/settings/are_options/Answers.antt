use Rattle.std.proofs.Common.{map, string_bytes, length, sym}
use Rattle.std.proofs.lemmas.Bool.{false≢true, eqb-true}
use Rattle.rc_house.specs.Words.{text_of}
use Rattle.rc_house.proofs.StepLemmas.{shorter, taken, put_back, some_first, none_given, given_none}
use Rattle.rc_house.proofs.settings.are_options.Goals as goal

pub loop-rest-smaller : goal.loop-rest-smaller
loop-rest-smaller c =
    shorter c.in-Some.name (text_of c.loop-rest.left c.in-Some.name) c.loop-rest.rest.now c.in-Some.behind.now c.in-Some.ensures.some

pub loop-rest-preserved : goal.loop-rest-preserved
loop-rest-preserved c =
    let texts = text_of c.loop-rest.left in
    let left = text_of c.without-left.result in
    let words = map string_bytes c.loop-rest.rest.now in
    let back = map string_bytes c.in-Some.behind.now in (
      λ are. taken texts left c.in-Some.name words back c.in-Some.ensures.some c.without-left.ensures (c.loop-rest.invariant.0 are),
      λ are. c.loop-rest.invariant.1 (put_back texts left c.in-Some.name words back c.in-Some.ensures.some c.without-left.ensures are),
    )

pub returns-in-None : goal.returns-in-None
returns-in-None c = (
  λ is_true. absurd (false≢true is_true),
  λ are.
      let first = some_first (text_of c.loop-rest.left) c.loop-rest.rest.now c.loop-rest-test.ensures (c.loop-rest.invariant.0 are) in
      absurd (c.in-None.ensures.only first.0 first.1 first.2),
)

pub returns : goal.returns
returns c =
    let none = eqb-true (length c.loop-rest.rest.now) 0 (sym c.loop-rest-test.ensures) in (
      λ is_true. c.loop-rest.invariant.1 (none_given c.loop-rest.left c.loop-rest.rest.now none (c.is_empty-2.ensures.0 is_true)),
      λ are. c.is_empty-2.ensures.1 (given_none c.loop-rest.left c.loop-rest.rest.now none (c.loop-rest.invariant.0 are)),
    )
