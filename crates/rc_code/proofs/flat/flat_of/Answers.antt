use Rattle.std.proofs.Common.{◌≡◌, is_some, sym, ap, ◌∙◌, subst}
use Rattle.rc_ast.specs.Expressions.{test_seen}
use Rattle.rc_ast.proofs.ViewLemmas.{and_seen}
use Rattle.rc_code.specs.FlatMeaning.{IsFlatForm}
use Rattle.rc_code.specs.Flatness.{has_flat_form}
use Rattle.rc_code.proofs.flat.flat_of.Goals as goal

pub returns-in-And : goal.returns-in-And
returns-in-And c =
    let both = sym (ap test_seen c.in-And.is ∙ and_seen c.in-And.tests) in
    record {
      same = subst (λ t. IsFlatForm t c.both_of.result) both c.both_of.ensures.same;
      found = subst (λ t. is_some c.both_of.result ≡ has_flat_form t) both c.both_of.ensures.found;
    }
