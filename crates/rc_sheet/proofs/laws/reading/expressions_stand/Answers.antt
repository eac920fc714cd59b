use Rattle.rc_sheet.specs.ReadExpressions.{card_at, coll_at, colls_at, int_at, test_at, tests_at, range_at}
use Rattle.rc_sheet.proofs.Means.{means_so}
use Rattle.rc_sheet.proofs.ReadOff.Expressions.{card_means, coll_means, colls_mean, int_means, test_means, tests_mean, range_means}
use Rattle.rc_sheet.proofs.laws.reading.expressions_stand.Goals as goal

pub returns-clause-card : goal.returns-clause-card
returns-clause-card c naming scope tree card is = means_so (card_at naming scope tree) card (card_means naming scope tree) is

pub returns-clause-collection : goal.returns-clause-collection
returns-clause-collection c naming scope tree cards is =
    means_so (coll_at naming scope tree) cards (coll_means naming scope tree) is

pub returns-clause-collections : goal.returns-clause-collections
returns-clause-collections c naming scope trees parts is =
    means_so (colls_at naming scope trees) parts (colls_mean naming scope trees) is

pub returns-clause-integer : goal.returns-clause-integer
returns-clause-integer c naming scope tree value is = means_so (int_at naming scope tree) value (int_means naming scope tree) is

pub returns-clause-test : goal.returns-clause-test
returns-clause-test c naming scope tree test is = means_so (test_at naming scope tree) test (test_means naming scope tree) is

pub returns-clause-tests : goal.returns-clause-tests
returns-clause-tests c naming scope trees tests is =
    means_so (tests_at naming scope trees) tests (tests_mean naming scope trees) is

pub returns-clause-range : goal.returns-clause-range
returns-clause-range c naming scope tree domain is =
    means_so (range_at naming scope tree) domain (range_means naming scope tree) is
