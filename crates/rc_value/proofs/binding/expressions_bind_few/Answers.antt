use Rattle.rc_value.proofs.BindingLemmas.{card_few, coll_few, int_few, test_few, range_few, domain_few, alt_few, choice_few}
use Rattle.rc_value.proofs.binding.expressions_bind_few.Goals as goal

pub returns-clause-cards : goal.returns-clause-cards
returns-clause-cards c = card_few

pub returns-clause-collections : goal.returns-clause-collections
returns-clause-collections c = coll_few

pub returns-clause-numbers : goal.returns-clause-numbers
returns-clause-numbers c = int_few

pub returns-clause-tests : goal.returns-clause-tests
returns-clause-tests c = test_few

pub returns-clause-ranges : goal.returns-clause-ranges
returns-clause-ranges c = range_few

pub returns-clause-domains : goal.returns-clause-domains
returns-clause-domains c = domain_few

pub returns-clause-alternatives : goal.returns-clause-alternatives
returns-clause-alternatives c = alt_few

pub returns-clause-choices : goal.returns-clause-choices
returns-clause-choices c = choice_few
