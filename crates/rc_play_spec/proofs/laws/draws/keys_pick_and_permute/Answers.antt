use Rattle.std.proofs.lemmas.List.Sorted.{length_permutation}
use Rattle.rc_base.specs.Numbers.{below}
use Rattle.rc_play_spec.specs.Draws.{key32, word_of, permuted}
use Rattle.rc_play_spec.proofs.DrawLemmas.{word_of-lt, scaled-lt, permuted-is, permuted-places}
use Rattle.rc_play_spec.proofs.laws.draws.keys_pick_and_permute.Goals as goal

pub returns-clause-picks : goal.returns-clause-picks
returns-clause-picks c = λ key n some. scaled-lt (word_of key 0) n (word_of-lt key 0) some

pub returns-clause-items : goal.returns-clause-items
returns-clause-items c = λ key xs. (permuted-is key xs, length_permutation xs (permuted key xs) (permuted-is key xs))

pub returns-clause-places : goal.returns-clause-places
returns-clause-places c = λ key xs. permuted-places key xs

pub returns-clause-orders : goal.returns-clause-orders
returns-clause-orders c = λ k1 k2 k3 k4 size. permuted-is (key32 k1 k2 k3 k4) (below size)
