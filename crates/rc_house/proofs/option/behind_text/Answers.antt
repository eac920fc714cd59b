use Rattle.std.proofs.Common.{[], ◌∷◌, inl, inr, ap, ap₂, string_bytes}
use Rattle.rc_house.proofs.WordLemmas.{split_one, split_two}
use Rattle.rc_house.proofs.option.behind_text.Goals as goal

pub returns-in-len1-up-clause-some : goal.returns-in-len1-up-clause-some
returns-in-len1-up-clause-some c = (
  string_bytes c.word-item.result ∷ [],
  inr (ap (λ x. x ∷ []) (c.is_joined.ensures.0 c.if-is_joined.true)),
  split_one c.args.words.now c.word-item.result c.in-len1-up.len_at_least c.word-item.is,
)

pub returns-in-len2-up-clause-some : goal.returns-in-len2-up-clause-some
returns-in-len2-up-clause-some c =
    let pair = c.is_pair.ensures.0 c.if-is_pair.true in (
      string_bytes c.word-item-2.result ∷ string_bytes c.value-item.result ∷ [],
      inl (ap₂ (λ x y. x ∷ y ∷ []) pair.0 pair.1),
      split_two c.args.words.now c.word-item-2.result c.value-item.result c.in-len2-up.len_at_least c.word-item-2.is c.value-item.is,
    )
