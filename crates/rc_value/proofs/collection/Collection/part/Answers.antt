use Rattle.std.proofs.Common.{map, take, sym, ap, ◌∙◌}
use Rattle.std.proofs.lemmas.List.{take-map}
use Rattle.rc_value.specs.Cards.{value_seen}
use Rattle.rc_value.proofs.Lists.{take_min}
use Rattle.rc_value.proofs.collection.Collection.part.Goals as goal

pub returns : goal.returns
returns c =
    ap (λ n. map value_seen (take n c.args.cards.now)) c.min-count.ensures
    ∙ ap (map value_seen) (take_min c.args.cards.now 512) ∙ sym (take-map value_seen 512 c.args.cards.now)
