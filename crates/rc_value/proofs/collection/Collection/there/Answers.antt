use Rattle.std.proofs.Common.{map, take, sym, ap, ◌∙◌}
use Rattle.std.proofs.lemmas.List.{take-map}
use Rattle.rc_value.specs.Seen.{read_in}
use Rattle.rc_value.proofs.Lists.{take_min}
use Rattle.rc_value.proofs.collection.Collection.there.Goals as goal

pub returns : goal.returns
returns c =
    ap (λ n. map (read_in c.args.mem) (take n c.args.ids.now)) c.min-count.ensures
    ∙ ap (map (read_in c.args.mem)) (take_min c.args.ids.now 512) ∙ sym (take-map (read_in c.args.mem) 512 c.args.ids.now)
