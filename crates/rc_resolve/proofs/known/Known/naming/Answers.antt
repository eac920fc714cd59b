use mathlib.Core.List.{map-map}
use Rattle.std.proofs.Common.{◌∙◌, ap, sym, map}
use Rattle.std.specs.Map.{keys_of}
use Rattle.rc_check.specs.SecondNames.{OwnedMention}
use Rattle.rc_resolve.specs.Known.{loc_seen, num_seen, naming_by}
use Rattle.rc_resolve.specs.Naming.{loc_names, num_names}
use Rattle.rc_resolve.proofs.Whole.{same_naming}
use Rattle.rc_resolve.proofs.known.Known.naming.Goals as goal

pub returns : goal.returns
returns c =
    same_naming _ _ _ _ _ _ _ _ _ _ _ _ _ _ _ _
    (c.in_ok-words_of.ensures ∙ ap keys_of c.entries.ensures)
    (c.in_ok-words_of-2.ensures ∙ ap keys_of c.entries-2.ensures)
    (c.in_ok-words_of-3.ensures ∙ ap keys_of c.entries-3.ensures)
    (c.in_ok-words_of-4.ensures ∙ ap keys_of c.entries-4.ensures
    ∙ sym (map-map (λ (mention : OwnedMention). mention.name) loc_seen c.self.inside.locs))
    (c.in_ok-words_of-5.ensures ∙ ap keys_of c.entries-5.ensures
    ∙ sym (map-map (λ (mention : OwnedMention). mention.name) num_seen c.self.inside.nums))
    (c.in_ok-words_of-6.ensures ∙ ap keys_of c.entries-6.ensures)
    (c.in_ok-loc_names.ensures ∙ ap (λ locs. loc_names 0 (map loc_seen locs)) c.entries-7.ensures)
    (c.in_ok-num_names.ensures ∙ ap (λ nums. num_names 0 (map num_seen nums)) c.entries-8.ensures)
    ∙ ap naming_by c.self.view_is
