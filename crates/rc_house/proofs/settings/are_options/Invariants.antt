use Rattle.std.proofs.Common.{◌↔◌, map, string_bytes, length}
use Rattle.rc_house.specs.Words.{AreOptions, text_of}
use Rattle.rc_house.proofs.settings.are_options.Given as goal

-- what is left of the words says what is left of the texts, where the words say the texts
abbrev pub invariant-loop-rest : goal.invariant-loop-rest
invariant-loop-rest l =
    AreOptions (text_of l.texts) (map string_bytes l.words) ↔ AreOptions (text_of l.left) (map string_bytes l.rest)

abbrev pub decreases-loop-rest : goal.decreases-loop-rest
decreases-loop-rest l = length l.rest
