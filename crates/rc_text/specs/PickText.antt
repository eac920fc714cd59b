-- The numbers of a choice.
use Rattle.std.specs.Prelude.{ℕ, List, ◌++◌, codes, decimal}
use Rattle.rc_base.specs.Transcript.{Pick}

abbrev pub pick_text : Pick → List ℕ
pick_text p =
    codes "choose " ++ decimal p.seat ++ codes " " ++ decimal p.site
    ++ codes " " ++ decimal p.item ++ codes " " ++ decimal p.size
