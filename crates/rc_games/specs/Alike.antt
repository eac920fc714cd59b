-- Two machines that stand at one place.
use Rattle.std.specs.Prelude.{◌≡◌}
use Rattle.rc_play_spec.specs.About.{About}
use Rattle.rc_play_spec.specs.Keyed.{dealing_of}
use Rattle.rc_play_spec.specs.Step.{Config}
use Rattle.rc_rules.specs.Dealer.{Dealt}

-- they play one about and stand at one configuration, with dealers that shuffle alike
abbrev pub AreAlike : About → About → Config → Config → Dealt → Dealt → Type 0
AreAlike about about' config config' dealer dealer' =
    (about ≡ about') × (config ≡ config') × (dealing_of dealer.deal ≡ dealing_of dealer'.deal)
    × (dealer.count ≡ dealer'.count)
