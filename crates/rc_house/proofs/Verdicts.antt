-- What the judge finds is what is answered.
use Rattle.std.proofs.Common.{◌≡◌, ℕ, Option, Some, refl, ap, ◌∙◌}
use Rattle.rc_play_spec.specs.Why.{Illegal}
use Rattle.rc_judge.specs.declared.verdict.Why.{Why}
use Rattle.rc_judge.specs.declared.verdict.Why.TheVariants.{Match, Shuffle, Seat, Menu, Item, Named, End, Score, Standing}
use Rattle.rc_judge.specs.Seen.{why_seen}
use Rattle.rc_house.specs.declared.refusal.Refusal.TheVariants as refusal
use Rattle.rc_house.specs.Answer.{Answer, refused, judged_as}
use Rattle.rc_house.specs.Status.{why_told}

why_back : (why : Why) → why ≡ why_told (why_seen why)
why_back Match = refl
why_back Shuffle = refl
why_back Seat = refl
why_back Menu = refl
why_back Item = refl
why_back Named = refl
why_back End = refl
why_back Score = refl
why_back Standing = refl

pub illegal_is : (legal : Answer) (line : ℕ) (why : Why) (found : Option Illegal) → Some (record { line = line; why = why_seen why }) ≡ found
    → refused (refusal.Illegal line why) ≡ judged_as legal found
illegal_is legal line why found is = ap (λ w. refused (refusal.Illegal line w)) (why_back why) ∙ ap (judged_as legal) is
