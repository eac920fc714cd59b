use Rattle.rc_menu.proofs.Offers.{full_is, room_is}
use Rattle.rc_menu.proofs.offering.is_filled.Goals as goal

pub returns-clause-full : goal.returns-clause-full
returns-clause-full c = λ so. full_is _ _ c.is_full.ensures.value so

pub returns-clause-free : goal.returns-clause-free
returns-clause-free c = λ so. room_is _ _ c.is_full.ensures.value so c.is_full.ensures.fits
