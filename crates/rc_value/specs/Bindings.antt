-- What the positions of an item bind.
use Rattle.std.specs.Prelude.{◌≡◌, List}
use Rattle.rc_sheet_spec.specs.Sheet.{Alt, Sheet}
use Rattle.rc_sheet_spec.specs.WellFormed.{Around, AreAlts}
use Rattle.rc_play_spec.specs.Value.{Bind, player_bound, card_bound, group_bound}
use Rattle.rc_play_spec.specs.Scene.{CardValue}
use Rattle.rc_value.specs.Cards.{value_seen}
use Rattle.rc_value.specs.declared.members.Member.{Member}
use Rattle.rc_value.specs.declared.members.Member.TheVariants.{Player, Card as CardMember, Group}

-- a member of a domain, with the cards that are a group's
abbrev pub member_seen : Member → List CardValue → Bind CardValue
member_seen (Player n) cards = player_bound n
member_seen (CardMember card) cards = card_bound (value_seen card)
member_seen Group cards = group_bound cards

-- alternatives of a well formed sheet, outside all binders
abbrev pub AreAltsOutside : Sheet → List Alt → Type 0
AreAltsOutside sheet alts = (around : Around) × (around.binders ≡ 0) × AreAlts sheet around alts
