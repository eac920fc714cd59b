use Rattle.std.proofs.Common.{◌≡◌, take}
use Rattle.rc_rules.specs.Menu.{menu_seen}
use Rattle.rc_flat.proofs.stand.write_menu.Given as goal

abbrev pub invariant-loop-item : goal.invariant-loop-item
invariant-loop-item l = menu_seen l.to.items ≡ menu_seen (take l.item-index l.item-items)
