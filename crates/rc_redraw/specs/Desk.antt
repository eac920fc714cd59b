-- Views that are laid on a desk.
use Rattle.rc_play_spec.specs.View.{View}
use Rattle.rc_redraw.specs.Redraws.{Redrawn, Keeps}
use Rattle.rc_redraw.specs.declared.desk.Desk.{Desk}

abbrev pub laid_on : Desk → View → Redrawn
laid_on desk view = record { shape = desk.table.shape; view = view; table = desk.table.table }

abbrev pub IsLaidOn : Desk → View → Type 0
IsLaidOn desk view =
    Keeps (laid_on desk view) desk.hidden.items desk.pattern.items desk.content.items desk.layout.unused.items
    desk.order.items
