-- The code of an alternative, by which the logic tells it apart: that of a choice with this alternative alone.
use Rattle.std.specs.Prelude.{[], ◌∷◌, refl}
use Rattle.std.specs.Coded.{Coded, code_by}
use Rattle.rc_sheet_spec.specs.Sheet.{Alt, do_alt, no_effect, choice, SheetItems, no_item, item}
use Rattle.rc_flow.specs.Codes.{coded_items}

abbrev alone : Alt → SheetItems
alone alt = item (choice 0 (alt ∷ [])) no_item

abbrev offered_in : SheetItems → Alt
offered_in (item (choice site (alt ∷ alts)) items) = alt
offered_in other = do_alt no_effect

abbrev pub coded_alt : Coded Alt
coded_alt = code_by SheetItems coded_items alone offered_in (λ alt. refl)
