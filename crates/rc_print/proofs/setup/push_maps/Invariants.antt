use Rattle.std.proofs.Common.{◌≡◌, ◌++◌, map, drop}
use Rattle.rc_base.specs.Tree.{printed_behind}
use Rattle.rc_deck.specs.Points.{entries_of}
use Rattle.rc_sheet_spec.specs.Printing.{packed}
use Rattle.rc_print.specs.Printing.{naming_seen}
use Rattle.rc_print.proofs.MapLemmas.{maps_from}
use Rattle.rc_print.proofs.setup.push_maps.Given as goal

-- what is printed and what is left are the whole
abbrev pub invariant-loop-points : goal.invariant-loop-points
invariant-loop-points l =
    record {
      place : l.number ≡ l.points-index;
      bytes : l.out.bytes.items ++ printed_behind (packed (maps_from (naming_seen l.sheet) l.number
          (map entries_of (drop l.points-index l.maps))))
          ≡ l.initial.out.bytes.items ++ printed_behind (packed (maps_from (naming_seen l.sheet) 0 (map entries_of l.maps)));
    }
