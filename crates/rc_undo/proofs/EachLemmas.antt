-- One card after another.
use Rattle.std.proofs.Common.{◌≡◌, ℕ, ◌+◌, ◌<◌, List, length, get_or, take, drop}
use Rattle.rc_sheet_spec.specs.Sheet.{End}
use Rattle.rc_play_spec.specs.Effects.{put}
use Rattle.rc_table.specs.Laid.{relaid}
use Rattle.rc_table.specs.Runs.{put_each}
use Rattle.rc_table.proofs.RunSteps.{one_more_put, more_put}
use Rattle.rc_undo.specs.Undo.{Kept, Keeps}
use Rattle.rc_undo.proofs.KeepsLemmas.{keeps_then}

-- what a loop keeps that puts one card more
pub one_goes : (old now next : Kept) (end : End) (loc : ℕ) (ids : List ℕ) (k : ℕ) → k < length ids → Keeps old now → Keeps now next →
    put_each old.laid.shape end loc (drop k ids) now.laid.table ≡ put_each old.laid.shape end loc ids old.laid.table →
    next.laid ≡ relaid now.laid (put now.laid.shape end (get_or ids k 0) loc now.laid.table) →
    record {
      keeps : Keeps old next;
      leads : put_each old.laid.shape end loc (drop (k + 1) ids) next.laid.table ≡ put_each old.laid.shape end loc ids old.laid.table;
    }
one_goes old now next end loc ids k less kept more leads is =
    record {
      keeps = keeps_then old now next kept more;
      leads = (one_more_put old.laid now.laid next.laid end loc ids k less kept.shape leads is).leads;
    }

-- or some
pub some_go : (old now next : Kept) (end : End) (loc : ℕ) (ids : List ℕ) (k count : ℕ) → Keeps old now → Keeps now next →
    put_each old.laid.shape end loc (drop k ids) now.laid.table ≡ put_each old.laid.shape end loc ids old.laid.table →
    next.laid ≡ relaid now.laid (put_each now.laid.shape end loc (take count (drop k ids)) now.laid.table) →
    record {
      keeps : Keeps old next;
      leads : put_each old.laid.shape end loc (drop (k + count) ids) next.laid.table ≡ put_each old.laid.shape end loc ids old.laid.table;
    }
some_go old now next end loc ids k count kept more leads is =
    record {
      keeps = keeps_then old now next kept more;
      leads = more_put old.laid now.laid next.laid end loc ids k count kept.shape is leads;
    }
