-- What a closure captures.
use Rattle.std.proofs.Common.{ℕ, List}
use denote.RattleType.{RattleType}
use denote.Struct.Declared
use denote.Struct.Tuple
use denote.Param.Send.{AllSync, IsSync, recorded_sync, struct_sync}

-- it may be shared where each part may
pub tuple_sync : (name : List ℕ) (rows : List RattleType) → AllSync (Declared.shape (Tuple.type_at name rows)).fields → IsSync (Tuple.TupleAt name rows)
tuple_sync name rows all =
    recorded_sync (Tuple.field_at name rows).row _ _ (Tuple.type_at name rows).to_one (struct_sync (Declared.shape (Tuple.type_at name rows)) all)
