-- What is stored, and what is seen of it.
use Rattle.std.proofs.Common.{Result, Ok, Err, IfOk}

pub if_ok : {T E : Type 0} {P Q : T → Type 0} (result : Result T E) → IfOk result P
    → ((value : T) → P value → Q value) → IfOk result Q
if_ok (Ok value) holds follows = follows value holds
if_ok (Err error) holds follows = tt
