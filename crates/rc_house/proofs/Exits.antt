-- What a `?` hands on.
use Rattle.std.proofs.Common.{Result, Err, IsErrAnd, sym, subst}
use Rattle.std.proofs.lemmas.Result.{err_from_is_err_and}

-- what holds of each error that it may hand on holds of what is returned
pub at_err : {X E : Type 0} {Q : E → Type 0} (P : Result X E → Type 0) (r : Result X E) → IsErrAnd r Q → ((error : E) → Q error → P (Err error)) → P r
at_err P r is follows =
    let passed = err_from_is_err_and r is in
    subst P (sym passed.1) (follows passed.0 passed.2)
