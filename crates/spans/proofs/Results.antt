-- What holds of a result, whichever it is.
use Rattle.std.proofs.Common.{Err, Ok, OnErr, Result}

pub any_err : {T E P : Type 0} (r : Result T E) → P → OnErr r P
any_err (Ok x) p = tt
any_err (Err e) p = p
