-- What holds of what succeeds.
use Rattle.std.proofs.Common.{Result, Ok, Err, OnOk}

pub always_ok : {T E P : Type 0} (r : Result T E) → P → OnOk r P
always_ok (Ok x) p = p
always_ok (Err e) p = tt
