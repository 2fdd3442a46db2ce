-- What holds of a good result.
use Rattle.std.proofs.Common.{Result, Ok, Err}
use Rattle.std.specs.Prelude.{IfOk, OnOk}

pub on_ok : {V W : Type 0} {P Q : Type 0} (r : Result V W) → OnOk r P → (P → Q) → OnOk r Q
on_ok (Ok v) h k = k h
on_ok (Err e) h k = h

pub if_ok : {V W : Type 0} {P Q : V → Type 0} (r : Result V W) → IfOk r P → ((v : V) → P v → Q v) → IfOk r Q
if_ok (Ok v) h k = k v h
if_ok (Err e) h k = h

pub if_ok2 : {V W : Type 0} {P Q R : V → Type 0} (r : Result V W) → IfOk r P → IfOk r Q → ((v : V) → P v → Q v → R v) → IfOk r R
if_ok2 (Ok v) h i k = k v h i
if_ok2 (Err e) h i k = h

pub always : {V W : Type 0} {P : Type 0} (r : Result V W) → P → OnOk r P
always (Ok v) h = h
always (Err e) h = tt
