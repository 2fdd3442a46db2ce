-- No field from one place on leaves such an input unknown where there is no name any more, or no field.
use Rattle.std.proofs.Common.{◌≡◌, ℕ, ◌<◌, ◌≤◌, List, length, drop, None, refl}
use Rattle.std.proofs.Math.Seq.{drop-cons}
use Rattle.std.proofs.lemmas.List.{drop_all}
use Rattle.vs_stim.specs.declared.input.Input.{Input}
use Rattle.vs_rows.specs.declared.controls.Control.{Control}
use Rattle.vs_rows.specs.Controls.{first_control}

pub nameless : (control : Control) (inputs : List Input) (header line : List ℕ) (place : ℕ) (names fields : List ℕ) (k : ℕ) → length names ≤ k
    → first_control control inputs header line place (drop k names) fields ≡ None
nameless control inputs header line place names fields k i = rw (drop_all k names i) refl

pub fieldless : (control : Control) (inputs : List Input) (header line : List ℕ) (place : ℕ) (names fields : List ℕ) (k : ℕ) → k < length names → length fields ≤ k
    → first_control control inputs header line place (drop k names) (drop k fields) ≡ None
fieldless control inputs header line place names fields k i j = rw (drop-cons names k 0 i, drop_all k fields j) refl
