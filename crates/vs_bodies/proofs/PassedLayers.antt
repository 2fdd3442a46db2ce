-- The names of loops' integers and of variables are no functions.
use Rattle.std.proofs.Common.{◌≡◌, Bool, true, false, if◌then◌else◌}
use Rattle.vs_four.specs.Logic.{BitList}
use Rattle.vs_const.specs.Meanings.{FunctionMeaning, Meaning, AFunction, turn_value}

pub turn_called : (bits : BitList) (b : Bool) (m : Meaning) (f : FunctionMeaning) → (if b then turn_value bits else m) ≡ AFunction f → b ≡ true → ⊥
turn_called bits true m f h k = cc
turn_called bits false m f h k = cc

pub other_called : (bits : BitList) (b : Bool) (m : Meaning) (f : FunctionMeaning) → (if b then turn_value bits else m) ≡ AFunction f → b ≡ false → m ≡ AFunction f
other_called bits true m f h k = cc
other_called bits false m f h k = h
