-- That a function reads the first of those signals that a call of another one passes.
use Rattle.std.proofs.Common.{◌≡◌, ℕ, List, length, take, true, is_some}
use Rattle.vs_const.specs.Meanings.{FunctionMeaning, AFunction}
use Rattle.vs_elaborated.specs.Environments.{named}
use Rattle.vs_elaborated.specs.Functions.{passed_on}
use Rattle.vs_scope.specs.declared.inside.Inside.{Inside}
use Rattle.vs_scope.specs.Frames.{view_env}
use Rattle.vs_scope.specs.Locals.{input_of}

pub record HandsTo (i : Inside) (name : List ℕ) (count n : ℕ) : Type 0 where
  pub all : (f : FunctionMeaning) → named (view_env i.here) name ≡ AFunction f → count ≡ length f.passed → is_some (passed_on (input_of i.locals) (take n f.passed)) ≡ true
