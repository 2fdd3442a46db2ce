-- What a refusal of a block says.
use Rattle.std.specs.Prelude.{◌≡◌, ℕ, Some}
use Rattle.vs_design.specs.Designs.{Process, Design, AnyProcess, OfProcess}
use Rattle.vs_design.specs.Refusals.{block_refusal_at, block_refusal}
use Rattle.vs_design.specs.Refusals as R
use Rattle.vs_block.specs.declared.error.BlockError.{BlockError}
use Rattle.vs_block.specs.declared.error.BlockError.TheVariants.{FunctionLatch, InitialForm, MixedAssign, Sensitivity, Latch, Memory}

-- exactly the refusal of the design; want of memory is free
abbrev pub IsBlockError : Design → BlockError → Type 0
IsBlockError d (FunctionLatch at) = block_refusal d ≡ Some (R.FunctionLatch at)
IsBlockError d (InitialForm initial at) = block_refusal d ≡ Some (R.InitialForm initial at)
IsBlockError d (MixedAssign at) = block_refusal d ≡ Some (R.MixedAssign at)
IsBlockError d (Sensitivity process signal at) = block_refusal d ≡ Some (R.Sensitivity process signal at)
IsBlockError d (Latch process bit at) = block_refusal d ≡ Some (R.Latch process bit at)
IsBlockError d Memory = Unit {0}

-- and of a process or an initial process, which no function is
abbrev pub IsErrorAt : Design → AnyProcess → BlockError → Type 0
IsErrorAt d x (FunctionLatch at) = ⊥
IsErrorAt d x (InitialForm initial at) = block_refusal_at d x ≡ Some (R.InitialForm initial at)
IsErrorAt d x (MixedAssign at) = block_refusal_at d x ≡ Some (R.MixedAssign at)
IsErrorAt d x (Sensitivity process signal at) = block_refusal_at d x ≡ Some (R.Sensitivity process signal at)
IsErrorAt d x (Latch process bit at) = block_refusal_at d x ≡ Some (R.Latch process bit at)
IsErrorAt d x Memory = Unit {0}

abbrev pub IsErrorOf : Design → ℕ → Process → BlockError → Type 0
IsErrorOf d p x e = IsErrorAt d (OfProcess p x) e
