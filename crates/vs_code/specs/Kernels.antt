-- What a kernel of any of the kernel crates computes, which lengths it takes, and what it costs. The lengths are those of its arguments in
-- their order and then that of its value.
use Rattle.std.specs.Prelude.{ℕ, Bool, List}
use Rattle.vs_four.specs.Logic.{BitList}
use Rattle.vs_kern_logic.specs.Operators as LogicOperators
use Rattle.vs_kern_logic.specs.Costs as LogicCosts
use Rattle.vs_kern_arith.specs.Operators as ArithOperators
use Rattle.vs_kern_arith.specs.Costs as ArithCosts
use Rattle.vs_kern_select.specs.Operators as SelectOperators
use Rattle.vs_kern_select.specs.Costs as SelectCosts
use Rattle.vs_code.specs.declared.kernels.AnyKernel.{AnyKernel}
use Rattle.vs_code.specs.declared.kernels.AnyKernel.TheVariants.{Logic, Arith, Select}

-- the operator of each kernel whose value has `width` bits, of the list of its arguments
abbrev pub operator_of : AnyKernel → ℕ → List BitList → BitList
operator_of (Logic kernel) width = LogicOperators.operator_of kernel
operator_of (Arith kernel) width = ArithOperators.operator_of kernel
operator_of (Select kernel) width = SelectOperators.operator_of kernel width

-- whether it takes these lengths
abbrev pub takes : AnyKernel → List ℕ → Bool
takes (Logic kernel) lengths = LogicCosts.takes (LogicCosts.shape_of kernel) lengths
takes (Arith kernel) lengths = ArithCosts.takes (ArithCosts.shape_of kernel) lengths
takes (Select kernel) lengths = SelectCosts.takes (SelectCosts.shape_of kernel) lengths

-- how many stores it makes
abbrev pub cost_of : AnyKernel → List ℕ → ℕ
cost_of (Logic kernel) lengths = LogicCosts.cost_of lengths
cost_of (Arith kernel) lengths = ArithCosts.cost_of kernel lengths
cost_of (Select kernel) lengths = SelectCosts.cost_of kernel lengths

-- how many slots it needs for what it keeps on the way
abbrev pub room_of : AnyKernel → List ℕ → ℕ
room_of (Logic kernel) lengths = LogicCosts.room_of lengths
room_of (Arith kernel) lengths = ArithCosts.room_of lengths
room_of (Select kernel) lengths = SelectCosts.room_of lengths

-- what it weighs
abbrev pub weight_of : AnyKernel → List ℕ → ℕ
weight_of (Logic kernel) lengths = LogicCosts.weight_of kernel lengths
weight_of (Arith kernel) lengths = ArithCosts.weight_of kernel lengths
weight_of (Select kernel) lengths = SelectCosts.weight_of kernel lengths
