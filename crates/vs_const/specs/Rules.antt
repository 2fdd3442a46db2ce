-- The rules of elaboration, and their numbers.
use Rattle.std.specs.Prelude.{ℕ, Bool, true, false}
use Rattle.vs_const.specs.declared.rules.Rule.{Rule}
use Rattle.vs_const.specs.declared.rules.Rule.TheVariants.{NotConstant, UnknownConstant, NoTop, DuplicateModule, UnknownModule, UnknownName, DuplicateName, BadRange, PortCount, UnknownPort, InstanceDepth, TooManyInstances, GenerateTurns, WrongKind, TooManyBits, TooManyProcesses, LoopTurns, LoopVariable, FunctionRule, Recursion}

-- of two rules that are broken at one place the one with the lesser number is told
abbrev pub rule_number : Rule → ℕ
rule_number NotConstant = 30
rule_number UnknownConstant = 31
rule_number NoTop = 32
rule_number DuplicateModule = 33
rule_number UnknownModule = 34
rule_number UnknownName = 35
rule_number DuplicateName = 36
rule_number BadRange = 37
rule_number PortCount = 38
rule_number UnknownPort = 39
rule_number InstanceDepth = 40
rule_number TooManyInstances = 41
rule_number GenerateTurns = 42
rule_number WrongKind = 43
rule_number TooManyBits = 44
rule_number TooManyProcesses = 45
rule_number LoopTurns = 46
rule_number LoopVariable = 47
rule_number FunctionRule = 48
rule_number Recursion = 49

-- whether it is that a constant names no signal (4.10)
abbrev pub is_of_signal : Rule → Bool
is_of_signal NotConstant = true
is_of_signal _ = false
