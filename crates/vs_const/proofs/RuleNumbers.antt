-- No two rules have one number.
use Rattle.std.proofs.Common.{◌≡◌, ℕ, ◌==◌, if◌then◌else◌, refl, sym, ap, ◌∙◌}
use Rattle.vs_const.specs.Faults.{Rule, NotConstant, UnknownConstant, NoTop, DuplicateModule, UnknownModule, UnknownName, DuplicateName, BadRange, PortCount, UnknownPort, InstanceDepth, TooManyInstances, GenerateTurns, WrongKind, TooManyBits, TooManyProcesses, LoopTurns, LoopVariable, FunctionRule, Recursion}
use Rattle.vs_const.specs.Rules.{rule_number}

-- the rule of a number
abbrev rule_of : ℕ → Rule
rule_of n =
    if n == 30 then NotConstant
    else if n == 31 then UnknownConstant
    else if n == 32 then NoTop
    else if n == 33 then DuplicateModule
    else if n == 34 then UnknownModule
    else if n == 35 then UnknownName
    else if n == 36 then DuplicateName
    else if n == 37 then BadRange
    else if n == 38 then PortCount
    else if n == 39 then UnknownPort
    else if n == 40 then InstanceDepth
    else if n == 41 then TooManyInstances
    else if n == 42 then GenerateTurns
    else if n == 43 then WrongKind
    else if n == 44 then TooManyBits
    else if n == 45 then TooManyProcesses
    else if n == 46 then LoopTurns
    else if n == 47 then LoopVariable
    else if n == 48 then FunctionRule
    else Recursion

known : (r : Rule) → rule_of (rule_number r) ≡ r
known NotConstant = refl
known UnknownConstant = refl
known NoTop = refl
known DuplicateModule = refl
known UnknownModule = refl
known UnknownName = refl
known DuplicateName = refl
known BadRange = refl
known PortCount = refl
known UnknownPort = refl
known InstanceDepth = refl
known TooManyInstances = refl
known GenerateTurns = refl
known WrongKind = refl
known TooManyBits = refl
known TooManyProcesses = refl
known LoopTurns = refl
known LoopVariable = refl
known FunctionRule = refl
known Recursion = refl

pub same_rule : (a b : Rule) → rule_number a ≡ rule_number b → a ≡ b
same_rule a b h = sym (known a) ∙ ap rule_of h ∙ known b
