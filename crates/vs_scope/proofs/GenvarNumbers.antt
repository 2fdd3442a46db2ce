-- The number of a value that is assigned to a genvar.
use Rattle.std.proofs.Common.{◌≡◌, ℕ, Bool, true, false, ◌&&◌, ◌++◌, None, if◌then◌else◌, sym, ap, ◌∙◌}
use Rattle.vs_four.specs.declared.Bit4.TheVariants.{X}
use Rattle.vs_four.specs.Logic.{all_known}
use Rattle.vs_design.specs.Values.{constant_value, assigned_value}
use Rattle.vs_const.specs.declared.faults.Flaws.{Flaws}
use Rattle.vs_const.specs.Faults.{fault, flaws_of, merged}
use Rattle.vs_const.specs.declared.rules.Rule.TheVariants.{UnknownConstant}
use Rattle.vs_const.specs.Typed.{Typed, Natural}
use Rattle.vs_const.proofs.Least.{flaws_append}
use Rattle.vs_elaborated.specs.Loops.{genvar_number}
use Rattle.vs_const.specs.declared.ranges.Natural.{Natural as NaturalOf}
use Rattle.vs_const.specs.Checks.{ChecksNatural}
use Rattle.vs_scope.specs.Turns.{assigned_natural}

abbrev with_flaws : NaturalOf → Flaws → NaturalOf
with_flaws n sum = record { number = n.number; flaws = sum }

pub genvar_is : (place : ℕ) (t : Typed) (n : NaturalOf) (sum : Flaws) → t.good ≡ true → ChecksNatural n (assigned_natural place (constant_value t.expression) (assigned_value t.expression 32 (λ b. X)))
    → sum ≡ merged (flaws_of t.faults) n.flaws → ChecksNatural (with_flaws n sum) (genvar_number place t)
genvar_is place t n sum good h s = by t.good good
  where
    two : (known : Bool) (m : Natural) → ChecksNatural n (if known then m else (record { number = None; faults = fault UnknownConstant place }))
        → ChecksNatural (with_flaws n sum) (if known then (record { number = m.number; faults = t.faults ++ m.faults }) else (record { number = None; faults = t.faults ++ fault UnknownConstant place }))
    two true m k = record { number = k.number; flaws = s ∙ ap (merged (flaws_of t.faults)) k.flaws ∙ sym (flaws_append t.faults m.faults) }
    two false m k = record { number = k.number; flaws = s ∙ ap (merged (flaws_of t.faults)) k.flaws ∙ sym (flaws_append t.faults (fault UnknownConstant place)) }

    by : (b : Bool) → b ≡ true → ChecksNatural (with_flaws n sum) (genvar_number place (record t { good = b }))
    by true e = two (all_known (constant_value t.expression) && all_known (assigned_value t.expression 32 (λ b. X))) _ h
    by false e = cc
