use Rattle.std.proofs.Common.{◌≡◌, List, ℕ, [], ◌∷◌, ◌==◌, true, length, map, sym, ap, ◌∙◌, subst}
use Rattle.std.proofs.lemmas.List.{take_all}
use Rattle.vs_kern_logic.specs.declared.costs.Kernel.TheVariants.{Copy}
use Rattle.vs_code.specs.declared.kernels.AnyKernel.TheVariants.{Logic}
use Rattle.vs_code.specs.Calls.{IsCall}
use Rattle.vs_program.specs.Lowered.{home}
use Rattle.vs_assemble.proofs.Copying.{one_copy}
use Rattle.vs_assemble.proofs.assembling.lower_copy.Goals as goal

pub push-requires-then-not-is_empty-clause-call : goal.push-requires-then-not-is_empty-clause-call
push-requires-then-not-is_empty-clause-call g c =
    let lay = g.T.Lowering.layout c.args.lowering.now in
    let regs : List ℕ = c.args.registers.now in
    let all = take_all c.loop-bit.bit-index regs c.loop-bit-test.false in
    let shadows : c.loop-bit.shadows.items ≡ map lay.shadow regs = c.loop-bit.invariant.shadows ∙ ap (map lay.shadow) all in
    let homes : c.loop-bit.homes.items ≡ map home regs = c.loop-bit.invariant.homes ∙ ap (map home) all in
    let call : c.in_ok-copy.field-0 ≡ record { kernel = Logic Copy; args = map lay.shadow regs ∷ []; to = map home regs; scratch = [] } = cc (c.in_ok-copy.ensures, shadows, homes) in
    subst IsCall (sym call) (one_copy lay regs (λ e. let zero : (length regs == 0) ≡ true = ap (λ (bs : List ℕ). length bs == 0) e in cc (c.if-not-is_empty.ensures, zero)) c.requires.call)
