use Rattle.std.proofs.Common.{◌<◌, ◌∙◌, sym, ap, ap₂, arith, slice_get, Some}
use Rattle.std.proofs.lemmas.Nat.Bits.{shr_and_one}
use Rattle.vs_four.specs.Planes.{decode}
use Rattle.vs_four.proofs.PlanesLemmas.{operand, slice_get-planes}
use Rattle.vs_four.proofs.planes.Bits.get.Goals as goal

pub overflow_shr-self-inside : goal.overflow_shr-self-inside
overflow_shr-self-inside c = let a = operand _ _ _ _ c.self.view_is c.self.invariant in omega arith

pub overflow_shr-self-inside-2 : goal.overflow_shr-self-inside-2
overflow_shr-self-inside-2 c = let a = operand _ _ _ _ c.self.view_is c.self.invariant in omega arith

pub returns : goal.returns
returns c =
    let a = operand _ _ _ _ c.self.view_is c.self.invariant in
    let n = c.args.n in
    let within : n < c.self.inside.len = omega arith in
    ap (λ xs. slice_get xs n) (sym a.planes) ∙ slice_get-planes _ _ _ n within
    ∙ ap Some (ap₂ decode (sym (shr_and_one c.self.inside.value n)) (sym (shr_and_one c.self.inside.unknown n)) ∙ sym c.bit_of.ensures)
