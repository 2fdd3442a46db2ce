use Rattle.std.proofs.Common.{◌+◌, ◌≤◌, ap, sym, ◌∙◌, subst, arith}
use Rattle.vs_design.specs.Expressions as E
use Rattle.vs_flat.specs.Arena.{signal_length}
use Rattle.vs_flat.specs.Lawful.{IsLawful}
use Rattle.vs_sets.proofs.Callees.{local_end}
use Rattle.vs_interpret.proofs.calls.local_span.Goals as goal

pub bits_of-requires : goal.bits_of-requires
bits_of-requires c =
    let room : c.get-local.result.now.first_bit + signal_length c.get-local.result.now ≤ 67108864 = c.lawful_law.ensures.local_bits c.flat.result.now c.flat.ensures.lawful c.args.function c.args.n c.function.result.now c.get-local.result.now c.function.ensures c.get-local.ensures in
    omega (arith, room)

pub returns-clause-first : goal.returns-clause-first
returns-clause-first c =
    let is = c.trees_law.ensures.locals c.args.shapes.now c.args.function c.args.n c.function.result.now c.get-local.result.now (rw c.flat.ensures.same at c.function.ensures) c.get-local.ensures in
    sym (ap (λ (s : E.Signal). s.first) is)

pub returns-clause-len : goal.returns-clause-len
returns-clause-len c =
    let is = c.trees_law.ensures.locals c.args.shapes.now c.args.function c.args.n c.function.result.now c.get-local.result.now (rw c.flat.ensures.same at c.function.ensures) c.get-local.ensures in
    c.bits_of.ensures ∙ sym (ap E.signal_length is)

pub returns-clause-within : goal.returns-clause-within
returns-clause-within c =
    let end_ = local_end c.args.shapes.now c.args.function c.args.n (subst IsLawful c.flat.ensures.same c.flat.ensures.lawful) c.requires.there in
    omega (arith, end_, returns-clause-first c, returns-clause-len c)
