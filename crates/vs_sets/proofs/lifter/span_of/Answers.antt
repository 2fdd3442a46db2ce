use Rattle.std.proofs.Common.{ap, subst, sym, arith}
use Rattle.vs_design.specs.Expressions as E
use Rattle.vs_sets.specs.FitParts.{Is64}
use Rattle.vs_sets.proofs.Names.{signal_few, signal_short, signal_within}
use Rattle.vs_sets.proofs.lifter.span_of.Goals as goal

pub bits_of-requires : goal.bits_of-requires
bits_of-requires c =
    let e = c.trees_law.ensures.signals c.args.shapes.now c.args.n c.signal-signal.result.now (rw c.flat.ensures.same at c.signal-signal.ensures) in
    let len = ap (λ (s : E.Signal). E.signal_length s) e in
    omega (arith, signal_short c.trees_law.ensures.counts c.args.shapes.now c.args.n (rw c.flat.ensures.same at c.flat.ensures.lawful) c.requires, len)

pub returns-clause-within : goal.returns-clause-within
returns-clause-within c =
    let w = signal_within c.trees_law.ensures.counts c.args.shapes.now c.args.n (rw c.flat.ensures.same at c.flat.ensures.lawful) c.requires in
    let e = c.trees_law.ensures.signals c.args.shapes.now c.args.n c.signal-signal.result.now (rw c.flat.ensures.same at c.signal-signal.ensures) in
    let first = ap (λ (s : E.Signal). s.first) e in
    let len = ap (λ (s : E.Signal). E.signal_length s) e in
    omega (arith, w, first, len, c.bits_of.ensures)

pub returns-clause-len : goal.returns-clause-len
returns-clause-len c =
    let e = c.trees_law.ensures.signals c.args.shapes.now c.args.n c.signal-signal.result.now (rw c.flat.ensures.same at c.signal-signal.ensures) in
    let len = ap (λ (s : E.Signal). E.signal_length s) e in
    omega (arith, len, c.bits_of.ensures)

pub returns-clause-few : goal.returns-clause-few
returns-clause-few c plain = subst Is64 (sym (returns-clause-len c)) (signal_few c.trees_law.ensures.counts c.args.shapes.now c.args.n (rw c.flat.ensures.same at c.flat.ensures.lawful) c.requires plain)
