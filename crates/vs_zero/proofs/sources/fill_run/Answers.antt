use Rattle.std.proofs.Common.{◌≡◌, ◌+◌, ◌-◌, ◌<◌, length, sym, ap, ◌∙◌, arith}
use Rattle.vs_design.specs.Values.{count_from}
use Rattle.vs_sets.specs.Branches.{replaced}
use Rattle.vs_sets.specs.Tables.{family_of}
use Rattle.vs_zero.proofs.Sourcing.{run_filled}
use Rattle.vs_zero.proofs.sources.fill_run.Goals as goal

pub loop-bit-preserved : goal.loop-bit-preserved
loop-bit-preserved c =
    let first = c.args.first in
    let b = c.loop-bit.bit in
    let inside : b < length c.loop-bit.table = omega (arith, c.loop-bit.auto.table) in
    let place : b ≡ first + (b - first) = omega arith in
    let next : (b + 1) - first ≡ (b - first) + 1 = omega arith in
    run_filled c.loop-bit.table first (b - first) b c.args.set (family_of c.args.table.now) place inside c.loop-bit.invariant
    ∙ ap (λ m. replaced (count_from first m) (λ b. c.args.set) (family_of c.args.table.now)) (sym next)

pub returns : goal.returns
returns c =
    let all : c.loop-bit.bit - c.args.first ≡ c.args.len = omega (arith, c.loop-bit-test.false, c.loop-bit.auto.bit, c.loop-bit.auto.bit-end) in
    c.loop-bit.invariant ∙ ap (λ m. replaced (count_from c.args.first m) (λ b. c.args.set) (family_of c.args.table.now)) all
