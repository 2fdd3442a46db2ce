use Rattle.std.proofs.Common.{◌≡◌, length, sym, ap, subst, arith}
use Rattle.vs_flat.specs.Arena.{Arena}
use Rattle.vs_flat.specs.DesignOf.{design_of}
use Rattle.vs_compile.specs.Resets.{AreSet}
use Rattle.vs_compile.proofs.Setting.{no_lists, one_more}
use Rattle.vs_compile.proofs.resets.gathered.Goals as goal

pub loop-p-init : goal.loop-p-init
loop-p-init c = record {
  x = c.requires.x;
  zero = c.requires.zero;
  set = subst (AreSet (design_of c.args.typed.now) c.args.clocks.now.bits 0) (sym c.none-all.ensures) (no_lists (design_of c.args.typed.now) c.args.clocks.now.bits);
}

pub bits_of-requires-clause-there : goal.bits_of-requires-clause-there
bits_of-requires-clause-there c =
    omega (arith, c.loop-p-test.true, c.process_count-p-end.ensures.count, ap (λ (a : Arena). length a.processes) c.flat.ensures.same, (c.trees_law.ensures.counts c.args.typed.now).processes)

pub loop-p-preserved : goal.loop-p-preserved
loop-p-preserved c = record {
  x = c.in_ok-bits.ensures.x;
  zero = c.in_ok-bits.ensures.zero;
  set = one_more (design_of c.args.typed.now) c.args.clocks.now.bits c.loop-p.p c.loop-p.all c.push.new.self c.in_ok-bits.bits.items c.loop-p.invariant.set c.in_ok-push.ensures c.in_ok-bits.ensures.bits;
}

pub returns : goal.returns
returns c =
    let d = design_of c.args.typed.now in
    let done : c.loop-p.p ≡ length d.processes =
    omega (arith, c.loop-p-test.false, c.loop-p.auto.p-end, c.process_count-p-end.ensures.count, ap (λ (a : Arena). length a.processes) c.flat.ensures.same, (c.trees_law.ensures.counts c.args.typed.now).processes) in
    subst (λ n. AreSet d c.args.clocks.now.bits n c.loop-p.all) done c.loop-p.invariant.set
