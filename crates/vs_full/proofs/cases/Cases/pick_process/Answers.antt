use Rattle.std.proofs.Common.{◌≡◌, Some, length, sym, ap, ◌∙◌, subst, arith}
use Rattle.std.specs.Prelude.{slice_get}
use Rattle.vs_flat.specs.Arena.{Arena}
use Rattle.vs_flat.specs.DesignOf.{design_of}
use Rattle.vs_flat.specs.Lawful.{IsLawful}
use Rattle.vs_full.proofs.Blocks.{block_body, picked_block, unpicked_assign, unpicked_block}
use Rattle.vs_full.proofs.cases.Cases.pick_process.Goals as goal

pub is_lenient-requires : goal.is_lenient-requires
is_lenient-requires c = omega (arith, c.requires.there, c.requires.noted.sound.processes)

pub process-requires : goal.process-requires
process-requires c = omega (arith, c.requires.there, ap (λ (a : Arena). length a.processes) c.flat-flat.ensures.same)

pub pick_in-requires : goal.pick_in-requires
pick_in-requires c =
    let a = c.args.shapes.now in
    let at = subst (λ (x : Arena). slice_get x.processes c.args.p ≡ Some c.process.result.now) c.flat-flat.ensures.same c.process.ensures in
    let body = block_body c.trees_law.ensures.processes c.names_law.ensures.processes a (subst IsLawful c.flat-flat.ensures.same c.flat-flat.ensures.lawful) c.requires.fits c.args.p c.process.result.now _ _ c.in-Block.statement at c.in-Block.is in
    record {
      sound = c.requires.noted.sound;
      count = c.requires.count;
      there = body.there;
      fit = body.fits;
      formed = body.formed;
      noted = (c.requires.noted.each c.args.p c.requires.there).cases c.process.result.now _ _ c.in-Block.statement at c.in-Block.is (sym c.is_lenient.ensures ∙ c.if-not-is_lenient.false);
    }

pub returns-then-not-is_lenient : goal.returns-then-not-is_lenient
returns-then-not-is_lenient c = λ x is.
    unpicked_block (design_of c.args.shapes.now) x c.args.picked.now (sym ((c.requires.noted.each c.args.p c.requires.there).mark x is) ∙ sym c.is_lenient.ensures ∙ c.if-not-is_lenient.true)

pub returns-in-Assign : goal.returns-in-Assign
returns-in-Assign c = λ x is.
    let at = subst (λ (y : Arena). slice_get y.processes c.args.p ≡ Some c.process.result.now) c.flat-flat.ensures.same c.process.ensures in
    unpicked_assign c.trees_law.ensures.processes c.args.shapes.now c.args.p c.process.result.now _ _ _ x c.args.picked.now at c.in-Assign.is is

pub returns-in-Block : goal.returns-in-Block
returns-in-Block c = λ x is.
    let at = subst (λ (y : Arena). slice_get y.processes c.args.p ≡ Some c.process.result.now) c.flat-flat.ensures.same c.process.ensures in
    picked_block c.trees_law.ensures.processes c.args.shapes.now c.args.p c.process.result.now _ _ c.in-Block.statement x c.args.picked.now c.pick_in.new.picked at c.in-Block.is is
    (sym ((c.requires.noted.each c.args.p c.requires.there).mark x is) ∙ sym c.is_lenient.ensures ∙ c.if-not-is_lenient.false) c.pick_in.ensures
