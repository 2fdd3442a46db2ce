use Rattle.std.proofs.Common.{List, ℕ, sym, ap₂, ◌∙◌, subst, arith}
use Rattle.vs_flat.specs.Arena.{Arena}
use Rattle.vs_flat.specs.DesignOf.{design_of}
use Rattle.vs_flat.specs.Lawful.{IsLawful}
use Rattle.vs_queue.specs.Spare.{keeper_at}
use Rattle.vs_queue.proofs.Spares.{keeper_one, keeper_none, network_count}
use Rattle.vs_queue.proofs.Told.{few_spares}
use Rattle.vs_queue.proofs.machine.Machine.writer_count.Goals as goal

pub keeper_at-others-requires-clause-lawful : goal.keeper_at-others-requires-clause-lawful
keeper_at-others-requires-clause-lawful c = subst IsLawful (sym c.flat.ensures.same) c.flat.ensures.lawful

pub keeper_at-others-requires-clause-one : goal.keeper_at-others-requires-clause-one
keeper_at-others-requires-clause-one c = rw (c.flat.ensures.same, c.bits.ensures) (few_spares (design_of c.args.self.now.typed.now) c.args.self.now.clocks.now c.requires.machine.accepted)

pub overflow_add-result : goal.overflow_add-result
overflow_add-result c = let m = c.keeper_at-others.ensures.most in omega (arith, m)

pub returns-then-self : goal.returns-then-self
returns-then-self c =
    let d = design_of c.args.self.now.typed.now in
    let clocks = c.args.self.now.clocks.now.bits in
    let others = c.keeper_at-others.ensures.is ∙ ap₂ (λ (z : Arena) (b : List ℕ). keeper_at (design_of z) b) c.flat.ensures.same c.bits.ensures in
    let one = keeper_one d (sym c.requires.machine.keeper_is ∙ c.if-self.true) in
    let count = network_count d clocks in
    omega (arith, others, one, count)

pub returns : goal.returns
returns c =
    let d = design_of c.args.self.now.typed.now in
    let clocks = c.args.self.now.clocks.now.bits in
    let others = c.keeper_at-others.ensures.is ∙ ap₂ (λ (z : Arena) (b : List ℕ). keeper_at (design_of z) b) c.flat.ensures.same c.bits.ensures in
    let none = keeper_none d (sym c.requires.machine.keeper_is ∙ c.if-self.false) in
    let count = network_count d clocks in
    omega (arith, others, none, count)
