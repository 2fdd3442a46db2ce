use Rattle.std.proofs.Common.{◌≡◌, ℕ, ◌<◌, sym, subst, List}
use Rattle.vs_design.specs.Designs.{Design}
use Rattle.vs_net.specs.Solution.{beginning}
use Rattle.vs_design.specs.Networks.{network_of}
use Rattle.vs_flat.specs.DesignOf.{design_of}
use Rattle.vs_program.specs.Program.{Program}
use Rattle.vs_program.specs.Compiled.{IsProgramOf}
use Rattle.vs_engine.specs.Lanes.{state}
use Rattle.vs_setup.proofs.Opening.{on_ok}
use Rattle.vs_setup.proofs.loading.engine_of.Goals as goal

pub compile-requires-clause-accepted : goal.compile-requires-clause-accepted
compile-requires-clause-accepted g c = rw (c.typed.ensures, c.clocks.ensures) c.requires.accepted

pub compile-requires-clause-footprints : goal.compile-requires-clause-footprints
compile-requires-clause-footprints g c = rw (c.typed.ensures, c.footprints.ensures) c.requires.footprints

pub compile-requires-clause-resets : goal.compile-requires-clause-resets
compile-requires-clause-resets g c = rw (c.typed.ensures, c.clocks.ensures) c.requires.resets

pub compile-requires-clause-order : goal.compile-requires-clause-order
compile-requires-clause-order g c = rw (c.typed.ensures, c.order.ensures) c.requires.order

pub returns-clause-program : goal.returns-clause-program
returns-clause-program g c =
    let a = c.args.accepted.now in
    let program : IsProgramOf (design_of a.flat) a.clocks.bits c.in_ok-compiled.compiled = rw (c.typed.ensures, c.clocks.ensures) at c.in_ok-compiled.ensures in
    on_ok (λ e. e.program ≡ c.in_ok-compiled.compiled) (λ e. IsProgramOf (design_of a.flat) a.clocks.bits e.program) c.new.result c.new.ensures.program
    (λ e is. subst (λ (p : Program). IsProgramOf (design_of a.flat) a.clocks.bits p) (sym is) program)

pub returns-clause-begun : goal.returns-clause-begun
returns-clause-begun g c = c.new.ensures.begun

pub returns-clause-begins : goal.returns-clause-begins
returns-clause-begins g c =
    let a = c.args.accepted.now in
    let program : IsProgramOf (design_of a.flat) a.clocks.bits c.in_ok-compiled.compiled = rw (c.typed.ensures, c.clocks.ensures) at c.in_ok-compiled.ensures in
    on_ok (λ e. (d : Design) (clocks : List ℕ) (i : ℕ) → IsProgramOf d clocks c.in_ok-compiled.compiled → i < g.W.Word.LANES → state g.W.Word.lane e i ≡ beginning (network_of d clocks))
    (λ e. (i : ℕ) → i < g.W.Word.LANES → state g.W.Word.lane e i ≡ beginning (network_of (design_of a.flat) a.clocks.bits))
    c.new.result c.new.ensures.begins
    (λ e begins i h. begins (design_of a.flat) a.clocks.bits i program h)
