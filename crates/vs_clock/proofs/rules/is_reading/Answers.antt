use Rattle.std.proofs.Common.{ap, ◌∙◌}
use Rattle.vs_design.specs.Clocks.{clock_nets}
use Rattle.vs_design.specs.Designs.{bit_count}
use Rattle.vs_flat.specs.DesignOf.{design_of}
use Rattle.vs_reads.specs.Footprint.{reads_at, waits_at}
use Rattle.vs_reads.proofs.Told.{told}
use Rattle.vs_clock.proofs.Ruled.{any_clock, reads_no, reads_first, reads_last}
use Rattle.vs_clock.proofs.rules.is_reading.Goals as goal

pub returns-then-is_port : goal.returns-then-is_port
returns-then-is_port c = λ n a x e. reads_no (clock_nets (design_of c.args.flat.now) n) x c.is_port.result (c.is_port.ensures n a x e) c.if-is_port.true

pub returns-then-has_clock : goal.returns-then-has_clock
returns-then-has_clock c = λ n a x e.
    let d = design_of c.args.flat.now in
    let h = c.footprint_law.ensures.bits d c.requires.lawful.design c.args.p x e in
    let r = told (bit_count d) _ _ _ (c.reads.ensures ∙ ap (λ fs. reads_at fs c.args.p) c.requires.footprints) h.reads in
    reads_first (clock_nets d n) x c.is_port.result c.has_clock.result (c.is_port.ensures n a x e) c.if-is_port.false (any_clock d n c.args.nets.now c.reads.result.now _ c.has_clock.result a r.same c.has_clock.ensures) c.if-has_clock.true

pub returns : goal.returns
returns c = λ n a x e.
    let d = design_of c.args.flat.now in
    let h = c.footprint_law.ensures.bits d c.requires.lawful.design c.args.p x e in
    let r = told (bit_count d) _ _ _ (c.reads.ensures ∙ ap (λ fs. reads_at fs c.args.p) c.requires.footprints) h.reads in
    let w = told (bit_count d) _ _ _ (c.waits.ensures ∙ ap (λ fs. waits_at fs c.args.p) c.requires.footprints) h.waits in
    reads_last (clock_nets d n) x c.is_port.result c.has_clock.result c.has_clock-2.result (c.is_port.ensures n a x e) c.if-is_port.false (any_clock d n c.args.nets.now c.reads.result.now _ c.has_clock.result a r.same c.has_clock.ensures) c.if-has_clock.false
    (any_clock d n c.args.nets.now c.waits.result.now _ c.has_clock-2.result a w.same c.has_clock-2.ensures)
