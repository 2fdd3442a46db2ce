use Rattle.std.proofs.Common.{◌≡◌, ℕ, List, ap, sym, ◌∙◌, map}
use Rattle.vs_design.specs.Designs.{Always}
use Rattle.vs_design.specs.Footprints.{contains, without, ascending, reads_of, waits_of, statement_bits, statement_reads, signals_bits, wait_signals}
use Rattle.vs_flat.specs.DesignOf.{event_of, arena_signals}
use Rattle.vs_flat.specs.Trees.{signal_at}
use Rattle.vs_shape.specs.Bodies.{body_of}
use Rattle.vs_reads.proofs.Gathered.{footprint_is, one_list, needs_below, writes_below, waits_below, without_same, combinational_reads, combinational_waits}
use Rattle.vs_reads.proofs.gather.combinational_bits.Goals as goal

pub returns : goal.returns
returns c count place level within =
    let a = c.args.shapes.now in
    let st = body_of a c.args.statement in
    let events = map (event_of (signal_at (arena_signals a))) c.args.events.now in
    let x = Always place c.args.star events st in
    let raw = c.push_statement.new.out.items in
    let rising = c.ascend.new.bits.items in
    let read = one_list c.new-all.result.items c.push_statement-2.new.out.items (statement_reads st) c.new-all.ensures.items c.in_ok-push_statement-2.ensures in
    let written = one_list c.new-writes.result.items raw (statement_bits st) c.new-writes.ensures.items c.in_ok-push_statement.ensures in
    let less : (bs : List ℕ) → without bs c.as_slice-written.result.now ≡ without bs (statement_bits st) =
    λ bs. ap (λ ws. without bs ws) c.as_slice-written.ensures.value ∙ without_same bs rising (statement_bits st) (λ b. c.ascend.ensures.same b ∙ ap (λ ws. contains ws b) written)
    in
    let needs : c.in_ok-reads.reads.items ≡ reads_of x =
    c.in_ok-reads.ensures ∙ ap (λ bs. without bs c.as_slice-written.result.now) (c.as_slice-read.ensures.value ∙ read) ∙ less (statement_reads st) ∙ sym (combinational_reads place c.args.star events st level)
    in
    let waits : c.in_ok-waits.waits.items ≡ waits_of x =
    c.in_ok-waits.ensures ∙ ap (λ bs. without bs c.as_slice-written.result.now) (c.as_slice-named.ensures.value ∙ c.in_ok-waited.ensures place) ∙ less (signals_bits (wait_signals x)) ∙ sym (combinational_waits place c.args.star events st level)
    in
    footprint_is count x (record { reads = c.in_ok-ascending.field-0; writes = c.in_ok-from_slice.field-0; waits = c.in_ok-ascending-2.field-0 })
    (c.in_ok-ascending.ensures.is count (needs_below count x c.in_ok-reads.reads.items within needs) ∙ ap (ascending count) needs)
    (c.in_ok-from_slice.ensures.ok ∙ c.as_slice-written.ensures.value ∙ c.ascend.ensures.is count (writes_below count x raw within written) ∙ ap (ascending count) written)
    (c.in_ok-ascending-2.ensures.is count (waits_below count x c.in_ok-waits.waits.items within waits) ∙ ap (ascending count) waits)
