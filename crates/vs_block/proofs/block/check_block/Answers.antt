use Rattle.std.proofs.Common.{◌≡◌, ◌&&◌, [], Bool, arith, map, true, false, refl, sym, ap, ◌∙◌, subst, Some, None}
use Rattle.vs_design.specs.Designs.{Process, bit_count}
use Rattle.vs_design.specs.Fits.{fits_statement}
use Rattle.vs_design.specs.Footprints.{contains, statement_bits}
use Rattle.vs_design.specs.Latches.{latch_bits}
use Rattle.vs_design.specs.Refusals.{least, block_refusal_of}
use Rattle.vs_design.specs.Refusals as R
use Rattle.vs_design.specs.Rules.{missing_bits, latches}
use Rattle.vs_design.specs.Selects.{is_lenient, meant}
use Rattle.vs_full.specs.Found.{AreNoted}
use Rattle.vs_flat.specs.Arena.{Arena}
use Rattle.vs_flat.specs.DesignOf.{arena_signals, event_of, design_of}
use Rattle.vs_flat.specs.Trees.{signal_at}
use Rattle.vs_shape.specs.Bodies.{body_of}
use Rattle.vs_reads.specs.Footprint.{reads_at, writes_at, waits_at}
use Rattle.vs_block.proofs.Blocks.{block_in, one_process, is_clocked_as, mixed_as, mixed_refused, none_mixed, clocked_kept, latches_are, combinational_is, missing_is}
use Rattle.vs_reads.proofs.Told.{told}
use Rattle.vs_block.proofs.block.check_block.Goals as goal

pub least_mixed-requires-clause-fits : goal.least_mixed-requires-clause-fits
least_mixed-requires-clause-fits c = subst (λ (x : Arena). fits_statement (body_of x c.args.statement) ≡ true) (sym c.shapes.ensures) c.requires.block.fits

pub returns-in-Some-clause-refused : goal.returns-in-Some-clause-refused
returns-in-Some-clause-refused c process at =
    let a = c.args.typed.now in
    let b = c.requires.block in
    let es = map (event_of (signal_at (arena_signals a))) c.args.events.now in
    subst (λ (y : Process). block_refusal_of (design_of a) c.args.p y ≡ Some (R.MixedAssign c.in-Some.at)) (one_process (design_of a).processes c.args.p _ process b.is at)
    (mixed_refused (design_of a) c.args.p c.args.at b.star es (body_of a c.args.statement) c.in-Some.at
    (mixed_as a c.shapes.result.now c.args.at b.star c.args.events.now c.args.statement c.has_edge-clocked.result c.least_mixed.result (Some c.in-Some.at) c.shapes.ensures c.has_edge-clocked.ensures c.if-clocked.false (c.least_mixed.ensures [] refl) c.in-Some.is))

pub returns-then-clocked-clause-kept : goal.returns-then-clocked-clause-kept
returns-then-clocked-clause-kept c process at =
    let a = c.args.typed.now in
    let b = c.requires.block in
    let es = map (event_of (signal_at (arena_signals a))) c.args.events.now in
    subst (λ (y : Process). block_refusal_of (design_of a) c.args.p y ≡ None) (one_process (design_of a).processes c.args.p _ process b.is at)
    (clocked_kept (design_of a) c.args.p c.args.at b.star es (body_of a c.args.statement)
    (is_clocked_as a c.args.at b.star c.args.events.now c.args.statement c.has_edge-clocked.result true c.has_edge-clocked.ensures c.if-clocked.true))

pub first_missing-requires-clause-reads : goal.first_missing-requires-clause-reads
first_missing-requires-clause-reads c =
    let d = design_of c.args.typed.now in
    let bits = c.footprint_law.ensures.bits d c.flat-flat.ensures.lawful.design c.args.p _ c.requires.block.is in
    (told (bit_count d) _ _ _ (c.reads.ensures ∙ ap (λ fs. reads_at fs c.args.p) c.requires.footprints) bits.reads).rising

pub first_missing-requires-clause-waits : goal.first_missing-requires-clause-waits
first_missing-requires-clause-waits c =
    let d = design_of c.args.typed.now in
    let bits = c.footprint_law.ensures.bits d c.flat-flat.ensures.lawful.design c.args.p _ c.requires.block.is in
    (told (bit_count d) _ _ _ (c.waits.ensures ∙ ap (λ fs. waits_at fs c.args.p) c.requires.footprints) bits.waits).rising

pub returns-in-Some-first_missing-clause-refused : goal.returns-in-Some-first_missing-clause-refused
returns-in-Some-first_missing-clause-refused c process at =
    let a = c.args.typed.now in
    let d = design_of a in
    let b = c.requires.block in
    let es = map (event_of (signal_at (arena_signals a))) c.args.events.now in
    let bits = c.footprint_law.ensures.bits d c.flat-flat.ensures.lawful.design c.args.p _ b.is in
    let x = block_in a c.args.at b.star c.args.events.now c.args.statement in
    let level = is_clocked_as a c.args.at b.star c.args.events.now c.args.statement c.has_edge-clocked.result false c.has_edge-clocked.ensures c.if-clocked.false in
    let missing : least (missing_bits x) ≡ Some c.in-Some-first_missing.bit =
    sym
    (missing_is (bit_count d) x c.reads.result.now c.waits.result.now (combinational_is d c.args.p c.args.at b.star es (body_of a c.args.statement) level)
    (told (bit_count d) _ _ _ (c.reads.ensures ∙ ap (λ fs. reads_at fs c.args.p) c.requires.footprints) bits.reads) (told (bit_count d) _ _ _ (c.waits.ensures ∙ ap (λ fs. waits_at fs c.args.p) c.requires.footprints) bits.waits))
    ∙ sym c.first_missing.ensures ∙ c.in-Some-first_missing.is
    in
    let signal = c.signal_with-signal.ensures ∙ ap (λ (y : Arena). R.signal_of (arena_signals y) c.in-Some-first_missing.bit) c.flat-flat.ensures.same in
    subst (λ (y : Process). block_refusal_of d c.args.p y ≡ Some (R.Sensitivity c.args.p c.signal_with-signal.result c.args.at)) (one_process d.processes c.args.p x process b.is at)
    (none_mixed d c.args.p c.args.at b.star es (body_of a c.args.statement)
    (mixed_as a c.shapes.result.now c.args.at b.star c.args.events.now c.args.statement c.has_edge-clocked.result c.least_mixed.result None c.shapes.ensures c.has_edge-clocked.ensures c.if-clocked.false (c.least_mixed.ensures [] refl) c.in_default.is)
    (Some c.in-Some-first_missing.bit) (least (latches d x)) missing refl
    ∙ ap (λ n. Some (R.Sensitivity c.args.p n c.args.at)) (sym signal))

pub first_kept-requires-clause-process : goal.first_kept-requires-clause-process
first_kept-requires-clause-process c = omega (arith, c.requires.process, c.requires.noted.sound.processes)

pub first_kept-requires-clause-lenient : goal.first_kept-requires-clause-lenient
first_kept-requires-clause-lenient c =
    let a = c.args.typed.now in
    let d = design_of a in
    let b = c.requires.block in
    let es = map (event_of (signal_at (arena_signals a))) c.args.events.now in
    let level = is_clocked_as a c.args.at b.star c.args.events.now c.args.statement c.has_edge-clocked.result false c.has_edge-clocked.ensures c.if-clocked.false in
    (c.requires.noted.each c.args.p c.requires.process).mark (block_in a c.args.at b.star c.args.events.now c.args.statement) b.is
    ∙ ap (λ (t : Bool). t && is_lenient (body_of a c.args.statement)) (combinational_is d c.args.p c.args.at b.star es (body_of a c.args.statement) level)
    ∙ ap (λ (x : Arena). is_lenient (body_of x c.args.statement)) (sym c.shapes-2.ensures)

pub first_kept-requires-clause-noted : goal.first_kept-requires-clause-noted
first_kept-requires-clause-noted c h =
    let r = c.requires.block.found in
    subst (λ (x : Arena). AreNoted x c.args.cases.now c.args.statement) (sym c.shapes-2.ensures) ((c.requires.noted.each c.args.p c.requires.process).cases r.0 c.requires.block.star c.args.events.now c.args.statement r.1 r.2 h)

pub first_kept-requires-clause-fits : goal.first_kept-requires-clause-fits
first_kept-requires-clause-fits c = subst (λ (x : Arena). fits_statement (body_of x c.args.statement) ≡ true) (sym c.shapes-2.ensures) c.requires.block.fits

pub first_kept-requires-clause-rising : goal.first_kept-requires-clause-rising
first_kept-requires-clause-rising c =
    let d = design_of c.args.typed.now in
    let bits = c.footprint_law.ensures.bits d c.flat-flat.ensures.lawful.design c.args.p _ c.requires.block.is in
    (told (bit_count d) _ _ _ (c.writes-own.ensures ∙ ap (λ fs. writes_at fs c.args.p) c.requires.footprints) bits.writes).rising

pub first_kept-requires-clause-own : goal.first_kept-requires-clause-own
first_kept-requires-clause-own c b =
    let d = design_of c.args.typed.now in
    let bits = c.footprint_law.ensures.bits d c.flat-flat.ensures.lawful.design c.args.p _ c.requires.block.is in
    (told (bit_count d) _ _ _ (c.writes-own.ensures ∙ ap (λ fs. writes_at fs c.args.p) c.requires.footprints) bits.writes).same b
    ∙ ap (λ (x : Arena). contains (statement_bits (body_of x c.args.statement)) b) (sym c.shapes-2.ensures)

pub returns-in-Some-latch-clause-refused : goal.returns-in-Some-latch-clause-refused
returns-in-Some-latch-clause-refused c process at =
    let a = c.args.typed.now in
    let d = design_of a in
    let b = c.requires.block in
    let es = map (event_of (signal_at (arena_signals a))) c.args.events.now in
    let bits = c.footprint_law.ensures.bits d c.flat-flat.ensures.lawful.design c.args.p _ b.is in
    let x = block_in a c.args.at b.star c.args.events.now c.args.statement in
    let level = is_clocked_as a c.args.at b.star c.args.events.now c.args.statement c.has_edge-clocked.result false c.has_edge-clocked.ensures c.if-clocked.false in
    let missing : least (missing_bits x) ≡ None =
    sym
    (missing_is (bit_count d) x c.reads.result.now c.waits.result.now (combinational_is d c.args.p c.args.at b.star es (body_of a c.args.statement) level)
    (told (bit_count d) _ _ _ (c.reads.ensures ∙ ap (λ fs. reads_at fs c.args.p) c.requires.footprints) bits.reads) (told (bit_count d) _ _ _ (c.waits.ensures ∙ ap (λ fs. waits_at fs c.args.p) c.requires.footprints) bits.waits))
    ∙ sym c.first_missing.ensures ∙ c.in_default-first_missing.is
    in
    let latch : least (latches d x) ≡ Some c.in-Some-latch.bit =
    ap least (latches_are d c.args.p c.args.at b.star es (body_of a c.args.statement) level) ∙ ap (λ (y : Arena). least (latch_bits (meant (design_of y) (body_of y c.args.statement)))) (sym c.shapes-2.ensures) ∙ sym c.in_ok-latch.ensures ∙ c.in-Some-latch.is
    in
    subst (λ (y : Process). block_refusal_of d c.args.p y ≡ Some (R.Latch c.args.p c.in-Some-latch.bit c.args.at)) (one_process d.processes c.args.p x process b.is at)
    (none_mixed d c.args.p c.args.at b.star es (body_of a c.args.statement)
    (mixed_as a c.shapes.result.now c.args.at b.star c.args.events.now c.args.statement c.has_edge-clocked.result c.least_mixed.result None c.shapes.ensures c.has_edge-clocked.ensures c.if-clocked.false (c.least_mixed.ensures [] refl) c.in_default.is)
    None (Some c.in-Some-latch.bit) missing latch)

pub returns-clause-kept : goal.returns-clause-kept
returns-clause-kept c process at =
    let a = c.args.typed.now in
    let d = design_of a in
    let b = c.requires.block in
    let es = map (event_of (signal_at (arena_signals a))) c.args.events.now in
    let bits = c.footprint_law.ensures.bits d c.flat-flat.ensures.lawful.design c.args.p _ b.is in
    let x = block_in a c.args.at b.star c.args.events.now c.args.statement in
    let level = is_clocked_as a c.args.at b.star c.args.events.now c.args.statement c.has_edge-clocked.result false c.has_edge-clocked.ensures c.if-clocked.false in
    let missing : least (missing_bits x) ≡ None =
    sym
    (missing_is (bit_count d) x c.reads.result.now c.waits.result.now (combinational_is d c.args.p c.args.at b.star es (body_of a c.args.statement) level)
    (told (bit_count d) _ _ _ (c.reads.ensures ∙ ap (λ fs. reads_at fs c.args.p) c.requires.footprints) bits.reads) (told (bit_count d) _ _ _ (c.waits.ensures ∙ ap (λ fs. waits_at fs c.args.p) c.requires.footprints) bits.waits))
    ∙ sym c.first_missing.ensures ∙ c.in_default-first_missing.is
    in
    let latch : least (latches d x) ≡ None =
    ap least (latches_are d c.args.p c.args.at b.star es (body_of a c.args.statement) level) ∙ ap (λ (y : Arena). least (latch_bits (meant (design_of y) (body_of y c.args.statement)))) (sym c.shapes-2.ensures) ∙ sym c.in_ok-latch.ensures ∙ c.in_default-latch.is
    in
    subst (λ (y : Process). block_refusal_of d c.args.p y ≡ None) (one_process d.processes c.args.p x process b.is at)
    (none_mixed d c.args.p c.args.at b.star es (body_of a c.args.statement)
    (mixed_as a c.shapes.result.now c.args.at b.star c.args.events.now c.args.statement c.has_edge-clocked.result c.least_mixed.result None c.shapes.ensures c.has_edge-clocked.ensures c.if-clocked.false (c.least_mixed.ensures [] refl) c.in_default.is)
    None None missing latch)
