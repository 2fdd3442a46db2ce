use Rattle.std.proofs.Common.{◌≡◌, true, false, length, map, sym, ap, ◌∙◌, subst, arith}
use Rattle.vs_design.specs.Designs.{bit_count}
use Rattle.vs_design.specs.Elaborated.{is_formed_statement}
use Rattle.vs_design.specs.Fits.{fits_statement}
use Rattle.vs_design.specs.Footprints.{contains, statement_bits}
use Rattle.vs_design.specs.Selects.{is_lenient, is_lenient_block}
use Rattle.vs_flat.specs.Arena.{Arena}
use Rattle.vs_flat.specs.DesignOf.{arena_signals, event_of, design_of}
use Rattle.vs_flat.specs.Trees.{signal_at}
use Rattle.vs_shape.specs.Bodies.{body_of}
use Rattle.vs_reads.specs.Footprint.{writes_at}
use Rattle.vs_reads.proofs.Told.{told}
use Rattle.vs_full.specs.Found.{AreNoted, AreSound, IsGrown}
use Rattle.vs_block.proofs.Blocks.{combinational_is, is_clocked_as, one_process}
use Rattle.vs_block.proofs.Looking.{clocked_unmarked, looked, unmarked}
use Rattle.vs_block.proofs.block.look_at_block.Goals as goal

pub mark-requires : goal.mark-requires
mark-requires c = omega (arith, c.requires.process, c.requires.sound.processes)

pub may_keep-requires-clause-there : goal.may_keep-requires-clause-there
may_keep-requires-clause-there c = omega (arith, c.requires.block.there, ap (λ (x : Arena). length x.statements) c.shapes.ensures)

pub may_keep-requires-clause-fits : goal.may_keep-requires-clause-fits
may_keep-requires-clause-fits c = subst (λ (x : Arena). fits_statement (body_of x c.args.statement) ≡ true) (sym c.shapes.ensures) c.requires.block.fits

pub may_keep-requires-clause-rising : goal.may_keep-requires-clause-rising
may_keep-requires-clause-rising c =
    let d = design_of c.args.typed.now in
    let lawful = c.flat.ensures.lawful in
    let bits = c.footprint_law.ensures.bits d lawful.design c.args.p _ c.requires.block.is in
    (told (bit_count d) _ _ _ (c.writes.ensures ∙ ap (λ fs. writes_at fs c.args.p) c.requires.footprints) bits.writes).rising

pub may_keep-requires-clause-own : goal.may_keep-requires-clause-own
may_keep-requires-clause-own c b =
    let d = design_of c.args.typed.now in
    let lawful = c.flat.ensures.lawful in
    let bits = c.footprint_law.ensures.bits d lawful.design c.args.p _ c.requires.block.is in
    (told (bit_count d) _ _ _ (c.writes.ensures ∙ ap (λ fs. writes_at fs c.args.p) c.requires.footprints) bits.writes).same b
    ∙ ap (λ (x : Arena). contains (statement_bits (body_of x c.args.statement)) b) (sym c.shapes.ensures)

pub look_into-requires-clause-sound : goal.look_into-requires-clause-sound
look_into-requires-clause-sound c = subst (λ (x : Arena). AreSound x c.args.cases.now) (sym c.shapes-2.ensures) c.requires.sound

pub look_into-requires-clause-there : goal.look_into-requires-clause-there
look_into-requires-clause-there c = omega (arith, c.requires.block.there, ap (λ (x : Arena). length x.statements) c.shapes-2.ensures)

pub look_into-requires-clause-fits : goal.look_into-requires-clause-fits
look_into-requires-clause-fits c = subst (λ (x : Arena). fits_statement (body_of x c.args.statement) ≡ true) (sym c.shapes-2.ensures) c.requires.block.fits

pub look_into-requires-clause-formed : goal.look_into-requires-clause-formed
look_into-requires-clause-formed c = subst (λ (x : Arena). is_formed_statement (design_of x) (body_of x c.args.statement) ≡ true) (sym c.shapes-2.ensures) c.requires.block.formed

pub mark-requires-2 : goal.mark-requires-2
mark-requires-2 c =
    let g = subst (λ (x : Arena). IsGrown x c.args.cases.now c.look_into.new.cases (λ f. c.in_ok-lenient.lenient ≡ true → AreNoted x f c.args.statement)) c.shapes-2.ensures c.in_ok-look_into.ensures in
    omega (arith, c.requires.process, g.sound.processes)

pub returns-then-has_edge : goal.returns-then-has_edge
returns-then-has_edge c =
    let a = c.args.typed.now in
    let b = c.requires.block in
    let es = map (event_of (signal_at (arena_signals a))) c.args.events.now in
    unmarked a c.args.cases.now c.mark.new.self c.args.p c.requires.sound c.requires.process c.mark.ensures (λ x at.
    ap is_lenient_block (sym (one_process (design_of a).processes c.args.p _ x b.is at))
    ∙ clocked_unmarked c.args.at b.star es (body_of a c.args.statement) (is_clocked_as a c.args.at b.star c.args.events.now c.args.statement c.has_edge.result true c.has_edge.ensures c.if-has_edge.true))

pub returns : goal.returns
returns c =
    let a = c.args.typed.now in
    let d = design_of a in
    let b = c.requires.block in
    let es = map (event_of (signal_at (arena_signals a))) c.args.events.now in
    let level = is_clocked_as a c.args.at b.star c.args.events.now c.args.statement c.has_edge.result false c.has_edge.ensures c.if-has_edge.false in
    let g = subst (λ (x : Arena). IsGrown x c.args.cases.now c.look_into.new.cases (λ f. c.in_ok-lenient.lenient ≡ true → AreNoted x f c.args.statement)) c.shapes-2.ensures c.in_ok-look_into.ensures in
    let is = c.in_ok-lenient.ensures ∙ ap (λ (x : Arena). is_lenient (body_of x c.args.statement)) c.shapes.ensures in
    looked a c.args.cases.now c.look_into.new.cases _ c.args.p c.args.at c.args.events.now c.args.statement c.in_ok-lenient.lenient b c.requires.sound c.requires.process is (combinational_is d c.args.p c.args.at b.star es (body_of a c.args.statement) level) g c.mark-2.ensures
