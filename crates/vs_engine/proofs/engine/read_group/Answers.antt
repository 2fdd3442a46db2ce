use Rattle.std.proofs.Common.{ℕ, ◌+◌, ◌*◌, List, ◌∙◌, sym, ap, length, arith}
use Rattle.vs_four.specs.declared.Bit4.{Bit4}
use Rattle.vs_design.specs.Values.{count_from, read}
use Rattle.vs_plane.specs.Lanes.{slot_lane}
use Rattle.vs_program.specs.Lowered.{home}
use Rattle.vs_program.specs.Compiled.{span_bits}
use Rattle.vs_engine.proofs.Groups.{group_more, one_bit, homes_below, vector_bits}
use Rattle.vs_engine.proofs.engine.read_group.Goals as goal

pub loop-i-preserved : goal.loop-i-preserved
loop-i-preserved g c =
    let value : ℕ → List Bit4 = λ n. read (λ b. slot_lane g.W.Word.lane c.args.file.now (home b) n) (span_bits c.args.span) in
    let n : ℕ = 64 * c.args.k + c.loop-i.i in
    group_more value c.args.k c.loop-i.i c.args.out.now c.loop-i.out c.of_planes.result (omega arith) (omega arith)
    (c.of_planes.ensures
    ∙ one_bit g.W.Word.lane c.args.file.now c.load-pair.result c.args.span.first c.sixty_four-value.result c.sixty_four-unknown.result c.loop-i.i n
    (c.sixty_four-value.ensures c.loop-i.i (omega arith))
    (c.sixty_four-unknown.ensures c.loop-i.i (omega arith))
    (c.load-pair.ensures.lanes n ∙ ap (λ z. slot_lane g.W.Word.lane c.args.file.now z n) c.home.ensures)
    ∙ sym (ap (λ (m : ℕ). read (λ b. slot_lane g.W.Word.lane c.args.file.now (home b) n) (count_from c.args.span.first m)) c.if-span-eq1.true))
    c.loop-i.invariant

pub columns-columns-requires-clause-below : goal.columns-columns-requires-clause-below
columns-columns-requires-clause-below g c =
    homes_below c.loop-n.slots c.args.span.first c.args.span.length (length c.args.file.now) (omega arith) (λ j h. c.loop-n.invariant.slots j (omega arith)) (omega arith)

pub loop-i-else-span-eq1-preserved : goal.loop-i-else-span-eq1-preserved
loop-i-else-span-eq1-preserved g c =
    let value : ℕ → List Bit4 = λ n. read (λ b. slot_lane g.W.Word.lane c.args.file.now (home b) n) (span_bits c.args.span) in
    let i : ℕ = c.loop-i-else-span-eq1.i in
    group_more value c.args.k i c.args.out.now c.loop-i-else-span-eq1.out c.of_planes-in-loop-i-else-span-eq1.result (omega arith) (omega arith)
    (c.of_planes-in-loop-i-else-span-eq1.ensures
    ∙ vector_bits g.W.Word.lane c.args.file.now c.loop-n.slots c.args.span.first c.args.span.length _ _ (64 * c.args.k + i) (omega arith) (λ j h. c.loop-n.invariant.slots j (omega arith))
    (c.columns-columns.ensures.vectors i (omega arith)))
    c.loop-i-else-span-eq1.invariant
