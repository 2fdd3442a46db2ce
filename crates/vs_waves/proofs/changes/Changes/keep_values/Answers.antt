use Rattle.std.proofs.Common.{◌≡◌, ℕ, ◌+◌, ◌*◌, [], length, get_or, sym, refl, subst, arith}
use Rattle.vs_design.specs.Values.{read}
use Rattle.vs_program.specs.Compiled.{span_bits}
use Rattle.vs_engine.specs.Lanes.{state}
use Rattle.vs_waves.proofs.Lists.{read_here}
use Rattle.vs_waves.proofs.Listing.{lone_value}
use Rattle.vs_waves.proofs.changes.Changes.keep_values.Goals as goal

pub returns-then-planes-eq1-clause-value : goal.returns-then-planes-eq1-clause-value
returns-then-planes-eq1-clause-value g c = λ s i e l t.
    lone_value g.W.Word.lane i c.args.planes.now c.index-planes-0.result (state g.W.Word.lane c.args.engine.now i) s
    (read_here c.args.planes.now c.args.planes.now 0 c.index-planes-0.result refl (omega (arith, c.if-planes-eq1.true)) c.index-planes-0.is)
    c.if-planes-eq1.true
    (c.requires.bits s e)
    (λ k h. c.requires.planes s k i e h l)

pub returns-in-Some-clause-value : goal.returns-in-Some-clause-value
returns-in-Some-clause-value g c = λ s i e l t.
    subst (λ (j : ℕ). get_or c.keep_lane.new.self.values.items (length c.args.self.now.changed.items * g.W.Word.LANES + j) [] ≡ read (state g.W.Word.lane c.args.engine.now j) (span_bits s))
    (sym (c.in-Some.ensures.only i l t))
    (c.keep_lane.ensures.value s e)

pub returns-clause-value : goal.returns-clause-value
returns-clause-value g c = λ s i e l t. c.keep_row.ensures.value s i e l
