use Rattle.std.proofs.Common.{◌≡◌, ℕ, ◌+◌, ◌≤◌, ◌∙◌, ap₂, subst}
use Rattle.vs_design.specs.Values.{count_from, read}
use Rattle.vs_program.specs.Compiled.{span_bits}
use Rattle.vs_engine.specs.Lanes.{Running, lane_slots, state}
use Rattle.vs_engine.proofs.Slots.{span_value}
use Rattle.vs_engine.proofs.engine.Engine.word.Goals as goal

pub returns-clause-bits : goal.returns-clause-bits
returns-clause-bits g c =
    let lane = g.W.Word.lane in
    let P : Running _ → Type 0 = λ e. c.args.bits.first + c.args.bits.length ≤ e.program.bits → c.read.result ≡ read (state lane e c.args.lane) (span_bits c.args.bits) in
    subst P c.self.view_is (λ inside. c.read.ensures ∙ span_value c.self.inside.compiled.bits c.self.inside.compiled.clocks c.self.inside.level (lane_slots lane c.self.inside.file c.args.lane) c.args.bits inside) c.requires.inside

pub returns-clause-word : goal.returns-clause-word
returns-clause-word g c = λ memory n first long.
    returns-clause-bits g c ∙ ap₂ (λ (f k : ℕ). read (state g.W.Word.lane c.args.self.now c.args.lane) (count_from f k)) first long
