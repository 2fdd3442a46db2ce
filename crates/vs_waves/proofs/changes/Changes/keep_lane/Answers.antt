use Rattle.std.proofs.Common.{◌≡◌, ℕ, List, ◌+◌, ◌*◌, [], length, set, slice_get, Some, ◌∙◌, sym, ap, ap₂, arith}
use Rattle.std.proofs.Math.Nat.{suc-mul}
use Rattle.std.proofs.lemmas.Option.{get_or_from_slice_get}
use Rattle.vs_four.specs.Logic.{BitList}
use Rattle.vs_design.specs.Values.{read}
use Rattle.vs_program.specs.Compiled.{span_bits}
use Rattle.vs_engine.specs.Lanes.{state}
use Rattle.vs_waves.proofs.Lists.{slice_get-set_same, slice_get-set_other}
use Rattle.vs_waves.proofs.changes.Changes.keep_lane.Goals as goal
use Rattle.vs_waves.proofs.changes.Changes.keep_lane.Goals.{After-value}

from_is : (g : _) (c : After-value g) → c.len.result * c.LANES.result ≡ length c.args.self.now.changed.items * g.W.Word.LANES
from_is g c = ap₂ (λ (a b : ℕ). a * b) (c.len.ensures ∙ c.args.self.now.changed.ok.0) c.LANES.ensures

pub returns-clause-before : goal.returns-clause-before
returns-clause-before g c = λ m h.
    let d = (goal.at.returns-clause-before g c).After-value in
    slice_get-set_other c.args.self.now.values.items (c.len.result * c.LANES.result + c.args.lane) m c.value.result (λ e. omega (arith, from_is g d, e, h))

pub returns-clause-value : goal.returns-clause-value
returns-clause-value g c = λ s e.
    let d = (goal.at.returns-clause-value g c).After-value in
    let values : List BitList = c.args.self.now.values.items in
    let place : ℕ = c.len.result * c.LANES.result + c.args.lane in
    let value : BitList = read (state g.W.Word.lane c.args.engine.now c.args.lane) (span_bits s) in
    get_or_from_slice_get (set values place c.value.result) (length c.args.self.now.changed.items * g.W.Word.LANES + c.args.lane) value []
    (ap (λ (m : ℕ). slice_get (set values place c.value.result) (m + c.args.lane)) (sym (from_is g d))
    ∙ slice_get-set_same values place c.value.result (omega (arith, from_is g d, suc-mul (length c.args.self.now.changed.items) g.W.Word.LANES, c.requires.values, c.requires.lane))
    ∙ ap Some (c.value.ensures s e))
