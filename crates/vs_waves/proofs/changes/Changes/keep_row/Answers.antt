use Rattle.std.proofs.Common.{◌≡◌, ℕ, List, ◌+◌, ◌-◌, ◌*◌, ◌≤◌, ◌∙◌, [], length, slice_get, drop, length-drop, length-take-le, sym, ap, ap₂, arith}
use Rattle.std.proofs.Math.Nat.{suc-mul}
use Rattle.std.proofs.lemmas.Option.{get_or_from_slice_get}
use Rattle.std.specs.Vec.{with_items}
use borrow.Rule.Slice.PartMut.{put_mid}
use Rattle.vs_four.specs.Logic.{BitList}
use Rattle.vs_design.specs.Values.{read}
use Rattle.vs_program.specs.Compiled.{span_bits}
use Rattle.vs_engine.specs.Lanes.{state}
use Rattle.vs_waves.proofs.Placing.{IsPlaced, placed_in}
use Rattle.vs_waves.proofs.changes.Changes.keep_row.Goals as goal
use Rattle.vs_waves.proofs.changes.Changes.keep_row.Goals.{After-values}

from_is : (g : _) (c : After-values g) → c.len.result * c.LANES.result ≡ length c.args.self.now.changed.items * g.W.Word.LANES
from_is g c = ap₂ (λ (a b : ℕ). a * b) (c.len.ensures ∙ c.args.self.now.changed.ok.0) c.LANES.ensures

row_size : (g : _) (c : After-values g) → c.len.result * c.LANES.result + c.LANES-2.result - c.len.result * c.LANES.result ≡ g.W.Word.LANES
row_size g c = omega (arith, c.LANES-2.ensures)

row_room : (g : _) (c : After-values g) → c.len.result * c.LANES.result + g.W.Word.LANES ≤ length c.args.self.now.values.items
row_room g c = omega (arith, from_is g c, suc-mul (length c.args.self.now.changed.items) g.W.Word.LANES, c.requires.values)

row_long : (g : _) (c : After-values g) → length c.values.new.out ≡ g.W.Word.LANES
row_long g c =
    let from : ℕ = c.len.result * c.LANES.result in
    c.values.ensures.lanes
    ∙ length-take-le (from + c.LANES-2.result - from) (drop from c.deref_mut.result.now) (omega (arith, row_size g c, row_room g c, length-drop from c.deref_mut.result.now, ap length c.deref_mut.ensures.value))
    ∙ row_size g c

-- the row is written, and nothing else
row : (g : _) (c : After-values g) → IsPlaced (c.len.result * c.LANES.result) c.args.self.now.values.items c.values.new.out
    (with_items c.args.self.now.values (put_mid (c.len.result * c.LANES.result) (c.len.result * c.LANES.result + c.LANES-2.result - c.len.result * c.LANES.result) c.deref_mut.result.now c.values.new.out)).items
row g c =
    let from : ℕ = c.len.result * c.LANES.result in
    placed_in c.args.self.now.values from (from + c.LANES-2.result - from) c.deref_mut.result.now c.values.new.out c.deref_mut.ensures.value (omega (arith, row_size g c, row_room g c)) (row_long g c ∙ sym (row_size g c))

pub returns-clause-before : goal.returns-clause-before
returns-clause-before g c = λ m h.
    let d = (goal.at.returns-clause-before g c).After-values in
    (row g d).before m (omega (arith, from_is g d))

pub returns-clause-value : goal.returns-clause-value
returns-clause-value g c = λ s i e l.
    let d = (goal.at.returns-clause-value g c).After-values in
    let from : ℕ = c.len.result * c.LANES.result in
    let values : List BitList = (with_items c.args.self.now.values (put_mid from (from + c.LANES-2.result - from) c.deref_mut.result.now c.values.new.out)).items in
    let value : BitList = read (state g.W.Word.lane c.args.engine.now i) (span_bits s) in
    let long : length c.values.new.out ≡ g.W.Word.LANES = row_long g d in
    get_or_from_slice_get values (length c.args.self.now.changed.items * g.W.Word.LANES + i) value []
    (ap (λ (m : ℕ). slice_get values (m + i)) (sym (from_is g d))
    ∙ (row g d).inside i (omega arith)
    ∙ c.values.ensures.values s i e (omega arith))
