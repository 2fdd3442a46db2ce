use Rattle.std.proofs.Common.{ℕ, List, length, get_or, Some, sym, ap, ◌∙◌, arith}
use Rattle.vs_four.specs.Logic.{BitList}
use Rattle.vs_net.specs.Network.{State}
use Rattle.vs_stim.specs.declared.input.Expected.{Expected}
use Rattle.vs_stim.specs.declared.wanted.Digit.{Digit}
use Rattle.vs_engine.specs.Lanes.{state}
use Rattle.vs_misses.proofs.Finds.{length_read}
use Rattle.vs_misses.proofs.Looks.{IsHere, IsColumn, column_here, row_read, found_here, met_here}
use Rattle.vs_misses.proofs.looking.first_miss.Goals as goal
use Rattle.vs_misses.proofs.looking.first_miss.Goals.{After-index-wanted-place}

-- the column, with its digits
here : (g : _) (c : After-index-wanted-place g) → IsHere c.args.engine.now.program.bits c.args.rows.now c.args.stimulus.now c.loop-place.place
    (get_or c.expected-column-items.result.now c.loop-place.place (record { output = 0; length = 0 })) c.index-wanted-place.result
here g c =
    column_here c.args.engine.now.program.bits c.args.rows.now c.args.stimulus.now c.loop-place.place c.expected-column-items.result.now (record { output = 0; length = 0 }) c.wanted.result.now c.index-wanted-place.result
    c.requires.inside c.requires.fits c.expected-column-items.ensures c.loop-place-test.true c.wanted.ensures c.index-wanted-place.is

pub of-wanted-requires-clause-count : goal.of-wanted-requires-clause-count
of-wanted-requires-clause-count g c = (here g c).size

pub of-wanted-requires-clause-some : goal.of-wanted-requires-clause-some
of-wanted-requires-clause-some g c = (here g c).some

pub of-wanted-requires-clause-at_most_64 : goal.of-wanted-requires-clause-at_most_64
of-wanted-requires-clause-at_most_64 g c = (here g c).short

pub word-got-requires-clause-some : goal.word-got-requires-clause-some
word-got-requires-clause-some g c =
    let column : Expected = get_or c.expected-column-items.result.now c.loop-place.place (record { output = 0; length = 0 }) in
    let h = here g (goal.at.word-got-requires-clause-some g c).After-index-wanted-place in
    let r = row_read c.args.engine.now.program.bits c.args.rows.now c.args.stimulus.now c.loop-place.place column c.index-rows-column.result c.requires.inside c.requires.fits h.column h.below in
    r.inside.some

pub word-got-requires-clause-short : goal.word-got-requires-clause-short
word-got-requires-clause-short g c =
    let column : Expected = get_or c.expected-column-items.result.now c.loop-place.place (record { output = 0; length = 0 }) in
    let h = here g (goal.at.word-got-requires-clause-short g c).After-index-wanted-place in
    let r = row_read c.args.engine.now.program.bits c.args.rows.now c.args.stimulus.now c.loop-place.place column c.index-rows-column.result c.requires.inside c.requires.fits h.column h.below in
    r.inside.short

pub word-got-requires-clause-inside : goal.word-got-requires-clause-inside
word-got-requires-clause-inside g c =
    let column : Expected = get_or c.expected-column-items.result.now c.loop-place.place (record { output = 0; length = 0 }) in
    let h = here g (goal.at.word-got-requires-clause-inside g c).After-index-wanted-place in
    let r = row_read c.args.engine.now.program.bits c.args.rows.now c.args.stimulus.now c.loop-place.place column c.index-rows-column.result c.requires.inside c.requires.fits h.column h.below in
    r.inside.within

pub are_met-requires : goal.are_met-requires
are_met-requires g c =
    let column : Expected = get_or c.expected-column-items.result.now c.loop-place.place (record { output = 0; length = 0 }) in
    let h = here g (goal.at.are_met-requires g c).After-index-wanted-place in
    let r = row_read c.args.engine.now.program.bits c.args.rows.now c.args.stimulus.now c.loop-place.place column c.index-rows-column.result c.requires.inside c.requires.fits h.column h.below in
    ap (λ (bits : BitList). length bits) c.word-got.ensures.bits
    ∙ length_read (state g.W.Word.lane c.args.engine.now c.args.lane) (get_or c.args.rows.now column.output c.index-rows-column.result).span
    ∙ sym r.length_is
    ∙ sym h.size
    ∙ sym (ap (λ (ds : List Digit). length ds) c.of-wanted.ensures)

pub overflow_cast-result : goal.overflow_cast-result
overflow_cast-result g c =
    let h = here g (goal.at.overflow_cast-result g c).After-index-wanted-place in
    omega (arith, h.few, c.requires.few)

pub returns-then-not-are_met : goal.returns-then-not-are_met
returns-then-not-are_met g c =
    let column : Expected = get_or c.expected-column-items.result.now c.loop-place.place (record { output = 0; length = 0 }) in
    let h = here g (goal.at.returns-then-not-are_met g c).After-index-wanted-place in
    let r = row_read c.args.engine.now.program.bits c.args.rows.now c.args.stimulus.now c.loop-place.place column c.index-rows-column.result c.requires.inside c.requires.fits h.column h.below in
    let s : State = state g.W.Word.lane c.args.engine.now c.args.lane in
    let is : IsColumn c.args.rows.now s c.args.stimulus.now.columns.expected c.args.stimulus.now.wanted c.loop-place.place column c.of-wanted.result c.word-got.result =
    record { column = h.column; wanted = h.wanted ∙ ap Some (sym c.of-wanted.ensures); row = get_or c.args.rows.now column.output c.index-rows-column.result; row_is = r.row_is; got_is = c.word-got.ensures.bits } in
    ap (λ (n : ℕ). Some (record { line = n; miss = record { output = c.loop-place.place; wanted = c.of-wanted.result; got = c.word-got.result } })) c.line.ensures
    ∙ found_here c.args.rows.now s c.args.stimulus.now.columns.expected c.args.stimulus.now.wanted c.loop-place.place column c.of-wanted.result c.word-got.result c.args.stimulus.now.line is
    (sym c.are_met.ensures ∙ c.if-not-are_met.true) c.loop-place.invariant

pub loop-place-preserved : goal.loop-place-preserved
loop-place-preserved g c =
    let column : Expected = get_or c.expected-column-items.result.now c.loop-place.place (record { output = 0; length = 0 }) in
    let h = here g (goal.at.loop-place-preserved g c).After-index-wanted-place in
    let r = row_read c.args.engine.now.program.bits c.args.rows.now c.args.stimulus.now c.loop-place.place column c.index-rows-column.result c.requires.inside c.requires.fits h.column h.below in
    let s : State = state g.W.Word.lane c.args.engine.now c.args.lane in
    let is : IsColumn c.args.rows.now s c.args.stimulus.now.columns.expected c.args.stimulus.now.wanted c.loop-place.place column c.of-wanted.result c.word-got.result =
    record { column = h.column; wanted = h.wanted ∙ ap Some (sym c.of-wanted.ensures); row = get_or c.args.rows.now column.output c.index-rows-column.result; row_is = r.row_is; got_is = c.word-got.ensures.bits } in
    met_here c.args.rows.now s c.args.stimulus.now.columns.expected c.args.stimulus.now.wanted c.loop-place.place column c.of-wanted.result c.word-got.result is
    (sym c.are_met.ensures ∙ c.if-not-are_met.false) c.loop-place.invariant
