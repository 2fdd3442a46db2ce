use Rattle.std.proofs.Common.{◌≡◌, ◌<◌, length, get_or, Some, slice_get, arith}
use Rattle.std.proofs.lemmas.Option.{slice_get-get_or}
use Rattle.vs_stim.specs.declared.input.Expected.{Expected}
use Rattle.vs_misses.proofs.Columns.{set_more, set_all, has_row, few_of_rows}
use Rattle.vs_misses.proofs.row.name_columns.Goals as goal

pub overflow_cast-place : goal.overflow_cast-place
overflow_cast-place c = omega (arith, c.requires.few, few_of_rows c.args.rows.now c.args.columns.now c.requires.columns c.requires.once)

pub loop-place-preserved : goal.loop-place-preserved
loop-place-preserved c =
    let place = c.loop-place.place in
    let column : Expected = get_or c.args.columns.now place (record { output = 0; length = 0 }) in
    let at : slice_get c.args.columns.now place ≡ Some column = slice_get-get_or c.args.columns.now place (record { output = 0; length = 0 }) c.loop-place-test.true in
    let below : column.output < length c.loop-place.rows = omega (arith, has_row c.args.rows.now c.args.columns.now place column c.requires.columns at, c.loop-place.invariant.long) in
    set_more c.args.rows.now c.args.lane c.args.columns.now place c.loop-place.rows column (get_or c.loop-place.rows column.output c.index-rows-column.result) c.set.new.self c.requires.once at
    (slice_get-get_or c.loop-place.rows column.output c.index-rows-column.result below)
    record { span = c.set.ensures.span; places = c.set.ensures.places; is_named = c.set.ensures.named }
    c.loop-place.invariant

pub returns-clause-places : goal.returns-clause-places
returns-clause-places c = set_all c.args.rows.now c.args.lane c.args.columns.now c.loop-place.place c.loop-place.rows (omega arith) c.loop-place.invariant
