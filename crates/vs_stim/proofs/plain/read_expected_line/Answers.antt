use Rattle.std.proofs.Common.{◌≡◌, ◌+◌, ◌-◌, length, sym, subst, arith}
use Rattle.std.specs.Prelude.{List, slice_set, slice_index_or}
use Rattle.vs_stim.specs.declared.wanted.Digit.{Digit}
use Rattle.vs_stim.specs.Wanted.{wanted_sizes}
use Rattle.vs_stim.specs.Plain.{EndsExpected}
use Rattle.vs_stim.proofs.LineRead.{expected_end, expected_sizes}
use Rattle.vs_stim.proofs.plain.read_expected_line.Goals as goal

pub returns-clause-sizes : goal.returns-clause-sizes
returns-clause-sizes c =
    let n = length c.args.columns.now - 1 in
    subst (λ (w : List Digit). wanted_sizes (slice_set c.read_expected.new.values n w) ≡ wanted_sizes c.args.values.now) (sym c.exactly.ensures)
    (expected_sizes c.args.columns.now n c.args.values.now c.read_expected.new.values (record { output = 0; length = 0 }) c.in_ok-field.field-0 c.requires.sizes c.read_expected.ensures.sizes (omega (arith, c.requires.some)) c.in_ok-field.ensures.size)

pub returns-clause-ends : goal.returns-clause-ends
returns-clause-ends c =
    let n = length c.args.columns.now - 1 in
    subst (λ (w : List Digit). EndsExpected c.args.columns.now (c.in_ok-at.at + (slice_index_or c.args.columns.now n (record { output = 0; length = 0 })).length + 1) c.args.bytes.now c.args.values.now (slice_set c.read_expected.new.values n w)) (sym c.exactly.ensures)
    (expected_end c.args.columns.now n c.in_ok-at.at c.args.bytes.now c.args.values.now c.read_expected.new.values (record { output = 0; length = 0 }) c.in_ok-field.field-0 c.requires.each c.in_ok-at.ensures.reads (omega (arith, c.requires.some)) c.in_ok-field.ensures.field)
