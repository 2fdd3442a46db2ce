use Rattle.std.proofs.Common.{◌≡◌, ◌+◌, sym, subst, refl, arith}
use Rattle.std.specs.Prelude.{List, slice_set, slice_index_or}
use Rattle.vs_stim.specs.declared.input.Expected.{Expected}
use Rattle.vs_stim.specs.declared.wanted.Digit.{Digit}
use Rattle.vs_stim.specs.Wanted.{wanted_sizes}
use Rattle.vs_stim.specs.Plain.{ReadsExpected}
use Rattle.vs_stim.proofs.LineRead.{begins_within, expected_none, expected_more, expected_sizes}
use Rattle.vs_stim.proofs.plain.read_expected.Goals as goal

pub loop-n-init : goal.loop-n-init
loop-n-init c = record { sizes = refl; reads = expected_none c.args.columns.now c.args.bytes.now c.args.values.now; within = omega arith }

pub loop-n-preserved : goal.loop-n-preserved
loop-n-preserved c =
    let none : Expected = record { output = 0; length = 0 } in
    let inv = c.loop-n.invariant in
    let n = c.loop-n.n in
    let columns = c.args.columns.now in
    let bits = c.in_ok-field.field-0 in
    let reads =
    expected_more columns n c.loop-n.at c.args.bytes.now c.args.values.now c.loop-n.values none bits c.requires.each inv.reads (omega (arith, c.loop-n-test.true, c.requires.count)) c.in_ok-field.ensures.field in
    record {
      sizes =
          subst (λ (w : List Digit). wanted_sizes (slice_set c.loop-n.values n w) ≡ wanted_sizes c.args.values.now) (sym c.exactly.ensures)
          (expected_sizes columns n c.args.values.now c.loop-n.values none bits c.requires.sizes inv.sizes (omega (arith, c.loop-n-test.true, c.requires.count)) c.in_ok-field.ensures.size);
      reads =
          subst (λ (w : List Digit). ReadsExpected columns (n + 1) (c.loop-n.at + ((slice_index_or columns n none).length + 1)) c.args.bytes.now c.args.values.now (slice_set c.loop-n.values n w)) (sym c.exactly.ensures) reads;
      within = begins_within _ _ _ reads.begins;
    }
