use Rattle.std.proofs.Common.{◌≡◌, ◌≤◌, length}
use Rattle.vs_stim.specs.Wanted.{wanted_sizes}
use Rattle.vs_stim.specs.Plain.{ReadsExpected}
use Rattle.vs_stim.proofs.plain.read_expected.Given as goal

abbrev pub invariant-loop-n : goal.invariant-loop-n
invariant-loop-n l =
    record {
      sizes : wanted_sizes l.values ≡ wanted_sizes l.initial.values;
      reads : ReadsExpected l.columns l.n l.at l.bytes l.initial.values l.values;
      within : l.at ≤ length l.bytes;
    }
