use Rattle.std.proofs.Common.{◌≡◌, ◌≤◌, length}
use Rattle.vs_stim.specs.Row.{sizes}
use Rattle.vs_stim.specs.Plain.{ReadsInputs}
use Rattle.vs_stim.proofs.plain.read_inputs.Given as goal

abbrev pub invariant-loop-n : goal.invariant-loop-n
invariant-loop-n l =
    record {
      sizes : sizes l.values ≡ sizes l.initial.values;
      reads : ReadsInputs l.columns l.n l.at l.bytes l.initial.values l.values;
      within : l.at ≤ length l.bytes;
    }
