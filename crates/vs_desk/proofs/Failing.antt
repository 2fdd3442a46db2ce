-- When a call fails and each place stays attached as it was.
use Rattle.std.proofs.Common.{◌≡◌, ℕ, List, Option}
use Rattle.std.proofs.Math.Path.{fun_ext}
use Rattle.vs_desk.specs.declared.failures.Failures.{Failures}
use Rattle.vs_desk.specs.Desk.{Attachment, Fails}
use Rattle.vs_desk.specs.Failures.{register_of}

pub fails_in : (f g : ℕ → Option Attachment) (old new : Failures) (place : ℕ) (asked : List ℕ)
    → ((p : ℕ) → g p ≡ f p)
    → ((attached : ℕ → Option Attachment) → Fails (register_of attached old) (register_of attached new) place asked)
    → Fails (register_of f old) (register_of g new) place asked
fails_in f g old new place asked same fails = let h = fails f in record {
  attached = fun_ext same;
  fault = h.fault;
  loss = h.loss;
  no_fault = h.no_fault;
  no_loss = h.no_loss;
  noted = h.noted;
  not_noted = h.not_noted;
  path = h.path;
}
