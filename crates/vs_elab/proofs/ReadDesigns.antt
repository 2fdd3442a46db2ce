-- What has been read stays so with processes more.
use Rattle.std.proofs.Common.{◌≡◌, ◌≤◌, ◌^◌, false, List, [], length, Some, sym, ap, ◌∙◌, subst, arith}
use Rattle.vs_design.specs.Designs.{Process, Design, bit_count}
use Rattle.vs_build.proofs.Wider.{same_signals}
use Rattle.vs_scope.specs.declared.frames.Frame.{Frame}
use Rattle.vs_build.specs.Growth.{draft}
use Rattle.vs_scope.specs.Frames.{KeepShapes, env_at, envs}
use Rattle.vs_elab.specs.declared.reading.Counts.{Counts}
use Rattle.vs_elab.specs.declared.reading.Reading.{Reading}
use Rattle.vs_elab.specs.Functions.{IsIdle}
use Rattle.vs_elab.specs.Reading.{AreNumberedIn, AreSeen, IsRead, design_so_far}
use Rattle.vs_elab.proofs.InstanceSteps.{wired}
use Rattle.vs_elab.proofs.NumberedNames.{same_functions, seen_numbered}
use Rattle.vs_elab.proofs.WiderScopes.{frames_wider}

-- with processes more
pub read_wired : (old new : Reading) (ps : List Process) → new.frames.items ≡ old.frames.items → new.counts ≡ old.counts → IsIdle (draft new.builder) → design_so_far new ≡ wired (design_so_far old) ps → IsRead old → IsRead new
read_wired old new ps f n i d r = record {
  scopes = ap (λ (x : Design). length x.scopes) d ∙ r.scopes ∙ sym (ap (λ (x : Counts). x.start.scope) n);
  frames = ap (λ (x : List Frame). length x) f ∙ r.frames ∙ sym (ap (λ (x : Counts). x.start.scope) n);
  signals = ap (λ (x : Design). length x.signals) d ∙ r.signals ∙ sym (ap (λ (x : Counts). x.start.signal) n);
  bits = ap bit_count d ∙ r.bits ∙ sym (ap (λ (x : Counts). x.start.bit) n);
  functions = ap (λ (x : Design). length x.functions) d ∙ r.functions ∙ sym (ap (λ (x : Counts). x.functions) n);
  idle = i;
  few_bits = subst (λ (x : Counts). x.start.bit ≤ 2 ^ 20) (sym n) r.few_bits;
  few_instances = subst (λ (x : Counts). x.instances ≤ 4096) (sym n) r.few_instances;
  few_processes = subst (λ (x : Counts). x.processes ≤ 2 ^ 16) (sym n) r.few_processes;
  kept = subst KeepShapes (sym f) r.kept;
  numbered = subst (AreNumberedIn (design_so_far new)) (sym f) (seen_numbered (design_so_far old) (design_so_far new) [] (same_functions (design_so_far old) (design_so_far new) (ap (λ (x : Design). x.functions) d)) old.frames.items r.numbered);
  seen = subst (AreSeen (design_so_far new)) (sym f) λ i h. frames_wider (design_so_far old) (design_so_far new) (same_signals (design_so_far old) (design_so_far new) (omega (arith, ap (λ (x : Design). length x.scopes) d)) (ap (λ (x : Design). x.signals) d)) false (env_at (envs old.frames.items) (Some i)).frames (r.seen i h);
}
