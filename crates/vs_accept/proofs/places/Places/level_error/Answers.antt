use Rattle.std.proofs.Common.{ℕ, List, map, subst}
use Rattle.vs_level.specs.Level.{IsLevelError}
use Rattle.vs_design.specs.Answers.{Cycle}
use Rattle.vs_flat.specs.DesignOf.{design_of}
use Rattle.vs_refusal.specs.declared.refusal.Refusal.TheVariants as refusal
use Rattle.vs_accept.specs.Answers.{TellsJust}
use Rattle.vs_accept.specs.Numbers.{process_number}
use Rattle.vs_accept.specs.Refused.{byte_of}
use Rattle.vs_accept.proofs.Told.{verdict_or}
use Rattle.vs_accept.proofs.places.Places.level_error.Goals as goal

pub returns-in-Cycle : goal.returns-in-Cycle
returns-in-Cycle c = λ clocks k h.
    let d = design_of c.args.typed.now in
    let byte = byte_of c.args.self.now.text.now c.args.self.now.tokens.now in
    let s = c.in-Cycle in
    let cycle = subst (IsLevelError d) s.is h in
    let told = subst (λ (ps : List ℕ). TellsJust (refusal.Cycle (map (process_number d) ps) (byte s.at)) c.refused_cycle.result) c.as_slice.ensures.value c.refused_cycle.ensures in
    verdict_or byte d clocks (Cycle s.processes.items s.at) c.refused_cycle.result (k.0, k.1, k.2, k.3, cycle.0, cycle.1) told
