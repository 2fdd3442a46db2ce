use Rattle.std.proofs.Common.{subst, ℕ, ap₂}
use Rattle.vs_race.specs.Refused.{IsRaceError}
use Rattle.vs_design.specs.Answers.{OfRace}
use Rattle.vs_design.specs.Refusals as rule
use Rattle.vs_accept.specs.declared.error.AcceptError.TheVariants.{Refused}
use Rattle.vs_refusal.specs.declared.refusal.Refusal.TheVariants as refusal
use Rattle.vs_flat.specs.DesignOf.{design_of}
use Rattle.vs_accept.specs.Refused.{byte_of}
use Rattle.vs_accept.proofs.Told.{verdict}
use Rattle.vs_accept.proofs.places.Places.race_error.Goals as goal

pub returns-in-Race : goal.returns-in-Race
returns-in-Race c = λ clocks k acyclic h. let d = design_of c.args.typed.now in let s = c.in-Race in verdict (byte_of c.args.self.now.text.now c.args.self.now.tokens.now) d clocks (OfRace (rule.Race s.process s.bit s.at)) _ (k.0, k.1, k.2, k.3, acyclic, subst (IsRaceError d) s.is h) (ap₂ (λ (p n : ℕ). Refused (refusal.Race p s.bit n)) c.number.ensures c.byte.ensures)
