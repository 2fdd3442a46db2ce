use Rattle.std.proofs.Common.{subst}
use Rattle.vs_zero.specs.Refused.{IsZeroError}
use Rattle.vs_design.specs.Answers.{OfZero}
use Rattle.vs_design.specs.Refusals as rule
use Rattle.vs_flat.specs.DesignOf.{design_of}
use Rattle.vs_accept.specs.Refused.{byte_of}
use Rattle.vs_accept.proofs.Told.{verdict}
use Rattle.vs_accept.proofs.places.Places.zero_error.Goals as goal

pub returns-in-TimeZero : goal.returns-in-TimeZero
returns-in-TimeZero c = λ clocks k acyclic raceless h. let d = design_of c.args.typed.now in let s = c.in-TimeZero in verdict (byte_of c.args.self.now.text.now c.args.self.now.tokens.now) d clocks (OfZero (rule.TimeZero s.process s.at)) _ (k.0, k.1, k.2, k.3, acyclic, raceless, subst (IsZeroError d clocks) s.is h) c.refused_process.ensures
