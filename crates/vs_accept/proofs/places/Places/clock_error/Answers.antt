use Rattle.std.proofs.Common.{subst, refl}
use Rattle.vs_clock.specs.Refused.{IsClockError}
use Rattle.vs_design.specs.Answers.{OfClock}
use Rattle.vs_design.specs.Refusals as rule
use Rattle.vs_accept.specs.declared.error.AcceptError.TheVariants.{Refused}
use Rattle.vs_refusal.specs.declared.refusal.Refusal.TheVariants as refusal
use Rattle.vs_refusal.specs.declared.names.BareName.TheVariants.{NoClock}
use Rattle.vs_flat.specs.DesignOf.{design_of}
use Rattle.vs_accept.specs.Refused.{byte_of}
use Rattle.vs_accept.proofs.Told.{verdict}
use Rattle.vs_accept.proofs.places.Places.clock_error.Goals as goal

pub returns-in-NoClock : goal.returns-in-NoClock
returns-in-NoClock c = λ clocks k h. let d = design_of c.args.typed.now in verdict (byte_of c.args.self.now.text.now c.args.self.now.tokens.now) d clocks (OfClock rule.NoClock) (Refused (refusal.Bare NoClock)) (k.0, k.1, k.2, subst (IsClockError d clocks) c.in-NoClock.is h) refl

pub returns-in-ClockRead : goal.returns-in-ClockRead
returns-in-ClockRead c = λ clocks k h. let d = design_of c.args.typed.now in let s = c.in-ClockRead in verdict (byte_of c.args.self.now.text.now c.args.self.now.tokens.now) d clocks (OfClock (rule.ClockRead s.process s.at)) _ (k.0, k.1, k.2, subst (IsClockError d clocks) s.is h) c.refused_process.ensures

pub returns-in-NotTheClock : goal.returns-in-NotTheClock
returns-in-NotTheClock c = λ clocks k h. let d = design_of c.args.typed.now in let s = c.in-NotTheClock in verdict (byte_of c.args.self.now.text.now c.args.self.now.tokens.now) d clocks (OfClock (rule.NotTheClock s.process s.at)) _ (k.0, k.1, k.2, subst (IsClockError d clocks) s.is h) c.refused_process-in-NotTheClock.ensures

pub returns-in-ResetForm : goal.returns-in-ResetForm
returns-in-ResetForm c = λ clocks k h. let d = design_of c.args.typed.now in let s = c.in-ResetForm in verdict (byte_of c.args.self.now.text.now c.args.self.now.tokens.now) d clocks (OfClock (rule.ResetForm s.process s.at)) _ (k.0, k.1, k.2, subst (IsClockError d clocks) s.is h) c.refused_process-in-ResetForm.ensures
