use Rattle.std.proofs.Common.{subst, refl}
use Rattle.vs_typed.specs.Refused.{IsWidthError}
use Rattle.vs_design.specs.Answers.{OfWidth}
use Rattle.vs_design.specs.Refusals as rule
use Rattle.vs_accept.specs.declared.error.AcceptError.TheVariants.{Refused}
use Rattle.vs_refusal.specs.declared.refusal.Refusal.TheVariants as refusal
use Rattle.vs_accept.specs.Refused.{byte_of}
use Rattle.vs_accept.proofs.Told.{first_verdict}
use Rattle.vs_accept.proofs.places.Places.width_error.Goals as goal

pub returns-in-TooWide : goal.returns-in-TooWide
returns-in-TooWide c = λ d clocks h. first_verdict (byte_of c.args.self.now.text.now c.args.self.now.tokens.now) d clocks (OfWidth (rule.TooWide c.in-TooWide.at)) _ refl (subst (IsWidthError d) c.in-TooWide.is h) c.refused_at.ensures

pub returns-in-Division : goal.returns-in-Division
returns-in-Division c = λ d clocks h. first_verdict (byte_of c.args.self.now.text.now c.args.self.now.tokens.now) d clocks (OfWidth (rule.Division c.in-Division.at)) _ refl (subst (IsWidthError d) c.in-Division.is h) c.refused_at-in-Division.ensures

pub returns-in-TooLarge : goal.returns-in-TooLarge
returns-in-TooLarge c = λ d clocks h. first_verdict (byte_of c.args.self.now.text.now c.args.self.now.tokens.now) d clocks (OfWidth (rule.TooLarge c.in-TooLarge.size)) (Refused (refusal.TooLarge c.in-TooLarge.size)) refl (subst (IsWidthError d) c.in-TooLarge.is h) refl
