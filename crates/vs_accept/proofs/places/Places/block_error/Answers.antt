use Rattle.std.proofs.Common.{refl, subst, ℕ, ap₂}
use Rattle.vs_block.specs.Refused.{IsBlockError}
use Rattle.vs_design.specs.Answers.{OfBlock}
use Rattle.vs_design.specs.Refusals as rule
use Rattle.vs_flat.specs.DesignOf.{design_of}
use Rattle.vs_accept.specs.declared.error.AcceptError.TheVariants.{Refused}
use Rattle.vs_refusal.specs.declared.refusal.Refusal.TheVariants as refusal
use Rattle.vs_accept.specs.Refused.{byte_of}
use Rattle.vs_accept.proofs.Told.{first_verdict}
use Rattle.vs_accept.proofs.places.Places.block_error.Goals as goal

pub returns-in-FunctionLatch : goal.returns-in-FunctionLatch
returns-in-FunctionLatch c = λ clocks k h. let d = design_of c.args.typed.now in first_verdict (byte_of c.args.self.now.text.now c.args.self.now.tokens.now) d clocks (OfBlock (rule.FunctionLatch c.in-FunctionLatch.at)) _ refl (k, subst (IsBlockError d) c.in-FunctionLatch.is h) c.refused_at.ensures

pub returns-in-InitialForm : goal.returns-in-InitialForm
returns-in-InitialForm c = λ clocks k h. let d = design_of c.args.typed.now in let s = c.in-InitialForm in first_verdict (byte_of c.args.self.now.text.now c.args.self.now.tokens.now) d clocks (OfBlock (rule.InitialForm s.initial s.at)) _ refl (k, subst (IsBlockError d) s.is h) c.refused_initial.ensures

pub returns-in-MixedAssign : goal.returns-in-MixedAssign
returns-in-MixedAssign c = λ clocks k h. let d = design_of c.args.typed.now in first_verdict (byte_of c.args.self.now.text.now c.args.self.now.tokens.now) d clocks (OfBlock (rule.MixedAssign c.in-MixedAssign.at)) _ refl (k, subst (IsBlockError d) c.in-MixedAssign.is h) c.refused_at-in-MixedAssign.ensures

pub returns-in-Sensitivity : goal.returns-in-Sensitivity
returns-in-Sensitivity c = λ clocks k h.
    let d = design_of c.args.typed.now in
    let s = c.in-Sensitivity in
    first_verdict (byte_of c.args.self.now.text.now c.args.self.now.tokens.now) d clocks (OfBlock (rule.Sensitivity s.process s.signal s.at)) _ refl (k, subst (IsBlockError d) s.is h) (ap₂ (λ (p n : ℕ). Refused (refusal.Sensitivity p s.signal n)) c.number.ensures c.byte.ensures)

pub returns-in-Latch : goal.returns-in-Latch
returns-in-Latch c = λ clocks k h.
    let d = design_of c.args.typed.now in
    let s = c.in-Latch in
    first_verdict (byte_of c.args.self.now.text.now c.args.self.now.tokens.now) d clocks (OfBlock (rule.Latch s.process s.bit s.at)) _ refl (k, subst (IsBlockError d) s.is h) (ap₂ (λ (p n : ℕ). Refused (refusal.Latch p s.bit n)) c.number-in-Latch.ensures c.byte-in-Latch.ensures)
