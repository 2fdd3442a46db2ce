use Rattle.std.proofs.Common.{◌≡◌, Bool, not, ◌&&◌, ◌||◌, refl, ap, ◌∙◌}
use Rattle.vs_ast.specs.Views as view
use Rattle.vs_const.specs.Faults.{least}
use Rattle.vs_elaborated.specs.Parameters.{said_type, is_signed, is_integer_type}
use Rattle.vs_elaborated.specs.Signals as spec
use Rattle.vs_scope.specs.Frames.{view_env}
use Rattle.vs_scope.specs.Views as scope
use Rattle.vs_scope.specs.Signalled.{form_type, signal_sort}
use Rattle.vs_scope.proofs.Signalling.{same_meaning, same_faults}
use Rattle.vs_scope.proofs.signals.said_signal.Goals as goal

both_known : (a b c d : Bool) → a ≡ b → c ≡ d → (a && c) ≡ (b && d)
both_known a b c d h k = cc

either : (a b c d e f : Bool) → a ≡ (b || c) → b ≡ d → c ≡ e → e ≡ f → a ≡ (d || f)
either a b c d e f h k l m = cc

pub returns : goal.returns
returns c = λ addresses header w.
    let env = view_env c.args.here.now in
    let s = signal_sort c.args.form addresses header in
    let o = c.second_of-other.ensures.sort addresses header in
    let t = spec.second_sort s (view.option scope.declaration c.args.second) in
    let other = form_type c.second_of-other.result in
    let r = c.in_ok-range.ensures.is in
    let kind = c.kind_of-kind.ensures in
    let other_kind = c.kind_of-other_kind.ensures ∙ o.kind in
    let input = either _ _ _ _ _ _ c.is_input_of-is_input.ensures (ap spec.is_input kind) (ap spec.is_input c.kind_of-other_kind.ensures) (ap spec.is_input o.kind) in
    record {
      place = refl;
      meaning = same_meaning c.args.start.scope c.args.start.signal c.args.start.bit _ _ _ _ _ _ _ _ _ _ _ _ _ _ _ _ _ _
          c.as_slice.ensures
          (c.is_net.ensures ∙ ap not (either _ _ _ _ _ _ refl (ap spec.is_reg kind) (ap spec.is_reg c.kind_of-other_kind.ensures) (ap spec.is_reg o.kind)))
          (c.is_input_of_top.ensures ∙ ap (λ (b : Bool). b && c.args.start.top) input)
          (either _ _ _ _ _ _ c.is_said.ensures c.is_signed_form.ensures c.is_signed_form-2.ensures (ap is_signed o.value_type))
          input
          (c.are_known.ensures ∙ both_known _ _ _ _ r.known w.known)
          r.range
          w.range
          (either _ _ _ _ _ _ c.is_said-2.ensures c.is_integer.ensures c.is_integer-2.ensures (ap is_integer_type o.value_type));
      fault = c.second_fault.ensures (said_type s.value_type env) (said_type other env) r c.in_ok-second_range.ensures.is
          ∙ ap least (same_faults env s other c.args.second o.value_type);
    }
