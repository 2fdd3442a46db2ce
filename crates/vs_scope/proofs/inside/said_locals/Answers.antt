use Rattle.std.proofs.Common.{[], Option, sym, ap, ◌∙◌, subst}
use Rattle.vs_ast.specs.Views as view
use Rattle.vs_const.specs.declared.faults.Fault.{Fault}
use Rattle.vs_const.specs.Faults.{least, better}
use Rattle.vs_const.specs.Meanings.{SignalMeaning}
use Rattle.vs_const.proofs.Least.{least_append}
use Rattle.vs_elaborated.specs.Statements as statements
use Rattle.vs_elaborated.specs.Functions as spec
use Rattle.vs_scope.specs.Frames.{view_env}
use Rattle.vs_scope.specs.Inside.{AreNumbered, AreNumberedInputs}
use Rattle.vs_scope.specs.LocalLists.{local_faults}
use Rattle.vs_scope.proofs.InsideNames.{are_locals}
use Rattle.vs_scope.proofs.inside.said_locals.Goals as goal

pub returns : goal.returns
returns c = λ reads same.
    let f = view.function c.args.f.now in
    let l = spec.function_locals c.args.scope (view_env c.args.here.now) reads f in
    let s = c.in_ok-all.ensures reads same in
    record {
      locals = are_locals _ l (spec.declared_locals f) s.signals s.inputs s.passed (subst (AreNumberedInputs c.in_ok-by_signal.by_signal) c.as_slice-2.ensures.value c.in_ok-by_signal.ensures) c.in_ok-names.ensures.places (subst (AreNumbered c.in_ok-places.places) c.as_slice.ensures.value c.in_ok-places.ensures);
      range = ap (λ (m : SignalMeaning). m.signal.range) s.result;
      signed = ap (λ (m : SignalMeaning). m.signal.signed) s.result;
      fault =
          c.first_of.ensures ∙ ap (better c.in_ok-names.field-0.fault) s.fault ∙ ap (λ (o : Option Fault). better o (least (local_faults (spec.all_locals l)))) c.in_ok-names.ensures.fault
          ∙ sym (least_append (statements.repeated_locals [] (spec.declared_locals f)) (local_faults (spec.all_locals l)));
      known = s.known;
      bits = s.bits;
    }
