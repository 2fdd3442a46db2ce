use Rattle.std.proofs.Common.{◌++◌, true, flat_map, List, map, ap, sym, ◌∙◌, refl, subst}
use Rattle.vs_ast.specs.Views as view
use Rattle.vs_grammar.specs.Shapes.{IsValueType}
use Rattle.vs_const.specs.declared.names.Role.TheVariants.{InFunction}
use Rattle.vs_elaborated.specs.Statements as statements
use Rattle.vs_elaborated.specs.Functions as spec
use Rattle.vs_scope.specs.Frames.{view_env}
use Rattle.vs_scope.specs.Locals.{placed_local, placed_local_of}
use Rattle.vs_scope.specs.declared.names.LocalSignal.{LocalSignal}
use Rattle.vs_scope.proofs.LocalLists.{count_is, all_signed}
use Rattle.vs_scope.proofs.inside.signalled_locals.Goals as goal

pub signal-requires : goal.signal-requires
signal-requires c =
    let f = view.function c.args.f.now in
    subst (λ (v : statements.Local). IsValueType v.value_type) (sym c.result_local.ensures) c.requires.value_type

pub returns : goal.returns
returns c = λ reads same.
    let f = view.function c.args.f.now in
    let env = view_env c.args.here.now in
    let l = spec.function_locals c.args.scope env reads f in
    let s =
    all_signed env c.args.scope reads f _ c.signal_inputs.new.self c.pass_all.new.self c.signal.new.self c.signal_own.new.self c.result_local.result refl c.result_local.ensures c.in_ok-inputs.ensures.signed (c.in_ok-passed.ensures.next reads same)
    c.in_ok-result.ensures.signed c.in_ok-signal_own.ensures
    in
    record {
      signals = s.0.added.signals ∙ ap (λ (ss : List LocalSignal). map placed_local ss ++ map placed_local_of (spec.all_locals l)) c.new.ensures.items;
      inputs = c.in_ok-inputs.ensures.count ∙ sym (count_is env (record { scope = c.args.scope; signal = 0; bit = 0 }) InFunction true (flat_map statements.locals_of f.inputs));
      passed = c.in_ok-passed.ensures.passed reads same ∙ s.2;
      result = c.in_ok-result.ensures.is ∙ s.1;
      fault = s.0.added.fault;
      known = s.0.added.known;
      bits = s.0.bits;
    }
