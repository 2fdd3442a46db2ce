use Rattle.std.proofs.Common.{true, List, map, length, sym, ap, ◌∙◌, subst}
use Rattle.std.proofs.lemmas.List.{length-map}
use Rattle.vs_ast.specs.Views as view
use Rattle.vs_const.specs.declared.names.Role.TheVariants.{InFunction}
use Rattle.vs_elaborated.specs.Statements as statements
use Rattle.vs_elaborated.specs.Functions as spec
use Rattle.vs_scope.specs.declared.locals.Local.{Local}
use Rattle.vs_scope.specs.Frames.{view_env}
use Rattle.vs_scope.specs.LocalLists.{AreShapedLocals, IsSigned}
use Rattle.vs_scope.specs.Locals.{local, local_start}
use Rattle.vs_scope.proofs.LocalLists.{shaped_declarations}
use Rattle.vs_scope.proofs.local_signals.Signalling.signal_inputs.Goals as goal

pub signal_all-requires : goal.signal_all-requires
signal_all-requires c =
    let f = view.function c.args.f.now in
    subst AreShapedLocals (sym (ap (map local) c.as_slice.ensures.value ∙ c.in_ok-inputs.ensures)) (shaped_declarations f.inputs c.requires.inputs)

pub returns-clause-signed : goal.returns-clause-signed
returns-clause-signed c =
    subst (λ (vs : List statements.Local). IsSigned c.args.self.now c.signal_all.new.self (spec.signals_of (view_env c.args.here.now) (local_start c.args.self.now.next) InFunction true vs)) (ap (map local) c.as_slice.ensures.value ∙ c.in_ok-inputs.ensures) c.in_ok-signal_all.ensures

pub returns-clause-count : goal.returns-clause-count
returns-clause-count c =
    c.len.ensures ∙ sym c.as_slice.ensures.len ∙ ap (λ (vs : List Local). length vs) c.as_slice.ensures.value ∙ sym (length-map c.in_ok-inputs.inputs.items local) ∙ ap (λ (vs : List statements.Local). length vs) c.in_ok-inputs.ensures
