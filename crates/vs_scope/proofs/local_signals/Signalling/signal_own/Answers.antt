use Rattle.std.proofs.Common.{false, List, map, sym, ap, ◌∙◌, subst}
use Rattle.std.specs.Result.{OnOk}
use Rattle.vs_ast.specs.Views as view
use Rattle.vs_const.specs.declared.names.Role.TheVariants.{InFunction}
use Rattle.vs_elaborated.specs.Statements as statements
use Rattle.vs_elaborated.specs.Functions as spec
use Rattle.vs_scope.specs.Frames.{view_env}
use Rattle.vs_scope.specs.LocalLists.{AreShapedLocals, IsSigned}
use Rattle.vs_scope.specs.Locals.{local, local_start}
use Rattle.vs_scope.proofs.LocalLists.{shaped_own}
use Rattle.vs_scope.proofs.local_signals.Signalling.signal_own.Goals as goal

pub signal_all-requires : goal.signal_all-requires
signal_all-requires c =
    let f = view.function c.args.f.now in
    subst AreShapedLocals (sym (ap (map local) c.as_slice.ensures.value ∙ c.in_ok-own.ensures)) (shaped_own f c.requires)

pub returns : goal.returns
returns c =
    subst (λ (vs : List statements.Local). OnOk c.signal_all.result (IsSigned c.args.self.now c.signal_all.new.self (spec.signals_of (view_env c.args.here.now) (local_start c.args.self.now.next) InFunction false vs))) (ap (map local) c.as_slice.ensures.value ∙ c.in_ok-own.ensures) c.signal_all.ensures
