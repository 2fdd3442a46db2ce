use Rattle.std.proofs.Common.{rules, ◌≡◌, None, true, length, map, refl, ap, ◌∙◌}
use Rattle.vs_ast.specs.Views as view
use Rattle.vs_const.specs.MentionViews.{kept}
use Rattle.vs_elaborated.specs.Environments.{within}
use Rattle.vs_elaborated.specs.Functions.{function_reads}
use Rattle.vs_scope.specs.Complete.{complete}
use Rattle.vs_scope.specs.Frames.{around_env}
use Rattle.vs_scope.specs.declared.inside.Inside.{Inside}
use Rattle.vs_scope.proofs.InsideNames.{inside_fair, declared_fair}
use Rattle.vs_scope.proofs.SaidFunctions.{function_said, reads_count}
use Rattle.vs_scope.proofs.functions.said_function.Goals as goal

pub invariant_of-here : goal.invariant_of-here
invariant_of-here c = record { kept = c.requires.kept }

pub check_statement-requires-clause-shaped : goal.check_statement-requires-clause-shaped
check_statement-requires-clause-shaped c = c.requires.shaped.statement

pub check_statement-requires-clause-fair : goal.check_statement-requires-clause-fair
check_statement-requires-clause-fair c =
    inside_fair (record { here = record { around = c.args.around; names = c.args.names; inside = None; before = None; in_function = true; kept = c.requires.kept }; locals = c.in_ok-locals.field-0.locals })

pub check_statement-requires-clause-declared : goal.check_statement-requires-clause-declared
check_statement-requires-clause-declared c =
    declared_fair (record { here = record { around = c.args.around; names = c.args.names; inside = None; before = None; in_function = true; kept = c.requires.kept }; locals = c.in_ok-locals.field-0.locals })

pub returns-clause-said : goal.returns-clause-said
returns-clause-said c =
    let around = around_env c.args.around in
    let outer = within around (complete around c.args.names.now) in
    let f = view.function c.args.f.now in
    let i : Inside = record { here = record { around = c.args.around; names = c.args.names; inside = None; before = None; in_function = true; kept = c.requires.kept }; locals = c.in_ok-locals.field-0.locals } in
    let count : c.len.result ≡ length c.in_ok-reads.reads.items = search rules in
    function_said outer c.args.number c.args.most c.args.names.now.scope f i c.in_ok-locals.field-0 c.in_ok-said.said c.len.result c.in_ok-whole.whole refl refl (count ∙ reads_count _ (function_reads outer f) c.in_ok-reads.ensures) refl
    (c.in_ok-locals.ensures (function_reads outer f) (ap (map kept) c.as_slice.ensures.value ∙ c.in_ok-reads.ensures)) c.in_ok-said.ensures c.in_ok-whole.ensures

pub returns-clause-reads : goal.returns-clause-reads
returns-clause-reads c = c.in_ok-reads.ensures
