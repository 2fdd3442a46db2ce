use Rattle.std.proofs.Common.{◌≡◌, ◌++◌, IfOk, sym, ap, ◌∙◌, subst}
use Rattle.vs_grammar.specs.Trees as tree
use Rattle.vs_ast.specs.Views as view
use Rattle.vs_const.specs.Faults.{least}
use Rattle.vs_const.specs.MentionViews.{all_told, all_told_of}
use Rattle.vs_elaborated.specs.Reads.{statement_mentions}
use Rattle.vs_elaborated.specs.Unheard as heard
use Rattle.vs_bodies.proofs.reads.block_unheard.Goals as goal

pub returns-in_ok-push_statement-in-Star : goal.returns-in_ok-push_statement-in-Star
returns-in_ok-push_statement-in-Star g c =
    let find = g.E.Env.names c.args.env.now in
    let b = c.args.b.now in
    let ms = statement_mentions (view.statement b.statement) find in
    let said = λ (k : tree.EventControl). heard.block_unheard find (record { place = b.place; control = k; statement = view.statement b.statement }) in
    subst (λ (k : tree.EventControl). IfOk c.unheard.result (λ f. f ≡ least (said k))) (sym (ap view.event_control c.in-Star.is))
    (c.unheard.ensures ms (ap all_told c.as_slice.ensures.value ∙ c.in_ok-push_statement-in-Star.ensures ∙ ap (λ xs. all_told xs ++ all_told_of ms) c.new-list.ensures.items))
