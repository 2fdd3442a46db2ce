use Rattle.vs_values.proofs.Tables.{table_more}
use Rattle.vs_values.proofs.templates.Templates.push.Goals as goal

pub invariant_of-self-2 : goal.invariant_of-self-2
invariant_of-self-2 c =
    table_more c.self.inside.typed.now c.self.inside.table.items c.push.new.self.items c.args.self.now c.args.entry c.self.view_is c.self.invariant c.requires.there c.requires.entry c.in_ok-push.ensures.items
