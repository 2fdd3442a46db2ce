use Rattle.vs_reread.proofs.drawing.tree_of.Goals as goal

pub parse-requires : goal.parse-requires
parse-requires c =
    let r = c.requires in
    c.kept_law.ensures c.args.text.now r.written c.args.tokens.now (c.tokens_law.ensures c.args.text.now r.written r.cut) r.resolved

pub returns-in-Ok : goal.returns-in-Ok
returns-in-Ok c = (c.in-Ok.ensures.found, c.in-Ok.ensures.complete)

pub returns-in_default : goal.returns-in_default
returns-in_default c = λ s spelled. c.in_default.not-Memory (c.in-Err.ensures.complete s spelled)
