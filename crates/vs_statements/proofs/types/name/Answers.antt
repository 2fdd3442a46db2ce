use Rattle.vs_statements.proofs.Places.{answer_more, read_tok, refused_missing, parsed}
use Rattle.vs_statements.proofs.types.name.Goals as goal

pub returns : goal.returns
returns c = answer_more c.identifier.result c.identifier.ensures (λ f w. parsed (read_tok c.args.depth.limit w.took) w.made) (λ e w. refused_missing w)
