use Rattle.std.proofs.Common.{ℕ, ap, sym, ◌∙◌, arith, nat_eq}
use Rattle.vs_grammar.specs.Kinds.{number_of}
use Rattle.vs_statements.specs.Reading.{kind_at}
use Rattle.vs_statements.proofs.Places.{kind_in, kind_end, end_is_none}
use Rattle.vs_statements.proofs.tokens.stands.Goals as goal

pub returns-then-at-input : goal.returns-then-at-input
returns-then-at-input c = ap (λ (n : ℕ). nat_eq n c.number-then-at-input.result) (c.number.ensures ∙ kind_in c.args.input.now.tokens.now c.args.at _ (omega arith)) ∙ ap (λ (n : ℕ). nat_eq (kind_at c.args.input.now.tokens.now c.args.at) n) c.number-then-at-input.ensures

pub returns-else-at-input : goal.returns-else-at-input
returns-else-at-input c = sym (ap (λ (n : ℕ). nat_eq n (number_of c.args.kind)) (kind_end c.args.input.now.tokens.now c.args.at (omega arith)) ∙ end_is_none c.args.kind)
