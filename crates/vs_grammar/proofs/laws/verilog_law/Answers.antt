use Rattle.vs_grammar.proofs.Decided.{verilog_is_predictive}
use Rattle.vs_grammar.proofs.laws.verilog_law.Goals as goal

pub returns : goal.returns
returns c = verilog_is_predictive
