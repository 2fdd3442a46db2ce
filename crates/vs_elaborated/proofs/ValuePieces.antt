-- Declarations with values, also those of a header, have processes and initial processes alone.
use Rattle.std.proofs.Common.{ℕ, Bool, true, false, List, [], ◌∷◌, Option, Some, None, if◌then◌else◌}
use Rattle.vs_design.specs.Statements.{Statement}
use Rattle.vs_design.specs.Designs.{Process}
use Rattle.vs_grammar.specs.Trees as tree
use Rattle.vs_grammar.specs.Shapes.{Each}
use Rattle.vs_elaborated.specs.Environments.{Env}
use Rattle.vs_elaborated.specs.Signals.{is_reg}
use Rattle.vs_elaborated.specs.Pieces.{Contents, OfModule, OfBlock, Piece, Own, Initially, all_said}
use Rattle.vs_elaborated.specs.Surveys.{value_said, wire_said, declarator_said, signals_said, ports_said, header_said}
use Rattle.vs_elaborated.proofs.EachOf.{each_append}

module _ (P : Piece → Type 0) (own : (p : Process) → P (Own p)) (begun : (place : ℕ) (s : Statement) → P (Initially place s)) (env : Env) where
  declarator_each : (place : ℕ) (kind : tree.SignalKind) (d : tree.Declarator) → Each P (declarator_said env place kind d).pieces
  declarator_each place kind d = of d.name d.value
    where
      either : (n : tree.Name) (e : tree.Expr) (b : Bool) → Each P (if b then value_said env n e else wire_said env place n e).pieces
      either n e true = (begun n.place _, tt)
      either n e false = (own _, tt)

      of : (n : tree.Name) (v : Option tree.Expr) → Each P (declarator_said env place kind (record { name = n; addresses = d.addresses; value = v })).pieces
      of n None = tt
      of n (Some e) = either n e (is_reg kind)

  names_each : (place : ℕ) (kind : tree.SignalKind) (ds : List tree.Declarator) → Each P (all_said (declarator_said env place kind) ds).pieces
  names_each place kind [] = tt
  names_each place kind (d ∷ ds) = each_append P (declarator_said env place kind d).pieces (all_said (declarator_said env place kind) ds).pieces (declarator_each place kind d) (names_each place kind ds)

  pub signals_each : (t : tree.Signals) → Each P (signals_said env t).pieces
  signals_each t = names_each t.place t.kind t.names

  all_ports : (ts : List tree.Signals) → Each P (all_said (signals_said env) ts).pieces
  all_ports [] = tt
  all_ports (t ∷ ts) = each_append P (signals_said env t).pieces (all_said (signals_said env) ts).pieces (signals_each t) (all_ports ts)

  ports_each : (h : tree.Header) → Each P (ports_said env h).pieces
  ports_each tree.NoPorts = tt
  ports_each (tree.PlainPorts names) = tt
  ports_each (tree.DeclaredPorts ports) = all_ports ports

  pub header_each : (c : Contents) → Each P (header_said env c).pieces
  header_each (OfModule m overrides) = ports_each m.header
  header_each (OfBlock items) = tt
