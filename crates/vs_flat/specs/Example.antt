-- The design `module top(input clk, input a, input b, output y); assign y = a & b; endmodule`.
use Rattle.std.specs.Prelude.{ℕ, Bool, true, false, List, [], ◌∷◌, None}
use Rattle.vs_design.specs.Expressions as E
use Rattle.vs_design.specs.Statements as T
use Rattle.vs_design.specs.Designs as D
use Rattle.vs_flat.specs.declared.expressions.Node.TheVariants.{Name, Binary}
use Rattle.vs_base.specs.declared.operators.BinaryOp.TheVariants.{BitAnd}
use Rattle.vs_flat.specs.declared.processes.Signal.{Signal}
use Rattle.vs_flat.specs.declared.processes.Kind.TheVariants.{Assign}
use Rattle.vs_flat.specs.declared.processes.Port.TheVariants.{Written}
use Rattle.vs_flat.specs.Arena.{Arena, placed, empty_arena}

-- a scalar net of the top
abbrev pub net : List ℕ → Bool → ℕ → Signal
net name input first = record { name = name; scope = 0; net = true; input = input; range = None; signed = false; first_bit = first; words = None; integer = false }

-- the top and its ports
abbrev pub example_ports : Arena
example_ports = record empty_arena {
  scopes = record { name = 116 ∷ 111 ∷ 112 ∷ []; parent = None; instance = true } ∷ [];
  signals = net (99 ∷ 108 ∷ 107 ∷ []) true 0 ∷ net (97 ∷ []) true 1 ∷ net (98 ∷ []) true 2 ∷ net (121 ∷ []) false 3 ∷ [];
}

abbrev pub example_arena : Arena
example_arena = record example_ports {
  processes = record { at = 51; kind = Assign 0 3 Written } ∷ [];
  nodes = placed (Name 3) 58 ∷ placed (Name 1) 62 ∷ placed (Name 2) 66 ∷ placed (Binary BitAnd 1 2) 62 ∷ [];
}

abbrev pub plain_net : List ℕ → ℕ → Bool → E.Signal
plain_net name number input = record { name = name; scope = 0; number = number; net = true; input = input; range = None; signed = false; first = number; words = None; integer = false }

abbrev pub plain_a : E.Signal
plain_a = plain_net (97 ∷ []) 1 true

abbrev pub plain_b : E.Signal
plain_b = plain_net (98 ∷ []) 2 true

abbrev pub plain_y : E.Signal
plain_y = plain_net (121 ∷ []) 3 false

abbrev pub example_design : D.Design
example_design = record {
  scopes = record { name = 116 ∷ 111 ∷ 112 ∷ []; parent = None; instance = true } ∷ [];
  signals = plain_net (99 ∷ 108 ∷ 107 ∷ []) 0 true ∷ plain_a ∷ plain_b ∷ plain_y ∷ [];
  processes = D.Continuous 51 D.Written 58 (T.Whole plain_y) (E.At 62 (E.Binary E.BitAnd (E.At 62 (E.Name plain_a)) (E.At 66 (E.Name plain_b)))) ∷ [];
  initials = [];
  functions = [];
}
