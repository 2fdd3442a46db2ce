-- What is still to be read of a text: a list in place of scopes within one another (IEEE 1364-2005, 12.1).
use Rattle.std.specs.Prelude.{◌+◌, ℕ, zero, suc, List, [], ◌∷◌, map, Result, Ok, Err}
use Rattle.vs_design.specs.Designs.{Design}
use Rattle.vs_grammar.specs.Trees.{Source}
use Rattle.vs_const.specs.declared.faults.Fault.{Fault}
use Rattle.vs_elaborated.specs.Limits.{Limits}
use Rattle.vs_elaborated.specs.Pieces.{Task, is_instance, Connection, Piece, Own, OfScopes, Initially, Instance, Within}
use Rattle.vs_elaborated.specs.Surveys.{Totals, Survey, survey}
use Rattle.vs_elaborated.specs.Elaborated.{both_designs, of_processes, then_do, port_assign, counted, Read, ReadPieces, read_piece, read_scope}

-- a piece that is still to be read; `left` bounds how deep scopes stand within one another in it
pub record Pending : Type 0 where
  pub left : ℕ
  pub piece : Piece

-- a piece of a scope in which so many more may stand within one another
abbrev pub pending : ℕ → Piece → Pending
pending left piece = record { left = left; piece = piece }

-- what it has, and the counts then
abbrev pub read_pending : Limits → Source → Pending → Totals → Result ReadPieces Fault
read_pending limits source p totals = read_piece limits (read_scope p.left limits source) p.piece totals

-- what all of them have, one after the other
abbrev pub rest_of : Limits → Source → List Pending → Totals → Result Design Fault
rest_of limits source [] totals = Ok (of_processes [])
rest_of limits source (p ∷ ps) totals = then_do (read_pending limits source p totals) λ a. then_do (rest_of limits source ps a.totals) λ d. Ok (both_designs a.design d)

-- what is built so far, and then this
abbrev pub built_then : Design → Result Design Fault → Result Design Fault
built_then built r = then_do r λ d. Ok (both_designs built d)

-- ---- what a scope adds before all within it

-- the scope with its signals and its functions
abbrev pub scope_part : Task → Survey → Design
scope_part k s = record { scopes = record { name = k.name; parent = k.parent; instance = is_instance k.contents } ∷ []; signals = s.signals; processes = []; initials = []; functions = s.functions }

-- the ports of an instance (12.3.9.2)
abbrev pub ports_part : Task → Survey → List Connection → Design
ports_part k s cs = of_processes (map (port_assign k.place s.entries) cs)

-- ---- how many pieces are still to be read: it falls with each step

-- of what follows, unless there was a fault
abbrev pub after : Result ReadPieces Fault → (Totals → ℕ) → ℕ
after (Err e) f = 0
after (Ok a) f = f a.totals

-- of one piece, and of pieces in text order; `f` is that of a scope
abbrev pub piece_work : (Task → Totals → ℕ) → Piece → Totals → ℕ
piece_work f (Own p) t = 0
piece_work f (OfScopes b) t = 0
piece_work f (Initially place statement) t = 0
piece_work f (Instance cs k) t = f k t
piece_work f (Within k) t = f k t

abbrev pub pieces_work : Limits → (Task → Totals → Result Read Fault) → (Task → Totals → ℕ) → List Piece → Totals → ℕ
pieces_work limits read f [] t = 0
pieces_work limits read f (p ∷ ps) t = suc (piece_work f p t + after (read_piece limits read p t) (λ u. pieces_work limits read f ps u))

-- of a scope
abbrev pub scope_work : ℕ → Limits → Source → Task → Totals → ℕ
scope_work zero limits source k t = 0
scope_work (suc left) limits source k t =
    pieces_work limits (read_scope left limits source) (scope_work left limits source) (survey limits source k (counted k t)).pieces (survey limits source k (counted k t)).totals

-- of all that is pending
abbrev pub work : Limits → Source → List Pending → Totals → ℕ
work limits source [] t = 0
work limits source (p ∷ ps) t = suc (piece_work (scope_work p.left limits source) p.piece t + after (read_pending limits source p t) (λ u. work limits source ps u))
