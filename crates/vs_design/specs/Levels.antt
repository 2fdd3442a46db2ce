-- The level order: each assign and each combinational block after all that feed it.
use Rattle.std.specs.Prelude.{ℕ, zero, suc, Bool, true, false, not, ◌&&◌, ◌||◌, List, [], ◌∷◌, ◌++◌, length, if◌then◌else◌}
use Rattle.std.specs.List.{list_any}
use Rattle.vs_design.specs.Designs.{Process, is_clocked, Design}
use Rattle.vs_design.specs.Footprints.{contains, writes_of, reads_of, waits_of}

-- the bits that a process reads or waits on
abbrev pub needs : Process → List ℕ
needs p = reads_of p ++ waits_of p

-- q writes a bit that p reads or waits on
abbrev pub feeds : Process → Process → Bool
feeds q p = list_any (contains (needs p)) (writes_of q)

-- each assign and combinational block that feeds p is placed; the list is numbered from q on
abbrev pub is_ready : List ℕ → ℕ → List Process → Process → Bool
is_ready placed q [] p = true
is_ready placed q (other ∷ ps) p = (is_clocked other || not (feeds other p) || contains placed q) && is_ready placed (suc q) ps p

-- one turn over the processes, numbered from p on: each that is ready is placed
abbrev pub turn : List Process → List ℕ → ℕ → List Process → List ℕ
turn all placed p [] = placed
turn all placed p (process ∷ ps) =
    turn all (if not (is_clocked process) && not (contains placed p) && is_ready placed 0 all process then (placed ++ p ∷ []) else placed) (suc p) ps

abbrev pub turns : ℕ → List Process → List ℕ → List ℕ
turns zero all placed = placed
turns (suc n) all placed = turns n all (turn all placed 0 all)

-- turn after turn, as many as there are processes. Where there is a cycle, what is on it or behind it is left out
abbrev pub level_order : Design → List ℕ
level_order d = turns (length d.processes) d.processes []

-- each assign and combinational block is placed; the list is numbered from p on
abbrev pub has_all : List ℕ → ℕ → List Process → Bool
has_all placed p [] = true
has_all placed p (process ∷ ps) = (is_clocked process || contains placed p) && has_all placed (suc p) ps

-- the process of this number passes the test
abbrev pub at_number : ℕ → List Process → (Process → Bool) → Bool
at_number p [] test = false
at_number zero (process ∷ ps) test = test process
at_number (suc p) (process ∷ ps) test = at_number p ps test

-- each assign and combinational block stands once, after all of them that feed it; those of the first list stand before
abbrev pub is_order_after : List ℕ → Design → List ℕ → Bool
is_order_after placed d [] = has_all placed 0 d.processes
is_order_after placed d (p ∷ order) = not (contains placed p) && at_number p d.processes (λ process. not (is_clocked process) && is_ready placed 0 d.processes process) && is_order_after (p ∷ placed) d order

abbrev pub is_level_order : Design → List ℕ → Bool
is_level_order d order = is_order_after [] d order

-- the rule Cycle is broken where this fails
abbrev pub has_no_cycle : Design → Bool
has_no_cycle d = is_level_order d (level_order d)
