-- The declarations at the head of a VCD (IEEE 1364-2005, 18.2.3).
use Rattle.std.specs.Prelude.{ℕ, suc, Bool, true, false, List, [], ◌∷◌, ◌++◌, filter, ◌==◌, codes, Option, None, Some}
use Rattle.std.specs.List.{flat_map}
use Rattle.vs_four.specs.declared.Range.{Range}
use Rattle.vs_design.specs.Expressions.{Signal, signal_length}
use Rattle.vs_design.specs.Designs.{Scope, Design}
pub use Rattle.vs_design.specs.Footprints.{shown_signals}
use Rattle.vs_vcd.specs.Numerals.{decimal, identifier}
use Rattle.vs_vcd.specs.Values.{line}

abbrev pub variable_kind : (net integer : Bool) → List ℕ
variable_kind net true = codes "integer"
variable_kind true false = codes "wire"
variable_kind false false = codes "reg"

abbrev pub range_text : Option Range → List ℕ
range_text None = []
range_text (Some r) = codes " [" ++ decimal r.left ++ codes ":" ++ decimal r.right ++ codes "]"

-- `$var`, the kind, the length and the identifier code
unfoldable pub variable_start : Signal → List ℕ
variable_start s = codes "$var " ++ variable_kind s.net s.integer ++ codes " " ++ decimal (signal_length s) ++ codes " " ++ identifier s.number ++ codes " "

-- an integer declares no range
abbrev pub declared_range : (integer : Bool) → Option Range → Option Range
declared_range true range = None
declared_range false range = range

-- then the name with its declared range
unfoldable pub variable_line : Signal → List ℕ
variable_line s = line (variable_start s ++ s.name ++ range_text (declared_range s.integer s.range) ++ codes " $end")

-- the variables of scope n, by number
unfoldable pub variables : List Signal → ℕ → List ℕ
variables signals n = flat_map variable_line (filter (λ s. s.scope == n) signals)

abbrev pub scope_kind : Bool → List ℕ
scope_kind true = codes "module "
scope_kind false = codes "begin "

-- `$scope`
unfoldable pub scope_line : Scope → List ℕ
scope_line s = line (codes "$scope " ++ scope_kind s.instance ++ s.name ++ codes " $end")

abbrev pub upscope_line : List ℕ
upscope_line = line (codes "$upscope $end")

-- the scope stands in this one; the top stands in none
abbrev pub stands_in : Option ℕ → Option ℕ → Bool
stands_in None None = true
stands_in (Some n) (Some parent) = parent == n
stands_in _ _ = false

-- those of these scopes that stand in this one, in order; the first of these scopes has number n. Each has its variables, then the scopes in it, and is closed
abbrev pub scopes_in : List Signal → Option ℕ → ℕ → List Scope → List ℕ
scopes_in signals outer n [] = []
scopes_in signals outer n (s ∷ ss) = elim (stands_in outer s.parent) [
  | true ↦ scope_line s ++ variables signals n ++ scopes_in signals (Some n) (suc n) ss ++ upscope_line ++ scopes_in signals outer (suc n) ss
  | false ↦ scopes_in signals outer (suc n) ss
]

-- the signals that are shown have lines; a memory's number stands on none
abbrev pub head_text : Design → List ℕ
head_text d = line (codes "$version cyclesim $end") ++ line (codes "$timescale 1ns $end") ++ scopes_in (shown_signals d) None 0 d.scopes ++ line (codes "$enddefinitions $end")
