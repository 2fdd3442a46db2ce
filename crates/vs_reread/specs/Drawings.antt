-- The design that a text elaborates to, whether or not it keeps the rules.
use Rattle.std.specs.Prelude.{◌≡◌, ℕ, List, Option, MatchOption, Ok}
use Rattle.vs_lexer.specs.declared.token.Token.{Token}
use Rattle.vs_pre.specs.Reads.{ReadsAs}
use Rattle.vs_grammar.specs.Trees.{Source}
use Rattle.vs_grammar.specs.Spelled.{SpelledBy}
use Rattle.vs_tops.specs.Designs.{elaborated_from}
use Rattle.vs_design.specs.Designs.{Design}
use Rattle.vs_flat.specs.DesignOf.{design_of}
use Rattle.vs_names.specs.Drawn.{Drawn}

-- the text is read as these tokens (IEEE 1364-2005, clauses 3 and 19), they spell a tree (annex A), and that elaborates from the top to this design (clause 12)
pub record IsDesignOf (text : List ℕ) (top : Option (List ℕ)) (tokens : List Token) (design : Design) : Type 0 where
  pub source : Source
  pub reads : ReadsAs text tokens
  pub spelled : SpelledBy text tokens source
  pub elaborates : elaborated_from source top ≡ Ok design

-- the text elaborates to no design
abbrev pub HasNoDesign : (text : List ℕ) (top : Option (List ℕ)) → Type 0
HasNoDesign text top = (tokens : List Token) (design : Design) → IsDesignOf text top tokens design → ⊥

-- what is drawn of a text: its design, or nothing where it has none
abbrev pub IsDrawing : (text : List ℕ) (top : Option (List ℕ)) → Option Drawn → Type 0
IsDrawing text top drawn = MatchOption drawn (HasNoDesign text top) (λ (d : Drawn). IsDesignOf text top d.tokens (design_of d.flat))
