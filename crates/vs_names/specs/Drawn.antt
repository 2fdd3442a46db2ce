-- A design and the tokens of its text.
use Rattle.std.specs.Prelude.{◌≡◌, ℕ, ◌-◌, Bool, ◌&&◌, ◌==◌, nat_lt, if◌then◌else◌, List, [], ◌∷◌, find, Option, Some, None, option_map, option_and_then, slice_get, bytes_eq}
use Rattle.vs_lexer.specs.declared.token.Token.{Token}
use Rattle.vs_design.specs.Expressions.{Signal, signal_length}
use Rattle.vs_design.specs.Designs.{Design, Process, Initial, process_place, any_place, in_text_order}
use Rattle.vs_design.specs.Elaborated.{IsLawfulDesign}
use Rattle.vs_flat.specs.Arena.{Arena}
use Rattle.vs_flat.specs.DesignOf.{design_of}

-- the tokens as which a text is read, and the design that it elaborates to, whose places are numbers of tokens
pub record Drawn : Type 0 where
  pub tokens : List Token
  pub flat : Arena

-- the byte of the text at which a reader finds the token that begins a process; none where there is no such token
abbrev pub byte_of : Drawn → Process → Option ℕ
byte_of d q = option_map (λ (t : Token). t.at) (slice_get d.tokens (process_place q))

-- of the process of this number; none where there is no such process either
abbrev pub own_byte : Drawn → ℕ → Option ℕ
own_byte d p = option_and_then (byte_of d) (slice_get (design_of d.flat).processes p)

-- the token that begins the process behind so many processes and initial ones of the text, where the initial ones stand in its order
abbrev pub place_numbered : List Process → List Initial → ℕ → Option ℕ
place_numbered ps [] n = option_map process_place (slice_get ps n)
place_numbered ps (i ∷ is) n =
    if n == i.behind then Some i.place else if nat_lt n i.behind then option_map process_place (slice_get ps n) else place_numbered ps is (n - 1)

-- which is where begins what has this number in the order of the text
abbrev pub PlacesInText : Type 0
PlacesInText = (d : Design) (n : ℕ) → IsLawfulDesign d → place_numbered d.processes d.initials n ≡ option_map any_place (slice_get (in_text_order d) n)

-- the byte of the text at which a reader finds a token; none where there is no such token
abbrev pub token_byte : Drawn → ℕ → Option ℕ
token_byte d at = option_map (λ (t : Token). t.at) (slice_get d.tokens at)

-- and the process that has this number in the text, initial ones too: it stands behind so many
abbrev pub process_byte : Drawn → ℕ → Option ℕ
process_byte d n = option_and_then (token_byte d) (place_numbered (design_of d.flat).processes (design_of d.flat).initials n)

-- the top declares the signal, by this name
abbrev pub is_port : List ℕ → Signal → Bool
is_port name s = s.scope == 0 && bytes_eq name s.name

-- how many bits the signal has that the top declares by this name; none where it declares none
abbrev pub port_bits : Option Drawn → List ℕ → Option ℕ
port_bits None name = None
port_bits (Some d) name = option_map signal_length (find (is_port name) (design_of d.flat).signals)
