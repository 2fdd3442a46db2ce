-- The names of an elaborated design's signals and bits, as a person writes them: `top.u.q[3]`.
use Rattle.std.specs.Prelude.{ℕ, zero, suc, ◌+◌, ◌-◌, ◌/◌, ◌%◌, Bool, ◌&&◌, nat_le, nat_lt, List, [], ◌++◌, length, find, slice_get, Option, Some, None, codes, decimal, if◌then◌else◌}
use Rattle.std.specs.Option.{option_map_or}
use Rattle.vs_four.specs.declared.Range.{Range}
use Rattle.vs_four.specs.Selects.{is_descending}
use Rattle.vs_design.specs.Expressions.{Signal, range_or_one, signal_length}
use Rattle.vs_design.specs.Designs.{Scope, Design}
use Rattle.vs_excerpt.specs.Escapes.{escaped}

-- the names of the scopes around scope n and its own, from the top on, with a dot behind each; so many are looked at at most
abbrev pub scope_text : ℕ → List Scope → ℕ → List ℕ
scope_text zero scopes n = []
scope_text (suc left) scopes n =
    option_map_or (λ (s : Scope). option_map_or (scope_text left scopes) s.parent [] ++ (escaped s.name ++ codes ".")) (slice_get scopes n) []

-- a signal's name, with those of the scopes around it: `top.u.q`
abbrev pub signal_text : Design → Signal → List ℕ
signal_text d s = scope_text (length d.scopes) d.scopes s.scope ++ escaped s.name

-- a net, also one of an array of nets, a variable, or a memory (4.2, 4.9)
abbrev pub kind_text : Signal → List ℕ
kind_text s = if s.net then codes "net " else option_map_or (λ (words : Range). codes "memory ") s.words (codes "variable ")

-- the index of bit k of a vector, counted from its least significant one (3.3, 5.2.1)
abbrev pub index_at : Range → ℕ → ℕ
index_at r k = if is_descending r then r.right + k else r.right - k

abbrev pub bracketed : ℕ → List ℕ
bracketed n = codes "[" ++ (decimal n ++ codes "]")

-- a scalar has no index
abbrev pub index_text : Option Range → ℕ → List ℕ
index_text range k = option_map_or (λ (r : Range). bracketed (index_at r k)) range []

-- where bit k of a signal stands in it: its index, and of a memory the word's address and the index there, if a word is a vector
abbrev pub place_text : Option Range → Option Range → ℕ → List ℕ
place_text None range k = index_text range k
place_text (Some words) range k = bracketed (words.right + k / range_or_one range) ++ index_text range (k % range_or_one range)

-- the bit is one of the signal's
abbrev pub has_bit : ℕ → Signal → Bool
has_bit b s = nat_le s.first b && nat_lt b (s.first + signal_length s)

-- `net top.u.q[3]`
abbrev pub bit_of_signal : Design → ℕ → Signal → List ℕ
bit_of_signal d b s = kind_text s ++ (signal_text d s ++ place_text s.words s.range (b - s.first))

-- the bit by its name, and by its number where no signal has it
abbrev pub bit_text : Design → ℕ → List ℕ
bit_text d b = option_map_or (bit_of_signal d b) (find (has_bit b) d.signals) (codes "bit " ++ decimal b)

-- of an array of nets the net's address
abbrev pub address_text : Signal → List ℕ
address_text s = option_map_or (λ (words : Range). if s.net then bracketed words.right else []) s.words []

-- the signal by its name, and by its number where there is none: `net top.u.q`
abbrev pub signal_of_number : Design → ℕ → List ℕ
signal_of_number d n = option_map_or (λ (s : Signal). kind_text s ++ (signal_text d s ++ address_text s)) (slice_get d.signals n) (codes "signal " ++ decimal n)
