-- Sizes that stand in front of their numbers as tokens of their own (IEEE 1364-2005, 3.5.1), as where a macro gives one.
use Rattle.std.specs.Prelude.{ℕ, Bool, ◌&&◌, ◌==◌, List, ◌++◌, slice_index, Some}
use Rattle.vs_lexer.specs.declared.token.Token.{Token}
use Rattle.vs_lexer.specs.Literals.{is_in_range}
use Rattle.vs_pre.specs.Words.{bytes_of, is_decimal, is_based}

-- a number with a base that begins with the quote of its base, and so has no size of its own; `'` is 39
abbrev pub lacks_size : List ℕ → Token → Bool
lacks_size text t = is_based t.kind && slice_index (bytes_of text t) 0 == 39

-- of two tokens, the first is the size of the second
abbrev pub is_size_of : List ℕ → Token → Token → Bool
is_size_of text size number = is_decimal size.kind && lacks_size text number

-- put together, they are a number in range
abbrev pub is_fitting : List ℕ → Token → Token → Bool
is_fitting text size number = is_in_range (bytes_of text size ++ bytes_of text number)

-- both as one token, which is found where its size is
abbrev pub with_size : Token → Token → Token
with_size size number = record number { at = size.at; size = Some (record { start = size.start; end = size.end }) }
