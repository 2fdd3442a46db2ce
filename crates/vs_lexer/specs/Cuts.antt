-- How a text is cut into tokens and skipped pieces (IEEE 1364-2005, 3.1 to 3.3, 19.2 and 19.8).
use Rattle.std.specs.Prelude.{ℕ, zero, suc, ◌+◌, ◌-◌, Bool, true, false, not, ◌&&◌, if◌then◌else◌, ◌==◌, List, [], ◌∷◌, ◌++◌, take, drop, length, codes, slice_get, slice_index, Option, Some, None, Result, Ok, Err}
use Rattle.std.specs.List.{prefix_len}
use Rattle.vs_lexer.specs.declared.bytes.ByteClass.TheVariants as class
use Rattle.vs_lexer.specs.declared.scan.Lexeme.{Lexeme}
use Rattle.vs_lexer.specs.declared.scan.Fault.{Fault}
use Rattle.vs_lexer.specs.declared.scan.Fault.TheVariants as fault
use Rattle.vs_lexer.specs.declared.token.Token.{Token}
use Rattle.vs_lexer.specs.declared.token.Span.{Span}
use Rattle.vs_lexer.specs.declared.token.LexError.{LexError}
use Rattle.vs_lexer.specs.declared.token.LexError.TheVariants.{NoToken, OpenComment, BadLiteral, TooManyTokens}
use Rattle.vs_lexer.specs.Classes.{is_blank, is_in}
use Rattle.vs_lexer.specs.Spellings.{is_among}
use Rattle.vs_lexer.specs.Tokens.{here, is_number_kind}

-- ---- what is skipped

-- the bytes up to the next `*/` and with it; `*` is 42, `/` is 47
abbrev pub to_close : List ℕ → Option ℕ
to_close [] = None
to_close (a ∷ bs) = elim (a == 42 && slice_index bs 0 == 47) [ true ↦ Some 2 | false ↦ elim (to_close bs) [ None ↦ None | Some n ↦ Some (suc n) ] ]

-- the bytes of a comment that begins here and is closed by `*/`; nothing where it stays open
abbrev pub block_comment : List ℕ → Option ℕ
block_comment text = elim (to_close (drop 2 text)) [ None ↦ None | Some n ↦ Some (2 + n) ]

-- the directives that are skipped up to the line's end
abbrev pub is_skipped_directive : List ℕ → Bool
is_skipped_directive name = is_among (codes "timescale" ∷ codes "default_nettype" ∷ []) name

-- the whole word at the front
abbrev pub word_of : List ℕ → List ℕ
word_of text = take (prefix_len (is_in class.Name) text) text

-- the name behind the first byte is that of a skipped directive
abbrev pub begins_skipped_directive : List ℕ → Bool
begins_skipped_directive text = is_skipped_directive (word_of (drop 1 text))

-- the bytes up to the line's end
abbrev pub line_length : List ℕ → ℕ
line_length text = prefix_len (is_in class.Line) text

-- the bytes of a `\` at a line's end and of that end, LF or CR LF (19.3.1): the line goes on; 0 where there is none; `\` is 92, LF is 10, CR is 13
abbrev pub continuation : List ℕ → ℕ
continuation text =
    if not (slice_index text 0 == 92) then 0
    else (if slice_index text 1 == 10 then 2
    else (if slice_index text 1 == 13 && slice_index text 2 == 10 then 3 else 0))

-- How many bytes at the front are skipped in one piece, a blank, a comment, a directive (a backquote is 96) or a line's end that ends no line: 0 where none are, and nothing
-- where an open comment begins.
abbrev pub skipped : List ℕ → Option ℕ
skipped text =
    let a = slice_index text 0 in
    let b = slice_index text 1 in
    elim (is_blank a) [
      | true ↦ Some 1
      | false ↦ elim (a == 47 && b == 47) [
        | true ↦ Some (line_length text)
        | false ↦ elim (a == 47 && b == 42) [
          | true ↦ block_comment text
          | false ↦ elim (a == 96 && begins_skipped_directive text) [ true ↦ Some (line_length text) | false ↦ Some (continuation text) ]
        ]
      ]
    ]

-- ---- the cut

-- the greatest number of tokens of a text
abbrev pub token_limit : ℕ
token_limit = 1048576

abbrev pub fault_at : Fault → ℕ → LexError
fault_at fault.NoToken at = NoToken at
fault_at fault.BadLiteral at = BadLiteral at

-- a token in front of those behind it
abbrev pub with_token : Token → Result (List Token) LexError → Result (List Token) LexError
with_token t (Ok ts) = Ok (t ∷ ts)
with_token t (Err e) = Err e

abbrev pub token_at : Lexeme → ℕ → Token
token_at lexeme at = record { kind = lexeme.kind; start = at; end = at + lexeme.length; at = at; size = None }

-- The text that begins at place `at` is cut so, where at most `left` tokens may still come: at each place a piece is skipped, or else
-- the longest token is taken. Each step takes a byte at least, so as many steps as the text has bytes are enough.
abbrev pub cut : ℕ → ℕ → ℕ → List ℕ → Result (List Token) LexError
cut steps left at [] = Ok []
cut zero left at (b ∷ bs) = Ok []
cut (suc steps) left at (b ∷ bs) = elim (skipped (b ∷ bs)) [
  | None ↦ Err (OpenComment at)
  | Some k ↦ elim k [
    | suc j ↦ cut steps left (at + suc j) (drop (suc j) (b ∷ bs))
    | zero ↦ elim (here (b ∷ bs)) [
      | Err f ↦ Err (fault_at f at)
      | Ok lexeme ↦ elim left [
        | zero ↦ Err (TooManyTokens at)
        | suc rest ↦ with_token (token_at lexeme at) (cut steps rest (at + lexeme.length) (drop lexeme.length (b ∷ bs)))
      ]
    ]
  ]
]

-- The bytes of a byte-order mark at the start of a text, EF BB BF, which are skipped as a blank is: 0 where there is none. Elsewhere they begin no token.
abbrev pub byte_order_mark : List ℕ → ℕ
byte_order_mark text = if slice_index text 0 == 239 && slice_index text 1 == 187 && slice_index text 2 == 191 then 3 else 0

-- the tokens of a text, or its first fault
unfoldable pub cut_text : List ℕ → Result (List Token) LexError
cut_text text = let mark = byte_order_mark text in cut (length text) token_limit mark (drop mark text)

-- the bytes of a span
abbrev pub bytes_in : List ℕ → Span → List ℕ
bytes_in text s = take (s.end - s.start) (drop s.start text)

-- the bytes of a size that stands elsewhere, where there is one
abbrev pub size_bytes : List ℕ → Option Span → List ℕ
size_bytes text None = []
size_bytes text (Some s) = bytes_in text s

-- the bytes of a token but for those
abbrev pub own_bytes : List ℕ → Token → List ℕ
own_bytes text token = take (token.end - token.start) (drop token.start text)

-- what token n is spelled as: its own bytes, behind those of its size, as if they stood in one piece
abbrev pub spelling_of : List ℕ → List Token → ℕ → List ℕ
spelling_of text tokens n = elim (slice_get tokens n) [ None ↦ [] | Some token ↦ size_bytes text token.size ++ own_bytes text token ]

-- token n is a number
abbrev pub is_number : List Token → ℕ → Bool
is_number tokens n = elim (slice_get tokens n) [ None ↦ false | Some token ↦ is_number_kind token.kind ]
