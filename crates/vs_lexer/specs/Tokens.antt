-- What bytes are a token, and the longest token at the front of a text (IEEE 1364-2005, clause 3).
use Rattle.std.specs.Prelude.{ℕ, zero, suc, Bool, true, false, not, ◌&&◌, if◌then◌else◌, ◌==◌, List, [], ◌∷◌, take, length, unwrap_or, Option, Some, None, Result, Ok, Err}
use Rattle.std.specs.List.{list_all}
use Rattle.vs_lexer.specs.declared.bytes.ByteClass.TheVariants as class
use Rattle.vs_lexer.specs.declared.token.TokenKind.{TokenKind}
use Rattle.vs_lexer.specs.declared.token.TokenKind.TheVariants as kind
use Rattle.vs_lexer.specs.declared.scan.Lexeme.{Lexeme}
use Rattle.vs_lexer.specs.declared.scan.Fault.{Fault}
use Rattle.vs_lexer.specs.declared.scan.Fault.TheVariants.{NoToken, BadLiteral}
use Rattle.vs_lexer.specs.declared.scan.Start.{Start}
use Rattle.vs_lexer.specs.declared.scan.Start.TheVariants as start
use Rattle.vs_lexer.specs.Classes.{is_letter, is_digit, is_in}
use Rattle.vs_lexer.specs.Strings.{ends_string, is_short_string}
use Rattle.vs_lexer.specs.Literals.{is_based, lacks_digits, is_in_range}
use Rattle.vs_lexer.specs.Spellings.{signs, keywords, left_out_words, system_names, find_spelling, is_among}

-- ---- the kinds

-- an identifier, unless the word is reserved (3.7.2)
unfoldable pub word_kind : List ℕ → TokenKind
word_kind word = unwrap_or (find_spelling keywords word) (if is_among left_out_words word then kind.LeftOutWord else kind.Identifier)

-- a system name, with its `$` (3.7.3)
unfoldable pub system_kind : List ℕ → TokenKind
system_kind name = unwrap_or (find_spelling system_names name) kind.SystemName

-- an operator or punctuation mark (3.4)
unfoldable pub sign_kind : List ℕ → Option TokenKind
sign_kind = find_spelling signs

-- a string: a number where it is short, or else left out (3.6)
abbrev pub string_kind : List ℕ → TokenKind
string_kind text = if is_short_string text then kind.Based else kind.Text

-- these bytes are an identifier or a word (3.7)
abbrev pub is_name : List ℕ → Bool
is_name [] = false
is_name (b ∷ bs) = is_letter b && list_all (is_in class.Name) bs

-- some bytes, each of a class
abbrev pub some_of : (ℕ → Bool) → List ℕ → Bool
some_of p [] = false
some_of p bs = list_all p bs

-- what begins with this byte: a letter or `_`, a digit, `'`, `"`, `\`, `$`, a backquote, or another
abbrev pub start_of : ℕ → Start
start_of b =
    if is_letter b then start.Word
    else (if is_digit b then start.Number
    else (if b == 39 then start.Quote
    else (if b == 34 then start.Text
    else (if b == 92 then start.Escaped
    else (if b == 36 then start.System
    else (if b == 96 then start.Directive else start.Sign))))))

abbrev pub if_so : Bool → TokenKind → Option TokenKind
if_so true k = Some k
if_so false k = None

abbrev pub is_number_kind : TokenKind → Bool
is_number_kind kind.Decimal = true
is_number_kind kind.Based = true
is_number_kind _ = false

-- the kind of token that these bytes are, the first one being b
abbrev pub kind_from : Start → ℕ → List ℕ → Option TokenKind
kind_from start.Word b bs = if_so (list_all (is_in class.Name) bs) (word_kind (b ∷ bs))
kind_from start.Number b bs = if list_all (is_in class.Decimal) bs then Some kind.Decimal else if_so (is_based (b ∷ bs)) kind.Based
kind_from start.Quote b bs = if_so (is_based (b ∷ bs)) kind.Based
kind_from start.Text b bs = if_so (ends_string bs) (string_kind (b ∷ bs))
kind_from start.Escaped b bs = if_so (some_of (is_in class.Visible) bs) kind.EscapedIdentifier
kind_from start.System b bs = if_so (some_of (is_in class.Name) bs) (system_kind (b ∷ bs))
kind_from start.Directive b bs = if_so (is_name bs) kind.Directive
kind_from start.Sign b bs = sign_kind (b ∷ bs)

-- the kind of token that these bytes are
abbrev pub token_kind : List ℕ → Option TokenKind
token_kind [] = None
token_kind (b ∷ bs) = kind_from (start_of b) b bs

-- ---- the longest token

-- of the prefixes of up to n bytes, the longest that is a token
abbrev pub longest_within : List ℕ → ℕ → Option Lexeme
longest_within text zero = None
longest_within text (suc n) = elim (token_kind (take (suc n) text)) [ Some k ↦ Some (record { kind = k; length = suc n }) | None ↦ longest_within text n ]

-- the longest prefix that is a token
abbrev pub longest : List ℕ → Option Lexeme
longest text = longest_within text (length text)

-- a number whose value or size is out of range is a fault
abbrev pub checked : Bool → Lexeme → Result Lexeme Fault
checked true lexeme = Ok lexeme
checked false lexeme = Err BadLiteral

-- the token at the front of a text that begins with a digit or a quote
abbrev pub number_here : List ℕ → Result Lexeme Fault
number_here text =
    elim (lacks_digits text) [
      | true ↦ Err BadLiteral
      | false ↦ elim (longest text) [ None ↦ Err BadLiteral | Some lexeme ↦ checked (is_in_range (take lexeme.length text)) lexeme ]
    ]

abbrev pub other_here : List ℕ → Result Lexeme Fault
other_here text = elim (longest text) [ None ↦ Err NoToken | Some lexeme ↦ Ok lexeme ]

abbrev pub begins_number : Start → Bool
begins_number start.Number = true
begins_number start.Quote = true
begins_number _ = false

abbrev pub here_from : Start → List ℕ → Result Lexeme Fault
here_from s text = elim (begins_number s) [ true ↦ number_here text | false ↦ other_here text ]

-- the token at the front of a text, or the fault that is there
abbrev pub here : List ℕ → Result Lexeme Fault
here [] = Err NoToken
here (b ∷ bs) = here_from (start_of b) (b ∷ bs)
