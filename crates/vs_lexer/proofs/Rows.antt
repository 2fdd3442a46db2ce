-- Worked rows of the definitions.
use Rattle.std.specs.Prelude.{◌≡◌, ℕ, suc, true, false, List, [], ◌∷◌, ◌++◌, refl, codes, replicate, None, Ok, Err, Result}
use Rattle.vs_four.specs.declared.Bit4.TheVariants.{Zero, One, X, Z}
use Rattle.vs_lexer.specs.declared.token.Token.{Token}
use Rattle.vs_lexer.specs.declared.token.LexError.{LexError}
use Rattle.vs_lexer.specs.declared.token.LexError.TheVariants.{NoToken, OpenComment, BadLiteral, TooManyTokens}
use Rattle.vs_lexer.specs.declared.token.TokenKind.{TokenKind}
use Rattle.vs_lexer.specs.declared.token.TokenKind.TheVariants as kind
use Rattle.vs_lexer.specs.Spellings.{signs, keywords, left_out_words, system_names}
use Rattle.vs_lexer.specs.Tokens.{word_kind, system_kind, sign_kind}
use Rattle.vs_lexer.specs.Strings.{characters_of}
use Rattle.vs_lexer.specs.Literals.{is_in_range, number_bits, literal_bits, literal_size}
use Rattle.vs_lexer.specs.Cuts.{cut, cut_text}
use Rattle.vs_lexer.specs.LeftOut.{is_left_out}

token : TokenKind → ℕ → ℕ → Token
token kind start end = record { kind = kind; start = start; end = end; at = start; size = None }

-- the number of each token that is left out
left_from : ℕ → List Token → List Token → List ℕ
left_from n all [] = []
left_from n all (t ∷ ts) = elim (is_left_out all n) [ true ↦ n ∷ left_from (suc n) all ts | false ↦ left_from (suc n) all ts ]

left_out_of : Result (List Token) LexError → List ℕ
left_out_of (Ok ts) = left_from 0 ts ts
left_out_of (Err e) = 1000 ∷ []

assign : cut_text (codes "assign y = a & b;") ≡ Ok (token kind.KeywordAssign 0 6 ∷ token kind.Identifier 7 8 ∷ token kind.Assign 9 10 ∷ token kind.Identifier 11 12 ∷ token kind.And 13 14 ∷ token kind.Identifier 15 16 ∷ token kind.Semicolon 16 17 ∷ [])
unfolding is_in_range cut_text word_kind system_kind sign_kind signs keywords left_out_words system_names token left_from left_out_of
assign = refl

word_and_longer : cut_text (codes "module modules _m$1") ≡ Ok (token kind.KeywordModule 0 6 ∷ token kind.Identifier 7 14 ∷ token kind.Identifier 15 19 ∷ [])
unfolding is_in_range cut_text word_kind system_kind sign_kind signs keywords left_out_words system_names token left_from left_out_of
word_and_longer = refl

longest_signs : cut_text (codes "<<<<======+:>> >>>") ≡ Ok (token kind.ArithmeticShiftLeft 0 3 ∷ token kind.LessEqual 3 5 ∷ token kind.CaseEqual 5 8 ∷ token kind.Equal 8 10 ∷ token kind.PlusColon 10 12 ∷ token kind.ShiftRight 12 14 ∷ token kind.ArithmeticShiftRight 15 18 ∷ [])
unfolding is_in_range cut_text word_kind system_kind sign_kind signs keywords left_out_words system_names token left_from left_out_of
longest_signs = refl

comments : cut_text (codes "a/* b */c// d") ≡ Ok (token kind.Identifier 0 1 ∷ token kind.Identifier 8 9 ∷ [])
unfolding is_in_range cut_text word_kind system_kind sign_kind signs keywords left_out_words system_names token left_from left_out_of
comments = refl

half_open : cut_text (codes "/*/") ≡ Err (OpenComment 0)
unfolding is_in_range cut_text word_kind system_kind sign_kind signs keywords left_out_words system_names token left_from left_out_of
half_open = refl

unclosed : cut_text (codes "a /* b") ≡ Err (OpenComment 2)
unfolding is_in_range cut_text word_kind system_kind sign_kind signs keywords left_out_words system_names token left_from left_out_of
unclosed = refl

skipped_directive : cut_text (codes "`timescale 1ns") ≡ Ok ([])
unfolding is_in_range cut_text word_kind system_kind sign_kind signs keywords left_out_words system_names token left_from left_out_of
skipped_directive = refl

other_directive : cut_text (codes "`timescalex 1") ≡ Ok (token kind.Directive 0 11 ∷ token kind.Decimal 12 13 ∷ [])
unfolding is_in_range cut_text word_kind system_kind sign_kind signs keywords left_out_words system_names token left_from left_out_of
other_directive = refl

based : cut_text (codes "4'b1x0x == 8 'sh F0 >>> 2") ≡ Ok (token kind.Based 0 7 ∷ token kind.Equal 8 10 ∷ token kind.Based 11 19 ∷ token kind.ArithmeticShiftRight 20 23 ∷ token kind.Decimal 24 25 ∷ [])
unfolding is_in_range cut_text word_kind system_kind sign_kind signs keywords left_out_words system_names token left_from left_out_of
based = refl

underscore_after_x : cut_text (codes "4'dx_") ≡ Ok (token kind.Based 0 5 ∷ [])
unfolding is_in_range cut_text word_kind system_kind sign_kind signs keywords left_out_words system_names token left_from left_out_of
underscore_after_x = refl

two_literals : cut_text (codes "8 /**/ 'h1") ≡ Ok (token kind.Decimal 0 1 ∷ token kind.Based 7 10 ∷ [])
unfolding is_in_range cut_text word_kind system_kind sign_kind signs keywords left_out_words system_names token left_from left_out_of
two_literals = refl

quote_alone : cut_text (codes "12'q") ≡ Err (BadLiteral 2)
unfolding is_in_range cut_text word_kind system_kind sign_kind signs keywords left_out_words system_names token left_from left_out_of
quote_alone = refl

no_digits : cut_text (codes "8'h +") ≡ Err (BadLiteral 0)
unfolding is_in_range cut_text word_kind system_kind sign_kind signs keywords left_out_words system_names token left_from left_out_of
no_digits = refl

underscore_first : cut_text (codes "8'h_1") ≡ Err (BadLiteral 0)
unfolding is_in_range cut_text word_kind system_kind sign_kind signs keywords left_out_words system_names token left_from left_out_of
underscore_first = refl

large : cut_text (codes "1 2147483648") ≡ Err (BadLiteral 2)
unfolding is_in_range cut_text word_kind system_kind sign_kind signs keywords left_out_words system_names token left_from left_out_of
large = refl

largest : cut_text (codes "2147483647") ≡ Ok (token kind.Decimal 0 10 ∷ [])
unfolding is_in_range cut_text word_kind system_kind sign_kind signs keywords left_out_words system_names token left_from left_out_of
largest = refl

wide : cut_text (codes "65'b1") ≡ Err (BadLiteral 0)
unfolding is_in_range cut_text word_kind system_kind sign_kind signs keywords left_out_words system_names token left_from left_out_of
wide = refl

no_width : cut_text (codes "0'b1") ≡ Err (BadLiteral 0)
unfolding is_in_range cut_text word_kind system_kind sign_kind signs keywords left_out_words system_names token left_from left_out_of
no_width = refl

widest : cut_text (codes "64'b1") ≡ Ok (token kind.Based 0 5 ∷ [])
unfolding is_in_range cut_text word_kind system_kind sign_kind signs keywords left_out_words system_names token left_from left_out_of
widest = refl

too_large : cut_text (codes "64'd18446744073709551616") ≡ Err (BadLiteral 0)
unfolding is_in_range cut_text word_kind system_kind sign_kind signs keywords left_out_words system_names token left_from left_out_of
too_large = refl

large_enough : cut_text (codes "64'd18446744073709551615") ≡ Ok (token kind.Based 0 24 ∷ [])
unfolding is_in_range cut_text word_kind system_kind sign_kind signs keywords left_out_words system_names token left_from left_out_of
large_enough = refl

string_with_quote : cut_text (34 ∷ 97 ∷ 92 ∷ 34 ∷ 98 ∷ 34 ∷ []) ≡ Ok (token kind.Based 0 6 ∷ [])
unfolding is_in_range cut_text word_kind system_kind sign_kind signs keywords left_out_words system_names characters_of token left_from left_out_of
string_with_quote = refl

octal_escape : cut_text (34 ∷ 92 ∷ 51 ∷ 55 ∷ 55 ∷ 34 ∷ []) ≡ Ok (token kind.Based 0 6 ∷ [])
unfolding is_in_range cut_text word_kind system_kind sign_kind signs keywords left_out_words system_names characters_of token left_from left_out_of
octal_escape = refl

octal_too_large : cut_text (34 ∷ 92 ∷ 52 ∷ 48 ∷ 48 ∷ 34 ∷ []) ≡ Ok (token kind.Text 0 6 ∷ [])
unfolding is_in_range cut_text word_kind system_kind sign_kind signs keywords left_out_words system_names characters_of token left_from left_out_of
octal_too_large = refl

octal_too_short : cut_text (34 ∷ 92 ∷ 49 ∷ 50 ∷ 34 ∷ []) ≡ Ok (token kind.Text 0 5 ∷ [])
unfolding is_in_range cut_text word_kind system_kind sign_kind signs keywords left_out_words system_names characters_of token left_from left_out_of
octal_too_short = refl

other_escape : cut_text (34 ∷ 92 ∷ 113 ∷ 34 ∷ []) ≡ Ok (token kind.Text 0 4 ∷ [])
unfolding is_in_range cut_text word_kind system_kind sign_kind signs keywords left_out_words system_names characters_of token left_from left_out_of
other_escape = refl

longest_string : cut_text (34 ∷ codes "12345678" ++ 34 ∷ []) ≡ Ok (token kind.Based 0 10 ∷ [])
unfolding is_in_range cut_text word_kind system_kind sign_kind signs keywords left_out_words system_names characters_of token left_from left_out_of
longest_string = refl

longer_string : cut_text (34 ∷ codes "123456789" ++ 34 ∷ []) ≡ Ok (token kind.Text 0 11 ∷ [])
unfolding is_in_range cut_text word_kind system_kind sign_kind signs keywords left_out_words system_names characters_of token left_from left_out_of
longer_string = refl

byte_order_mark_first : cut_text (239 ∷ 187 ∷ 191 ∷ codes "a") ≡ Ok (token kind.Identifier 3 4 ∷ [])
unfolding is_in_range cut_text word_kind system_kind sign_kind signs keywords left_out_words system_names characters_of token left_from left_out_of
byte_order_mark_first = refl

byte_order_mark_later : cut_text (32 ∷ 239 ∷ 187 ∷ 191 ∷ codes "a") ≡ Err (NoToken 1)
unfolding is_in_range cut_text word_kind system_kind sign_kind signs keywords left_out_words system_names characters_of token left_from left_out_of
byte_order_mark_later = refl

open_string : cut_text (34 ∷ 97 ∷ []) ≡ Err (NoToken 0)
unfolding is_in_range cut_text word_kind system_kind sign_kind signs keywords left_out_words system_names token left_from left_out_of
open_string = refl

string_over_line : cut_text (34 ∷ 92 ∷ 10 ∷ 34 ∷ []) ≡ Err (NoToken 0)
unfolding is_in_range cut_text word_kind system_kind sign_kind signs keywords left_out_words system_names token left_from left_out_of
string_over_line = refl

escaped : cut_text (92 ∷ 97 ∷ 43 ∷ []) ≡ Ok (token kind.EscapedIdentifier 0 3 ∷ [])
unfolding is_in_range cut_text word_kind system_kind sign_kind signs keywords left_out_words system_names token left_from left_out_of
escaped = refl

line_feed : cut_text (47 ∷ 47 ∷ 97 ∷ 10 ∷ 98 ∷ []) ≡ Ok (token kind.Identifier 4 5 ∷ [])
unfolding is_in_range cut_text word_kind system_kind sign_kind signs keywords left_out_words system_names token left_from left_out_of
line_feed = refl

system_names_row : cut_text (codes "$signed($time)") ≡ Ok (token kind.SystemSigned 0 7 ∷ token kind.OpenParen 7 8 ∷ token kind.SystemName 8 13 ∷ token kind.CloseParen 13 14 ∷ [])
unfolding is_in_range cut_text word_kind system_kind sign_kind signs keywords left_out_words system_names token left_from left_out_of
system_names_row = refl

no_token : cut_text (codes "a $ b") ≡ Err (NoToken 2)
unfolding is_in_range cut_text word_kind system_kind sign_kind signs keywords left_out_words system_names token left_from left_out_of
no_token = refl

too_many : cut 9 2 0 (codes ";;; ;") ≡ Err (TooManyTokens 2)
unfolding is_in_range cut_text word_kind system_kind sign_kind signs keywords left_out_words system_names token left_from left_out_of
too_many = refl

delays : left_out_of (cut_text (codes "# m #(1) = #2")) ≡ 0 ∷ 7 ∷ []
unfolding is_in_range cut_text word_kind system_kind sign_kind signs keywords left_out_words system_names token left_from left_out_of
delays = refl

attributes : left_out_of (cut_text (codes "(* ) (*) @(*) ( * a ( *")) ≡ 10 ∷ 13 ∷ []
unfolding is_in_range cut_text word_kind system_kind sign_kind signs keywords left_out_words system_names token left_from left_out_of
attributes = refl

left_out_kinds : left_out_of (cut_text (codes "wait a ** b -> $time disable")) ≡ 0 ∷ 4 ∷ 5 ∷ 6 ∷ []
unfolding is_in_range cut_text word_kind system_kind sign_kind signs keywords left_out_words system_names token left_from left_out_of
left_out_kinds = refl

hexadecimal_bits : literal_bits (codes "8'hF0") ≡ Zero ∷ Zero ∷ Zero ∷ Zero ∷ One ∷ One ∷ One ∷ One ∷ []
unfolding literal_bits literal_size number_bits
hexadecimal_bits = refl

hexadecimal_size : literal_size (codes "8'hF0") ≡ 8
unfolding literal_size
hexadecimal_size = refl

cut_bits : literal_bits (codes "4'hF5") ≡ One ∷ Zero ∷ One ∷ Zero ∷ []
unfolding literal_bits literal_size number_bits
cut_bits = refl

cut_size : literal_size (codes "4'hF5") ≡ 4
unfolding literal_size
cut_size = refl

filled_x_bits : literal_bits (codes "8'hx1") ≡ One ∷ Zero ∷ Zero ∷ Zero ∷ X ∷ X ∷ X ∷ X ∷ []
unfolding literal_bits literal_size number_bits
filled_x_bits = refl

filled_x_size : literal_size (codes "8'hx1") ≡ 8
unfolding literal_size
filled_x_size = refl

filled_z_bits : literal_bits (codes "6'o?_1") ≡ One ∷ Zero ∷ Zero ∷ Z ∷ Z ∷ Z ∷ []
unfolding literal_bits literal_size number_bits
filled_z_bits = refl

filled_z_size : literal_size (codes "6'o?_1") ≡ 6
unfolding literal_size
filled_z_size = refl

filled_0_bits : literal_bits (codes "6'b1x_1") ≡ One ∷ X ∷ One ∷ Zero ∷ Zero ∷ Zero ∷ []
unfolding literal_bits literal_size number_bits
filled_0_bits = refl

filled_0_size : literal_size (codes "6'b1x_1") ≡ 6
unfolding literal_size
filled_0_size = refl

known_top_bits : literal_bits (codes "6'b0x") ≡ X ∷ Zero ∷ Zero ∷ Zero ∷ Zero ∷ Zero ∷ []
unfolding literal_bits literal_size number_bits
known_top_bits = refl

known_top_size : literal_size (codes "6'b0x") ≡ 6
unfolding literal_size
known_top_size = refl

decimal_cut_bits : literal_bits (codes "4'd17") ≡ One ∷ Zero ∷ Zero ∷ Zero ∷ []
unfolding literal_bits literal_size number_bits
decimal_cut_bits = refl

decimal_cut_size : literal_size (codes "4'd17") ≡ 4
unfolding literal_size
decimal_cut_size = refl

decimal_x_bits : literal_bits (codes "4'dX_") ≡ X ∷ X ∷ X ∷ X ∷ []
unfolding literal_bits literal_size number_bits
decimal_x_bits = refl

decimal_x_size : literal_size (codes "4'dX_") ≡ 4
unfolding literal_size
decimal_x_size = refl

all_x_bits : literal_bits (codes "'bx") ≡ replicate 32 X
unfolding literal_bits literal_size number_bits
all_x_bits = refl

all_x_size : literal_size (codes "'bx") ≡ 32
unfolding literal_size
all_x_size = refl

plain_bits : literal_bits (codes "5") ≡ One ∷ Zero ∷ One ∷ replicate 29 Zero
unfolding literal_bits literal_size number_bits
plain_bits = refl

plain_size : literal_size (codes "5") ≡ 32
unfolding literal_size
plain_size = refl

string_bits : literal_bits (34 ∷ codes "A" ++ 34 ∷ []) ≡ One ∷ Zero ∷ Zero ∷ Zero ∷ Zero ∷ Zero ∷ One ∷ Zero ∷ []
unfolding literal_bits literal_size number_bits characters_of
string_bits = refl

string_bits_of_two : literal_bits (34 ∷ 48 ∷ 92 ∷ 110 ∷ 34 ∷ []) ≡ Zero ∷ One ∷ Zero ∷ One ∷ Zero ∷ Zero ∷ Zero ∷ Zero ∷ Zero ∷ Zero ∷ Zero ∷ Zero ∷ One ∷ One ∷ Zero ∷ Zero ∷ []
unfolding literal_bits literal_size number_bits characters_of
string_bits_of_two = refl

empty_string_bits : literal_bits (34 ∷ 34 ∷ []) ≡ replicate 8 Zero
unfolding literal_bits literal_size number_bits characters_of
empty_string_bits = refl

empty_string_size : literal_size (34 ∷ 34 ∷ []) ≡ 8
unfolding literal_size characters_of
empty_string_size = refl
