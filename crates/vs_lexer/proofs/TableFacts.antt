-- The tables of the code are those of the definitions.
use Rattle.std.proofs.Common.{[], ◌∷◌, codes, ◌≡◌, ℕ, Bool, true, false, cond, List, refl, sym, ◌∙◌, ap, map}
use Rattle.std.specs.Prelude.{Option, Some, None, unwrap_or}
use Rattle.vs_lexer.specs.declared.token.TokenKind.{TokenKind}
use Rattle.vs_lexer.specs.declared.token.TokenKind.TheVariants as kind
use Rattle.vs_lexer.specs.declared.tables.TheConstants.{SIGNS, KEYWORDS, LEFT_OUT_WORDS, SYSTEM_NAMES, SKIPPED_DIRECTIVES}
use Rattle.vs_lexer.specs.Spellings.{Spelling, signs, keywords, left_out_words, system_names, find_spelling, is_among}
use Rattle.vs_lexer.specs.Tokens.{word_kind, system_kind, sign_kind}

pub signs_are : map (λ k. (k.0.now, k.1)) SIGNS ≡ signs
unfolding signs
signs_are = refl

pub keywords_are : map (λ k. (k.0.now, k.1)) KEYWORDS ≡ keywords
unfolding keywords
keywords_are = refl

pub left_out_words_are : map (λ w. w.now) LEFT_OUT_WORDS ≡ left_out_words
unfolding left_out_words
left_out_words_are = refl

pub system_names_are : map (λ k. (k.0.now, k.1)) SYSTEM_NAMES ≡ system_names
unfolding system_names
system_names_are = refl

-- what a look-up in a table that is another by an equation gives
pub looked_up : (xs ys : List Spelling) (text : List ℕ) (o : Option TokenKind) → xs ≡ ys → o ≡ find_spelling xs text → find_spelling ys text ≡ o
looked_up xs ys text o e f = ap (λ t. find_spelling t text) (sym e) ∙ sym f

pub among_is : (xs ys : List (List ℕ)) (text : List ℕ) (b : Bool) → xs ≡ ys → is_among xs text ≡ b → is_among ys text ≡ b
among_is xs ys text b e f = ap (λ t. is_among t text) (sym e) ∙ f

pub keyword_is : (word : List ℕ) (k : TokenKind) → find_spelling keywords word ≡ Some k → word_kind word ≡ k
unfolding word_kind
keyword_is word k e = ap (λ o. unwrap_or o (cond (is_among left_out_words word) kind.LeftOutWord kind.Identifier)) e

pub left_out_is : (word : List ℕ) → find_spelling keywords word ≡ None → is_among left_out_words word ≡ true → word_kind word ≡ kind.LeftOutWord
unfolding word_kind
left_out_is word e f = ap (λ o. unwrap_or o (cond (is_among left_out_words word) kind.LeftOutWord kind.Identifier)) e ∙ ap (λ b. cond b kind.LeftOutWord kind.Identifier) f

pub identifier_is : (word : List ℕ) → find_spelling keywords word ≡ None → is_among left_out_words word ≡ false → word_kind word ≡ kind.Identifier
unfolding word_kind
identifier_is word e f = ap (λ o. unwrap_or o (cond (is_among left_out_words word) kind.LeftOutWord kind.Identifier)) e ∙ ap (λ b. cond b kind.LeftOutWord kind.Identifier) f

pub system_kind_is : (name : List ℕ) (o : Option TokenKind) → find_spelling system_names name ≡ o → system_kind name ≡ unwrap_or o kind.SystemName
unfolding system_kind
system_kind_is name o e = ap (λ o. unwrap_or o kind.SystemName) e

pub sign_kind_is : (text : List ℕ) (o : Option TokenKind) → find_spelling signs text ≡ o → sign_kind text ≡ o
unfolding sign_kind
sign_kind_is text o e = e

pub skipped_directives_are : map (λ w. w.now) SKIPPED_DIRECTIVES ≡ codes "timescale" ∷ codes "default_nettype" ∷ []
skipped_directives_are = refl
