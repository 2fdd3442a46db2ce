use Rattle.std.proofs.Common.{◌≡◌, ◌-◌, ◌<◌, ◌++◌, ℕ, List, [], Option, Some, None, Bool, true, false, drop, get_or, length, subst, ap, sym, ◌∙◌}
use Rattle.std.specs.Prelude.{IfSome}
use Rattle.std.proofs.lemmas.Option.{slice_get-get_or}
use Rattle.vs_lexer.specs.declared.token.Token.{Token}
use Rattle.vs_lexer.specs.declared.token.Span.{Span}
use Rattle.vs_lexer.specs.declared.token.TokenKind.{TokenKind}
use Rattle.vs_lexer.specs.declared.token.TokenKind.TheVariants as kind
use Rattle.vs_lexer.specs.Literals.{is_in_range, literal_bits, literal_size, is_signed_literal, has_size}
use Rattle.vs_lexer.specs.Tokens.{is_number_kind, token_kind}
use Rattle.vs_lexer.specs.Cuts.{spelling_of, size_bytes, own_bytes, bytes_in, is_number}
use Rattle.vs_lexer.specs.Laws.{AreTokens, StandsIn, IsSizeOf}
use Rattle.vs_lexer.proofs.Longest.{lexeme}
use Rattle.vs_lexer.proofs.Spans.{stands_at, number_in_range}
use Rattle.vs_lexer.proofs.SizedFacts.{kind_here}
use Rattle.vs_lexer.proofs.value.read_literal.Goals as goal

abbrev blank : Token
blank = record { kind = kind.Identifier; start = 0; end = 0; at = 0; size = None }

number_by : Option Token → Bool
number_by o = elim o [ None ↦ false | Some token ↦ is_number_kind token.kind ]

spelled_by : List ℕ → Option Token → List ℕ
spelled_by text o = elim o [ None ↦ [] | Some token ↦ size_bytes text token.size ++ own_bytes text token ]

module _ (text : List ℕ) (tokens : List Token) (n : ℕ) (lexed : AreTokens text tokens) (inside : n < length tokens) where
  stands : StandsIn text (get_or tokens n blank)
  stands = stands_at text tokens n (get_or tokens n blank) lexed (slice_get-get_or tokens n blank inside)

  -- its bytes
  spelled : (o : Option Span) → (get_or tokens n blank).size ≡ o → spelling_of text tokens n ≡ size_bytes text o ++ own_bytes text (get_or tokens n blank)
  unfolding spelled_by
  spelled o e = ap (spelled_by text) (slice_get-get_or tokens n blank inside) ∙ ap (λ o. size_bytes text o ++ own_bytes text (get_or tokens n blank)) e

  own_kind : token_kind (own_bytes text (get_or tokens n blank)) ≡ Some (get_or tokens n blank).kind
  own_kind = let t = get_or tokens n blank in kind_here (drop t.start text) (lexeme t.kind (t.end - t.start)) stands.taken

  own_in_range : is_number tokens n ≡ true → is_in_range (own_bytes text (get_or tokens n blank)) ≡ true
  unfolding number_by
  own_in_range k =
      let t = get_or tokens n blank in
      number_in_range (drop t.start text) (lexeme t.kind (t.end - t.start)) stands.taken (sym (ap number_by (slice_get-get_or tokens n blank inside)) ∙ k)

  its_size : (s : Span) → (get_or tokens n blank).size ≡ Some s → IsSizeOf text (get_or tokens n blank).kind (own_bytes text (get_or tokens n blank)) s
  its_size s e = subst (λ o. IfSome o (IsSizeOf text (get_or tokens n blank).kind (own_bytes text (get_or tokens n blank)))) e stands.sized

  size_kind : (s : Span) → (get_or tokens n blank).size ≡ Some s → token_kind (bytes_in text s) ≡ Some kind.Decimal
  size_kind s e = kind_here (drop s.start text) (lexeme kind.Decimal (s.end - s.start)) (its_size s e).decimal

pub literal_of-requires : goal.literal_of-requires
literal_of-requires c = ap is_in_range c.own_bytes-bytes.ensures ∙ own_in_range c.args.text.now c.args.tokens.now c.args.n c.requires.lexed c.requires.inside c.requires.number

pub sized_literal-requires-clause-size : goal.sized_literal-requires-clause-size
sized_literal-requires-clause-size c = size_kind c.args.text.now c.args.tokens.now c.args.n c.requires.lexed c.requires.inside c.in-Some.size c.in-Some.is

pub sized_literal-requires-clause-based : goal.sized_literal-requires-clause-based
sized_literal-requires-clause-based c =
    ap token_kind c.own_bytes-bytes.ensures ∙ own_kind c.args.text.now c.args.tokens.now c.args.n c.requires.lexed c.requires.inside
    ∙ ap (λ k. Some k) (its_size c.args.text.now c.args.tokens.now c.args.n c.requires.lexed c.requires.inside c.in-Some.size c.in-Some.is).based

pub returns-in-None-clause-bits : goal.returns-in-None-clause-bits
returns-in-None-clause-bits c = c.literal_of.ensures.bits ∙ ap literal_bits (c.own_bytes-bytes.ensures ∙ sym (spelled c.args.text.now c.args.tokens.now c.args.n c.requires.lexed c.requires.inside None c.in-None.is))

pub returns-in-None-clause-size : goal.returns-in-None-clause-size
returns-in-None-clause-size c = c.literal_of.ensures.size ∙ ap literal_size (c.own_bytes-bytes.ensures ∙ sym (spelled c.args.text.now c.args.tokens.now c.args.n c.requires.lexed c.requires.inside None c.in-None.is))

pub returns-in-None-clause-signed : goal.returns-in-None-clause-signed
returns-in-None-clause-signed c = c.literal_of.ensures.signed ∙ ap is_signed_literal (c.own_bytes-bytes.ensures ∙ sym (spelled c.args.text.now c.args.tokens.now c.args.n c.requires.lexed c.requires.inside None c.in-None.is))

pub returns-in-None-clause-sized : goal.returns-in-None-clause-sized
returns-in-None-clause-sized c = c.literal_of.ensures.sized ∙ ap has_size (c.own_bytes-bytes.ensures ∙ sym (spelled c.args.text.now c.args.tokens.now c.args.n c.requires.lexed c.requires.inside None c.in-None.is))

pub returns-in-Some-clause-bits : goal.returns-in-Some-clause-bits
returns-in-Some-clause-bits c = c.sized_literal.ensures.bits ∙ ap literal_bits (ap (λ b. bytes_in c.args.text.now c.in-Some.size ++ b) c.own_bytes-bytes.ensures ∙ sym (spelled c.args.text.now c.args.tokens.now c.args.n c.requires.lexed c.requires.inside (Some c.in-Some.size) c.in-Some.is))

pub returns-in-Some-clause-size : goal.returns-in-Some-clause-size
returns-in-Some-clause-size c = c.sized_literal.ensures.size ∙ ap literal_size (ap (λ b. bytes_in c.args.text.now c.in-Some.size ++ b) c.own_bytes-bytes.ensures ∙ sym (spelled c.args.text.now c.args.tokens.now c.args.n c.requires.lexed c.requires.inside (Some c.in-Some.size) c.in-Some.is))

pub returns-in-Some-clause-signed : goal.returns-in-Some-clause-signed
returns-in-Some-clause-signed c = c.sized_literal.ensures.signed ∙ ap is_signed_literal (ap (λ b. bytes_in c.args.text.now c.in-Some.size ++ b) c.own_bytes-bytes.ensures ∙ sym (spelled c.args.text.now c.args.tokens.now c.args.n c.requires.lexed c.requires.inside (Some c.in-Some.size) c.in-Some.is))

pub returns-in-Some-clause-sized : goal.returns-in-Some-clause-sized
returns-in-Some-clause-sized c = c.sized_literal.ensures.sized ∙ ap has_size (ap (λ b. bytes_in c.args.text.now c.in-Some.size ++ b) c.own_bytes-bytes.ensures ∙ sym (spelled c.args.text.now c.args.tokens.now c.args.n c.requires.lexed c.requires.inside (Some c.in-Some.size) c.in-Some.is))
