-- From places to whole texts.
use Rattle.std.proofs.Common.{◌≡◌, ℕ, zero, suc, ◌+◌, ◌<◌, ◌≤◌, ◌≢◌, true, false, List, [], ◌∷◌, ◌++◌, drop, length, get_or, refl, sym, ◌∙◌, ap, subst, arith, ◌⊎◌, inl, inr}
use Rattle.std.specs.Prelude.{Result, IfErr, IsErrAnd, Option, Some, None, ltb}
use Rattle.std.proofs.lemmas.Bool.Decides.{nat_tests}
use Rattle.std.proofs.lemmas.List.{drop_all}
use Rattle.std.proofs.lemmas.Result.{err_from_is_err_and}
use Rattle.vs_lexer.specs.declared.token.Token.{Token}
use Rattle.vs_lexer.specs.declared.token.TokenKind.{TokenKind}
use Rattle.vs_lexer.specs.declared.token.TokenKind.TheVariants as kind
use Rattle.vs_lexer.specs.LeftOut as out
use Rattle.vs_grammar.specs.Grammars.{Terminal, SyntaxAt, TooDeepAt}
use Rattle.vs_grammar.specs.Grammars.Phrase.{tok}
use Rattle.vs_grammar.specs.Grammars.Tree.{leaf, both}
use Rattle.vs_grammar.specs.Predictive.{Reads, Stops, Sinks}
use Rattle.vs_grammar.specs.Predictive.Reads.{r_seq, r_tok}
use Rattle.vs_grammar.specs.Predictive.Stops.{s_seq, s_then, s_tok}
use Rattle.vs_grammar.specs.Predictive.Sinks.{k_seq}
use Rattle.vs_grammar.specs.Kinds.{number_of, terminals, terminals_from, end_of_text}
use Rattle.vs_grammar.specs.Verilog.{verilog, phrase_of, r}
use Rattle.vs_grammar.specs.Verilog.{Rule as rule}
use Rattle.vs_grammar.specs.Trees.{Source}
use Rattle.vs_grammar.specs.Meaning as meaning
use Rattle.vs_grammar.specs.Spelled.{NoneLeftOut, SpelledBy}
use Rattle.vs_grammar.proofs.Stopped.{stopping, sinking}
use Rattle.vs_grammar.proofs.Whole.{derived, stops, sinks}
use Rattle.vs_grammar.proofs.Decided.{verilog_is_predictive}
use Rattle.vs_statements.specs.declared.input.Input.{Input}
use Rattle.vs_statements.specs.declared.error.ParseError.{ParseError}
use Rattle.vs_statements.specs.declared.error.ParseError.TheVariants.{Syntax}
use Rattle.vs_parser.specs.Faults.{Fault}
use Rattle.vs_statements.specs.Reading.{kind_at, from, terminal_at, Refused, Parsed}
use Rattle.vs_statements.specs.Reading.Refused.{stopped, too_deep, out_of_memory}
use Rattle.vs_statements.proofs.Places.{from_head, kind_end, kind_in, below_end, at_head}

-- ---- places and terminals

below_not : (a b c : ℕ) → a ≡ b → ltb a c ≡ true → b ≢ c
below_not a b c e l = grind (arith, nat_tests)

kind_not_end : (ts : List Token) (i : ℕ) → i < length ts → kind_at ts i ≢ end_of_text
kind_not_end ts i h = let d : Token = record { kind = kind.Identifier; start = 0; end = 0; at = 0; size = None } in below_not (number_of (get_or ts i d).kind) (kind_at ts i) end_of_text (kind_in ts i d h) (below_end (get_or ts i d).kind)

from_zero : (ts : List Token) → from ts 0 ≡ terminals ts
unfolding from
from_zero ts = refl

from_end : (ts : List Token) (k : ℕ) → length ts ≤ k → from ts k ≡ terminal_at ts k ∷ []
unfolding from kind_at
from_end ts k h = rw (drop_all k ts h) refl

head_same : {a b : Terminal} {us vs : List Terminal} → a ∷ us ≡ b ∷ vs → a ≡ b
head_same e = cc

tail_same : {a b : Terminal} {us vs : List Terminal} → a ∷ us ≡ b ∷ vs → us ≡ vs
tail_same e = cc

not_more : (pre : List Terminal) (at : Terminal) (rest : List Terminal) → [] ≡ pre ++ (at ∷ rest) → ⊥
not_more [] at rest e = cc
not_more (p ∷ pre) at rest e = cc

place_in : (l : List Token) (m : ℕ) (pre : List Terminal) (at : Terminal) (rest : List Terminal) → terminals_from m l ≡ pre ++ (at ∷ rest) → at.place ≡ m + length pre
place_in [] m [] at rest e = let q = ap (λ (z : Terminal). z.place) (head_same e) in omega arith
place_in [] m (p ∷ pre) at rest e = absurd (not_more pre at rest (tail_same e))
place_in (t ∷ l) m [] at rest e = let q = ap (λ (z : Terminal). z.place) (head_same e) in omega arith
place_in (t ∷ l) m (p ∷ pre) at rest e = let q = place_in l (suc m) pre at rest (tail_same e) in omega arith

drop_pre : (pre x : List Terminal) → drop (length pre) (pre ++ x) ≡ x
drop_pre [] x = refl
drop_pre (p ∷ pre) x = drop_pre pre x

dropped : (ts : List Token) (k : ℕ) (pre : List Terminal) (at : Terminal) (rest : List Terminal) → from ts k ≡ at ∷ rest → from ts 0 ≡ pre ++ (at ∷ rest) → from ts k ≡ drop k (terminals ts)
dropped ts k pre at rest e f =
    let p : at.place ≡ k = ap (λ (z : Terminal). z.place) (head_same (sym e ∙ from_head ts k)) in
    let q : at.place ≡ 0 + length pre = place_in ts 0 pre at rest (sym (from_zero ts) ∙ f) in
    let n : length pre ≡ k = omega arith in
    e ∙ sym (drop_pre pre (at ∷ rest)) ∙ ap (λ (z : List Terminal). drop (length pre) z) (sym f ∙ from_zero ts) ∙ ap (λ (m : ℕ). drop m (terminals ts)) n

text_stops : (ts : List Token) (k : ℕ) → Stops verilog (phrase_of rule.Text) (from ts 0) (from ts k) → SyntaxAt verilog.rule (phrase_of rule.Text) (terminals ts) k
text_stops ts k p =
    let i = stopping verilog p in
    let d = dropped ts k i.pre i.at i.rest i.here i.text in
    stops verilog (r rule.Source) end_of_text verilog_is_predictive (terminals ts) k (subst (λ (l : List Terminal). Stops verilog (phrase_of rule.Text) l (drop k (terminals ts))) (from_zero ts) (subst (λ (l : List Terminal). Stops verilog (phrase_of rule.Text) (from ts 0) l) d p))

text_sinks : (ts : List Token) (k n : ℕ) → 200 < n → Sinks verilog (phrase_of rule.Text) (from ts 0) (from ts k) n → TooDeepAt verilog.rule (phrase_of rule.Text) 200 (terminals ts) k
text_sinks ts k n h p =
    let i = sinking verilog p in
    let d = dropped ts k i.pre i.at i.rest i.here i.text in
    sinks verilog (r rule.Source) end_of_text verilog_is_predictive 200 n h (terminals ts) k (subst (λ (l : List Terminal). Sinks verilog (phrase_of rule.Text) l (drop k (terminals ts)) n) (from_zero ts) (subst (λ (l : List Terminal). Sinks verilog (phrase_of rule.Text) (from ts 0) l n) d p))

-- what refuses the modules refuses the text
pub text_fault : {ts : List Token} {e : ParseError} → NoneLeftOut ts → Refused ts 0 (r rule.Source) 0 e → Fault ts e
text_fault {ts} kept (stopped {k = k} s) = record { kept = kept; fault = text_stops ts k (s_seq s) }
text_fault {ts} kept (too_deep {k = k} {n = n} s h) = record { kept = kept; fault = text_sinks ts k n (omega arith) (k_seq s) }
text_fault kept out_of_memory = tt

-- something stands behind the modules
pub rest_fault : {input : Input} {value : Source} {j : ℕ} → NoneLeftOut input.tokens.now → Parsed input (r rule.Source) meaning.source_of 0 0 value j → j < length input.tokens.now → Fault input.tokens.now (Syntax j)
rest_fault {input} {value} {j} kept p h = record { kept = kept; fault = text_stops input.tokens.now j (s_then (p.read).reads (at_head input.tokens.now j (λ l. Stops verilog (tok end_of_text) l l) (s_tok (kind_not_end input.tokens.now j h)))) }

-- nothing does
pub text_read : {input : Input} {value : Source} {j : ℕ} → NoneLeftOut input.tokens.now → Parsed input (r rule.Source) meaning.source_of 0 0 value j → length input.tokens.now ≤ j → SpelledBy input.text.now input.tokens.now value
text_read {input} {value} {j} kept p h =
    let w : Reads verilog (phrase_of rule.Text) (from input.tokens.now 0) (both p.tree (leaf (terminal_at input.tokens.now j))) [] = r_seq (p.read).reads (subst (λ (l : List Terminal). Reads verilog (tok end_of_text) l (leaf (terminal_at input.tokens.now j)) []) (sym (from_end input.tokens.now j h)) (r_tok (kind_end input.tokens.now j h))) in
    record {
      kept = kept;
      derivation = both p.tree (leaf (terminal_at input.tokens.now j));
      derived = derived verilog (r rule.Source) end_of_text verilog_is_predictive (terminals input.tokens.now) (both p.tree (leaf (terminal_at input.tokens.now j))) (subst (λ (l : List Terminal). Reads verilog (phrase_of rule.Text) l (both p.tree (leaf (terminal_at input.tokens.now j))) []) (from_zero input.tokens.now) w);
      stands = p.made;
      shallow = let f = (p.read).fits in omega arith;
    }

-- ---- tokens that are left out

no_kind : (ts : List Token) (n : ℕ) → length ts ≤ n → out.kind_at ts n ≡ None
no_kind [] zero h = refl
no_kind [] (suc n) h = refl
no_kind (t ∷ ts) zero h = absurd (omega arith)
no_kind (t ∷ ts) (suc n) h = no_kind ts n (omega arith)

beyond : (ts : List Token) (n : ℕ) → length ts ≤ n → out.is_left_out ts n ≡ false
beyond ts n h = ap (λ (o : Option TokenKind). elim o [ None ↦ false | Some k ↦ out.is_left_out_between (out.kind_before ts n) k (out.kind_at ts (n + 1)) (out.kind_at ts (n + 2)) ]) (no_kind ts n h)

under : (i n : ℕ) → (i < n) ⊎ (n ≤ i)
under i n = grind arith

pub none_out : (ts : List Token) → ((k : ℕ) → k < length ts → out.is_left_out ts k ≡ false) → NoneLeftOut ts
none_out ts h n = elim (under n (length ts)) [ inl p ↦ h n p | inr p ↦ beyond ts n p ]
