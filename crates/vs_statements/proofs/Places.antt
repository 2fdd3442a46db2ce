-- Reading by places.
use Rattle.std.proofs.Common.{◌≡◌, ℕ, ◌≢◌, Bool, true, false, ◌&&◌, ◌||◌, List, [], ◌∷◌, nat_eq, refl, sym, ◌∙◌, ap, subst, arith, ◌⊎◌, inl, inr, ◌+◌, ◌<◌, ◌≤◌, max, drop, length, drop-cons, add-one, get_or}
use Rattle.std.specs.Prelude.{Result, Ok, Err, IfOk, IfErr, IsErrAnd, MatchResult, ltb}
use Rattle.std.proofs.lemmas.Bool.Decides.{nat_tests}
use Rattle.std.proofs.lemmas.Bool.{and_parts}
use Rattle.std.proofs.lemmas.List.{drop_all}
use Rattle.std.proofs.lemmas.Result.{err_from_is_err_and}
use Rattle.vs_lexer.specs.declared.token.Token.{Token}
use Rattle.vs_lexer.specs.declared.token.TokenKind.{TokenKind}
use Rattle.vs_lexer.specs.declared.token.TokenKind.TheVariants as kind
use Rattle.vs_lexer.specs.Cuts.{token_limit}
use Rattle.vs_lexer.specs.Laws.{AreTokens}
use Rattle.vs_grammar.specs.Grammars.{Phrase, Terminal, depth}
use Rattle.vs_grammar.specs.Grammars.Phrase.{tok, eps, seq, alt, last, many, post, level, var}
use Rattle.vs_grammar.specs.Grammars.Tree.{leaf, nothing, both, former, latter, without, within, start, grown, alone, nested, named}
use Rattle.vs_grammar.specs.Predictive.{is_member, firsts_of, Reads, Grows, Stops, Sinks}
use Rattle.vs_grammar.specs.Predictive.Reads.{r_tok, r_eps, r_seq, r_former, r_latter, r_without, r_within, r_many, r_alone, r_level, r_var}
use Rattle.vs_grammar.specs.Predictive.Grows.{g_start, g_grown}
use Rattle.vs_grammar.specs.Predictive.Stops.{s_tok, s_seq, s_then, s_former, s_latter, s_within, s_start, s_grown, s_alone, s_level, s_var}
use Rattle.vs_grammar.specs.Predictive.Sinks.{k_seq, k_then, k_former, k_latter, k_within, k_start, k_grown, k_alone, k_level, k_var}
use Rattle.vs_grammar.specs.Kinds.{number_of, end_of_text, terminals_from}
use Rattle.vs_grammar.specs.Verilog.{verilog}
use Rattle.vs_grammar.specs.Meaning.{D}
use Rattle.vs_statements.specs.Reading.{first_kind, kind_at, from, terminal_at, Took, Read, Grown, Missing, Refused, Parsed, bytes_in}
use Rattle.vs_statements.specs.declared.input.Input.{Input}
use Rattle.vs_statements.specs.Reading.Missing.{missing, no_memory}
use Rattle.vs_statements.specs.Reading.Refused.{stopped, too_deep, out_of_memory}
use Rattle.vs_statements.specs.declared.error.ParseError.{ParseError}
use Rattle.vs_statements.specs.declared.error.ParseError.TheVariants.{Syntax, Memory}

-- ---- kinds by place

pub kind_in : (ts : List Token) (i : ℕ) (d : Token) → i < length ts → number_of (get_or ts i d).kind ≡ kind_at ts i
unfolding kind_at
kind_in ts i d h = rw (drop-cons ts i d h) refl

pub kind_end : (ts : List Token) (i : ℕ) → length ts ≤ i → kind_at ts i ≡ end_of_text
unfolding kind_at
kind_end ts i h = rw (drop_all i ts h) refl

rest_of : List Terminal → List Terminal
rest_of [] = []
rest_of (u ∷ us) = us

head_of : (l : List Token) (i : ℕ) → terminals_from i l ≡ record { kind = first_kind l; place = i } ∷ rest_of (terminals_from i l)
unfolding rest_of
head_of [] i = refl
head_of (t ∷ l) i = refl

pub later : List Token → ℕ → List Terminal
later ts i = rest_of (from ts i)

pub from_head : (ts : List Token) (i : ℕ) → from ts i ≡ terminal_at ts i ∷ later ts i
unfolding from kind_at later
from_head ts i = head_of (drop i ts) i

pub from_step : (ts : List Token) (i : ℕ) → i < length ts → from ts i ≡ terminal_at ts i ∷ from ts (i + 1)
unfolding from kind_at
from_step [] i h = absurd (omega arith)
from_step (t ∷ ts) i h = rw (drop-cons (t ∷ ts) i t h, add-one) refl

pub same_number : (a b : ℕ) → nat_eq a b ≡ true → a ≡ b
same_number a b h = grind (arith, nat_tests)

pub other_number : (a b : ℕ) → nat_eq a b ≡ false → a ≢ b
other_number a b h = grind (arith, nat_tests)

pub at_head : (ts : List Token) (i : ℕ) (P : List Terminal → Type 0) → P (terminal_at ts i ∷ later ts i) → P (from ts i)
at_head ts i P h = subst P (sym (from_head ts i)) h

pub to_head : (ts : List Token) (i : ℕ) (P : List Terminal → Type 0) → P (from ts i) → P (terminal_at ts i ∷ later ts i)
to_head ts i P h = subst P (from_head ts i) h

-- ---- tokens

under : (i n : ℕ) → (i < n) ⊎ (n ≤ i)
under i n = grind arith

pub inside_at : (ts : List Token) (i : ℕ) → kind_at ts i < end_of_text → i < length ts
inside_at ts i h = elim (under i (length ts)) [ inl k ↦ k | inr k ↦ absurd (let e = kind_end ts i k in omega arith) ]

-- no kind is that of the end
pub end_is_none : (k : TokenKind) → nat_eq end_of_text (number_of k) ≡ false
end_is_none kind.Identifier = refl
end_is_none _ = refl

pub below_end : (k : TokenKind) → ltb (number_of k) end_of_text ≡ true
below_end kind.Identifier = refl
below_end _ = refl

pub kind_inside : (ts : List Token) (i : ℕ) (k : TokenKind) → kind_at ts i ≡ number_of k → i < length ts
kind_inside ts i k e = inside_at ts i (let h = below_end k in grind (arith, nat_tests))

abbrev pub all_below : List ℕ → Bool
all_below [] = true
all_below (x ∷ xs) = ltb x end_of_text && all_below xs

no_bool : {P : Type 0} → false ≡ true → P
no_bool e = cc

or_parts : (a b : Bool) → (a || b) ≡ true → (a ≡ true) ⊎ (b ≡ true)
or_parts true b e = inl refl
or_parts false b e = inr e

same_below : (u x : ℕ) → nat_eq u x ≡ true → ltb x end_of_text ≡ true → u < end_of_text
same_below u x e f = grind (arith, nat_tests)

below_of : (k : ℕ) (ks : List ℕ) → is_member k ks ≡ true → all_below ks ≡ true → k < end_of_text
below_of k [] m b = no_bool m
below_of k (x ∷ ks) m b =
    let p = and_parts (ltb x end_of_text) (all_below ks) b in
    elim (or_parts (nat_eq k x) (is_member k ks) m) [ inl e ↦ same_below k x e p.0 | inr e ↦ below_of k ks e p.1 ]

-- one of these kinds, none of which is that of the end, stands inside the text
pub inside_of : (ts : List Token) (i : ℕ) (ks : List ℕ) → is_member (kind_at ts i) ks ≡ true → all_below ks ≡ true → i < length ts
inside_of ts i ks m b = inside_at ts i (below_of (kind_at ts i) ks m b)

pub few : (text : List ℕ) (ts : List Token) → AreTokens text ts → length ts ≤ token_limit
few text ts h = h.few

pub took : (ts : List Token) (k i : ℕ) → kind_at ts i ≡ k → i < length ts → Took ts k i (i + 1)
took ts k i e h = record { reads = subst (λ (l : List Terminal). Reads verilog (tok k) l (leaf (terminal_at ts i)) (from ts (i + 1))) (sym (from_step ts i h)) (r_tok e); next = refl }

pub untook : (ts : List Token) (k i : ℕ) → kind_at ts i ≢ k → Missing ts (tok k) i (Syntax i)
untook ts k i e = missing (at_head ts i (λ l. Stops verilog (tok k) l l) (s_tok e))

-- ---- phrases that are read

pub read_tok : {ts : List Token} {d k i j : ℕ} → d ≤ 200 → Took ts k i j → Read ts d (tok k) (leaf (terminal_at ts i)) i j
read_tok s p = record { reads = p.reads; fits = omega arith }

pub read_eps : (ts : List Token) (d i : ℕ) → d ≤ 200 → Read ts d eps nothing i i
read_eps ts d i s = record { reads = r_eps; fits = omega arith }

most : (d a b : ℕ) → d + a ≤ 200 → d + b ≤ 200 → d + max a b ≤ 200
most d a b p q = omega arith

pub read_seq : {ts : List Token} {d : ℕ} {x y : Phrase} {a : D x} {b : D y} {i j k : ℕ} → Read ts d x a i j → Read ts d y b j k → Read ts d (seq x y) (both a b) i k
read_seq {ts} {d} {x} {y} {a} {b} p q = record { reads = r_seq p.reads q.reads; fits = most d (depth a) (depth b) p.fits q.fits }

pub read_former : {ts : List Token} {d : ℕ} {x y : Phrase} {a : D x} {i j : ℕ} → is_member (kind_at ts i) (firsts_of verilog x) ≡ true → Read ts d x a i j → Read ts d (alt x y) (former a) i j
read_former {ts} {d} {x} {y} {a} {i} {j} m p = record { reads = at_head ts i (λ l. Reads verilog (alt x y) l (former a) (from ts j)) (r_former m (to_head ts i (λ l. Reads verilog x l a (from ts j)) p.reads)); fits = p.fits }

pub read_latter : {ts : List Token} {d : ℕ} {x y : Phrase} {a : D y} {i j : ℕ} → is_member (kind_at ts i) (firsts_of verilog x) ≡ false → Read ts d y a i j → Read ts d (alt x y) (latter a) i j
read_latter {ts} {d} {x} {y} {a} {i} {j} m p = record { reads = at_head ts i (λ l. Reads verilog (alt x y) l (latter a) (from ts j)) (r_latter m (to_head ts i (λ l. Reads verilog y l a (from ts j)) p.reads)); fits = p.fits }

pub read_without : {ts : List Token} {d i : ℕ} {x : Phrase} (k : ℕ) → d ≤ 200 → nat_eq (kind_at ts i) k ≡ false → Read ts d (last k x) without i i
read_without {ts} {d} {i} {x} k s m = record { reads = at_head ts i (λ l. Reads verilog (last k x) l without l) (r_without (other_number (kind_at ts i) k m)); fits = omega arith }

pub read_within : {ts : List Token} {d : ℕ} {x : Phrase} {a : D x} {k i j n : ℕ} → Took ts k i j → Read ts d x a j n → Read ts d (last k x) (within (terminal_at ts i) a) i n
read_within {ts} {d} {x} {a} {k} {i} {j} {n} t p = record { reads = at_head ts i (λ l. Reads verilog (last k x) l (within (terminal_at ts i) a) (from ts n)) (within_of (to_head ts i (λ l. Reads verilog (tok k) l (leaf (terminal_at ts i)) (from ts j)) t.reads) p.reads); fits = p.fits }
  where
    within_of : {u v : Terminal} {us vs ws : List Terminal} → Reads verilog (tok k) (u ∷ us) (leaf v) vs → Reads verilog x vs a ws → Reads verilog (last k x) (u ∷ us) (within u a) ws
    within_of (r_tok e) q = r_within e q

pub read_level : {ts : List Token} {d e : ℕ} {x : Phrase} {a : D x} {i j : ℕ} → e ≡ d + 1 → Read ts e x a i j → Read ts d (level x) (nested a) i j
read_level {ts} {d} {e} {x} {a} h p = record { reads = r_level p.reads; fits = let f = p.fits in omega arith }

pub read_var : {ts : List Token} {d n : ℕ} {a : D (verilog.rule n)} {i j : ℕ} → Read ts d (verilog.rule n) a i j → Read ts d (var n) (named a) i j
read_var p = record { reads = r_var p.reads; fits = p.fits }

pub parsed : {A : Type 0} {input : Input} {x : Phrase} {of : (ℕ → List ℕ) → D x → A} {d i : ℕ} {value : A} {j : ℕ} {a : D x} → Read input.tokens.now d x a i j → of (bytes_in input) a ≡ value → Parsed input x of d i value j
parsed {a = a} p e = record { tree = a; read = p; made = e }

-- ---- loops

pub grown_start : {ts : List Token} {d : ℕ} {b : Bool} {x y : Phrase} {a : D x} {i j : ℕ} → Read ts d x a i j → Grown ts d b x y (start a) i j
grown_start p = record { grows = g_start p.reads; fits = p.fits }

pub grown_more : {ts : List Token} {d : ℕ} {x y : Phrase} {a : D (many false x y)} {c : D y} {i j k : ℕ} → Grown ts d false x y a i j → is_member (kind_at ts j) (firsts_of verilog y) ≡ true → Read ts d y c j k → Grown ts d false x y (grown a c) i k
grown_more {ts} {d} {x} {y} {a} {c} {i} {j} {k} p m q = record { grows = g_grown (to_head ts j (λ l. Grows verilog false x y (from ts i) a l) p.grows) m (to_head ts j (λ l. Reads verilog y l c (from ts k)) q.reads); fits = let f = most d (depth a) (depth c) p.fits q.fits in omega arith }

pub read_many : {ts : List Token} {d : ℕ} {b : Bool} {x y : Phrase} {a : D (many b x y)} {i j : ℕ} → Grown ts d b x y a i j → is_member (kind_at ts j) (firsts_of verilog y) ≡ false → Read ts d (many b x y) a i j
read_many {ts} {d} {b} {x} {y} {a} {i} {j} p m = record { reads = at_head ts j (λ l. Reads verilog (many b x y) (from ts i) a l) (r_many (to_head ts j (λ l. Grows verilog b x y (from ts i) a l) p.grows) m); fits = p.fits }

pub read_alone : {ts : List Token} {d : ℕ} {x y : Phrase} {a : D x} {i j : ℕ} → Read ts d x a i j → is_member (kind_at ts j) (firsts_of verilog y) ≡ false → Read ts d (post x y) (alone a) i j
read_alone {ts} {d} {x} {y} {a} {i} {j} p m = record { reads = at_head ts j (λ l. Reads verilog (post x y) (from ts i) (alone a) l) (r_alone (to_head ts j (λ l. Reads verilog x (from ts i) a l) p.reads) m); fits = p.fits }

-- ---- phrases that are refused

pub refused_missing : {ts : List Token} {d : ℕ} {x : Phrase} {i : ℕ} {e : ParseError} → Missing ts x i e → Refused ts d x i e
refused_missing (missing s) = stopped s
refused_missing no_memory = out_of_memory

pub refused_seq : {ts : List Token} {d : ℕ} {x y : Phrase} {i : ℕ} {e : ParseError} → Refused ts d x i e → Refused ts d (seq x y) i e
refused_seq (stopped s) = stopped (s_seq s)
refused_seq (too_deep s h) = too_deep (k_seq s) h
refused_seq out_of_memory = out_of_memory

pub refused_then : {ts : List Token} {d : ℕ} {x y : Phrase} {a : D x} {i j : ℕ} {e : ParseError} → Read ts d x a i j → Refused ts d y j e → Refused ts d (seq x y) i e
refused_then p (stopped s) = stopped (s_then p.reads s)
refused_then p (too_deep s h) = too_deep (k_then p.reads s) h
refused_then p out_of_memory = out_of_memory

pub refused_former : {ts : List Token} {d : ℕ} {x y : Phrase} {i : ℕ} {e : ParseError} → is_member (kind_at ts i) (firsts_of verilog x) ≡ true → Refused ts d x i e → Refused ts d (alt x y) i e
refused_former {ts} {d} {x} {y} {i} m (stopped {k} s) = stopped (at_head ts i (λ l. Stops verilog (alt x y) l (from ts k)) (s_former m (to_head ts i (λ l. Stops verilog x l (from ts k)) s)))
refused_former {ts} {d} {x} {y} {i} m (too_deep {k} {n} s h) = too_deep (at_head ts i (λ l. Sinks verilog (alt x y) l (from ts k) n) (k_former m (to_head ts i (λ l. Sinks verilog x l (from ts k) n) s))) h
refused_former m out_of_memory = out_of_memory

pub refused_latter : {ts : List Token} {d : ℕ} {x y : Phrase} {i : ℕ} {e : ParseError} → is_member (kind_at ts i) (firsts_of verilog x) ≡ false → Refused ts d y i e → Refused ts d (alt x y) i e
refused_latter {ts} {d} {x} {y} {i} m (stopped {k} s) = stopped (at_head ts i (λ l. Stops verilog (alt x y) l (from ts k)) (s_latter m (to_head ts i (λ l. Stops verilog y l (from ts k)) s)))
refused_latter {ts} {d} {x} {y} {i} m (too_deep {k} {n} s h) = too_deep (at_head ts i (λ l. Sinks verilog (alt x y) l (from ts k) n) (k_latter m (to_head ts i (λ l. Sinks verilog y l (from ts k) n) s))) h
refused_latter m out_of_memory = out_of_memory

pub refused_within : {ts : List Token} {d : ℕ} {x : Phrase} {k i j : ℕ} {e : ParseError} → Took ts k i j → Refused ts d x j e → Refused ts d (last k x) i e
refused_within {ts} {d} {x} {k} {i} {j} t (stopped {k = n} s) = stopped (at_head ts i (λ l. Stops verilog (last k x) l (from ts n)) (stop_of (to_head ts i (λ l. Reads verilog (tok k) l (leaf (terminal_at ts i)) (from ts j)) t.reads) s))
  where
    stop_of : {u v : Terminal} {us vs ws : List Terminal} → Reads verilog (tok k) (u ∷ us) (leaf v) vs → Stops verilog x vs ws → Stops verilog (last k x) (u ∷ us) ws
    stop_of (r_tok e) q = s_within e q
refused_within {ts} {d} {x} {k} {i} {j} t (too_deep {k = m} {n} s h) = too_deep (at_head ts i (λ l. Sinks verilog (last k x) l (from ts m) n) (sink_of (to_head ts i (λ l. Reads verilog (tok k) l (leaf (terminal_at ts i)) (from ts j)) t.reads) s)) h
  where
    sink_of : {u v : Terminal} {us vs ws : List Terminal} → Reads verilog (tok k) (u ∷ us) (leaf v) vs → Sinks verilog x vs ws n → Sinks verilog (last k x) (u ∷ us) ws n
    sink_of (r_tok e) q = k_within e q
refused_within t out_of_memory = out_of_memory

pub refused_level : {ts : List Token} {d f : ℕ} {x : Phrase} {i : ℕ} {e : ParseError} → f ≡ d + 1 → Refused ts f x i e → Refused ts d (level x) i e
refused_level q (stopped s) = stopped (s_level s)
refused_level q (too_deep s h) = too_deep (k_level s) (omega arith)
refused_level q out_of_memory = out_of_memory

pub refused_var : {ts : List Token} {d n : ℕ} {i : ℕ} {e : ParseError} → Refused ts d (verilog.rule n) i e → Refused ts d (var n) i e
refused_var (stopped s) = stopped (s_var s)
refused_var (too_deep s h) = too_deep (k_var s) h
refused_var out_of_memory = out_of_memory

pub refused_start : {ts : List Token} {d : ℕ} {b : Bool} {x y : Phrase} {i : ℕ} {e : ParseError} → Refused ts d x i e → Refused ts d (many b x y) i e
refused_start (stopped s) = stopped (s_start s)
refused_start (too_deep s h) = too_deep (k_start s) h
refused_start out_of_memory = out_of_memory

pub refused_more : {ts : List Token} {d : ℕ} {x y : Phrase} {a : D (many false x y)} {i j : ℕ} {e : ParseError} → Grown ts d false x y a i j → is_member (kind_at ts j) (firsts_of verilog y) ≡ true → Refused ts d y j e → Refused ts d (many false x y) i e
refused_more {ts} {d} {x} {y} {a} {i} {j} p m (stopped {k} s) = stopped (s_grown (to_head ts j (λ l. Grows verilog false x y (from ts i) a l) p.grows) m (to_head ts j (λ l. Stops verilog y l (from ts k)) s))
refused_more {ts} {d} {x} {y} {a} {i} {j} p m (too_deep {k} {n} s h) = too_deep (k_grown (to_head ts j (λ l. Grows verilog false x y (from ts i) a l) p.grows) m (to_head ts j (λ l. Sinks verilog y l (from ts k) n) s)) (omega arith)
refused_more p m out_of_memory = out_of_memory

pub refused_alone : {ts : List Token} {d : ℕ} {x y : Phrase} {i : ℕ} {e : ParseError} → Refused ts d x i e → Refused ts d (post x y) i e
refused_alone (stopped s) = stopped (s_alone s)
refused_alone (too_deep s h) = too_deep (k_alone s) h
refused_alone out_of_memory = out_of_memory

-- ---- results

-- what a result says, from what another result says
pub answer_more : {A E : Type 0} {P S : A → Type 0} {Q R : E → Type 0} (r : Result A E) → MatchResult r P Q → ((y : A) → P y → S y) → ((e : E) → Q e → R e) → MatchResult r S R
answer_more (Ok y) h f g = f y h
answer_more (Err e) h f g = g e h

-- a refusal that is passed on
pub answer_exit : {A E : Type 0} (P : A → Type 0) (Q : E → Type 0) (r : Result A E) (e : E) → IsErrAnd r (λ y. y ≡ e) → Q e → MatchResult r P Q
answer_exit P Q r e h q = let p = err_from_is_err_and r h in rw p.1 (subst Q (sym p.2) q)

-- what an answer says where it is a value, and where it is an error
pub ok_part : {A E : Type 0} (P : A → Type 0) (Q : E → Type 0) (r : Result A E) → MatchResult r P Q → IfOk r P
ok_part P Q (Ok y) h = h
ok_part P Q (Err e) h = tt

pub err_part : {A E : Type 0} (P : A → Type 0) (Q : E → Type 0) (r : Result A E) → MatchResult r P Q → IfErr r Q
err_part P Q (Ok y) h = tt
err_part P Q (Err e) h = h

pub refused_memory : {ts : List Token} {d : ℕ} {x : Phrase} {i : ℕ} {e : ParseError} → e ≡ Memory → Refused ts d x i e
refused_memory {ts} {d} {x} {i} e = subst (λ y. Refused ts d x i y) (sym e) out_of_memory

-- a token that stands here is not missed
pub refused_kept : {ts : List Token} {d k i : ℕ} {x : Phrase} {e : ParseError} → kind_at ts i ≡ k → Missing ts (tok k) i e → Refused ts d x i e
refused_kept {ts} {d} {k} {i} {x} q (missing {k = n} s) = absurd (bad (to_head ts i (λ l. Stops verilog (tok k) l (from ts n)) s) q)
  where
    bad : {u : Terminal} {us vs : List Terminal} → Stops verilog (tok k) (u ∷ us) vs → u.kind ≡ k → ⊥
    bad (s_tok w) z = w z
refused_kept q no_memory = out_of_memory

-- ---- tests of one token

pub one_true : (a b : Bool) → b ≡ a → b ≡ true → (a || false) ≡ true
one_true true b e f = refl
one_true false b e f = cc

pub one_false : (a b : Bool) → b ≡ a → b ≡ false → (a || false) ≡ false
one_false true b e f = cc
one_false false b e f = refl

-- ---- what tests of the kind say

pub known : (ts : List Token) (i k : ℕ) (ks : List ℕ) (b : Bool) → kind_at ts i ≡ k → is_member k ks ≡ b → is_member (kind_at ts i) ks ≡ b
known ts i k ks b e m = subst (λ (n : ℕ). is_member n ks ≡ b) (sym e) m

pub stood : (ts : List Token) (i k : ℕ) (b : Bool) → b ≡ nat_eq (kind_at ts i) k → b ≡ true → kind_at ts i ≡ k
stood ts i k b e f = same_number (kind_at ts i) k (sym e ∙ f)

pub first_own : (n : ℕ) → (nat_eq n n || false) ≡ true
first_own n = grind (arith, nat_tests)

pub took_kind : {ts : List Token} {k i j : ℕ} → Took ts k i j → kind_at ts i ≡ k
took_kind {ts} {k} {i} {j} t = kind_of (to_head ts i (λ l. Reads verilog (tok k) l (leaf (terminal_at ts i)) (from ts j)) t.reads)
  where
    kind_of : {u v : Terminal} {us vs : List Terminal} → Reads verilog (tok k) (u ∷ us) (leaf v) vs → u.kind ≡ k
    kind_of (r_tok e) = e

pub first_took : {ts : List Token} {k i j : ℕ} → Took ts k i j → is_member (kind_at ts i) (k ∷ []) ≡ true
first_took {ts} {k} {i} {j} t = kind_of (to_head ts i (λ l. Reads verilog (tok k) l (leaf (terminal_at ts i)) (from ts j)) t.reads)
  where
    kind_of : {u v : Terminal} {us vs : List Terminal} → Reads verilog (tok k) (u ∷ us) (leaf v) vs → (nat_eq u.kind k || false) ≡ true
    kind_of {u} (r_tok e) = rw e (first_own k)

pub neither : (a b : Bool) → a ≡ false → b ≡ false → (a || (b || false)) ≡ false
neither true b e f = e
neither false true e f = f
neither false false e f = refl

pub as_items : {A : Type 0} (P : A → Bool) {a b : A} {r v : Bool} → a ≡ b → r ≡ P a → r ≡ v → P b ≡ v
as_items P e f g = ap P (sym e) ∙ sym f ∙ g

-- ---- values made of several

pub ap2 : {A B C : Type 0} {a p : A} {b q : B} (f : A → B → C) → a ≡ p → b ≡ q → f a b ≡ f p q
ap2 {a = a} {q = q} f e g = ap (λ z. f a z) g ∙ ap (λ z. f z q) e

pub ap3 : {A B C E : Type 0} {a p : A} {b q : B} {c r : C} (f : A → B → C → E) → a ≡ p → b ≡ q → c ≡ r → f a b c ≡ f p q r
ap3 {a = a} {q = q} {r = r} f e g h = ap2 (λ y z. f a y z) g h ∙ ap (λ z. f z q r) e

pub ap4 : {A B C E F : Type 0} {a p : A} {b q : B} {c r : C} {d s : E} (f : A → B → C → E → F) → a ≡ p → b ≡ q → c ≡ r → d ≡ s → f a b c d ≡ f p q r s
ap4 {a = a} {q = q} {r = r} {s = s} f e g h i = ap3 (λ x y z. f a x y z) g h i ∙ ap (λ z. f z q r s) e

pub ap5 : {A B C E F G : Type 0} {a p : A} {b q : B} {c r : C} {d s : E} {g t : F} (f : A → B → C → E → F → G) → a ≡ p → b ≡ q → c ≡ r → d ≡ s → g ≡ t → f a b c d g ≡ f p q r s t
ap5 {a = a} {q = q} {r = r} {s = s} {t = t} f e h i j k = ap4 (λ w x y z. f a w x y z) h i j k ∙ ap (λ z. f z q r s t) e

pub ap6 : {A B C E F G H : Type 0} {a p : A} {b q : B} {c r : C} {d s : E} {g t : F} {h u : G} (f : A → B → C → E → F → G → H) → a ≡ p → b ≡ q → c ≡ r → d ≡ s → g ≡ t → h ≡ u → f a b c d g h ≡ f p q r s t u
ap6 {a = a} {q = q} {r = r} {s = s} {t = t} {u = u} f e i j k l m = ap5 (λ v w x y z. f a v w x y z) i j k l m ∙ ap (λ z. f z q r s t u) e
