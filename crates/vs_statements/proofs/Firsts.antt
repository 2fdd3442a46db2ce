-- What the first token alone decides: that a phrase takes it, or that it stops at it.
use Rattle.std.proofs.Common.{◌≡◌, ℕ, ◌≢◌, Bool, true, false, ◌&&◌, ◌||◌, List, [], ◌∷◌, nat_eq, refl, sym, ◌∙◌, subst, arith, ◌⊎◌, inl, inr, suc, zero, ◌+◌, ◌≤◌}
use Rattle.std.proofs.lemmas.Bool.{and_parts}
use Rattle.vs_lexer.specs.declared.token.Token.{Token}
use Rattle.vs_grammar.specs.Grammars.{Phrase}
use Rattle.vs_grammar.specs.Grammars.Phrase.{tok, eps, seq, alt, last, many, post, level, var}
use Rattle.vs_grammar.specs.Predictive.{is_member, is_subset, firsts_of, Stops, Sinks}
use Rattle.vs_grammar.specs.Predictive.Stops.{s_tok, s_seq, s_latter, s_start, s_alone, s_level, s_var}
use Rattle.vs_grammar.specs.Predictive.Sinks.{k_tok, k_seq, k_former, k_latter, k_last, k_start, k_alone, k_level, k_var}
use Rattle.vs_grammar.specs.Verilog.{verilog}
use Rattle.vs_statements.specs.Reading.{kind_at, from, Refused}
use Rattle.vs_statements.specs.Reading.Refused.{stopped, too_deep}
use Rattle.vs_statements.specs.declared.error.ParseError.{ParseError}
use Rattle.vs_statements.specs.declared.error.ParseError.TheVariants.{Syntax, TooDeep}
use Rattle.vs_statements.proofs.Places.{at_head, to_head, same_number}

unlike : {P : Type 0} → false ≡ true → P
unlike e = absurd (no e)
  where
    no : false ≡ true → ⊥
    no e = cc

-- ---- a phrase takes the token

abbrev finds_by : (ℕ → ℕ → Bool) → Phrase → ℕ → Bool
finds_by found (tok t) k = nat_eq k t
finds_by found eps k = false
finds_by found (seq x y) k = finds_by found x k
finds_by found (alt x y) k = elim (is_member k (firsts_of verilog x)) [ true ↦ finds_by found x k | false ↦ finds_by found y k ]
finds_by found (last t x) k = nat_eq k t
finds_by found (many b x y) k = finds_by found x k
finds_by found (post x y) k = finds_by found x k
finds_by found (level x) k = finds_by found x k
finds_by found (var n) k = found n k

abbrev finds_rule : ℕ → ℕ → ℕ → Bool
finds_rule zero n k = false
finds_rule (suc s) n k = finds_by (finds_rule s) (verilog.rule n) k

abbrev pub finds_all : ℕ → Phrase → List ℕ → Bool
finds_all s x [] = true
finds_all s x (k ∷ ks) = finds_by (finds_rule s) x k && finds_all s x ks

record Sunk (ts : List Token) (x : Phrase) (i : ℕ) : Type 0 where
  levels : ℕ
  sinks : Sinks verilog x (from ts i) (from ts i) levels

sunk_by : (ts : List Token) (i : ℕ) (found : ℕ → ℕ → Bool) → ((n : ℕ) → found n (kind_at ts i) ≡ true → Sunk ts (var n) i) → (x : Phrase) → finds_by found x (kind_at ts i) ≡ true → Sunk ts x i
sunk_by ts i found good (tok t) e = record { levels = 0; sinks = at_head ts i (λ l. Sinks verilog (tok t) l l 0) (k_tok (same_number (kind_at ts i) t e)) }
sunk_by ts i found good eps e = unlike e
sunk_by ts i found good (seq x y) e = let p = sunk_by ts i found good x e in record { levels = p.levels; sinks = k_seq p.sinks }
sunk_by ts i found good (alt x y) e = go (is_member (kind_at ts i) (firsts_of verilog x)) refl e (sunk_by ts i found good x) (sunk_by ts i found good y)
  where
    go : (b : Bool) → is_member (kind_at ts i) (firsts_of verilog x) ≡ b → (elim b [ true ↦ finds_by found x (kind_at ts i) | false ↦ finds_by found y (kind_at ts i) ]) ≡ true → (finds_by found x (kind_at ts i) ≡ true → Sunk ts x i) → (finds_by found y (kind_at ts i) ≡ true → Sunk ts y i) → Sunk ts (alt x y) i
    go true m e p q = let s = p e in record { levels = s.levels; sinks = at_head ts i (λ l. Sinks verilog (alt x y) l (from ts i) s.levels) (k_former m (to_head ts i (λ l. Sinks verilog x l (from ts i) s.levels) s.sinks)) }
    go false m e p q = let s = q e in record { levels = s.levels; sinks = at_head ts i (λ l. Sinks verilog (alt x y) l (from ts i) s.levels) (k_latter m (to_head ts i (λ l. Sinks verilog y l (from ts i) s.levels) s.sinks)) }
sunk_by ts i found good (last t x) e = record { levels = 0; sinks = at_head ts i (λ l. Sinks verilog (last t x) l l 0) (k_last (same_number (kind_at ts i) t e)) }
sunk_by ts i found good (many b x y) e = let p = sunk_by ts i found good x e in record { levels = p.levels; sinks = k_start p.sinks }
sunk_by ts i found good (post x y) e = let p = sunk_by ts i found good x e in record { levels = p.levels; sinks = k_alone p.sinks }
sunk_by ts i found good (level x) e = let p = sunk_by ts i found good x e in record { levels = 1 + p.levels; sinks = k_level p.sinks }
sunk_by ts i found good (var n) e = good n e

sunk_rule : (ts : List Token) (i s n : ℕ) → finds_rule s n (kind_at ts i) ≡ true → Sunk ts (var n) i
sunk_rule ts i zero n e = unlike e
sunk_rule ts i (suc s) n e = let p = sunk_by ts i (finds_rule s) (sunk_rule ts i s) (verilog.rule n) e in record { levels = p.levels; sinks = k_var p.sinks }

or_cases : (a b : Bool) → (a || b) ≡ true → (a ≡ true) ⊎ (b ≡ true)
or_cases true b e = inl refl
or_cases false b e = inr e

found_of : (s : ℕ) (x : Phrase) (k : ℕ) (ks : List ℕ) → is_member k ks ≡ true → finds_all s x ks ≡ true → finds_by (finds_rule s) x k ≡ true
found_of s x k [] m e = unlike m
found_of s x k (h ∷ ks) m e =
    let p = and_parts (finds_by (finds_rule s) x h) (finds_all s x ks) e in
    elim (or_cases (nat_eq k h) (is_member k ks) m) [
      | inl q ↦ subst (λ (n : ℕ). finds_by (finds_rule s) x n ≡ true) (sym (same_number k h q)) p.0
      | inr q ↦ found_of s x k ks q p.1
    ]

-- a level that would be one too many begins with one of these tokens
pub too_deep_first : {ts : List Token} {d i : ℕ} {x : Phrase} {e : ParseError} (s : ℕ) (ks : List ℕ) → is_member (kind_at ts i) ks ≡ true → finds_all s x ks ≡ true → e ≡ TooDeep i → 200 ≤ d → Refused ts d (level x) i e
too_deep_first {ts} {d} {i} {x} {e} s ks m f q h =
    let p = sunk_by ts i (finds_rule s) (sunk_rule ts i s) x (found_of s x (kind_at ts i) ks m f) in
    subst (λ (y : ParseError). Refused ts d (level x) i y) (sym q) (too_deep (k_level p.sinks) (omega arith))

-- ---- a phrase stops at the token

abbrev stops_by : (ℕ → Bool) → List ℕ → Phrase → Bool
stops_by found ks (tok t) = is_member t ks
stops_by found ks eps = false
stops_by found ks (seq x y) = stops_by found ks x
stops_by found ks (alt x y) = is_subset (firsts_of verilog x) ks && stops_by found ks y
stops_by found ks (last t x) = false
stops_by found ks (many b x y) = stops_by found ks x
stops_by found ks (post x y) = stops_by found ks x
stops_by found ks (level x) = stops_by found ks x
stops_by found ks (var n) = found n

abbrev stops_rule : ℕ → List ℕ → ℕ → Bool
stops_rule zero ks n = false
stops_rule (suc s) ks n = stops_by (stops_rule s ks) ks (verilog.rule n)

abbrev pub stops_all : ℕ → List ℕ → Phrase → Bool
stops_all s ks x = stops_by (stops_rule s ks) ks x

no_other : (k t : ℕ) (ks : List ℕ) → is_member k ks ≡ false → is_member t ks ≡ true → k ≢ t
no_other k t ks m n e = unlike (sym m ∙ subst (λ (z : ℕ). is_member z ks ≡ true) (sym e) n)

bools : (b : Bool) → (b ≡ true) ⊎ (b ≡ false)
bools true = inl refl
bools false = inr refl

not_in : (k : ℕ) (xs ks : List ℕ) → is_member k ks ≡ false → is_subset xs ks ≡ true → is_member k xs ≡ false
not_in k [] ks m s = refl
not_in k (x ∷ xs) ks m s =
    let p = and_parts (is_member x ks) (is_subset xs ks) s in
    elim (bools (nat_eq k x)) [
      | inl q ↦ absurd (no_other k x ks m p.0 (same_number k x q))
      | inr q ↦ rw q (not_in k xs ks m p.1)
    ]

stop_by : (ts : List Token) (i : ℕ) (ks : List ℕ) → is_member (kind_at ts i) ks ≡ false → (found : ℕ → Bool) → ((n : ℕ) → found n ≡ true → Stops verilog (var n) (from ts i) (from ts i)) → (x : Phrase) → stops_by found ks x ≡ true → Stops verilog x (from ts i) (from ts i)
stop_by ts i ks m found good (tok t) e = at_head ts i (λ l. Stops verilog (tok t) l l) (s_tok (no_other (kind_at ts i) t ks m e))
stop_by ts i ks m found good eps e = unlike e
stop_by ts i ks m found good (seq x y) e = s_seq (stop_by ts i ks m found good x e)
stop_by ts i ks m found good (alt x y) e =
    let p = and_parts (is_subset (firsts_of verilog x) ks) (stops_by found ks y) e in
    at_head ts i (λ l. Stops verilog (alt x y) l (from ts i)) (s_latter (not_in (kind_at ts i) (firsts_of verilog x) ks m p.0) (to_head ts i (λ l. Stops verilog y l (from ts i)) (stop_by ts i ks m found good y p.1)))
stop_by ts i ks m found good (last t x) e = unlike e
stop_by ts i ks m found good (many b x y) e = s_start (stop_by ts i ks m found good x e)
stop_by ts i ks m found good (post x y) e = s_alone (stop_by ts i ks m found good x e)
stop_by ts i ks m found good (level x) e = s_level (stop_by ts i ks m found good x e)
stop_by ts i ks m found good (var n) e = good n e

stop_rule : (ts : List Token) (i : ℕ) (ks : List ℕ) → is_member (kind_at ts i) ks ≡ false → (s n : ℕ) → stops_rule s ks n ≡ true → Stops verilog (var n) (from ts i) (from ts i)
stop_rule ts i ks m zero n e = unlike e
stop_rule ts i ks m (suc s) n e = s_var (stop_by ts i ks m (stops_rule s ks) (stop_rule ts i ks m s) (verilog.rule n) e)

-- none of the tokens that it may begin with is there
pub stopped_first : {ts : List Token} {d i : ℕ} {x : Phrase} (s : ℕ) (ks : List ℕ) → is_member (kind_at ts i) ks ≡ false → stops_all s ks x ≡ true → Refused ts d x i (Syntax i)
stopped_first {ts} {d} {i} {x} s ks m e = stopped (stop_by ts i ks m (stops_rule s ks) (stop_rule ts i ks m s) x e)
