-- A phrase of three parts that is read alone, in front of another.
use Rattle.std.proofs.Common.{ℕ, List, arith, ◌+◌, ◌≤◌, max}
use Rattle.vs_lexer.specs.declared.token.Token.{Token}
use Rattle.vs_grammar.specs.Grammars.{Phrase, Terminal, depth}
use Rattle.vs_grammar.specs.Grammars.Tree.{both}
use Rattle.vs_grammar.specs.Predictive.{Reads, Stops, Sinks}
use Rattle.vs_grammar.specs.Predictive.Reads.{r_seq}
use Rattle.vs_grammar.specs.Predictive.Stops.{s_seq, s_then}
use Rattle.vs_grammar.specs.Predictive.Sinks.{k_seq, k_then}
use Rattle.vs_grammar.specs.Verilog.{◌⨾◌, verilog}
use Rattle.vs_grammar.specs.Meaning.{D}
use Rattle.vs_statements.specs.declared.error.ParseError.{ParseError}
use Rattle.vs_statements.specs.Reading.{from, Read, Refused}
use Rattle.vs_statements.specs.Reading.Refused.{stopped, too_deep, out_of_memory}

abbrev pub in_front : {x y z w : Phrase} → D (x ⨾ y ⨾ z) → D w → D (x ⨾ y ⨾ z ⨾ w)
in_front (both a (both b c)) d = both a (both b (both c d))

pub read_front : {ts : List Token} {d : ℕ} {x y z w : Phrase} {a : D (x ⨾ y ⨾ z)} {b : D w} {i j k : ℕ} → Read ts d (x ⨾ y ⨾ z) a i j → Read ts d w b j k → Read ts d (x ⨾ y ⨾ z ⨾ w) (in_front a b) i k
read_front {ts} {d} {x} {y} {z} {w} {a} {b} {i} {j} {k} p q = go a p.reads p.fits
  where
    go : (a : D (x ⨾ y ⨾ z)) → Reads verilog (x ⨾ y ⨾ z) (from ts i) a (from ts j) → d + depth a ≤ 200 → Read ts d (x ⨾ y ⨾ z ⨾ w) (in_front a b) i k
    go (both e (both f g)) (r_seq l (r_seq m n)) h = record { reads = r_seq l (r_seq m (r_seq n q.reads)); fits = let u = q.fits in omega arith }

stops_front : {x y z w : Phrase} {us vs : List Terminal} → Stops verilog (x ⨾ y ⨾ z) us vs → Stops verilog (x ⨾ y ⨾ z ⨾ w) us vs
stops_front (s_seq s) = s_seq s
stops_front (s_then p (s_seq s)) = s_then p (s_seq s)
stops_front (s_then p (s_then q s)) = s_then p (s_then q (s_seq s))

sinks_front : {x y z w : Phrase} {us vs : List Terminal} {n : ℕ} → Sinks verilog (x ⨾ y ⨾ z) us vs n → Sinks verilog (x ⨾ y ⨾ z ⨾ w) us vs n
sinks_front (k_seq s) = k_seq s
sinks_front (k_then p (k_seq s)) = k_then p (k_seq s)
sinks_front (k_then p (k_then q s)) = k_then p (k_then q (k_seq s))

pub refused_front : {ts : List Token} {d : ℕ} {x y z w : Phrase} {i : ℕ} {e : ParseError} → Refused ts d (x ⨾ y ⨾ z) i e → Refused ts d (x ⨾ y ⨾ z ⨾ w) i e
refused_front (stopped s) = stopped (stops_front s)
refused_front (too_deep s h) = too_deep (sinks_front s) h
refused_front out_of_memory = out_of_memory

stops_after : {x y z w : Phrase} {a : D (x ⨾ y ⨾ z)} {us vs ws : List Terminal} → Reads verilog (x ⨾ y ⨾ z) us a vs → Stops verilog w vs ws → Stops verilog (x ⨾ y ⨾ z ⨾ w) us ws
stops_after (r_seq l (r_seq m n)) s = s_then l (s_then m (s_then n s))

sinks_after : {x y z w : Phrase} {a : D (x ⨾ y ⨾ z)} {us vs ws : List Terminal} {n : ℕ} → Reads verilog (x ⨾ y ⨾ z) us a vs → Sinks verilog w vs ws n → Sinks verilog (x ⨾ y ⨾ z ⨾ w) us ws n
sinks_after (r_seq l (r_seq m n)) s = k_then l (k_then m (k_then n s))

pub refused_after_front : {ts : List Token} {d : ℕ} {x y z w : Phrase} {a : D (x ⨾ y ⨾ z)} {i j : ℕ} {e : ParseError} → Read ts d (x ⨾ y ⨾ z) a i j → Refused ts d w j e → Refused ts d (x ⨾ y ⨾ z ⨾ w) i e
refused_after_front p (stopped s) = stopped (stops_after p.reads s)
refused_after_front p (too_deep s h) = too_deep (sinks_after p.reads s) h
refused_after_front p out_of_memory = out_of_memory
