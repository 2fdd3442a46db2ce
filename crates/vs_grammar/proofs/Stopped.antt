-- What was read, and where reading stops, depend on no token past the next one.
use Rattle.std.proofs.Common.{◌≡◌, ℕ, Bool, true, false, cond, List, [], ◌∷◌, ◌++◌, refl, sym, ◌∙◌, ap, subst, append_assoc}
use Rattle.vs_grammar.specs.Grammars.{Phrase, Tree, Terminal, onto, Fits}
use Rattle.vs_grammar.specs.Grammars.Phrase.{alt, many, post}
use Rattle.vs_grammar.specs.Grammars.Tree.{leaf, nothing, both, former, latter, without, within, start, grown, alone, behind, nested, named}
use Rattle.vs_grammar.specs.Predictive.{Table, can_begin, Reads, Grows, Stops}
use Rattle.vs_grammar.specs.Predictive.Reads.{r_tok, r_eps, r_seq, r_former, r_latter, r_without, r_within, r_many, r_alone, r_behind, r_level, r_var}
use Rattle.vs_grammar.specs.Predictive.Grows.{g_start, g_grown}
use Rattle.vs_grammar.specs.Predictive.Stops.{s_tok, s_seq, s_then, s_former, s_latter, s_within, s_start, s_grown, s_alone, s_behind, s_level, s_var}
use Rattle.vs_grammar.specs.Predictive.{Sinks}
use Rattle.vs_grammar.specs.Grammars.{depth}
use Rattle.std.proofs.Common.{max, ◌+◌}
use Rattle.vs_grammar.specs.Predictive.Sinks.{k_tok, k_seq, k_then, k_former, k_latter, k_last, k_within, k_start, k_grown, k_alone, k_behind, k_level, k_var}

pub data SameHead : List Terminal → List Terminal → Type 0 where
  same : {u : Terminal} {us vs : List Terminal} → SameHead (u ∷ us) (u ∷ vs)

pub onto_heads : {rule : ℕ → Phrase} {x : Phrase} {l m : List Terminal} (a : Tree rule x) → SameHead l m → SameHead (onto a l) (onto a m)
onto_heads (leaf a) h = same
onto_heads nothing h = h
onto_heads (both a b) h = onto_heads a (onto_heads b h)
onto_heads (former a) h = onto_heads a h
onto_heads (latter a) h = onto_heads a h
onto_heads without h = h
onto_heads (within t a) h = same
onto_heads (start a) h = onto_heads a h
onto_heads (grown a b) h = onto_heads a (onto_heads b h)
onto_heads (alone a) h = onto_heads a h
onto_heads (behind a b) h = onto_heads a (onto_heads b h)
onto_heads (nested a) h = onto_heads a h
onto_heads (named a) h = onto_heads a h

abbrev pub front : {rule : ℕ → Phrase} {x : Phrase} → Tree rule x → List Terminal
front a = onto a []

pub onto_front : {rule : ℕ → Phrase} {x : Phrase} (a : Tree rule x) (l : List Terminal) → onto a l ≡ onto a [] ++ l
onto_front (leaf a) l = refl
onto_front nothing l = refl
onto_front (both a b) l = onto_front a (onto b l) ∙ ap (λ (z : List Terminal). onto a [] ++ z) (onto_front b l) ∙ sym (append_assoc (onto a []) (onto b []) l) ∙ ap (λ (z : List Terminal). z ++ l) (sym (onto_front a (onto b [])))
onto_front (former a) l = onto_front a l
onto_front (latter a) l = onto_front a l
onto_front without l = refl
onto_front (within t a) l = ap (λ (z : List Terminal). t ∷ z) (onto_front a l)
onto_front (start a) l = onto_front a l
onto_front (grown a b) l = onto_front a (onto b l) ∙ ap (λ (z : List Terminal). onto a [] ++ z) (onto_front b l) ∙ sym (append_assoc (onto a []) (onto b []) l) ∙ ap (λ (z : List Terminal). z ++ l) (sym (onto_front a (onto b [])))
onto_front (alone a) l = onto_front a l
onto_front (behind a b) l = onto_front a (onto b l) ∙ ap (λ (z : List Terminal). onto a [] ++ z) (onto_front b l) ∙ sym (append_assoc (onto a []) (onto b []) l) ∙ ap (λ (z : List Terminal). z ++ l) (sym (onto_front a (onto b [])))
onto_front (nested a) l = onto_front a l
onto_front (named a) l = onto_front a l

pub heads_pre : (pre : List Terminal) {l m : List Terminal} → SameHead l m → SameHead (pre ++ l) (pre ++ m)
heads_pre [] h = h
heads_pre (u ∷ pre) h = same

pub heads_via : {k l m : List Terminal} → k ≡ l → SameHead k m → SameHead l m
heads_via {m = m} e h = subst (λ (z : List Terminal). SameHead z m) e h

-- The tree spells the first list down to the second.
pub record Says {rule : ℕ → Phrase} {x : Phrase} (t : Tree rule x) (ts us : List Terminal) : Type 0 where
  pub text : onto t us ≡ ts
  pub fits : Fits t us

module _ (g : Table) where
  pub chained : {x y : Phrase} {a : Tree g.rule x} {b : Tree g.rule y} {ts us vs : List Terminal} → Says a ts us → Says b us vs → (onto a (onto b vs) ≡ ts) × Fits a (onto b vs) × Fits b vs
  chained {a = a} i j = (ap (λ (z : List Terminal). onto a z) j.text ∙ i.text, subst (λ (z : List Terminal). Fits a z) (sym j.text) i.fits, j.fits)

  mutual
    pub says : {x : Phrase} {ts us : List Terminal} {t : Tree g.rule x} → Reads g x ts t us → Says t ts us
    says (r_tok q) = record { text = refl; fits = q }
    says r_eps = record { text = refl; fits = tt }
    says (r_seq p q) = let c = chained (says p) (says q) in record { text = c.0; fits = (c.1, c.2) }
    says (r_former s p) = let i = says p in record { text = i.text; fits = i.fits }
    says (r_latter s p) = let i = says p in record { text = i.text; fits = i.fits }
    says (r_without n) = record { text = refl; fits = n }
    says (r_within {u = u} q p) = let i = says p in record { text = ap (λ (z : List Terminal). u ∷ z) i.text; fits = (q, i.fits) }
    says (r_many p s) = grows_says p
    says (r_alone p s) = let i = says p in record { text = i.text; fits = i.fits }
    says (r_behind p s q) = let c = chained (says p) (says q) in record { text = c.0; fits = (c.1, c.2) }
    says (r_level p) = let i = says p in record { text = i.text; fits = i.fits }
    says (r_var p) = let i = says p in record { text = i.text; fits = i.fits }

    pub grows_says : {b : Bool} {x y : Phrase} {ts us : List Terminal} {t : Tree g.rule (many b x y)} → Grows g b x y ts t us → Says t ts us
    grows_says (g_start p) = let i = says p in record { text = i.text; fits = i.fits }
    grows_says (g_grown p s q) = let c = chained (grows_says p) (says q) in record { text = c.0; fits = (c.1, c.2) }

  former_at : {x y : Phrase} {u : Terminal} {ts m vs : List Terminal} {a : Tree g.rule x} → can_begin g x u ≡ true → SameHead (u ∷ ts) m → Reads g x m a vs → Reads g (alt x y) m (former a) vs
  former_at s same p = r_former s p

  latter_at : {x y : Phrase} {u : Terminal} {ts m vs : List Terminal} {a : Tree g.rule y} → can_begin g x u ≡ false → SameHead (u ∷ ts) m → Reads g y m a vs → Reads g (alt x y) m (latter a) vs
  latter_at s same p = r_latter s p

  behind_at : {x y : Phrase} {u : Terminal} {ts us m vs : List Terminal} {a : Tree g.rule x} {b : Tree g.rule y} → SameHead (u ∷ us) m → Reads g x ts a m → can_begin g y u ≡ true → Reads g y m b vs → Reads g (post x y) ts (behind a b) vs
  behind_at same p s q = r_behind p s q

  grown_at : {b : Bool} {x y : Phrase} {u : Terminal} {ts us m vs : List Terminal} {a : Tree g.rule (many b x y)} {c : Tree g.rule y} → SameHead (u ∷ us) m → Grows g b x y ts a m → can_begin g y u ≡ true → Reads g y m c vs → Grows g b x y ts (grown a c) vs
  grown_at same p s q = g_grown p s q

  pub heads_onto : {y : Phrase} {us vs ws : List Terminal} {b : Tree g.rule y} → Reads g y us b vs → SameHead vs ws → SameHead us (onto b ws)
  heads_onto {b = b} q h = heads_via (says q).text (onto_heads b h)

  mutual
    pub carry : {x : Phrase} {ts us vs : List Terminal} {t : Tree g.rule x} → Reads g x ts t us → SameHead us vs → Reads g x (onto t vs) t vs
    carry (r_tok q) h = r_tok q
    carry r_eps h = r_eps
    carry (r_seq p q) h = r_seq (carry p (heads_onto q h)) (carry q h)
    carry (r_former s p) h = former_at s (heads_onto p h) (carry p h)
    carry (r_latter s p) h = latter_at s (heads_onto p h) (carry p h)
    carry (r_without n) same = r_without n
    carry (r_within q p) h = r_within q (carry p h)
    carry (r_many p s) same = r_many (grows_carry p same) s
    carry (r_alone p s) same = r_alone (carry p same) s
    carry (r_behind p s q) h = behind_at (heads_onto q h) (carry p (heads_onto q h)) s (carry q h)
    carry (r_level p) h = r_level (carry p h)
    carry (r_var p) h = r_var (carry p h)

    pub grows_carry : {b : Bool} {x y : Phrase} {ts us vs : List Terminal} {t : Tree g.rule (many b x y)} → Grows g b x y ts t us → SameHead us vs → Grows g b x y (onto t vs) t vs
    grows_carry (g_start p) h = g_start (carry p h)
    grows_carry (g_grown p s q) h = grown_at (heads_onto q h) (grows_carry p (heads_onto q h)) s (carry q h)

  -- It stops there whatever comes behind that token.
  pub record Stopping (x : Phrase) (ts us : List Terminal) : Type 0 where
    pub pre : List Terminal
    pub at : Terminal
    pub rest : List Terminal
    pub here : us ≡ at ∷ rest
    pub text : ts ≡ pre ++ (at ∷ rest)
    pub again : (other : List Terminal) → Stops g x (pre ++ (at ∷ other)) (at ∷ other)

  former_stop : {x y : Phrase} {u : Terminal} {ts m us : List Terminal} → can_begin g x u ≡ true → SameHead (u ∷ ts) m → Stops g x m us → Stops g (alt x y) m us
  former_stop s same p = s_former s p

  latter_stop : {x y : Phrase} {u : Terminal} {ts m us : List Terminal} → can_begin g x u ≡ false → SameHead (u ∷ ts) m → Stops g y m us → Stops g (alt x y) m us
  latter_stop s same p = s_latter s p

  behind_stop : {x y : Phrase} {u : Terminal} {ts us m vs : List Terminal} {a : Tree g.rule x} → SameHead (u ∷ us) m → Reads g x ts a m → can_begin g y u ≡ true → Stops g y m vs → Stops g (post x y) ts vs
  behind_stop same p s q = s_behind p s q

  grown_stop : {b : Bool} {x y : Phrase} {u : Terminal} {ts us m vs : List Terminal} {a : Tree g.rule (many b x y)} → SameHead (u ∷ us) m → Grows g b x y ts a m → can_begin g y u ≡ true → Stops g y m vs → Stops g (many b x y) ts vs
  grown_stop same p s q = s_grown p s q

  heads_stop : {y : Phrase} {us vs : List Terminal} (i : Stopping y us vs) (other : List Terminal) → SameHead us (i.pre ++ (i.at ∷ other))
  heads_stop i other = heads_via (sym i.text) (heads_pre i.pre same)

  -- a piece that is read, and then one that stops
  piece : {x y : Phrase} {ts us vs : List Terminal} (a : Tree g.rule x) → Says a ts us → (i : Stopping y us vs) → ts ≡ (onto a [] ++ i.pre) ++ (i.at ∷ i.rest)
  piece a p i = sym p.text ∙ onto_front a _ ∙ ap (λ (z : List Terminal). onto a [] ++ z) i.text ∙ sym (append_assoc (onto a []) i.pre (i.at ∷ i.rest))

  piece_text : {x y : Phrase} {us vs : List Terminal} (a : Tree g.rule x) (i : Stopping y us vs) (other : List Terminal) → onto a (i.pre ++ (i.at ∷ other)) ≡ (onto a [] ++ i.pre) ++ (i.at ∷ other)
  piece_text a i other = onto_front a _ ∙ sym (append_assoc (onto a []) i.pre (i.at ∷ other))

  retext : {x : Phrase} {l m us : List Terminal} → l ≡ m → Stops g x l us → Stops g x m us
  retext {x = x} {us = us} e p = subst (λ (z : List Terminal). Stops g x z us) e p

  pub stopping : {x : Phrase} {ts us : List Terminal} → Stops g x ts us → Stopping x ts us
  stopping (s_tok {u = u} {us = us} n) = record { pre = []; at = u; rest = us; here = refl; text = refl; again = λ other. s_tok n }
  stopping (s_seq p) = let i = stopping p in record { pre = i.pre; at = i.at; rest = i.rest; here = i.here; text = i.text; again = λ other. s_seq (i.again other) }
  stopping (s_then {a = a} p q) =
      let i = stopping q in
      record { pre = onto a [] ++ i.pre; at = i.at; rest = i.rest; here = i.here; text = piece a (says p) i; again = λ other. retext (piece_text a i other) (s_then (carry p (heads_stop i other)) (i.again other)) }
  stopping (s_former s p) = let i = stopping p in record { pre = i.pre; at = i.at; rest = i.rest; here = i.here; text = i.text; again = λ other. former_stop s (heads_stop i other) (i.again other) }
  stopping (s_latter s p) = let i = stopping p in record { pre = i.pre; at = i.at; rest = i.rest; here = i.here; text = i.text; again = λ other. latter_stop s (heads_stop i other) (i.again other) }
  stopping (s_within {u = u} e p) = let i = stopping p in record { pre = u ∷ i.pre; at = i.at; rest = i.rest; here = i.here; text = ap (λ (z : List Terminal). u ∷ z) i.text; again = λ other. s_within e (i.again other) }
  stopping (s_start p) = let i = stopping p in record { pre = i.pre; at = i.at; rest = i.rest; here = i.here; text = i.text; again = λ other. s_start (i.again other) }
  stopping (s_grown {a = a} p s q) =
      let i = stopping q in
      record { pre = onto a [] ++ i.pre; at = i.at; rest = i.rest; here = i.here; text = piece a (grows_says p) i; again = λ other. retext (piece_text a i other) (grown_stop (heads_stop i other) (grows_carry p (heads_stop i other)) s (i.again other)) }
  stopping (s_alone p) = let i = stopping p in record { pre = i.pre; at = i.at; rest = i.rest; here = i.here; text = i.text; again = λ other. s_alone (i.again other) }
  stopping (s_behind {a = a} p s q) =
      let i = stopping q in
      record { pre = onto a [] ++ i.pre; at = i.at; rest = i.rest; here = i.here; text = piece a (says p) i; again = λ other. retext (piece_text a i other) (behind_stop (heads_stop i other) (carry p (heads_stop i other)) s (i.again other)) }
  stopping (s_level p) = let i = stopping p in record { pre = i.pre; at = i.at; rest = i.rest; here = i.here; text = i.text; again = λ other. s_level (i.again other) }
  stopping (s_var p) = let i = stopping p in record { pre = i.pre; at = i.at; rest = i.rest; here = i.here; text = i.text; again = λ other. s_var (i.again other) }

  -- The same of a token that stands deep.
  pub record Sinking (x : Phrase) (ts us : List Terminal) (n : ℕ) : Type 0 where
    pub pre : List Terminal
    pub at : Terminal
    pub rest : List Terminal
    pub here : us ≡ at ∷ rest
    pub text : ts ≡ pre ++ (at ∷ rest)
    pub again : (other : List Terminal) → Sinks g x (pre ++ (at ∷ other)) (at ∷ other) n

  former_sink : {n : ℕ} {x y : Phrase} {u : Terminal} {ts m us : List Terminal} → can_begin g x u ≡ true → SameHead (u ∷ ts) m → Sinks g x m us n → Sinks g (alt x y) m us n
  former_sink s same p = k_former s p

  latter_sink : {n : ℕ} {x y : Phrase} {u : Terminal} {ts m us : List Terminal} → can_begin g x u ≡ false → SameHead (u ∷ ts) m → Sinks g y m us n → Sinks g (alt x y) m us n
  latter_sink s same p = k_latter s p

  behind_sink : {n : ℕ} {x y : Phrase} {u : Terminal} {ts us m vs : List Terminal} {a : Tree g.rule x} → SameHead (u ∷ us) m → Reads g x ts a m → can_begin g y u ≡ true → Sinks g y m vs n → Sinks g (post x y) ts vs (1 + max (depth a) n)
  behind_sink same p s q = k_behind p s q

  grown_sink : {n : ℕ} {b : Bool} {x y : Phrase} {u : Terminal} {ts us m vs : List Terminal} {a : Tree g.rule (many b x y)} → SameHead (u ∷ us) m → Grows g b x y ts a m → can_begin g y u ≡ true → Sinks g y m vs n → Sinks g (many b x y) ts vs (cond b 1 0 + max (depth a) n)
  grown_sink same p s q = k_grown p s q

  heads_sink : {y : Phrase} {us vs : List Terminal} {n : ℕ} (i : Sinking y us vs n) (other : List Terminal) → SameHead us (i.pre ++ (i.at ∷ other))
  heads_sink i other = heads_via (sym i.text) (heads_pre i.pre same)

  -- a piece that is read, and then one that stops
  deep_piece : {x y : Phrase} {n : ℕ} {ts us vs : List Terminal} (a : Tree g.rule x) → Says a ts us → (i : Sinking y us vs n) → ts ≡ (onto a [] ++ i.pre) ++ (i.at ∷ i.rest)
  deep_piece a p i = sym p.text ∙ onto_front a _ ∙ ap (λ (z : List Terminal). onto a [] ++ z) i.text ∙ sym (append_assoc (onto a []) i.pre (i.at ∷ i.rest))

  deep_text : {x y : Phrase} {n : ℕ} {us vs : List Terminal} (a : Tree g.rule x) (i : Sinking y us vs n) (other : List Terminal) → onto a (i.pre ++ (i.at ∷ other)) ≡ (onto a [] ++ i.pre) ++ (i.at ∷ other)
  deep_text a i other = onto_front a _ ∙ sym (append_assoc (onto a []) i.pre (i.at ∷ other))

  resink : {x : Phrase} {n : ℕ} {l m us : List Terminal} → l ≡ m → Sinks g x l us n → Sinks g x m us n
  resink {x = x} {n = n} {us = us} e p = subst (λ (z : List Terminal). Sinks g x z us n) e p

  pub sinking : {x : Phrase} {ts us : List Terminal} {n : ℕ} → Sinks g x ts us n → Sinking x ts us n
  sinking (k_tok {a = u} {ts = us} n) = record { pre = []; at = u; rest = us; here = refl; text = refl; again = λ other. k_tok n }
  sinking (k_last {u = u} {ts = us} n) = record { pre = []; at = u; rest = us; here = refl; text = refl; again = λ other. k_last n }
  sinking (k_seq p) = let i = sinking p in record { pre = i.pre; at = i.at; rest = i.rest; here = i.here; text = i.text; again = λ other. k_seq (i.again other) }
  sinking (k_then {a = a} p q) =
      let i = sinking q in
      record { pre = onto a [] ++ i.pre; at = i.at; rest = i.rest; here = i.here; text = deep_piece a (says p) i; again = λ other. resink (deep_text a i other) (k_then (carry p (heads_sink i other)) (i.again other)) }
  sinking (k_former s p) = let i = sinking p in record { pre = i.pre; at = i.at; rest = i.rest; here = i.here; text = i.text; again = λ other. former_sink s (heads_sink i other) (i.again other) }
  sinking (k_latter s p) = let i = sinking p in record { pre = i.pre; at = i.at; rest = i.rest; here = i.here; text = i.text; again = λ other. latter_sink s (heads_sink i other) (i.again other) }
  sinking (k_within {u = u} e p) = let i = sinking p in record { pre = u ∷ i.pre; at = i.at; rest = i.rest; here = i.here; text = ap (λ (z : List Terminal). u ∷ z) i.text; again = λ other. k_within e (i.again other) }
  sinking (k_start p) = let i = sinking p in record { pre = i.pre; at = i.at; rest = i.rest; here = i.here; text = i.text; again = λ other. k_start (i.again other) }
  sinking (k_grown {a = a} p s q) =
      let i = sinking q in
      record { pre = onto a [] ++ i.pre; at = i.at; rest = i.rest; here = i.here; text = deep_piece a (grows_says p) i; again = λ other. resink (deep_text a i other) (grown_sink (heads_sink i other) (grows_carry p (heads_sink i other)) s (i.again other)) }
  sinking (k_alone p) = let i = sinking p in record { pre = i.pre; at = i.at; rest = i.rest; here = i.here; text = i.text; again = λ other. k_alone (i.again other) }
  sinking (k_behind {a = a} p s q) =
      let i = sinking q in
      record { pre = onto a [] ++ i.pre; at = i.at; rest = i.rest; here = i.here; text = deep_piece a (says p) i; again = λ other. resink (deep_text a i other) (behind_sink (heads_sink i other) (carry p (heads_sink i other)) s (i.again other)) }
  sinking (k_level p) = let i = sinking p in record { pre = i.pre; at = i.at; rest = i.rest; here = i.here; text = i.text; again = λ other. k_level (i.again other) }
  sinking (k_var p) = let i = sinking p in record { pre = i.pre; at = i.at; rest = i.rest; here = i.here; text = i.text; again = λ other. k_var (i.again other) }
