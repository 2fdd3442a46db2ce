-- Reading with one token of look-ahead: when that token decides everywhere, what is read, and where reading stops.
use Rattle.std.specs.Prelude.{◌≡◌, ℕ, zero, suc, ◌+◌, max, ◌≢◌, Bool, true, false, cond, not, ◌&&◌, ◌||◌, List, [], ◌∷◌, ◌++◌, nat_eq}
use Rattle.vs_grammar.specs.Grammars.{Phrase, Tree, Terminal, depth}
use Rattle.vs_grammar.specs.Grammars.Phrase.{tok, eps, seq, alt, last, many, post, level, var}
use Rattle.vs_grammar.specs.Grammars.Tree.{leaf, nothing, both, former, latter, without, within, start, grown, alone, behind, nested, named}

-- ---- lists of kinds

abbrev pub is_member : ℕ → List ℕ → Bool
is_member u [] = false
is_member u (x ∷ xs) = nat_eq u x || is_member u xs

abbrev pub is_subset : List ℕ → List ℕ → Bool
is_subset [] ys = true
is_subset (x ∷ xs) ys = is_member x ys && is_subset xs ys

abbrev pub are_disjoint : List ℕ → List ℕ → Bool
are_disjoint [] ys = true
are_disjoint (x ∷ xs) ys = not (is_member x ys) && are_disjoint xs ys

-- ---- tables

-- For each rule: whether it derives the empty list, what its lists begin with, and what may follow it.
pub record Table : Type 0 where
  pub rule : ℕ → Phrase
  pub empties : ℕ → Bool
  pub firsts : ℕ → List ℕ
  pub follows : ℕ → List ℕ

module _ (g : Table) where
  -- x derives the empty list
  abbrev pub can_be_empty : Phrase → Bool
  can_be_empty (tok t) = false
  can_be_empty eps = true
  can_be_empty (seq x y) = can_be_empty x && can_be_empty y
  can_be_empty (alt x y) = can_be_empty x || can_be_empty y
  can_be_empty (last t x) = true
  can_be_empty (many b x y) = can_be_empty x
  can_be_empty (post x y) = can_be_empty x
  can_be_empty (level x) = can_be_empty x
  can_be_empty (var n) = g.empties n

  -- y's, where x may derive the empty list
  abbrev pub if_empty : Phrase → List ℕ → List ℕ
  if_empty x ys = cond (can_be_empty x) ys []

  -- what the lists of x can begin with
  abbrev pub firsts_of : Phrase → List ℕ
  firsts_of (tok t) = t ∷ []
  firsts_of eps = []
  firsts_of (seq x y) = firsts_of x ++ if_empty x (firsts_of y)
  firsts_of (alt x y) = firsts_of x ++ firsts_of y
  firsts_of (last t x) = t ∷ []
  firsts_of (many b x y) = firsts_of x ++ if_empty x (firsts_of y)
  firsts_of (post x y) = firsts_of x ++ if_empty x (firsts_of y)
  firsts_of (level x) = firsts_of x
  firsts_of (var n) = g.firsts n

  -- One token decides everywhere in x, where what follows x begins with one of f.
  abbrev pub is_decided : Phrase → List ℕ → Bool
  is_decided (tok t) f = true
  is_decided eps f = true
  is_decided (seq x y) f = is_decided x (firsts_of y ++ if_empty y f) && is_decided y f
  is_decided (alt x y) f = not (can_be_empty x) && (are_disjoint (firsts_of x) (firsts_of y ++ if_empty y f) && (is_decided x f && is_decided y f))
  is_decided (last t x) f = is_decided x f
  is_decided (many b x y) f = not (can_be_empty y) && (are_disjoint (firsts_of y) f && (is_decided x (firsts_of y ++ f) && is_decided y (firsts_of y ++ f)))
  is_decided (post x y) f = not (can_be_empty y) && (are_disjoint (firsts_of y) f && (is_decided x (firsts_of y ++ f) && is_decided y f))
  is_decided (level x) f = is_decided x f
  is_decided (var n) f = is_subset f (g.follows n)

  -- What the table says of rule n is so, and one token decides everywhere in it.
  abbrev pub is_right : ℕ → Bool
  is_right n = is_decided (g.rule n) (g.follows n) && (is_subset (firsts_of (g.rule n)) (g.firsts n) && (not (can_be_empty (g.rule n)) || g.empties n))

  -- A list is found that x derives, where a list is found for each rule that says so.
  abbrev pub derives_some_by : (ℕ → Bool) → Phrase → Bool
  derives_some_by found (tok t) = true
  derives_some_by found eps = true
  derives_some_by found (seq x y) = elim (derives_some_by found x) [ true ↦ derives_some_by found y | false ↦ false ]
  derives_some_by found (alt x y) = elim (derives_some_by found x) [ true ↦ true | false ↦ derives_some_by found y ]
  derives_some_by found (last t x) = derives_some_by found x
  derives_some_by found (many b x y) = derives_some_by found x
  derives_some_by found (post x y) = derives_some_by found x
  derives_some_by found (level x) = derives_some_by found x
  derives_some_by found (var n) = found n

  -- A list is found that rule n derives, going from rule to rule at most so many steps.
  abbrev pub derives_some : ℕ → ℕ → Bool
  derives_some zero n = false
  derives_some (suc steps) n = derives_some_by (derives_some steps) (g.rule n)

  -- Texts are lists of x with a token of kind e at their end, and the table passes its tests.
  pub record IsPredictive (x : Phrase) (e : ℕ) : Type 0 where
    -- what it says of each rule is so, and one token decides in it
    pub right : (n : ℕ) → is_right n ≡ true
    -- each rule derives something
    pub steps : ℕ
    pub derives : (n : ℕ) → derives_some steps n ≡ true
    -- one token decides in x
    pub whole : is_decided x (e ∷ []) ≡ true

  -- ---- reading

  -- this token is one that x can begin with
  abbrev pub can_begin : Phrase → Terminal → Bool
  can_begin x u = is_member u.kind (firsts_of x)

  -- What a parser that looks one token ahead reads as x from the front of the first list, and what it leaves.
  mutual
    pub data Reads : (x : Phrase) → List Terminal → Tree g.rule x → List Terminal → Type 0 where
      r_tok : {t : ℕ} {a : Terminal} {ts : List Terminal} → a.kind ≡ t → Reads (tok t) (a ∷ ts) (leaf a) ts
      r_eps : {ts : List Terminal} → Reads eps ts nothing ts
      r_seq : {x y : Phrase} {ts us vs : List Terminal} {a : Tree g.rule x} {b : Tree g.rule y} → Reads x ts a us → Reads y us b vs → Reads (seq x y) ts (both a b) vs
      r_former : {x y : Phrase} {u : Terminal} {ts us : List Terminal} {a : Tree g.rule x} → can_begin x u ≡ true → Reads x (u ∷ ts) a us → Reads (alt x y) (u ∷ ts) (former a) us
      r_latter : {x y : Phrase} {u : Terminal} {ts us : List Terminal} {a : Tree g.rule y} → can_begin x u ≡ false → Reads y (u ∷ ts) a us → Reads (alt x y) (u ∷ ts) (latter a) us
      r_without : {t : ℕ} {x : Phrase} {u : Terminal} {ts : List Terminal} → u.kind ≢ t → Reads (last t x) (u ∷ ts) without (u ∷ ts)
      r_within : {t : ℕ} {x : Phrase} {u : Terminal} {ts us : List Terminal} {a : Tree g.rule x} → u.kind ≡ t → Reads x ts a us → Reads (last t x) (u ∷ ts) (within u a) us
      r_many : {b : Bool} {x y : Phrase} {ts : List Terminal} {u : Terminal} {us : List Terminal} {a : Tree g.rule (many b x y)} → Grows b x y ts a (u ∷ us) → can_begin y u ≡ false → Reads (many b x y) ts a (u ∷ us)
      r_alone : {x y : Phrase} {ts : List Terminal} {u : Terminal} {us : List Terminal} {a : Tree g.rule x} → Reads x ts a (u ∷ us) → can_begin y u ≡ false → Reads (post x y) ts (alone a) (u ∷ us)
      r_behind : {x y : Phrase} {ts : List Terminal} {u : Terminal} {us vs : List Terminal} {a : Tree g.rule x} {b : Tree g.rule y} → Reads x ts a (u ∷ us) → can_begin y u ≡ true → Reads y (u ∷ us) b vs → Reads (post x y) ts (behind a b) vs
      r_level : {x : Phrase} {ts us : List Terminal} {a : Tree g.rule x} → Reads x ts a us → Reads (level x) ts (nested a) us
      r_var : {n : ℕ} {ts us : List Terminal} {a : Tree g.rule (g.rule n)} → Reads (g.rule n) ts a us → Reads (var n) ts (named a) us

    -- as far as a loop over the y of `many b x y` has come
    pub data Grows : (b : Bool) (x y : Phrase) → List Terminal → Tree g.rule (many b x y) → List Terminal → Type 0 where
      g_start : {b : Bool} {x y : Phrase} {ts us : List Terminal} {a : Tree g.rule x} → Reads x ts a us → Grows b x y ts (start a) us
      g_grown : {b : Bool} {x y : Phrase} {ts : List Terminal} {u : Terminal} {us vs : List Terminal} {a : Tree g.rule (many b x y)} {c : Tree g.rule y} → Grows b x y ts a (u ∷ us) → can_begin y u ≡ true → Reads y (u ∷ us) c vs → Grows b x y ts (grown a c) vs

  -- It stops at the front of the second list: no tree goes on so.
  pub data Stops : Phrase → List Terminal → List Terminal → Type 0 where
    s_tok : {t : ℕ} {u : Terminal} {us : List Terminal} → u.kind ≢ t → Stops (tok t) (u ∷ us) (u ∷ us)
    s_seq : {x y : Phrase} {ts us : List Terminal} → Stops x ts us → Stops (seq x y) ts us
    s_then : {x y : Phrase} {ts us vs : List Terminal} {a : Tree g.rule x} → Reads x ts a us → Stops y us vs → Stops (seq x y) ts vs
    s_former : {x y : Phrase} {u : Terminal} {ts us : List Terminal} → can_begin x u ≡ true → Stops x (u ∷ ts) us → Stops (alt x y) (u ∷ ts) us
    s_latter : {x y : Phrase} {u : Terminal} {ts us : List Terminal} → can_begin x u ≡ false → Stops y (u ∷ ts) us → Stops (alt x y) (u ∷ ts) us
    s_within : {t : ℕ} {x : Phrase} {u : Terminal} {ts us : List Terminal} → u.kind ≡ t → Stops x ts us → Stops (last t x) (u ∷ ts) us
    s_start : {b : Bool} {x y : Phrase} {ts us : List Terminal} → Stops x ts us → Stops (many b x y) ts us
    s_grown : {b : Bool} {x y : Phrase} {ts : List Terminal} {u : Terminal} {us vs : List Terminal} {a : Tree g.rule (many b x y)} → Grows b x y ts a (u ∷ us) → can_begin y u ≡ true → Stops y (u ∷ us) vs → Stops (many b x y) ts vs
    s_alone : {x y : Phrase} {ts us : List Terminal} → Stops x ts us → Stops (post x y) ts us
    s_behind : {x y : Phrase} {ts : List Terminal} {u : Terminal} {us vs : List Terminal} {a : Tree g.rule x} → Reads x ts a (u ∷ us) → can_begin y u ≡ true → Stops y (u ∷ us) vs → Stops (post x y) ts vs
    s_level : {x : Phrase} {ts us : List Terminal} → Stops x ts us → Stops (level x) ts us
    s_var : {n : ℕ} {ts us : List Terminal} → Stops (g.rule n) ts us → Stops (var n) ts us

  -- The token at the front of the second list is taken, and stands within n levels of x at least.
  pub data Sinks : Phrase → List Terminal → List Terminal → ℕ → Type 0 where
    k_tok : {t : ℕ} {a : Terminal} {ts : List Terminal} → a.kind ≡ t → Sinks (tok t) (a ∷ ts) (a ∷ ts) 0
    k_seq : {x y : Phrase} {ts us : List Terminal} {n : ℕ} → Sinks x ts us n → Sinks (seq x y) ts us n
    k_then : {x y : Phrase} {ts us vs : List Terminal} {n : ℕ} {a : Tree g.rule x} → Reads x ts a us → Sinks y us vs n → Sinks (seq x y) ts vs n
    k_former : {x y : Phrase} {u : Terminal} {ts us : List Terminal} {n : ℕ} → can_begin x u ≡ true → Sinks x (u ∷ ts) us n → Sinks (alt x y) (u ∷ ts) us n
    k_latter : {x y : Phrase} {u : Terminal} {ts us : List Terminal} {n : ℕ} → can_begin x u ≡ false → Sinks y (u ∷ ts) us n → Sinks (alt x y) (u ∷ ts) us n
    k_last : {t : ℕ} {x : Phrase} {u : Terminal} {ts : List Terminal} → u.kind ≡ t → Sinks (last t x) (u ∷ ts) (u ∷ ts) 0
    k_within : {t : ℕ} {x : Phrase} {u : Terminal} {ts us : List Terminal} {n : ℕ} → u.kind ≡ t → Sinks x ts us n → Sinks (last t x) (u ∷ ts) us n
    k_start : {b : Bool} {x y : Phrase} {ts us : List Terminal} {n : ℕ} → Sinks x ts us n → Sinks (many b x y) ts us n
    k_grown : {b : Bool} {x y : Phrase} {ts : List Terminal} {u : Terminal} {us vs : List Terminal} {n : ℕ} {a : Tree g.rule (many b x y)} → Grows b x y ts a (u ∷ us) → can_begin y u ≡ true → Sinks y (u ∷ us) vs n → Sinks (many b x y) ts vs (cond b 1 0 + max (depth a) n)
    k_alone : {x y : Phrase} {ts us : List Terminal} {n : ℕ} → Sinks x ts us n → Sinks (post x y) ts us n
    k_behind : {x y : Phrase} {ts : List Terminal} {u : Terminal} {us vs : List Terminal} {n : ℕ} {a : Tree g.rule x} → Reads x ts a (u ∷ us) → can_begin y u ≡ true → Sinks y (u ∷ us) vs n → Sinks (post x y) ts vs (1 + max (depth a) n)
    k_level : {x : Phrase} {ts us : List Terminal} {n : ℕ} → Sinks x ts us n → Sinks (level x) ts us (1 + n)
    k_var : {m : ℕ} {ts us : List Terminal} {n : ℕ} → Sinks (g.rule m) ts us n → Sinks (var m) ts us n
