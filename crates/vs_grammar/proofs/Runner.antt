-- The predictive reading of a list of tokens, found by computation.
use Rattle.std.proofs.Common.{◌≡◌, ◌≢◌, ℕ, zero, suc, Bool, true, false, List, [], ◌∷◌, nat_eq, refl, arith, ◌⊎◌, inl, inr}
use Rattle.std.proofs.lemmas.Bool.Decides.{nat_tests}
use Rattle.vs_grammar.specs.Grammars.{Phrase, Tree, Terminal}
use Rattle.vs_grammar.specs.Grammars.Phrase.{tok, eps, seq, alt, last, many, post, level, var}
use Rattle.vs_grammar.specs.Grammars.Tree.{leaf, nothing, both, former, latter, without, within, start, grown, alone, behind, nested, named}
use Rattle.vs_grammar.specs.Predictive.{Table, can_begin, Reads, Grows, Stops}
use Rattle.vs_grammar.specs.Predictive.Reads.{r_tok, r_eps, r_seq, r_former, r_latter, r_without, r_within, r_many, r_alone, r_behind, r_level, r_var}
use Rattle.vs_grammar.specs.Predictive.Grows.{g_start, g_grown}
use Rattle.vs_grammar.specs.Predictive.Stops.{s_tok, s_seq, s_then, s_former, s_latter, s_within, s_start, s_grown, s_alone, s_behind, s_level, s_var}

pub unlike : {P : Type 0} → false ≡ true → P
unlike e = cc

abbrev pub value_of : (b : Bool) → (b ≡ true) ⊎ (b ≡ false)
value_of true = inl refl
value_of false = inr refl

pub is_kind : (k t : ℕ) → nat_eq k t ≡ true → k ≡ t
is_kind k t e = grind (arith, nat_tests)

pub is_other : (k t : ℕ) → nat_eq k t ≡ false → k ≢ t
is_other k t e = grind (arith, nat_tests)

module _ (g : Table) where
  pub data Run (x : Phrase) (ts : List Terminal) : Type 0 where
    read : (a : Tree g.rule x) (us : List Terminal) → Reads g x ts a us → Run x ts
    stopped : (us : List Terminal) → Stops g x ts us → Run x ts
    -- there was no end behind the tokens, or too few steps
    gave_up : Run x ts

  abbrev pub run_tok : (t : ℕ) (ts : List Terminal) → Run (tok t) ts
  run_tok t [] = gave_up
  run_tok t (u ∷ us) = elim (value_of (nat_eq u.kind t)) [ inl e ↦ read (leaf u) us (r_tok (is_kind u.kind t e)) | inr e ↦ stopped (u ∷ us) (s_tok (is_other u.kind t e)) ]

  abbrev pub run_more : {b : Bool} {x y : Phrase} {ts : List Terminal} → ℕ → ((us : List Terminal) → Run y us) → (us : List Terminal) (a : Tree g.rule (many b x y)) → Grows g b x y ts a us → Run (many b x y) ts
  run_more zero f us a p = gave_up
  run_more (suc k) f [] a p = gave_up
  run_more {y = y} (suc k) f (u ∷ us) a p = elim (value_of (can_begin g y u)) [
    | inr e ↦ read a (u ∷ us) (r_many p e)
    | inl e ↦ elim (f (u ∷ us)) [ read c vs q ↦ run_more k f vs (grown a c) (g_grown p e q) | stopped vs q ↦ stopped vs (s_grown p e q) | gave_up ↦ gave_up ]
  ]

  abbrev pub run_post : {x y : Phrase} {ts : List Terminal} → ((us : List Terminal) → Run y us) → (us : List Terminal) (a : Tree g.rule x) → Reads g x ts a us → Run (post x y) ts
  run_post f [] a p = gave_up
  run_post {y = y} f (u ∷ us) a p = elim (value_of (can_begin g y u)) [
    | inr e ↦ read (alone a) (u ∷ us) (r_alone p e)
    | inl e ↦ elim (f (u ∷ us)) [ read c vs q ↦ read (behind a c) vs (r_behind p e q) | stopped vs q ↦ stopped vs (s_behind p e q) | gave_up ↦ gave_up ]
  ]

  abbrev pub run_in : ℕ → ((n : ℕ) (ts : List Terminal) → Run (g.rule n) ts) → (x : Phrase) (ts : List Terminal) → Run x ts
  run_in k f (tok t) ts = run_tok t ts
  run_in k f eps ts = read nothing ts r_eps
  run_in k f (seq x y) ts = elim (run_in k f x ts) [
    | read a us p ↦ elim (run_in k f y us) [ read b vs q ↦ read (both a b) vs (r_seq p q) | stopped vs q ↦ stopped vs (s_then p q) | gave_up ↦ gave_up ]
    | stopped us p ↦ stopped us (s_seq p)
    | gave_up ↦ gave_up
  ]
  run_in k f (alt x y) [] = gave_up
  run_in k f (alt x y) (u ∷ us) = elim (value_of (can_begin g x u)) [
    | inl e ↦ elim (run_in k f x (u ∷ us)) [ read a vs p ↦ read (former a) vs (r_former e p) | stopped vs p ↦ stopped vs (s_former e p) | gave_up ↦ gave_up ]
    | inr e ↦ elim (run_in k f y (u ∷ us)) [ read a vs p ↦ read (latter a) vs (r_latter e p) | stopped vs p ↦ stopped vs (s_latter e p) | gave_up ↦ gave_up ]
  ]
  run_in k f (last t x) [] = gave_up
  run_in k f (last t x) (u ∷ us) = elim (value_of (nat_eq u.kind t)) [
    | inl e ↦ elim (run_in k f x us) [ read a vs p ↦ read (within u a) vs (r_within (is_kind u.kind t e) p) | stopped vs p ↦ stopped vs (s_within (is_kind u.kind t e) p) | gave_up ↦ gave_up ]
    | inr e ↦ read without (u ∷ us) (r_without (is_other u.kind t e))
  ]
  run_in k f (many b x y) ts = elim (run_in k f x ts) [ read a us p ↦ run_more k (run_in k f y) us (start a) (g_start p) | stopped us p ↦ stopped us (s_start p) | gave_up ↦ gave_up ]
  run_in k f (post x y) ts = elim (run_in k f x ts) [
    | read a us p ↦ run_post (run_in k f y) us a p
    | stopped us p ↦ stopped us (s_alone p)
    | gave_up ↦ gave_up
  ]
  run_in k f (level x) ts = elim (run_in k f x ts) [ read a us p ↦ read (nested a) us (r_level p) | stopped us p ↦ stopped us (s_level p) | gave_up ↦ gave_up ]
  run_in k f (var n) ts = elim (f n ts) [ read a us p ↦ read (named a) us (r_var p) | stopped us p ↦ stopped us (s_var p) | gave_up ↦ gave_up ]

  -- rule n, in so many steps from rule to rule
  abbrev pub run_rule : ℕ → (n : ℕ) (ts : List Terminal) → Run (g.rule n) ts
  run_rule zero n ts = gave_up
  run_rule (suc k) n ts = run_in 1000 (run_rule k) (g.rule n) ts

  abbrev pub is_read : {x : Phrase} {ts : List Terminal} → Run x ts → Bool
  is_read (read a [] p) = true
  is_read _ = false

  pub record Whole (x : Phrase) (ts : List Terminal) : Type 0 where
    pub tree : Tree g.rule x
    pub reads : Reads g x ts tree []

  abbrev pub whole : {x : Phrase} {ts : List Terminal} (o : Run x ts) → is_read o ≡ true → Whole x ts
  whole (read a [] p) e = record { tree = a; reads = p }
  whole (read a (u ∷ us) p) e = unlike e
  whole (stopped us p) e = unlike e
  whole gave_up e = unlike e

  abbrev pub is_stopped : {x : Phrase} {ts : List Terminal} → Run x ts → Bool
  is_stopped (stopped us p) = true
  is_stopped _ = false

  -- the tokens that are left where it stopped
  abbrev pub left_by : {x : Phrase} {ts : List Terminal} → Run x ts → List Terminal
  left_by (read a us p) = us
  left_by (stopped us p) = us
  left_by gave_up = []

  pub stopped_by : {x : Phrase} {ts : List Terminal} (o : Run x ts) → is_stopped o ≡ true → Stops g x ts (left_by o)
  stopped_by (read a us p) e = unlike e
  stopped_by (stopped us p) e = p
  stopped_by gave_up e = unlike e
