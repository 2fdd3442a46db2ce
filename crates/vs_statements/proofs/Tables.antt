-- Tables of tokens.
use Rattle.std.proofs.Common.{◌≡◌, ℕ, Bool, true, false, ◌||◌, List, [], ◌∷◌, ◌++◌, nat_eq, ◌≤◌, refl, sym, ◌∙◌, ap, subst, arith, suc, ◌+◌, ◌<◌, length, get_or, drop, drop-cons}
use Rattle.vs_lexer.specs.declared.token.Token.{Token}
use Rattle.vs_grammar.specs.Grammars.{Phrase}
use Rattle.vs_grammar.specs.Grammars.Phrase.{tok, alt}
use Rattle.vs_grammar.specs.Grammars.Tree.{leaf, former, latter}
use Rattle.vs_grammar.specs.Predictive.{is_member, firsts_of, Reads, Sinks}
use Rattle.vs_grammar.specs.Predictive.Sinks.{k_tok, k_former, k_latter}
use Rattle.vs_grammar.specs.Predictive.Reads.{r_former, r_latter}
use Rattle.vs_grammar.specs.Verilog.{verilog}
use Rattle.vs_grammar.specs.Meaning.{D}
use Rattle.vs_statements.specs.Reading.{kind_at, from, terminal_at, Chosen, Read}
use Rattle.vs_statements.proofs.Places.{at_head, to_head, took, known, first_own}

pub table_at : {T : Type 0} (table : List T) (n : ℕ) (e : T) → e ≡ get_or table n e → n < length table → drop n table ≡ e ∷ drop (n + 1) table
table_at table n e h k = let q : suc n ≡ n + 1 = omega arith in drop-cons table n e k ∙ ap (λ z. z ∷ drop (suc n) table) (sym h) ∙ ap (λ m. e ∷ drop m table) q

pub skips : (a b : Bool) → a ≡ false → (a || b) ≡ b
skips true b e = cc
skips false b e = refl

-- one token
pub chosen_tok : {A : Type 0} {ts : List Token} {i : ℕ} {v : A} {j : ℕ} (k : ℕ) → kind_at ts i ≡ k → i < length ts → j ≡ i + 1 → Chosen ts (tok k) (λ o. v) i v j
chosen_tok {ts = ts} {i} {v} {j} k e h n = let w = took ts k i e h in record {
  tree = leaf (terminal_at ts i);
  reads = subst (λ (m : ℕ). Reads verilog (tok k) (from ts i) (leaf (terminal_at ts i)) (from ts m)) (sym n) w.reads;
  sinks = at_head ts i (λ l. Sinks verilog (tok k) l l 0) (k_tok e);
  flat = refl;
  first = refl;
  here = known ts i k (k ∷ []) true e (first_own k);
  made = refl;
}

-- one token that stands for something
pub chosen_leaf : {A : Type 0} {ts : List Token} {i : ℕ} {v : A} (k : ℕ) → kind_at ts i ≡ k → i < length ts → (of : D (tok k) → A) → of (leaf (terminal_at ts i)) ≡ v → Chosen ts (tok k) of i v (i + 1)
chosen_leaf {ts = ts} {i} {v} k e h of m = let w = took ts k i e h in record {
  tree = leaf (terminal_at ts i);
  reads = w.reads;
  sinks = at_head ts i (λ l. Sinks verilog (tok k) l l 0) (k_tok e);
  flat = refl;
  first = refl;
  here = known ts i k (k ∷ []) true e (first_own k);
  made = m;
}

or_true : (a b : Bool) → a ≡ true → (a || b) ≡ true
or_true true b e = refl
or_true false b e = cc

pub chosen_former : {A : Type 0} {ts : List Token} {x y : Phrase} {of : D x → A} {i : ℕ} {v : A} {j : ℕ} (other : D (alt x y) → A) → ((a : D x) → other (former a) ≡ of a) → Chosen ts x of i v j → Chosen ts (alt x y) other i v j
chosen_former {ts = ts} {x} {y} {of} {i} {v} {j} other e p = record {
  tree = former p.tree;
  reads = at_head ts i (λ l. Reads verilog (alt x y) l (former p.tree) (from ts j)) (r_former p.here (to_head ts i (λ l. Reads verilog x l p.tree (from ts j)) p.reads));
  sinks = at_head ts i (λ l. Sinks verilog (alt x y) l l 0) (k_former p.here (to_head ts i (λ l. Sinks verilog x l l 0) p.sinks));
  flat = p.flat;
  first = p.first;
  here = in_front (kind_at ts i) (firsts_of verilog x) (firsts_of verilog y) p.here;
  made = e p.tree ∙ p.made;
}
  where
    in_front : (k : ℕ) (xs ys : List ℕ) → is_member k xs ≡ true → is_member k (xs ++ ys) ≡ true
    in_front k [] ys m = cc
    in_front k (x ∷ xs) ys m = go (nat_eq k x) (is_member k xs) m (in_front k xs ys)
      where
        go : (a b : Bool) → (a || b) ≡ true → (b ≡ true → is_member k (xs ++ ys) ≡ true) → (a || is_member k (xs ++ ys)) ≡ true
        go true b m f = refl
        go false b m f = f m

pub chosen_latter : {A : Type 0} {ts : List Token} {x y : Phrase} {of : D y → A} {i : ℕ} {v : A} {j : ℕ} (other : D (alt x y) → A) → ((a : D y) → other (latter a) ≡ of a) → is_member (kind_at ts i) (firsts_of verilog x) ≡ false → Chosen ts y of i v j → Chosen ts (alt x y) other i v j
chosen_latter {ts = ts} {x} {y} {of} {i} {v} {j} other e m p = record {
  tree = latter p.tree;
  reads = at_head ts i (λ l. Reads verilog (alt x y) l (latter p.tree) (from ts j)) (r_latter m (to_head ts i (λ l. Reads verilog y l p.tree (from ts j)) p.reads));
  sinks = at_head ts i (λ l. Sinks verilog (alt x y) l l 0) (k_latter m (to_head ts i (λ l. Sinks verilog y l l 0) p.sinks));
  flat = p.flat;
  first = p.first;
  here = behind_it (kind_at ts i) (firsts_of verilog x) (firsts_of verilog y) p.here;
  made = e p.tree ∙ p.made;
}
  where
    behind_it : (k : ℕ) (xs ys : List ℕ) → is_member k ys ≡ true → is_member k (xs ++ ys) ≡ true
    behind_it k [] ys m = m
    behind_it k (x ∷ xs) ys m = go (nat_eq k x) (behind_it k xs ys m)
      where
        go : (a : Bool) {b : Bool} → b ≡ true → (a || b) ≡ true
        go true e = refl
        go false e = e

-- what was chosen is read
pub read_chosen : {A : Type 0} {ts : List Token} {x : Phrase} {of : D x → A} {i : ℕ} {v : A} {j d : ℕ} → d ≤ 200 → (p : Chosen ts x of i v j) → Read ts d x p.tree i j
read_chosen s p = record { reads = p.reads; fits = let f = p.flat in omega arith }
