-- What is derived is read.
use Rattle.std.proofs.Common.{◌≡◌, ℕ, Bool, true, false, not, ◌&&◌, ◌||◌, List, [], ◌∷◌, ◌++◌, refl, subst, ◌⊎◌, inl, inr}
use Rattle.std.proofs.lemmas.Bool.{and_parts}
use Rattle.vs_grammar.specs.Grammars.{Phrase, Tree, Terminal, onto, Fits, Misses, Derives}
use Rattle.vs_grammar.specs.Grammars.Phrase.{tok, seq, alt, last, many, post}
use Rattle.vs_grammar.specs.Grammars.Tree.{leaf, nothing, both, former, latter, without, within, start, grown, alone, behind, nested, named}
use Rattle.vs_grammar.specs.Predictive.{is_subset, are_disjoint, Table, can_be_empty, firsts_of, is_decided, is_right, can_begin, Reads, Grows}
use Rattle.vs_grammar.specs.Predictive.Reads.{r_tok, r_eps, r_seq, r_former, r_latter, r_without, r_within, r_many, r_alone, r_behind, r_level, r_var}
use Rattle.vs_grammar.specs.Predictive.Grows.{g_start, g_grown}
use Rattle.vs_grammar.proofs.Sets.{clash, not_true, disjoint_mem, mem_self}
use Rattle.vs_grammar.proofs.Forced.{Heads, heads_subset, starts, after, headed, headed_link, headed_more}

-- a list that has a first token
data Filled : List Terminal → Type 0 where
  filled : {u : Terminal} {us : List Terminal} → Filled (u ∷ us)

onto_filled : {rule : ℕ → Phrase} {x : Phrase} {r : List Terminal} (a : Tree rule x) → Filled r → Filled (onto a r)
onto_filled (leaf a) h = filled
onto_filled nothing h = h
onto_filled (both a b) h = onto_filled a (onto_filled b h)
onto_filled (former a) h = onto_filled a h
onto_filled (latter a) h = onto_filled a h
onto_filled without h = h
onto_filled (within t a) h = filled
onto_filled (start a) h = onto_filled a h
onto_filled (grown a b) h = onto_filled a (onto_filled b h)
onto_filled (alone a) h = onto_filled a h
onto_filled (behind a b) h = onto_filled a (onto_filled b h)
onto_filled (nested a) h = onto_filled a h
onto_filled (named a) h = onto_filled a h

either : (b : Bool) → (b ≡ true) ⊎ (b ≡ false)
either true = inl refl
either false = inr refl

module _ (g : Table) (sound : (n : ℕ) → is_right g n ≡ true) where
  -- the first token of a list is one that x begins with
  abbrev Can : Phrase → List Terminal → Type 0
  Can x [] = Unit {0}
  Can x (u ∷ us) = can_begin g x u ≡ true

  -- and is not
  abbrev Cannot : Phrase → List Terminal → Type 0
  Cannot x [] = Unit {0}
  Cannot x (u ∷ us) = can_begin g x u ≡ false

  can_at : {x : Phrase} (a : Tree g.rule x) (r : List Terminal) → not (can_be_empty g x) ≡ true → Fits a r → (m : List Terminal) → onto a r ≡ m → Can x m
  can_at a r n k [] e = tt
  can_at {x} a r n k (u ∷ m) e = elim (starts g sound a r u m k e) [ inl h ↦ h | inr d ↦ clash (can_be_empty g x) d.0 (not_true (can_be_empty g x) n) ]

  can : {x : Phrase} (a : Tree g.rule x) (r : List Terminal) → not (can_be_empty g x) ≡ true → Fits a r → Can x (onto a r)
  can a r n k = can_at a r n k (onto a r) refl

  cannot : (x : Phrase) (f : List ℕ) (m : List Terminal) → are_disjoint (firsts_of g x) f ≡ true → Heads f m → Cannot x m
  cannot x f [] d h = tt
  cannot x f (u ∷ m) d h = elim (either (can_begin g x u)) [ inl e ↦ disjoint_mem u.kind (firsts_of g x) f d e h | inr e ↦ e ]

  former_read : {x y : Phrase} {m us : List Terminal} {a : Tree g.rule x} → Filled m → Can x m → Reads g x m a us → Reads g (alt x y) m (former a) us
  former_read filled c p = r_former c p

  latter_read : {x y : Phrase} {m us : List Terminal} {a : Tree g.rule y} → Filled m → Cannot x m → Reads g y m a us → Reads g (alt x y) m (latter a) us
  latter_read filled c p = r_latter c p

  without_read : {t : ℕ} {x : Phrase} {r : List Terminal} → Filled r → Misses t r → Reads g (last t x) r without r
  without_read filled n = r_without n

  many_read : {b : Bool} {x y : Phrase} {ts us : List Terminal} {a : Tree g.rule (many b x y)} → Filled us → Cannot y us → Grows g b x y ts a us → Reads g (many b x y) ts a us
  many_read filled c p = r_many p c

  grown_read : {b : Bool} {x y : Phrase} {ts us vs : List Terminal} {a : Tree g.rule (many b x y)} {c : Tree g.rule y} → Filled us → Can y us → Grows g b x y ts a us → Reads g y us c vs → Grows g b x y ts (grown a c) vs
  grown_read filled c p q = g_grown p c q

  alone_read : {x y : Phrase} {ts us : List Terminal} {a : Tree g.rule x} → Filled us → Cannot y us → Reads g x ts a us → Reads g (post x y) ts (alone a) us
  alone_read filled c p = r_alone p c

  behind_read : {x y : Phrase} {ts us vs : List Terminal} {a : Tree g.rule x} {b : Tree g.rule y} → Filled us → Can y us → Reads g x ts a us → Reads g y us b vs → Reads g (post x y) ts (behind a b) vs
  behind_read filled c p q = r_behind p c q

  mutual
    -- where a list that goes on follows, headed by one of f
    read : {x : Phrase} (a : Tree g.rule x) (f : List ℕ) → is_decided g x f ≡ true → (r : List Terminal) → Filled r → Heads f r → Fits a r → Reads g x (onto a r) a r
    read (leaf {t} a) f d r z h k = r_tok k
    read nothing f d r z h k = r_eps
    read (both {x} {y} a b) f d r z h k =
        let c = and_parts (is_decided g x (after g sound y f)) (is_decided g y f) d in
        r_seq (read a (after g sound y f) c.0 (onto b r) (onto_filled b z) (headed g sound f b r h k.1) k.0) (read b f c.1 r z h k.1)
    read (former {x} {y} a) f d r z h k =
        let c = and_parts (not (can_be_empty g x)) (are_disjoint (firsts_of g x) (after g sound y f) && (is_decided g x f && is_decided g y f)) d in
        let c1 = and_parts (are_disjoint (firsts_of g x) (after g sound y f)) (is_decided g x f && is_decided g y f) c.1 in
        let c2 = and_parts (is_decided g x f) (is_decided g y f) c1.1 in
        former_read (onto_filled a z) (can a r c.0 k) (read a f c2.0 r z h k)
    read (latter {x} {y} a) f d r z h k =
        let c = and_parts (not (can_be_empty g x)) (are_disjoint (firsts_of g x) (after g sound y f) && (is_decided g x f && is_decided g y f)) d in
        let c1 = and_parts (are_disjoint (firsts_of g x) (after g sound y f)) (is_decided g x f && is_decided g y f) c.1 in
        let c2 = and_parts (is_decided g x f) (is_decided g y f) c1.1 in
        latter_read (onto_filled a z) (cannot x (after g sound y f) (onto a r) c1.0 (headed g sound f a r h k)) (read a f c2.1 r z h k)
    read without f d r z h k = without_read z k
    read (within v a) f d r z h k = r_within k.0 (read a f d r z h k.1)
    read (start {b} {x} {y} a) f d r z h k =
        let c = and_parts (not (can_be_empty g y)) (are_disjoint (firsts_of g y) f && (is_decided g x (firsts_of g y ++ f) && is_decided g y (firsts_of g y ++ f))) d in
        let c1 = and_parts (are_disjoint (firsts_of g y) f) (is_decided g x (firsts_of g y ++ f) && is_decided g y (firsts_of g y ++ f)) c.1 in
        let c2 = and_parts (is_decided g x (firsts_of g y ++ f)) (is_decided g y (firsts_of g y ++ f)) c1.1 in
        many_read z (cannot y f r c1.0 h) (g_start (read a (firsts_of g y ++ f) c2.0 r z (headed_more g sound y f r h) k))
    read (grown {b} {x} {y} a l) f d r z h k =
        let c = and_parts (not (can_be_empty g y)) (are_disjoint (firsts_of g y) f && (is_decided g x (firsts_of g y ++ f) && is_decided g y (firsts_of g y ++ f))) d in
        let c1 = and_parts (are_disjoint (firsts_of g y) f) (is_decided g x (firsts_of g y ++ f) && is_decided g y (firsts_of g y ++ f)) c.1 in
        let c2 = and_parts (is_decided g x (firsts_of g y ++ f)) (is_decided g y (firsts_of g y ++ f)) c1.1 in
        let m = headed_more g sound y f r h in
        many_read z (cannot y f r c1.0 h) (grown_read (onto_filled l z) (can l r c.0 k.1) (grow a f d (onto l r) (onto_filled l z) (headed_link g sound f l r k.1 m (onto l r) refl) k.0) (read l (firsts_of g y ++ f) c2.1 r z m k.1))
    read (alone {x} {y} a) f d r z h k =
        let c = and_parts (not (can_be_empty g y)) (are_disjoint (firsts_of g y) f && (is_decided g x (firsts_of g y ++ f) && is_decided g y f)) d in
        let c1 = and_parts (are_disjoint (firsts_of g y) f) (is_decided g x (firsts_of g y ++ f) && is_decided g y f) c.1 in
        let c2 = and_parts (is_decided g x (firsts_of g y ++ f)) (is_decided g y f) c1.1 in
        alone_read z (cannot y f r c1.0 h) (read a (firsts_of g y ++ f) c2.0 r z (headed_more g sound y f r h) k)
    read (behind {x} {y} a b) f d r z h k =
        let c = and_parts (not (can_be_empty g y)) (are_disjoint (firsts_of g y) f && (is_decided g x (firsts_of g y ++ f) && is_decided g y f)) d in
        let c1 = and_parts (are_disjoint (firsts_of g y) f) (is_decided g x (firsts_of g y ++ f) && is_decided g y f) c.1 in
        let c2 = and_parts (is_decided g x (firsts_of g y ++ f)) (is_decided g y f) c1.1 in
        behind_read (onto_filled b z) (can b r c.0 k.1) (read a (firsts_of g y ++ f) c2.0 (onto b r) (onto_filled b z) (headed_link g sound f b r k.1 (headed_more g sound y f r h) (onto b r) refl) k.0) (read b f c2.1 r z h k.1)
    read (nested a) f d r z h k = r_level (read a f d r z h k)
    read (named {n} a) f d r z h k =
        let c = and_parts (is_decided g (g.rule n) (g.follows n)) (is_subset (firsts_of g (g.rule n)) (g.firsts n) && (not (can_be_empty g (g.rule n)) || g.empties n)) (sound n) in
        r_var (read a (g.follows n) c.0 r z (heads_subset f (g.follows n) r d h) k)

    grow : {b : Bool} {x y : Phrase} (a : Tree g.rule (many b x y)) (f : List ℕ) → is_decided g (many b x y) f ≡ true → (r : List Terminal) → Filled r → Heads (firsts_of g y ++ f) r → Fits a r → Grows g b x y (onto a r) a r
    grow (start {b} {x} {y} a) f d r z h k =
        let c = and_parts (not (can_be_empty g y)) (are_disjoint (firsts_of g y) f && (is_decided g x (firsts_of g y ++ f) && is_decided g y (firsts_of g y ++ f))) d in
        let c1 = and_parts (are_disjoint (firsts_of g y) f) (is_decided g x (firsts_of g y ++ f) && is_decided g y (firsts_of g y ++ f)) c.1 in
        let c2 = and_parts (is_decided g x (firsts_of g y ++ f)) (is_decided g y (firsts_of g y ++ f)) c1.1 in
        g_start (read a (firsts_of g y ++ f) c2.0 r z h k)
    grow (grown {b} {x} {y} a l) f d r z h k =
        let c = and_parts (not (can_be_empty g y)) (are_disjoint (firsts_of g y) f && (is_decided g x (firsts_of g y ++ f) && is_decided g y (firsts_of g y ++ f))) d in
        let c1 = and_parts (are_disjoint (firsts_of g y) f) (is_decided g x (firsts_of g y ++ f) && is_decided g y (firsts_of g y ++ f)) c.1 in
        let c2 = and_parts (is_decided g x (firsts_of g y ++ f)) (is_decided g y (firsts_of g y ++ f)) c1.1 in
        grown_read (onto_filled l z) (can l r c.0 k.1) (grow a f d (onto l r) (onto_filled l z) (headed_link g sound f l r k.1 h (onto l r) refl) k.0) (read l (firsts_of g y ++ f) c2.1 r z h k.1)

  -- a text that is derived is read to its end
  pub read_text : {x : Phrase} {e : ℕ} {ts : List Terminal} → is_decided g x (e ∷ []) ≡ true → (a : Tree g.rule (seq x (tok e))) → Derives a ts → Reads g (seq x (tok e)) ts a []
  read_text {x} {e} d (both a (leaf u)) p = subst (λ (z : List Terminal). Reads g (seq x (tok e)) z (both a (leaf u)) []) p.0 (r_seq (read a (e ∷ []) d (u ∷ []) filled (mem_self u.kind e [] p.1.1) p.1.0) (r_tok p.1.1))
