-- What is read is the only tree that its tokens can have.
use Rattle.std.proofs.Common.{◌≡◌, ℕ, Bool, true, false, cond, not, ◌&&◌, ◌||◌, List, [], ◌∷◌, ◌++◌, refl, sym, ◌∙◌, ap, subst, arith, ◌⊎◌, inl, inr}
use Rattle.std.proofs.lemmas.Bool.{and_parts, and_from}
use Rattle.vs_grammar.specs.Grammars.{Phrase, Tree, Terminal, onto, Fits, Misses}
use Rattle.vs_grammar.specs.Grammars.Phrase.{many}
use Rattle.vs_grammar.specs.Grammars.Tree.{leaf, nothing, both, former, latter, without, within, start, grown, alone, behind, nested, named}
use Rattle.vs_grammar.specs.Predictive.{is_member, is_subset, are_disjoint, Table, can_be_empty, if_empty, firsts_of, is_decided, is_right, can_begin, Reads, Grows, Stops}
use Rattle.vs_grammar.specs.Predictive.Reads.{r_tok, r_eps, r_seq, r_former, r_latter, r_without, r_within, r_many, r_alone, r_behind, r_level, r_var}
use Rattle.vs_grammar.specs.Predictive.Grows.{g_start, g_grown}
use Rattle.vs_grammar.specs.Predictive.Stops.{s_tok, s_seq, s_then, s_former, s_latter, s_within, s_start, s_grown, s_alone, s_behind, s_level, s_var}
use Rattle.vs_grammar.specs.Predictive.{Sinks}
use Rattle.vs_grammar.specs.Grammars.{depth}
use Rattle.vs_grammar.specs.Predictive.Sinks.{k_tok, k_seq, k_then, k_former, k_latter, k_last, k_within, k_start, k_grown, k_alone, k_behind, k_level, k_var}
use Rattle.std.proofs.Common.{max, ◌≤◌, ◌+◌}
use Rattle.vs_grammar.proofs.Sets.{or_left, or_right, or_cases, not_true, clash, mem_left, mem_right, mem_self, subset_mem, disjoint_mem}

abbrev pub Heads : List ℕ → List Terminal → Type 0
Heads f [] = Unit {0}
Heads f (u ∷ r) = is_member u.kind f ≡ true

same_first : {a u : Terminal} {r ts : List Terminal} → a ∷ r ≡ u ∷ ts → a ≡ u
same_first e = cc

same_rest : {a u : Terminal} {r ts : List Terminal} → a ∷ r ≡ u ∷ ts → r ≡ ts
same_rest e = cc

in_if_empty : (b : Bool) (u : ℕ) (ys : List ℕ) → b ≡ true → is_member u ys ≡ true → is_member u (cond b ys []) ≡ true
in_if_empty true u ys e h = h
in_if_empty false u ys e h = cc

-- what `many` adds, from the left
data Links (rule : ℕ → Phrase) (y : Phrase) : Type 0 where
  end : Links rule y
  link : Tree rule y → Links rule y → Links rule y

abbrev attach : {rule : ℕ → Phrase} {b : Bool} {x y : Phrase} → Tree rule (many b x y) → Links rule y → Tree rule (many b x y)
attach a end = a
attach a (link c l) = attach (grown a c) l

abbrev onto_links : {rule : ℕ → Phrase} {y : Phrase} → Links rule y → List Terminal → List Terminal
onto_links end r = r
onto_links (link c l) r = onto c (onto_links l r)

abbrev FitsLinks : {rule : ℕ → Phrase} {y : Phrase} → Links rule y → List Terminal → Type 0
FitsLinks end r = Unit {0}
FitsLinks (link c l) r = Fits c (onto_links l r) × FitsLinks l r

depth_attach : {rule : ℕ → Phrase} {b : Bool} {x y : Phrase} (a : Tree rule (many b x y)) (l : Links rule y) → depth a ≤ depth (attach a l)
depth_attach a end = omega arith
depth_attach {b = b} a (link c l) = let h = depth_attach (grown a c) l in let k = grow_more (cond b 1 0) (depth a) (depth c) in omega arith
  where
    grow_more : (k m n : ℕ) → m ≤ k + max m n
    grow_more k m n = omega arith

more_level : (k m n p q : ℕ) → n ≤ p → k + max m p ≤ q → k + max m n ≤ q
more_level k m n p q h j = omega arith

record Taken {rule : ℕ → Phrase} {b : Bool} {x y : Phrase} (a : Tree rule (many b x y)) (l : Links rule y) (r : List Terminal) : Type 0 where
  root : Tree rule x
  links : Links rule y
  same : attach a l ≡ attach (start root) links
  text : onto a (onto_links l r) ≡ onto root (onto_links links r)
  root_fits : Fits root (onto_links links r)
  links_fit : FitsLinks links r

taken : {rule : ℕ → Phrase} {b : Bool} {x y : Phrase} (a : Tree rule (many b x y)) (l : Links rule y) (r : List Terminal) → Fits a (onto_links l r) → FitsLinks l r → Taken a l r
taken (start a) l r f k = record { root = a; links = l; same = refl; text = refl; root_fits = f; links_fit = k }
taken (grown a c) l r f k =
    let t : Taken a (link c l) r = taken a (link c l) r f.0 (f.1, k) in
    record { root = t.root; links = t.links; same = t.same; text = t.text; root_fits = t.root_fits; links_fit = t.links_fit }

pub heads_subset : (f f2 : List ℕ) (r : List Terminal) → is_subset f f2 ≡ true → Heads f r → Heads f2 r
heads_subset f f2 [] s h = tt
heads_subset f f2 (u ∷ r) s h = subset_mem u.kind f f2 s h

module _ (g : Table) (sound : (n : ℕ) → is_right g n ≡ true) where
  abbrev pub Starts : Phrase → List Terminal → Terminal → List Terminal → Type 0
  Starts x r u ts = (is_member u.kind (firsts_of g x) ≡ true) ⊎ ((can_be_empty g x ≡ true) × (r ≡ u ∷ ts))

  in_second : (x y : Phrase) (u : ℕ) → can_be_empty g x ≡ true → is_member u (firsts_of g y) ≡ true → is_member u (firsts_of g x ++ if_empty g x (firsts_of g y)) ≡ true
  in_second x y u e h = mem_right u (firsts_of g x) (if_empty g x (firsts_of g y)) (in_if_empty (can_be_empty g x) u (firsts_of g y) e h)

  in_first : (x : Phrase) (ys : List ℕ) (u : ℕ) → is_member u (firsts_of g x) ≡ true → is_member u (firsts_of g x ++ ys) ≡ true
  in_first x ys u h = mem_left u (firsts_of g x) ys h

  pub starts : {x : Phrase} (a : Tree g.rule x) (r : List Terminal) (u : Terminal) (ts : List Terminal) → Fits a r → onto a r ≡ u ∷ ts → Starts x r u ts
  starts (leaf {t} a) r u ts f e = inl (mem_self u.kind t [] (ap (λ (v : Terminal). v.kind) (sym (same_first e)) ∙ f))
  starts nothing r u ts f e = inr (refl, e)
  starts (both {x} {y} a b) r u ts f e =
      elim (starts a (onto b r) u ts f.0 e) [ inl h ↦ inl (in_first x (if_empty g x (firsts_of g y)) u.kind h) | inr d ↦ elim (starts b r u ts f.1 d.1) [ inl h ↦ inl (in_second x y u.kind d.0 h) | inr k ↦ inr (and_from (can_be_empty g x) (can_be_empty g y) d.0 k.0, k.1) ] ]
  starts (former {x} {y} a) r u ts f e = elim (starts a r u ts f e) [ inl h ↦ inl (in_first x (firsts_of g y) u.kind h) | inr d ↦ inr (or_left (can_be_empty g x) (can_be_empty g y) d.0, d.1) ]
  starts (latter {x} {y} a) r u ts f e = elim (starts a r u ts f e) [ inl h ↦ inl (mem_right u.kind (firsts_of g x) (firsts_of g y) h) | inr d ↦ inr (or_right (can_be_empty g x) (can_be_empty g y) d.0, d.1) ]
  starts without r u ts f e = inr (refl, e)
  starts (within {t} a b) r u ts f e = inl (mem_self u.kind t [] (ap (λ (v : Terminal). v.kind) (sym (same_first e)) ∙ f.0))
  starts (start {b} {x} {y} a) r u ts f e = elim (starts a r u ts f e) [ inl h ↦ inl (in_first x (if_empty g x (firsts_of g y)) u.kind h) | inr d ↦ inr d ]
  starts (grown {b} {x} {y} a c) r u ts f e = elim (starts a (onto c r) u ts f.0 e) [ inl h ↦ inl h | inr d ↦ elim (starts c r u ts f.1 d.1) [ inl h ↦ inl (in_second x y u.kind d.0 h) | inr k ↦ inr (d.0, k.1) ] ]
  starts (alone {x} {y} a) r u ts f e = elim (starts a r u ts f e) [ inl h ↦ inl (in_first x (if_empty g x (firsts_of g y)) u.kind h) | inr d ↦ inr d ]
  starts (behind {x} {y} a c) r u ts f e = elim (starts a (onto c r) u ts f.0 e) [ inl h ↦ inl (in_first x (if_empty g x (firsts_of g y)) u.kind h) | inr d ↦ elim (starts c r u ts f.1 d.1) [ inl h ↦ inl (in_second x y u.kind d.0 h) | inr k ↦ inr (d.0, k.1) ] ]
  starts (nested a) r u ts f e = starts a r u ts f e
  starts (named {n} a) r u ts f e =
      let p = and_parts (is_decided g (g.rule n) (g.follows n)) (is_subset (firsts_of g (g.rule n)) (g.firsts n) && (not (can_be_empty g (g.rule n)) || g.empties n)) (sound n) in
      let q = and_parts (is_subset (firsts_of g (g.rule n)) (g.firsts n)) (not (can_be_empty g (g.rule n)) || g.empties n) p.1 in
      elim (starts a r u ts f e) [ inl h ↦ inl (subset_mem u.kind (firsts_of g (g.rule n)) (g.firsts n) q.0 h) | inr d ↦ inr (elim (or_cases (not (can_be_empty g (g.rule n))) (g.empties n) q.1) [ inl k ↦ clash (can_be_empty g (g.rule n)) d.0 (not_true (can_be_empty g (g.rule n)) k) | inr k ↦ k ], d.1) ]

  -- what follows x in x y, where what follows y begins with one of f
  abbrev pub after : Phrase → List ℕ → List ℕ
  after y f = firsts_of g y ++ if_empty g y f

  headed_at : (y : Phrase) (f : List ℕ) (b : Tree g.rule y) (r : List Terminal) → Heads f r → Fits b r → (m : List Terminal) → onto b r ≡ m → Heads (after y f) m
  headed_at y f b r h k [] e = tt
  headed_at y f b r h k (u ∷ m) e = elim (starts b r u m k e) [ inl i ↦ in_first y (if_empty g y f) u.kind i | inr d ↦ mem_right u.kind (firsts_of g y) (if_empty g y f) (in_if_empty (can_be_empty g y) u.kind f d.0 (let w : Heads f (u ∷ m) = subst (λ (l : List Terminal). Heads f l) d.1 h in w)) ]

  pub headed : {y : Phrase} (f : List ℕ) (b : Tree g.rule y) (r : List Terminal) → Heads f r → Fits b r → Heads (after y f) (onto b r)
  headed {y} f b r h k = headed_at y f b r h k (onto b r) refl

  -- where y derives no empty list
  headed_by : {y : Phrase} (f : List ℕ) (b : Tree g.rule y) (r : List Terminal) → Heads f r → Fits b r → (m : List Terminal) → onto b r ≡ m → Heads (firsts_of g y ++ f) m
  headed_by {y} f b r h k [] e = tt
  headed_by {y} f b r h k (u ∷ m) e = elim (starts b r u m k e) [ inl i ↦ in_first y f u.kind i | inr d ↦ mem_right u.kind (firsts_of g y) f (let w : Heads f (u ∷ m) = subst (λ (l : List Terminal). Heads f l) d.1 h in w) ]

  pub headed_more : (y : Phrase) (f : List ℕ) (m : List Terminal) → Heads f m → Heads (firsts_of g y ++ f) m
  headed_more y f [] h = tt
  headed_more y f (u ∷ m) h = mem_right u.kind (firsts_of g y) f h

  pub headed_link : {y : Phrase} (f : List ℕ) (c : Tree g.rule y) (r : List Terminal) → Fits c r → Heads (firsts_of g y ++ f) r → (m : List Terminal) → onto c r ≡ m → Heads (firsts_of g y ++ f) m
  headed_link {y} f c r k h [] e = tt
  headed_link {y} f c r k h (u ∷ m) e = elim (starts c r u m k e) [ inl i ↦ in_first y f u.kind i | inr d ↦ let w : Heads (firsts_of g y ++ f) (u ∷ m) = subst (λ (l : List Terminal). Heads (firsts_of g y ++ f) l) d.1 h in w ]

  headed_links : {y : Phrase} (f : List ℕ) (l : Links g.rule y) (r : List Terminal) → Heads f r → FitsLinks l r → Heads (firsts_of g y ++ f) (onto_links l r)
  headed_links {y} f end r h k = headed_more y f r h
  headed_links {y} f (link c l) r h k = headed_link f c (onto_links l r) k.0 (headed_links f l r h k.1) (onto c (onto_links l r)) refl

  both_same : {x y : Phrase} {a c : Tree g.rule x} {b d : Tree g.rule y} → a ≡ c → b ≡ d → both a b ≡ both c d
  both_same {x = x} {y = y} {a = a} {c = c} {b = b} {d = d} p q = ap (λ (z : Tree g.rule x). both z b) p ∙ ap (λ (z : Tree g.rule y). both c z) q

  behind_same : {x y : Phrase} {a c : Tree g.rule x} {b d : Tree g.rule y} → a ≡ c → b ≡ d → behind a b ≡ behind c d
  behind_same {x = x} {y = y} {a = a} {c = c} {b = b} {d = d} p q = ap (λ (z : Tree g.rule x). behind z b) p ∙ ap (λ (z : Tree g.rule y). behind c z) q

  -- a token that y begins with doesn't follow
  no_start : {P : Type 0} (y : Phrase) (f : List ℕ) (r : List Terminal) (u : Terminal) (us : List Terminal) → are_disjoint (firsts_of g y) f ≡ true → Heads f r → r ≡ u ∷ us → can_begin g y u ≡ true → P
  no_start y f r u us d h e b = disjoint_mem u.kind (firsts_of g y) f d b (subst (λ (l : List Terminal). Heads f l) e h)

  -- y, which derives no empty list, begins with a token that it may begin with
  must_start : {P : Type 0} {y : Phrase} (c : Tree g.rule y) (r : List Terminal) (u : Terminal) (us : List Terminal) → not (can_be_empty g y) ≡ true → Fits c r → onto c r ≡ u ∷ us → can_begin g y u ≡ false → P
  must_start {y = y} c r u us n k e b = elim (starts c r u us k e) [ inl h ↦ clash (can_begin g y u) h b | inr d ↦ clash (can_be_empty g y) d.0 (not_true (can_be_empty g y) n) ]

  no_more : {y : Phrase} {r : List Terminal} {u : Terminal} {us : List Terminal} → not (can_be_empty g y) ≡ true → (l : Links g.rule y) → FitsLinks l r → onto_links l r ≡ u ∷ us → can_begin g y u ≡ false → (l ≡ end) × (r ≡ u ∷ us)
  no_more n end k e s = (refl, e)
  no_more {r = r} {u = u} {us = us} n (link c l) k e s = must_start c (onto_links l r) u us n k.0 e s

  grow_on : {b : Bool} {x : Phrase} (y : Phrase) {t : Tree g.rule (many b x y)} {c : Tree g.rule y} {u : Terminal} {us vs : List Terminal} (f : List ℕ) (r : List Terminal) → ((a : Tree g.rule y) (r : List Terminal) → Heads (firsts_of g y ++ f) r → Fits a r → onto a r ≡ u ∷ us → (a ≡ c) × (r ≡ vs)) → are_disjoint (firsts_of g y) f ≡ true → Heads f r → can_begin g y u ≡ true → (z : Tree g.rule (many b x y)) (l : Links g.rule y) → z ≡ attach t l → FitsLinks l r → onto_links l r ≡ u ∷ us → (l2 : Links g.rule y) × (z ≡ attach (grown t c) l2) × FitsLinks l2 r × (onto_links l2 r ≡ vs)
  grow_on y {u = u} {us = us} f r q d h s z end m k e = no_start y f r u us d h e s
  grow_on {b = b} {x = x} y {t = t} {c = c} f r q d h s z (link a l) m k e =
      let i = q a (onto_links l r) (headed_links f l r h k.1) k.0 e in
      (l, m ∙ ap (λ (w : Tree g.rule y). attach (grown t w) l) i.0, k.1, i.1)

  mutual
    pub forced : {x : Phrase} {ts us : List Terminal} {t : Tree g.rule x} → Reads g x ts t us → (f : List ℕ) → is_decided g x f ≡ true → (a : Tree g.rule x) (r : List Terminal) → Heads f r → Fits a r → onto a r ≡ ts → (a ≡ t) × (r ≡ us)
    forced (r_tok q) f d (leaf a) r h k e = (ap leaf (same_first e), same_rest e)
    forced r_eps f d nothing r h k e = (refl, e)
    forced (r_seq {x} {y} p q) f d (both a b) r h k e =
        let c = and_parts (is_decided g x (after y f)) (is_decided g y f) d in
        let i = forced p (after y f) c.0 a (onto b r) (headed f b r h k.1) k.0 e in
        let j = forced q f c.1 b r h k.1 i.1 in
        (both_same i.0 j.0, j.1)
    forced (r_former {x} {y} {u} s p) f d (former a) r h k e =
        let c = and_parts (not (can_be_empty g x)) (are_disjoint (firsts_of g x) (after y f) && (is_decided g x f && is_decided g y f)) d in
        let c1 = and_parts (are_disjoint (firsts_of g x) (after y f)) (is_decided g x f && is_decided g y f) c.1 in
        let c2 = and_parts (is_decided g x f) (is_decided g y f) c1.1 in
        let i = forced p f c2.0 a r h k e in
        (ap former i.0, i.1)
    forced (r_former {x} {y} {u} {ts} s p) f d (latter a) r h k e =
        let c = and_parts (not (can_be_empty g x)) (are_disjoint (firsts_of g x) (after y f) && (is_decided g x f && is_decided g y f)) d in
        let c1 = and_parts (are_disjoint (firsts_of g x) (after y f)) (is_decided g x f && is_decided g y f) c.1 in
        let w : Heads (after y f) (u ∷ ts) = subst (λ (l : List Terminal). Heads (after y f) l) e (headed f a r h k) in
        disjoint_mem u.kind (firsts_of g x) (after y f) c1.0 s w
    forced (r_latter {x} {y} {u} {ts} s p) f d (former a) r h k e =
        let c = and_parts (not (can_be_empty g x)) (are_disjoint (firsts_of g x) (after y f) && (is_decided g x f && is_decided g y f)) d in
        must_start a r u ts c.0 k e s
    forced (r_latter {x} {y} {u} s p) f d (latter a) r h k e =
        let c = and_parts (not (can_be_empty g x)) (are_disjoint (firsts_of g x) (after y f) && (is_decided g x f && is_decided g y f)) d in
        let c1 = and_parts (are_disjoint (firsts_of g x) (after y f)) (is_decided g x f && is_decided g y f) c.1 in
        let c2 = and_parts (is_decided g x f) (is_decided g y f) c1.1 in
        let i = forced p f c2.1 a r h k e in
        (ap latter i.0, i.1)
    forced (r_without n) f d without r h k e = (refl, e)
    forced (r_without n) f d (within v a) r h k e = absurd (n (ap (λ (z : Terminal). z.kind) (sym (same_first e)) ∙ k.0))
    forced (r_within {t} {x} {u} {ts} q p) f d without r h k e = absurd (let w : Misses t (u ∷ ts) = subst (λ (l : List Terminal). Misses t l) e k in w q)
    forced (r_within {t} {x} {u} q p) f d (within v a) r h k e =
        let i = forced p f d a r h k.1 (same_rest e) in
        (ap (λ (z : Terminal). within z a) (same_first e) ∙ ap (λ (z : Tree g.rule x). within u z) i.0, i.1)
    forced (r_many {b} {x} {y} {a = t} p s) f d a r h k e =
        let w : Taken a end r = taken a end r k tt in
        let m = grows_forced p f d w.root w.links r h w.root_fits w.links_fit (sym w.text ∙ e) in
        let c = and_parts (not (can_be_empty g y)) (are_disjoint (firsts_of g y) f && (is_decided g x (firsts_of g y ++ f) && is_decided g y (firsts_of g y ++ f))) d in
        let z = no_more c.0 m.0 m.2 m.3 s in
        (w.same ∙ m.1 ∙ ap (λ (l : Links g.rule y). attach t l) z.0, z.1)
    forced (r_alone {x} {y} {u = u} {us = us} p s) f d (alone a) r h k e =
        let c = and_parts (not (can_be_empty g y)) (are_disjoint (firsts_of g y) f && (is_decided g x (firsts_of g y ++ f) && is_decided g y f)) d in
        let c1 = and_parts (are_disjoint (firsts_of g y) f) (is_decided g x (firsts_of g y ++ f) && is_decided g y f) c.1 in
        let c2 = and_parts (is_decided g x (firsts_of g y ++ f)) (is_decided g y f) c1.1 in
        let i = forced p (firsts_of g y ++ f) c2.0 a r (headed_more y f r h) k e in
        (ap alone i.0, i.1)
    forced (r_alone {x} {y} {u = u} {us = us} p s) f d (behind a b) r h k e =
        let c = and_parts (not (can_be_empty g y)) (are_disjoint (firsts_of g y) f && (is_decided g x (firsts_of g y ++ f) && is_decided g y f)) d in
        let c1 = and_parts (are_disjoint (firsts_of g y) f) (is_decided g x (firsts_of g y ++ f) && is_decided g y f) c.1 in
        let c2 = and_parts (is_decided g x (firsts_of g y ++ f)) (is_decided g y f) c1.1 in
        let i = forced p (firsts_of g y ++ f) c2.0 a (onto b r) (headed_link f b r k.1 (headed_more y f r h) (onto b r) refl) k.0 e in
        must_start b r u us c.0 k.1 i.1 s
    forced (r_behind {x} {y} {u = u} {us = us} p s q) f d (alone a) r h k e =
        let c = and_parts (not (can_be_empty g y)) (are_disjoint (firsts_of g y) f && (is_decided g x (firsts_of g y ++ f) && is_decided g y f)) d in
        let c1 = and_parts (are_disjoint (firsts_of g y) f) (is_decided g x (firsts_of g y ++ f) && is_decided g y f) c.1 in
        let c2 = and_parts (is_decided g x (firsts_of g y ++ f)) (is_decided g y f) c1.1 in
        let i = forced p (firsts_of g y ++ f) c2.0 a r (headed_more y f r h) k e in
        no_start y f r u us c1.0 h i.1 s
    forced (r_behind {x} {y} {u = u} {us = us} p s q) f d (behind a b) r h k e =
        let c = and_parts (not (can_be_empty g y)) (are_disjoint (firsts_of g y) f && (is_decided g x (firsts_of g y ++ f) && is_decided g y f)) d in
        let c1 = and_parts (are_disjoint (firsts_of g y) f) (is_decided g x (firsts_of g y ++ f) && is_decided g y f) c.1 in
        let c2 = and_parts (is_decided g x (firsts_of g y ++ f)) (is_decided g y f) c1.1 in
        let i = forced p (firsts_of g y ++ f) c2.0 a (onto b r) (headed_link f b r k.1 (headed_more y f r h) (onto b r) refl) k.0 e in
        let j = forced q f c2.1 b r h k.1 i.1 in
        (behind_same i.0 j.0, j.1)
    forced (r_level p) f d (nested a) r h k e = let i = forced p f d a r h k e in (ap nested i.0, i.1)
    forced (r_var {n} p) f d (named a) r h k e =
        let c = and_parts (is_decided g (g.rule n) (g.follows n)) (is_subset (firsts_of g (g.rule n)) (g.firsts n) && (not (can_be_empty g (g.rule n)) || g.empties n)) (sound n) in
        let i = forced p (g.follows n) c.0 a r (heads_subset f (g.follows n) r d h) k e in
        (ap named i.0, i.1)

    grows_forced : {b : Bool} {x y : Phrase} {ts us : List Terminal} {t : Tree g.rule (many b x y)} → Grows g b x y ts t us → (f : List ℕ) → is_decided g (many b x y) f ≡ true → (a : Tree g.rule x) (l : Links g.rule y) (r : List Terminal) → Heads f r → Fits a (onto_links l r) → FitsLinks l r → onto a (onto_links l r) ≡ ts → (l2 : Links g.rule y) × (attach (start {b = b} a) l ≡ attach t l2) × FitsLinks l2 r × (onto_links l2 r ≡ us)
    grows_forced (g_start {b} {x} {y} p) f d a l r h k kl e =
        let c = and_parts (not (can_be_empty g y)) (are_disjoint (firsts_of g y) f && (is_decided g x (firsts_of g y ++ f) && is_decided g y (firsts_of g y ++ f))) d in
        let c1 = and_parts (are_disjoint (firsts_of g y) f) (is_decided g x (firsts_of g y ++ f) && is_decided g y (firsts_of g y ++ f)) c.1 in
        let c2 = and_parts (is_decided g x (firsts_of g y ++ f)) (is_decided g y (firsts_of g y ++ f)) c1.1 in
        let i = forced p (firsts_of g y ++ f) c2.0 a (onto_links l r) (headed_links f l r h kl) k e in
        (l, ap (λ (z : Tree g.rule x). attach (start {b = b} z) l) i.0, kl, i.1)
    grows_forced (g_grown {b} {x} {y} {u = u} {us = us} p s q) f d a l r h k kl e =
        let c = and_parts (not (can_be_empty g y)) (are_disjoint (firsts_of g y) f && (is_decided g x (firsts_of g y ++ f) && is_decided g y (firsts_of g y ++ f))) d in
        let c1 = and_parts (are_disjoint (firsts_of g y) f) (is_decided g x (firsts_of g y ++ f) && is_decided g y (firsts_of g y ++ f)) c.1 in
        let c2 = and_parts (is_decided g x (firsts_of g y ++ f)) (is_decided g y (firsts_of g y ++ f)) c1.1 in
        let m = grows_forced p f d a l r h k kl e in
        grow_on y f r (forced q (firsts_of g y ++ f) c2.1) c1.0 h s (attach (start a) l) m.0 m.1 m.2 m.3

  more_stop : (y : Phrase) {u : Terminal} {us : List Terminal} (f : List ℕ) (r : List Terminal) → ((a : Tree g.rule y) (r : List Terminal) → Heads (firsts_of g y ++ f) r → Fits a r → onto a r ≡ u ∷ us → ⊥) → are_disjoint (firsts_of g y) f ≡ true → Heads f r → can_begin g y u ≡ true → (l : Links g.rule y) → FitsLinks l r → onto_links l r ≡ u ∷ us → ⊥
  more_stop y {u = u} {us = us} f r q d h s end k e = no_start y f r u us d h e s
  more_stop y f r q d h s (link a l) k e = q a (onto_links l r) (headed_links f l r h k.1) k.0 e

  -- Where reading stops, no tree has these tokens.
  pub refused : {x : Phrase} {ts us : List Terminal} → Stops g x ts us → (f : List ℕ) → is_decided g x f ≡ true → (a : Tree g.rule x) (r : List Terminal) → Heads f r → Fits a r → onto a r ≡ ts → ⊥
  refused (s_tok n) f d (leaf a) r h k e = n (ap (λ (z : Terminal). z.kind) (sym (same_first e)) ∙ k)
  refused (s_seq {x} {y} p) f d (both a b) r h k e =
      let c = and_parts (is_decided g x (after y f)) (is_decided g y f) d in
      refused p (after y f) c.0 a (onto b r) (headed f b r h k.1) k.0 e
  refused (s_then {x} {y} p q) f d (both a b) r h k e =
      let c = and_parts (is_decided g x (after y f)) (is_decided g y f) d in
      let i = forced p (after y f) c.0 a (onto b r) (headed f b r h k.1) k.0 e in
      refused q f c.1 b r h k.1 i.1
  refused (s_former {x} {y} s p) f d (former a) r h k e =
      let c = and_parts (not (can_be_empty g x)) (are_disjoint (firsts_of g x) (after y f) && (is_decided g x f && is_decided g y f)) d in
      let c1 = and_parts (are_disjoint (firsts_of g x) (after y f)) (is_decided g x f && is_decided g y f) c.1 in
      let c2 = and_parts (is_decided g x f) (is_decided g y f) c1.1 in
      refused p f c2.0 a r h k e
  refused (s_former {x} {y} {u} {ts} s p) f d (latter a) r h k e =
      let c = and_parts (not (can_be_empty g x)) (are_disjoint (firsts_of g x) (after y f) && (is_decided g x f && is_decided g y f)) d in
      let c1 = and_parts (are_disjoint (firsts_of g x) (after y f)) (is_decided g x f && is_decided g y f) c.1 in
      let c2 = and_parts (is_decided g x f) (is_decided g y f) c1.1 in
      let w : Heads (after y f) (u ∷ ts) = subst (λ (l : List Terminal). Heads (after y f) l) e (headed f a r h k) in
      disjoint_mem u.kind (firsts_of g x) (after y f) c1.0 s w
  refused (s_latter {x} {y} {u} {ts} s p) f d (former a) r h k e =
      let c = and_parts (not (can_be_empty g x)) (are_disjoint (firsts_of g x) (after y f) && (is_decided g x f && is_decided g y f)) d in
      let c1 = and_parts (are_disjoint (firsts_of g x) (after y f)) (is_decided g x f && is_decided g y f) c.1 in
      let c2 = and_parts (is_decided g x f) (is_decided g y f) c1.1 in
      must_start a r u ts c.0 k e s
  refused (s_latter {x} {y} s p) f d (latter a) r h k e =
      let c = and_parts (not (can_be_empty g x)) (are_disjoint (firsts_of g x) (after y f) && (is_decided g x f && is_decided g y f)) d in
      let c1 = and_parts (are_disjoint (firsts_of g x) (after y f)) (is_decided g x f && is_decided g y f) c.1 in
      let c2 = and_parts (is_decided g x f) (is_decided g y f) c1.1 in
      refused p f c2.1 a r h k e
  refused (s_within {t} {x} {u} {ts} q p) f d without r h k e = let w : Misses t (u ∷ ts) = subst (λ (l : List Terminal). Misses t l) e k in w q
  refused (s_within q p) f d (within v a) r h k e = refused p f d a r h k.1 (same_rest e)
  refused (s_start {b} {x} {y} p) f d a r h k e =
      let c = and_parts (not (can_be_empty g y)) (are_disjoint (firsts_of g y) f && (is_decided g x (firsts_of g y ++ f) && is_decided g y (firsts_of g y ++ f))) d in
      let c1 = and_parts (are_disjoint (firsts_of g y) f) (is_decided g x (firsts_of g y ++ f) && is_decided g y (firsts_of g y ++ f)) c.1 in
      let c2 = and_parts (is_decided g x (firsts_of g y ++ f)) (is_decided g y (firsts_of g y ++ f)) c1.1 in
      let w : Taken a end r = taken a end r k tt in
      refused p (firsts_of g y ++ f) c2.0 w.root (onto_links w.links r) (headed_links f w.links r h w.links_fit) w.root_fits (sym w.text ∙ e)
  refused (s_grown {b} {x} {y} {a = t} p s q) f d a r h k e =
      let c = and_parts (not (can_be_empty g y)) (are_disjoint (firsts_of g y) f && (is_decided g x (firsts_of g y ++ f) && is_decided g y (firsts_of g y ++ f))) d in
      let c1 = and_parts (are_disjoint (firsts_of g y) f) (is_decided g x (firsts_of g y ++ f) && is_decided g y (firsts_of g y ++ f)) c.1 in
      let c2 = and_parts (is_decided g x (firsts_of g y ++ f)) (is_decided g y (firsts_of g y ++ f)) c1.1 in
      let w : Taken a end r = taken a end r k tt in
      let m = grows_forced p f d w.root w.links r h w.root_fits w.links_fit (sym w.text ∙ e) in
      more_stop y f r (refused q (firsts_of g y ++ f) c2.1) c1.0 h s m.0 m.2 m.3
  refused (s_alone {x} {y} p) f d (alone a) r h k e =
      let c = and_parts (not (can_be_empty g y)) (are_disjoint (firsts_of g y) f && (is_decided g x (firsts_of g y ++ f) && is_decided g y f)) d in
      let c1 = and_parts (are_disjoint (firsts_of g y) f) (is_decided g x (firsts_of g y ++ f) && is_decided g y f) c.1 in
      let c2 = and_parts (is_decided g x (firsts_of g y ++ f)) (is_decided g y f) c1.1 in
      refused p (firsts_of g y ++ f) c2.0 a r (headed_more y f r h) k e
  refused (s_alone {x} {y} p) f d (behind a b) r h k e =
      let c = and_parts (not (can_be_empty g y)) (are_disjoint (firsts_of g y) f && (is_decided g x (firsts_of g y ++ f) && is_decided g y f)) d in
      let c1 = and_parts (are_disjoint (firsts_of g y) f) (is_decided g x (firsts_of g y ++ f) && is_decided g y f) c.1 in
      let c2 = and_parts (is_decided g x (firsts_of g y ++ f)) (is_decided g y f) c1.1 in
      refused p (firsts_of g y ++ f) c2.0 a (onto b r) (headed_link f b r k.1 (headed_more y f r h) (onto b r) refl) k.0 e
  refused (s_behind {x} {y} {u = u} {us = us} p s q) f d (alone a) r h k e =
      let c = and_parts (not (can_be_empty g y)) (are_disjoint (firsts_of g y) f && (is_decided g x (firsts_of g y ++ f) && is_decided g y f)) d in
      let c1 = and_parts (are_disjoint (firsts_of g y) f) (is_decided g x (firsts_of g y ++ f) && is_decided g y f) c.1 in
      let c2 = and_parts (is_decided g x (firsts_of g y ++ f)) (is_decided g y f) c1.1 in
      let i = forced p (firsts_of g y ++ f) c2.0 a r (headed_more y f r h) k e in
      no_start y f r u us c1.0 h i.1 s
  refused (s_behind {x} {y} p s q) f d (behind a b) r h k e =
      let c = and_parts (not (can_be_empty g y)) (are_disjoint (firsts_of g y) f && (is_decided g x (firsts_of g y ++ f) && is_decided g y f)) d in
      let c1 = and_parts (are_disjoint (firsts_of g y) f) (is_decided g x (firsts_of g y ++ f) && is_decided g y f) c.1 in
      let c2 = and_parts (is_decided g x (firsts_of g y ++ f)) (is_decided g y f) c1.1 in
      let i = forced p (firsts_of g y ++ f) c2.0 a (onto b r) (headed_link f b r k.1 (headed_more y f r h) (onto b r) refl) k.0 e in
      refused q f c2.1 b r h k.1 i.1
  refused (s_level p) f d (nested a) r h k e = refused p f d a r h k e
  refused (s_var {n} p) f d (named a) r h k e =
      let c = and_parts (is_decided g (g.rule n) (g.follows n)) (is_subset (firsts_of g (g.rule n)) (g.firsts n) && (not (can_be_empty g (g.rule n)) || g.empties n)) (sound n) in
      refused p (g.follows n) c.0 a r (heads_subset f (g.follows n) r d h) k e

  more_deep : {b : Bool} {x : Phrase} (y : Phrase) (t : Tree g.rule (many b x y)) {u : Terminal} {us : List Terminal} (f : List ℕ) (r : List Terminal) (n : ℕ) → ((a : Tree g.rule y) (r : List Terminal) → Heads (firsts_of g y ++ f) r → Fits a r → onto a r ≡ u ∷ us → n ≤ depth a) → are_disjoint (firsts_of g y) f ≡ true → Heads f r → can_begin g y u ≡ true → (l : Links g.rule y) → FitsLinks l r → onto_links l r ≡ u ∷ us → cond b 1 0 + max (depth t) n ≤ depth (attach t l)
  more_deep y t {u = u} {us = us} f r n q d h s end k e = no_start y f r u us d h e s
  more_deep {b = b} y t f r n q d h s (link a l) k e = more_level (cond b 1 0) (depth t) n (depth a) (depth (attach (grown t a) l)) (q a (onto_links l r) (headed_links f l r h k.1) k.0 e) (depth_attach (grown t a) l)

  -- Each tree that has these tokens is so deep.
  pub deep : {x : Phrase} {ts us : List Terminal} {n : ℕ} → Sinks g x ts us n → (f : List ℕ) → is_decided g x f ≡ true → (a : Tree g.rule x) (r : List Terminal) → Heads f r → Fits a r → onto a r ≡ ts → n ≤ depth a
  deep (k_tok q) f d a r h k e = omega arith
  deep (k_seq {x} {y} {n = n} p) f d (both a b) r h k e =
      let c = and_parts (is_decided g x (after y f)) (is_decided g y f) d in
      let i = deep p (after y f) c.0 a (onto b r) (headed f b r h k.1) k.0 e in omega arith
  deep (k_then {x} {y} p q) f d (both a b) r h k e =
      let c = and_parts (is_decided g x (after y f)) (is_decided g y f) d in
      let i = forced p (after y f) c.0 a (onto b r) (headed f b r h k.1) k.0 e in
      let j = deep q f c.1 b r h k.1 i.1 in omega arith
  deep (k_former {x} {y} s p) f d (former a) r h k e =
      let c = and_parts (not (can_be_empty g x)) (are_disjoint (firsts_of g x) (after y f) && (is_decided g x f && is_decided g y f)) d in
      let c1 = and_parts (are_disjoint (firsts_of g x) (after y f)) (is_decided g x f && is_decided g y f) c.1 in
      let c2 = and_parts (is_decided g x f) (is_decided g y f) c1.1 in
      deep p f c2.0 a r h k e
  deep (k_former {x} {y} {u} {ts} s p) f d (latter a) r h k e =
      let c = and_parts (not (can_be_empty g x)) (are_disjoint (firsts_of g x) (after y f) && (is_decided g x f && is_decided g y f)) d in
      let c1 = and_parts (are_disjoint (firsts_of g x) (after y f)) (is_decided g x f && is_decided g y f) c.1 in
      let c2 = and_parts (is_decided g x f) (is_decided g y f) c1.1 in
      let w : Heads (after y f) (u ∷ ts) = subst (λ (l : List Terminal). Heads (after y f) l) e (headed f a r h k) in
      disjoint_mem u.kind (firsts_of g x) (after y f) c1.0 s w
  deep (k_latter {x} {y} {u} {ts} s p) f d (former a) r h k e =
      let c = and_parts (not (can_be_empty g x)) (are_disjoint (firsts_of g x) (after y f) && (is_decided g x f && is_decided g y f)) d in
      let c1 = and_parts (are_disjoint (firsts_of g x) (after y f)) (is_decided g x f && is_decided g y f) c.1 in
      let c2 = and_parts (is_decided g x f) (is_decided g y f) c1.1 in
      must_start a r u ts c.0 k e s
  deep (k_latter {x} {y} s p) f d (latter a) r h k e =
      let c = and_parts (not (can_be_empty g x)) (are_disjoint (firsts_of g x) (after y f) && (is_decided g x f && is_decided g y f)) d in
      let c1 = and_parts (are_disjoint (firsts_of g x) (after y f)) (is_decided g x f && is_decided g y f) c.1 in
      let c2 = and_parts (is_decided g x f) (is_decided g y f) c1.1 in
      deep p f c2.1 a r h k e
  deep (k_last q) f d a r h k e = omega arith
  deep (k_within {t} {x} {u} {ts} q p) f d without r h k e = absurd (let w : Misses t (u ∷ ts) = subst (λ (l : List Terminal). Misses t l) e k in w q)
  deep (k_within q p) f d (within v a) r h k e = deep p f d a r h k.1 (same_rest e)
  deep (k_start {b} {x} {y} {n = n} p) f d a r h k e =
      let c = and_parts (not (can_be_empty g y)) (are_disjoint (firsts_of g y) f && (is_decided g x (firsts_of g y ++ f) && is_decided g y (firsts_of g y ++ f))) d in
      let c1 = and_parts (are_disjoint (firsts_of g y) f) (is_decided g x (firsts_of g y ++ f) && is_decided g y (firsts_of g y ++ f)) c.1 in
      let c2 = and_parts (is_decided g x (firsts_of g y ++ f)) (is_decided g y (firsts_of g y ++ f)) c1.1 in
      let w : Taken a end r = taken a end r k tt in
      let i = deep p (firsts_of g y ++ f) c2.0 w.root (onto_links w.links r) (headed_links f w.links r h w.links_fit) w.root_fits (sym w.text ∙ e) in
      let j = depth_attach (start {b = b} w.root) w.links in
      let m = ap (λ (z : Tree g.rule (many b x y)). depth z) w.same in omega (arith, i, j, m)
  deep (k_grown {b} {x} {y} {n = n} {a = t} p s q) f d a r h k e =
      let c = and_parts (not (can_be_empty g y)) (are_disjoint (firsts_of g y) f && (is_decided g x (firsts_of g y ++ f) && is_decided g y (firsts_of g y ++ f))) d in
      let c1 = and_parts (are_disjoint (firsts_of g y) f) (is_decided g x (firsts_of g y ++ f) && is_decided g y (firsts_of g y ++ f)) c.1 in
      let c2 = and_parts (is_decided g x (firsts_of g y ++ f)) (is_decided g y (firsts_of g y ++ f)) c1.1 in
      let w : Taken a end r = taken a end r k tt in
      let m = grows_forced p f d w.root w.links r h w.root_fits w.links_fit (sym w.text ∙ e) in
      let i = more_deep y t f r n (deep q (firsts_of g y ++ f) c2.1) c1.0 h s m.0 m.2 m.3 in
      let z = ap (λ (z : Tree g.rule (many b x y)). depth z) (w.same ∙ m.1) in omega (arith, i, z)
  deep (k_alone {x} {y} p) f d (alone a) r h k e =
      let c = and_parts (not (can_be_empty g y)) (are_disjoint (firsts_of g y) f && (is_decided g x (firsts_of g y ++ f) && is_decided g y f)) d in
      let c1 = and_parts (are_disjoint (firsts_of g y) f) (is_decided g x (firsts_of g y ++ f) && is_decided g y f) c.1 in
      let c2 = and_parts (is_decided g x (firsts_of g y ++ f)) (is_decided g y f) c1.1 in
      deep p (firsts_of g y ++ f) c2.0 a r (headed_more y f r h) k e
  deep (k_alone {x} {y} p) f d (behind a b) r h k e =
      let c = and_parts (not (can_be_empty g y)) (are_disjoint (firsts_of g y) f && (is_decided g x (firsts_of g y ++ f) && is_decided g y f)) d in
      let c1 = and_parts (are_disjoint (firsts_of g y) f) (is_decided g x (firsts_of g y ++ f) && is_decided g y f) c.1 in
      let c2 = and_parts (is_decided g x (firsts_of g y ++ f)) (is_decided g y f) c1.1 in
      let i = deep p (firsts_of g y ++ f) c2.0 a (onto b r) (headed_link f b r k.1 (headed_more y f r h) (onto b r) refl) k.0 e in omega arith
  deep (k_behind {x} {y} {u = u} {us = us} p s q) f d (alone a) r h k e =
      let c = and_parts (not (can_be_empty g y)) (are_disjoint (firsts_of g y) f && (is_decided g x (firsts_of g y ++ f) && is_decided g y f)) d in
      let c1 = and_parts (are_disjoint (firsts_of g y) f) (is_decided g x (firsts_of g y ++ f) && is_decided g y f) c.1 in
      let c2 = and_parts (is_decided g x (firsts_of g y ++ f)) (is_decided g y f) c1.1 in
      let i = forced p (firsts_of g y ++ f) c2.0 a r (headed_more y f r h) k e in
      no_start y f r u us c1.0 h i.1 s
  deep (k_behind {x} {y} {n = n} {a = t} p s q) f d (behind a b) r h k e =
      let c = and_parts (not (can_be_empty g y)) (are_disjoint (firsts_of g y) f && (is_decided g x (firsts_of g y ++ f) && is_decided g y f)) d in
      let c1 = and_parts (are_disjoint (firsts_of g y) f) (is_decided g x (firsts_of g y ++ f) && is_decided g y f) c.1 in
      let c2 = and_parts (is_decided g x (firsts_of g y ++ f)) (is_decided g y f) c1.1 in
      let i = forced p (firsts_of g y ++ f) c2.0 a (onto b r) (headed_link f b r k.1 (headed_more y f r h) (onto b r) refl) k.0 e in
      let j = deep q f c2.1 b r h k.1 i.1 in
      let m = ap (λ (z : Tree g.rule x). depth z) i.0 in omega (arith, j, m)
  deep (k_level p) f d (nested a) r h k e = let i = deep p f d a r h k e in omega (arith, i)
  deep (k_var {m} p) f d (named a) r h k e =
      let c = and_parts (is_decided g (g.rule m) (g.follows m)) (is_subset (firsts_of g (g.rule m)) (g.firsts m) && (not (can_be_empty g (g.rule m)) || g.empties m)) (sound m) in
      deep p (g.follows m) c.0 a r (heads_subset f (g.follows m) r d h) k e
