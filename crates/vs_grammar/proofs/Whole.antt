-- The theorems on whole texts.
use Rattle.std.proofs.Common.{◌≡◌, ℕ, zero, suc, ◌<◌, ◌≤◌, Bool, true, false, ◌&&◌, List, [], ◌∷◌, ◌++◌, refl, sym, ◌∙◌, ap, arith, length, take, drop, append_assoc, ◌⊎◌, inl, inr}
use Rattle.std.proofs.lemmas.List.{append-nil, append_cancel_right, take-append-drop}
use Rattle.vs_grammar.specs.Grammars.{Phrase, Tree, Terminal, depth, Derives, Begins, SyntaxAt, TooDeepAt}
use Rattle.vs_grammar.specs.Grammars.Phrase.{tok, seq}
use Rattle.vs_grammar.specs.Predictive.{Table, is_decided, IsPredictive, Reads, Stops, Sinks}
use Rattle.vs_grammar.specs.Laws.{OneTree, ReadIsDerived, StopsAtFault, SinksTooDeep, OneFault, NoFault}
use Rattle.vs_grammar.proofs.Forced.{forced, refused, deep}
use Rattle.vs_grammar.proofs.Complete.{read_text}
use Rattle.vs_grammar.proofs.Stopped.{says, stopping, sinking}
use Rattle.vs_grammar.proofs.Viable.{Viable, begun, begun_deep}
use Rattle.vs_grammar.proofs.Samples.{sample_rule}

-- ---- a list split at token k

pub record Split (ts : List Terminal) (k : ℕ) (at : Terminal) (rest : List Terminal) : Type 0 where
  pub inside : k < length ts
  pub whole : ts ≡ take k ts ++ (at ∷ rest)
  pub more : take (suc k) ts ≡ take k ts ++ (at ∷ [])

pub split_at : (ts : List Terminal) (k : ℕ) (at : Terminal) (rest : List Terminal) → drop k ts ≡ at ∷ rest → Split ts k at rest
split_at [] zero at rest e = cc
split_at [] (suc k) at rest e = cc
split_at (t ∷ ts) zero at rest e = record { inside = omega arith; whole = e; more = ap (λ (z : List Terminal). take 1 z) e }
split_at (t ∷ ts) (suc k) at rest e =
    let s = split_at ts k at rest e in
    let h : k < length ts = s.inside in
    record { inside = omega arith; whole = ap (λ (z : List Terminal). t ∷ z) s.whole; more = ap (λ (z : List Terminal). t ∷ z) s.more }

-- what stands before the tokens that are left
before_left : (ts : List Terminal) (k : ℕ) (at : Terminal) (rest pre us : List Terminal) → Split ts k at rest → us ≡ at ∷ rest → ts ≡ pre ++ us → pre ≡ take k ts
before_left ts k at rest pre us s f e =
    append_cancel_right pre (take k ts) (at ∷ rest) (ap (λ (z : List Terminal). pre ++ z) (sym f) ∙ sym e ∙ s.whole)

-- and with the first of them
with_token : (ts : List Terminal) (k : ℕ) (at : Terminal) (rest pre other : List Terminal) → Split ts k at rest → pre ≡ take k ts → take (suc k) ts ++ other ≡ pre ++ (at ∷ other)
with_token ts k at rest pre other s e =
    ap (λ (z : List Terminal). z ++ other) s.more ∙ append_assoc (take k ts) (at ∷ []) other ∙ ap (λ (z : List Terminal). z ++ (at ∷ other)) (sym e)

begins_by : {rule : ℕ → Phrase} {x : Phrase} {pre l : List Terminal} → Viable rule x pre → pre ≡ l → Begins rule x l
begins_by {rule} {x} {pre} {l} w e = record { tree = w.tree; other = w.word ++ []; derived = (w.text [] ∙ ap (λ (z : List Terminal). z ++ (w.word ++ [])) e, w.fits []) }

and_true : (b : Bool) → b ≡ true → (b && true) ≡ true
and_true true e = refl
and_true false e = cc

module _ (g : Table) (x : Phrase) (e : ℕ) (h : IsPredictive g x e) where
  samples : (n : ℕ) → Viable g.rule (g.rule n) []
  samples n = sample_rule g h.steps n (h.derives n)

  text_decided : is_decided g (seq x (tok e)) [] ≡ true
  text_decided = and_true (is_decided g x (e ∷ [])) h.whole

  pub derived : (ts : List Terminal) (a : Tree g.rule (seq x (tok e))) → Reads g (seq x (tok e)) ts a [] → Derives a ts
  derived ts a p = let i = says g p in (i.text, i.fits)

  pub one : (ts : List Terminal) (a b : Tree g.rule (seq x (tok e))) → Derives a ts → Derives b ts → a ≡ b
  one ts a b p q = (forced g h.right (read_text g h.right h.whole b q) [] text_decided a [] tt p.1 p.0).0

  pub stops : (ts : List Terminal) (k : ℕ) → Stops g (seq x (tok e)) ts (drop k ts) → SyntaxAt g.rule (seq x (tok e)) ts k
  stops ts k p =
      let i = stopping g p in
      let b = begun g samples p in
      let s = split_at ts k i.at i.rest i.here in
      let pre : i.pre ≡ take k ts = before_left ts k i.at i.rest i.pre (drop k ts) s i.here (i.text ∙ ap (λ (z : List Terminal). i.pre ++ z) (sym i.here)) in
      record {
        inside = s.inside;
        before = begins_by b.can (before_left ts k i.at i.rest b.pre (drop k ts) s i.here b.text);
        none = λ w. refused g h.right (i.again w.other) [] text_decided w.tree [] tt w.derived.1 (w.derived.0 ∙ with_token ts k i.at i.rest i.pre w.other s pre);
      }

  pub sinks : (most levels : ℕ) → most < levels → (ts : List Terminal) (k : ℕ) → Sinks g (seq x (tok e)) ts (drop k ts) levels → TooDeepAt g.rule (seq x (tok e)) most ts k
  sinks most levels m ts k p =
      let i = sinking g p in
      let b = begun_deep g samples p in
      let s = split_at ts k i.at i.rest i.here in
      let pre : i.pre ≡ take k ts = before_left ts k i.at i.rest i.pre (drop k ts) s i.here (i.text ∙ ap (λ (z : List Terminal). i.pre ++ z) (sym i.here)) in
      let t = split_at ts k b.at b.rest b.here in
      let begun_pre : b.pre ≡ take k ts = before_left ts k b.at b.rest b.pre (drop k ts) t b.here b.text in
      record {
        inside = s.inside;
        can = begins_by b.can (sym (sym (append-nil (take (suc k) ts)) ∙ with_token ts k b.at b.rest b.pre [] t begun_pre));
        deep = λ tree other j. let q : levels ≤ depth tree = deep g h.right (i.again other) [] text_decided tree [] tt j.1 (j.0 ∙ with_token ts k i.at i.rest i.pre other s pre) in omega arith;
      }

-- ---- at most one fault

-- what begins a derived list, each part of it does too
begins_less : (rule : ℕ → Phrase) (x : Phrase) (ts : List Terminal) (j k : ℕ) → j ≤ k → Begins rule x (take k ts) → Begins rule x (take j ts)
begins_less rule x ts j k h b =
    record {
      tree = b.tree;
      other = drop j (take k ts) ++ b.other;
      derived = (b.derived.0 ∙ ap (λ (z : List Terminal). z ++ b.other) (sym (take_part ts j k h)) ∙ append_assoc (take j ts) (drop j (take k ts)) b.other, b.derived.1);
    }
  where
    take_part : (ts : List Terminal) (j k : ℕ) → j ≤ k → take j ts ++ drop j (take k ts) ≡ take k ts
    take_part ts zero k h = refl
    take_part [] (suc j) zero h = refl
    take_part [] (suc j) (suc k) h = refl
    take_part (t ∷ ts) (suc j) zero h = absurd (omega arith)
    take_part (t ∷ ts) (suc j) (suc k) h = ap (λ (z : List Terminal). t ∷ z) (take_part ts j k (omega arith))

not_less : (rule : ℕ → Phrase) (x : Phrase) (ts : List Terminal) (j k : ℕ) → SyntaxAt rule x ts j → SyntaxAt rule x ts k → j < k → ⊥
not_less rule x ts j k a b h = a.none (begins_less rule x ts (suc j) k (omega arith) b.before)

three_ways : (j k : ℕ) → (j < k) ⊎ ((k < j) ⊎ (j ≡ k))
three_ways j k = grind arith

pub one_fault : (rule : ℕ → Phrase) (x : Phrase) (ts : List Terminal) (j k : ℕ) → SyntaxAt rule x ts j → SyntaxAt rule x ts k → j ≡ k
one_fault rule x ts j k a b = elim (three_ways j k) [ inl h ↦ absurd (not_less rule x ts j k a b h) | inr d ↦ elim d [ inl h ↦ absurd (not_less rule x ts k j b a h) | inr e ↦ e ] ]

pub no_fault : (rule : ℕ → Phrase) (x : Phrase) (ts : List Terminal) (k : ℕ) (a : Tree rule x) → Derives a ts → SyntaxAt rule x ts k → ⊥
no_fault rule x ts k a d s =
    s.none (record { tree = a; other = drop (suc k) ts; derived = (d.0 ∙ sym (take-append-drop (suc k) ts), d.1) })

-- ---- the laws

pub one_tree : OneTree
one_tree g x e h ts a b p q = one g x e h ts a b p q

pub read_is_derived : ReadIsDerived
read_is_derived g x e h ts a = (derived g x e h ts a, read_text g h.right h.whole a)

pub stops_at_fault : StopsAtFault
stops_at_fault g x e h ts k p = stops g x e h ts k p

pub sinks_too_deep : SinksTooDeep
sinks_too_deep g x e h most levels m ts k p = sinks g x e h most levels m ts k p

pub only_fault : OneFault
only_fault rule x ts j k a b = one_fault rule x ts j k a b

pub derived_has_none : NoFault
derived_has_none rule x ts k a d s = no_fault rule x ts k a d s
