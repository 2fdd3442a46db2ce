-- What was read can be completed.
use Rattle.std.proofs.Common.{◌≡◌, ℕ, Bool, List, [], ◌∷◌, ◌++◌, refl, sym, ◌∙◌, ap, subst, append_assoc}
use Rattle.vs_grammar.specs.Grammars.{Phrase, Tree, Terminal, onto, Fits}
use Rattle.vs_grammar.specs.Grammars.Phrase.{tok, eps, seq, alt, last, many, post, level, var}
use Rattle.vs_grammar.specs.Grammars.Tree.{leaf, nothing, both, former, latter, within, start, grown, alone, behind, nested, named}
use Rattle.vs_grammar.specs.Predictive.{Table, Reads, Grows, Stops}
use Rattle.vs_grammar.specs.Predictive.Reads.{r_tok, r_eps, r_seq, r_former, r_latter, r_without, r_within, r_many, r_alone, r_behind, r_level, r_var}
use Rattle.vs_grammar.specs.Predictive.Grows.{g_start, g_grown}
use Rattle.vs_grammar.specs.Predictive.Stops.{s_tok, s_seq, s_then, s_former, s_latter, s_within, s_start, s_grown, s_alone, s_behind, s_level, s_var}
use Rattle.vs_grammar.specs.Predictive.{Sinks}
use Rattle.vs_grammar.specs.Predictive.Sinks.{k_tok, k_seq, k_then, k_former, k_latter, k_last, k_within, k_start, k_grown, k_alone, k_behind, k_level, k_var}
use Rattle.vs_grammar.proofs.Stopped.{SameHead, onto_front, Says, says, grows_says, carry, grows_carry, heads_via}
use Rattle.vs_grammar.proofs.Stopped.SameHead.{same}

-- A tree that begins with these tokens, whatever follows it.
pub record Viable (rule : ℕ → Phrase) (x : Phrase) (pre : List Terminal) : Type 0 where
  pub tree : Tree rule x
  pub word : List Terminal
  pub fits : (r : List Terminal) → Fits tree r
  pub text : (r : List Terminal) → onto tree r ≡ pre ++ (word ++ r)

a_token : ℕ → Terminal
a_token t = record { kind = t; place = 0 }

module _ (g : Table) (samples : (n : ℕ) → Viable g.rule (g.rule n) []) where
  pub sample : (x : Phrase) → Viable g.rule x []
  unfolding a_token
  sample (tok t) = record { tree = leaf (a_token t); word = a_token t ∷ []; fits = λ r. refl; text = λ r. refl }
  sample eps = record { tree = nothing; word = []; fits = λ r. tt; text = λ r. refl }
  sample (seq x y) = let a = sample x in let b = sample y in record { tree = both a.tree b.tree; word = a.word ++ b.word; fits = λ r. (a.fits (onto b.tree r), b.fits r); text = λ r. a.text (onto b.tree r) ∙ ap (λ (z : List Terminal). a.word ++ z) (b.text r) ∙ sym (append_assoc a.word b.word r) }
  sample (alt x y) = let a = sample x in record { tree = former a.tree; word = a.word; fits = a.fits; text = a.text }
  sample (last t x) = let a = sample x in record { tree = within (a_token t) a.tree; word = a_token t ∷ a.word; fits = λ r. (refl, a.fits r); text = λ r. ap (λ (z : List Terminal). a_token t ∷ z) (a.text r) }
  sample (many b x y) = let a = sample x in record { tree = start a.tree; word = a.word; fits = a.fits; text = a.text }
  sample (post x y) = let a = sample x in record { tree = alone a.tree; word = a.word; fits = a.fits; text = a.text }
  sample (level x) = let a = sample x in record { tree = nested a.tree; word = a.word; fits = a.fits; text = a.text }
  sample (var n) = let a = samples n in record { tree = named a.tree; word = a.word; fits = a.fits; text = a.text }

  -- two pieces
  record Pair (x y : Phrase) (pre : List Terminal) : Type 0 where
    one : Tree g.rule x
    two : Tree g.rule y
    word : List Terminal
    fits_one : (r : List Terminal) → Fits one (onto two r)
    fits_two : (r : List Terminal) → Fits two r
    text : (r : List Terminal) → onto one (onto two r) ≡ pre ++ (word ++ r)

  pair : {x y : Phrase} (a : Tree g.rule x) (us vs pre : List Terminal) → ((m : List Terminal) → SameHead us m → Fits a m) → Viable g.rule x (onto a []) → us ≡ pre ++ vs → Viable g.rule y pre → Pair x y (onto a [] ++ pre)
  pair {y = y} a us vs [] carried v e w =
      let b = sample y in
      record { one = v.tree; two = b.tree; word = v.word ++ b.word; fits_one = λ r. v.fits (onto b.tree r); fits_two = b.fits; text = λ r. v.text (onto b.tree r) ∙ ap (λ (z : List Terminal). onto a [] ++ (v.word ++ z)) (b.text r) ∙ simp append_assoc }
  pair a us vs (u ∷ pre) carried v e w =
      record { one = a; two = w.tree; word = w.word; fits_one = λ r. carried (onto w.tree r) (heads_via (sym e) (subst (λ (z : List Terminal). SameHead (u ∷ (pre ++ vs)) z) (sym (w.text r)) same)); fits_two = w.fits; text = λ r. onto_front a (onto w.tree r) ∙ ap (λ (z : List Terminal). onto a [] ++ z) (w.text r) ∙ sym (append_assoc (onto a []) (u ∷ pre) (w.word ++ r)) }

  front_of : {x : Phrase} {t : Tree g.rule x} {ts us : List Terminal} → Says t ts us → ts ≡ onto t [] ++ us
  front_of {t = t} {us = us} p = sym p.text ∙ onto_front t us

  via : {x : Phrase} {l m : List Terminal} → l ≡ m → Viable g.rule x l → Viable g.rule x m
  via {x = x} e v = subst (λ (z : List Terminal). Viable g.rule x z) e v

  mutual
    pub viable : {x : Phrase} {ts us : List Terminal} {t : Tree g.rule x} → Reads g x ts t us → Viable g.rule x (onto t [])
    viable (r_tok {a = a} q) = record { tree = leaf a; word = []; fits = λ r. q; text = λ r. refl }
    viable r_eps = sample eps
    viable (r_seq {us = us} {vs = vs} {a = a} {b = b} p q) =
        let j = pair a us vs (onto b []) (λ m h. (says g (carry g p h)).fits) (viable p) (front_of (says g q)) (viable q) in
        via (sym (onto_front a (onto b []))) (record { tree = both j.one j.two; word = j.word; fits = λ r. (j.fits_one r, j.fits_two r); text = j.text })
    viable (r_former s p) = let v = viable p in record { tree = former v.tree; word = v.word; fits = v.fits; text = v.text }
    viable (r_latter s p) = let v = viable p in record { tree = latter v.tree; word = v.word; fits = v.fits; text = v.text }
    viable (r_without {t} {x} n) = sample (last t x)
    viable (r_within {u = u} q p) = let v = viable p in record { tree = within u v.tree; word = v.word; fits = λ r. (q, v.fits r); text = λ r. ap (λ (z : List Terminal). u ∷ z) (v.text r) }
    viable (r_many p s) = grows_viable p
    viable (r_alone p s) = let v = viable p in record { tree = alone v.tree; word = v.word; fits = v.fits; text = v.text }
    viable (r_behind {u = u} {us = us} {vs = vs} {a = a} {b = b} p s q) =
        let j = pair a (u ∷ us) vs (onto b []) (λ m h. (says g (carry g p h)).fits) (viable p) (front_of (says g q)) (viable q) in
        via (sym (onto_front a (onto b []))) (record { tree = behind j.one j.two; word = j.word; fits = λ r. (j.fits_one r, j.fits_two r); text = j.text })
    viable (r_level p) = let v = viable p in record { tree = nested v.tree; word = v.word; fits = v.fits; text = v.text }
    viable (r_var p) = let v = viable p in record { tree = named v.tree; word = v.word; fits = v.fits; text = v.text }

    grows_viable : {b : Bool} {x y : Phrase} {ts us : List Terminal} {t : Tree g.rule (many b x y)} → Grows g b x y ts t us → Viable g.rule (many b x y) (onto t [])
    grows_viable (g_start p) = let v = viable p in record { tree = start v.tree; word = v.word; fits = v.fits; text = v.text }
    grows_viable (g_grown {u = u} {us = us} {vs = vs} {a = a} {c = b} p s q) =
        let j = pair a (u ∷ us) vs (onto b []) (λ m h. (grows_says g (grows_carry g p h)).fits) (grows_viable p) (front_of (says g q)) (viable q) in
        via (sym (onto_front a (onto b []))) (record { tree = grown j.one j.two; word = j.word; fits = λ r. (j.fits_one r, j.fits_two r); text = j.text })

  -- Where reading stops, the tokens before begin a tree.
  pub record Begun (x : Phrase) (ts us : List Terminal) : Type 0 where
    pub pre : List Terminal
    pub text : ts ≡ pre ++ us
    pub can : Viable g.rule x pre

  pub begun : {x : Phrase} {ts us : List Terminal} → Stops g x ts us → Begun x ts us
  begun (s_tok {t} n) = record { pre = []; text = refl; can = sample (tok t) }
  begun (s_seq {x} {y} p) = let i = begun p in let a = i.can in let b = sample y in record { pre = i.pre; text = i.text; can = record { tree = both a.tree b.tree; word = a.word ++ b.word; fits = λ r. (a.fits (onto b.tree r), b.fits r); text = λ r. a.text (onto b.tree r) ∙ ap (λ (z : List Terminal). i.pre ++ (a.word ++ z)) (b.text r) ∙ ap (λ (z : List Terminal). i.pre ++ z) (sym (append_assoc a.word b.word r)) } }
  begun (s_then {us = us} {vs = vs} {a = a} p q) =
      let i = begun q in
      let j = pair a us vs i.pre (λ m h. (says g (carry g p h)).fits) (viable p) i.text i.can in
      record { pre = onto a [] ++ i.pre; text = front_of (says g p) ∙ ap (λ (z : List Terminal). onto a [] ++ z) i.text ∙ sym (append_assoc (onto a []) i.pre vs); can = record { tree = both j.one j.two; word = j.word; fits = λ r. (j.fits_one r, j.fits_two r); text = j.text } }
  begun (s_former s p) = let i = begun p in let v = i.can in record { pre = i.pre; text = i.text; can = record { tree = former v.tree; word = v.word; fits = v.fits; text = v.text } }
  begun (s_latter s p) = let i = begun p in let v = i.can in record { pre = i.pre; text = i.text; can = record { tree = latter v.tree; word = v.word; fits = v.fits; text = v.text } }
  begun (s_within {u = u} q p) = let i = begun p in let v = i.can in record { pre = u ∷ i.pre; text = ap (λ (z : List Terminal). u ∷ z) i.text; can = record { tree = within u v.tree; word = v.word; fits = λ r. (q, v.fits r); text = λ r. ap (λ (z : List Terminal). u ∷ z) (v.text r) } }
  begun (s_start p) = let i = begun p in let v = i.can in record { pre = i.pre; text = i.text; can = record { tree = start v.tree; word = v.word; fits = v.fits; text = v.text } }
  begun (s_grown {u = u} {us = us} {vs = vs} {a = a} p s q) =
      let i = begun q in
      let j = pair a (u ∷ us) vs i.pre (λ m h. (grows_says g (grows_carry g p h)).fits) (grows_viable p) i.text i.can in
      record { pre = onto a [] ++ i.pre; text = front_of (grows_says g p) ∙ ap (λ (z : List Terminal). onto a [] ++ z) i.text ∙ sym (append_assoc (onto a []) i.pre vs); can = record { tree = grown j.one j.two; word = j.word; fits = λ r. (j.fits_one r, j.fits_two r); text = j.text } }
  begun (s_alone p) = let i = begun p in let v = i.can in record { pre = i.pre; text = i.text; can = record { tree = alone v.tree; word = v.word; fits = v.fits; text = v.text } }
  begun (s_behind {u = u} {us = us} {vs = vs} {a = a} p s q) =
      let i = begun q in
      let j = pair a (u ∷ us) vs i.pre (λ m h. (says g (carry g p h)).fits) (viable p) i.text i.can in
      record { pre = onto a [] ++ i.pre; text = front_of (says g p) ∙ ap (λ (z : List Terminal). onto a [] ++ z) i.text ∙ sym (append_assoc (onto a []) i.pre vs); can = record { tree = behind j.one j.two; word = j.word; fits = λ r. (j.fits_one r, j.fits_two r); text = j.text } }
  begun (s_level p) = let i = begun p in let v = i.can in record { pre = i.pre; text = i.text; can = record { tree = nested v.tree; word = v.word; fits = v.fits; text = v.text } }
  begun (s_var p) = let i = begun p in let v = i.can in record { pre = i.pre; text = i.text; can = record { tree = named v.tree; word = v.word; fits = v.fits; text = v.text } }

  split_at : {ts us : List Terminal} {rest : List Terminal} (pre : List Terminal) (at : Terminal) → ts ≡ pre ++ us → us ≡ at ∷ rest → ts ≡ (pre ++ (at ∷ [])) ++ rest
  split_at {rest = rest} pre at e f = e ∙ ap (λ (z : List Terminal). pre ++ z) f ∙ sym (append_assoc pre (at ∷ []) rest)

  -- The tokens up to one that is taken, and with it, begin a tree.
  pub record Taken (x : Phrase) (ts us : List Terminal) : Type 0 where
    pub pre : List Terminal
    pub at : Terminal
    pub rest : List Terminal
    pub here : us ≡ at ∷ rest
    pub text : ts ≡ pre ++ us
    pub can : Viable g.rule x (pre ++ (at ∷ []))

  pub begun_deep : {x : Phrase} {ts us : List Terminal} {n : ℕ} → Sinks g x ts us n → Taken x ts us
  begun_deep (k_tok {t} {a} {ts} n) = record { pre = []; at = a; rest = ts; here = refl; text = refl; can = record { tree = leaf a; word = []; fits = λ r. n; text = λ r. refl } }
  begun_deep (k_last {t} {x} {u} {ts} n) = let v = sample x in record { pre = []; at = u; rest = ts; here = refl; text = refl; can = record { tree = within u v.tree; word = v.word; fits = λ r. (n, v.fits r); text = λ r. ap (λ (z : List Terminal). u ∷ z) (v.text r) } }
  begun_deep (k_seq {x} {y} p) = let i = begun_deep p in let a = i.can in let b = sample y in record { pre = i.pre; at = i.at; rest = i.rest; here = i.here; text = i.text; can = record { tree = both a.tree b.tree; word = a.word ++ b.word; fits = λ r. (a.fits (onto b.tree r), b.fits r); text = λ r. a.text (onto b.tree r) ∙ ap (λ (z : List Terminal). (i.pre ++ (i.at ∷ [])) ++ (a.word ++ z)) (b.text r) ∙ ap (λ (z : List Terminal). (i.pre ++ (i.at ∷ [])) ++ z) (sym (append_assoc a.word b.word r)) } }
  begun_deep (k_then {us = us} {vs = vs} {a = a} p q) =
      let i = begun_deep q in
      let j = pair a us i.rest (i.pre ++ (i.at ∷ [])) (λ m h. (says g (carry g p h)).fits) (viable p) (split_at i.pre i.at i.text i.here) i.can in
      record { pre = onto a [] ++ i.pre; at = i.at; rest = i.rest; here = i.here; text = front_of (says g p) ∙ ap (λ (z : List Terminal). onto a [] ++ z) i.text ∙ sym (append_assoc (onto a []) i.pre vs); can = via (sym (append_assoc (onto a []) i.pre (i.at ∷ []))) (record { tree = both j.one j.two; word = j.word; fits = λ r. (j.fits_one r, j.fits_two r); text = j.text }) }
  begun_deep (k_former s p) = let i = begun_deep p in let v = i.can in record { pre = i.pre; at = i.at; rest = i.rest; here = i.here; text = i.text; can = record { tree = former v.tree; word = v.word; fits = v.fits; text = v.text } }
  begun_deep (k_latter s p) = let i = begun_deep p in let v = i.can in record { pre = i.pre; at = i.at; rest = i.rest; here = i.here; text = i.text; can = record { tree = latter v.tree; word = v.word; fits = v.fits; text = v.text } }
  begun_deep (k_within {u = u} q p) = let i = begun_deep p in let v = i.can in record { pre = u ∷ i.pre; at = i.at; rest = i.rest; here = i.here; text = ap (λ (z : List Terminal). u ∷ z) i.text; can = record { tree = within u v.tree; word = v.word; fits = λ r. (q, v.fits r); text = λ r. ap (λ (z : List Terminal). u ∷ z) (v.text r) } }
  begun_deep (k_start p) = let i = begun_deep p in let v = i.can in record { pre = i.pre; at = i.at; rest = i.rest; here = i.here; text = i.text; can = record { tree = start v.tree; word = v.word; fits = v.fits; text = v.text } }
  begun_deep (k_grown {u = u} {us = us} {vs = vs} {a = a} p s q) =
      let i = begun_deep q in
      let j = pair a (u ∷ us) i.rest (i.pre ++ (i.at ∷ [])) (λ m h. (grows_says g (grows_carry g p h)).fits) (grows_viable p) (split_at i.pre i.at i.text i.here) i.can in
      record { pre = onto a [] ++ i.pre; at = i.at; rest = i.rest; here = i.here; text = front_of (grows_says g p) ∙ ap (λ (z : List Terminal). onto a [] ++ z) i.text ∙ sym (append_assoc (onto a []) i.pre vs); can = via (sym (append_assoc (onto a []) i.pre (i.at ∷ []))) (record { tree = grown j.one j.two; word = j.word; fits = λ r. (j.fits_one r, j.fits_two r); text = j.text }) }
  begun_deep (k_alone p) = let i = begun_deep p in let v = i.can in record { pre = i.pre; at = i.at; rest = i.rest; here = i.here; text = i.text; can = record { tree = alone v.tree; word = v.word; fits = v.fits; text = v.text } }
  begun_deep (k_behind {u = u} {us = us} {vs = vs} {a = a} p s q) =
      let i = begun_deep q in
      let j = pair a (u ∷ us) i.rest (i.pre ++ (i.at ∷ [])) (λ m h. (says g (carry g p h)).fits) (viable p) (split_at i.pre i.at i.text i.here) i.can in
      record { pre = onto a [] ++ i.pre; at = i.at; rest = i.rest; here = i.here; text = front_of (says g p) ∙ ap (λ (z : List Terminal). onto a [] ++ z) i.text ∙ sym (append_assoc (onto a []) i.pre vs); can = via (sym (append_assoc (onto a []) i.pre (i.at ∷ []))) (record { tree = behind j.one j.two; word = j.word; fits = λ r. (j.fits_one r, j.fits_two r); text = j.text }) }
  begun_deep (k_level p) = let i = begun_deep p in let v = i.can in record { pre = i.pre; at = i.at; rest = i.rest; here = i.here; text = i.text; can = record { tree = nested v.tree; word = v.word; fits = v.fits; text = v.text } }
  begun_deep (k_var p) = let i = begun_deep p in let v = i.can in record { pre = i.pre; at = i.at; rest = i.rest; here = i.here; text = i.text; can = record { tree = named v.tree; word = v.word; fits = v.fits; text = v.text } }
