-- Each rule derives something, whatever follows it.
use Rattle.std.proofs.Common.{◌≡◌, ℕ, zero, suc, Bool, true, false, List, [], ◌∷◌, ◌++◌, refl, sym, ap, ◌∙◌, append_assoc}
use Rattle.vs_grammar.specs.Grammars.{Phrase, Terminal, onto}
use Rattle.vs_grammar.specs.Grammars.Phrase.{tok, eps, seq, alt, last, many, post, level, var}
use Rattle.vs_grammar.specs.Grammars.Tree.{leaf, nothing, both, former, latter, within, start, alone, nested, named}
use Rattle.vs_grammar.specs.Predictive.{Table, derives_some, derives_some_by}
use Rattle.vs_grammar.proofs.Viable.{Viable}

module _ (g : Table) where
  abbrev Sample : Phrase → Type 0
  Sample x = Viable g.rule x []

  -- what two tests in turn give
  both_found : (a b : Bool) → elim a [ true ↦ b | false ↦ false ] ≡ true → (a ≡ true) × (b ≡ true)
  both_found true b e = (refl, e)
  both_found false b e = cc

  sample_seq : {x y : Phrase} → Sample x → Sample y → Sample (seq x y)
  sample_seq a b = record { tree = both a.tree b.tree; word = a.word ++ b.word; fits = λ r. (a.fits (onto b.tree r), b.fits r); text = λ r. a.text (onto b.tree r) ∙ ap (λ (z : List Terminal). a.word ++ z) (b.text r) ∙ sym (append_assoc a.word b.word r) }

  sample_former : {x y : Phrase} → Sample x → Sample (alt x y)
  sample_former a = record { tree = former a.tree; word = a.word; fits = a.fits; text = a.text }

  sample_latter : {x y : Phrase} → Sample y → Sample (alt x y)
  sample_latter a = record { tree = latter a.tree; word = a.word; fits = a.fits; text = a.text }

  sample_alt : {x y : Phrase} (a b : Bool) → (a ≡ true → Sample x) → (b ≡ true → Sample y) → elim a [ true ↦ true | false ↦ b ] ≡ true → Sample (alt x y)
  sample_alt true b f h e = sample_former (f refl)
  sample_alt false b f h e = sample_latter (h e)

  sample_by : (found : ℕ → Bool) → ((n : ℕ) → found n ≡ true → Sample (g.rule n)) → (x : Phrase) → derives_some_by g found x ≡ true → Sample x
  sample_by found s (tok t) e = record { tree = leaf (record { kind = t; place = 0 }); word = record { kind = t; place = 0 } ∷ []; fits = λ r. refl; text = λ r. refl }
  sample_by found s eps e = record { tree = nothing; word = []; fits = λ r. tt; text = λ r. refl }
  sample_by found s (seq x y) e = let p = both_found (derives_some_by g found x) (derives_some_by g found y) e in sample_seq (sample_by found s x p.0) (sample_by found s y p.1)
  sample_by found s (alt x y) e = sample_alt (derives_some_by g found x) (derives_some_by g found y) (sample_by found s x) (sample_by found s y) e
  sample_by found s (last t x) e = let a = sample_by found s x e in record { tree = within (record { kind = t; place = 0 }) a.tree; word = record { kind = t; place = 0 } ∷ a.word; fits = λ r. (refl, a.fits r); text = λ r. ap (λ (z : List Terminal). record { kind = t; place = 0 } ∷ z) (a.text r) }
  sample_by found s (many b x y) e = let a = sample_by found s x e in record { tree = start a.tree; word = a.word; fits = a.fits; text = a.text }
  sample_by found s (post x y) e = let a = sample_by found s x e in record { tree = alone a.tree; word = a.word; fits = a.fits; text = a.text }
  sample_by found s (level x) e = let a = sample_by found s x e in record { tree = nested a.tree; word = a.word; fits = a.fits; text = a.text }
  sample_by found s (var n) e = let a = s n e in record { tree = named a.tree; word = a.word; fits = a.fits; text = a.text }

  pub sample_rule : (steps n : ℕ) → derives_some g steps n ≡ true → Viable g.rule (g.rule n) []
  sample_rule zero n e = cc
  sample_rule (suc steps) n e = sample_by (derives_some g steps) (sample_rule steps) (g.rule n) e
