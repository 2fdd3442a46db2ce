-- The signals of an elaborated design are its own, each at its number.
use Rattle.std.proofs.Common.{◌≡◌, ℕ, suc, ◌+◌, Bool, true, false, ◌&&◌, ◌==◌, List, [], ◌∷◌, Option, Some, None, refl, sym, ap, ◌∙◌, subst, arith, eq-eqb}
use Rattle.std.specs.Prelude.{slice_get}
use Rattle.vs_four.specs.declared.Range.{Range}
use Rattle.vs_design.specs.Expressions.{Signal, signal_length}
use Rattle.vs_design.specs.Designs.{Design}
use Rattle.vs_design.specs.Clocks.{same_name}
use Rattle.vs_design.specs.Elaborated.{same_range, same_flag, same_signal, is_this, is_signal}
use Rattle.vs_grammar.specs.Shapes.{Each}
use Rattle.vs_const.proofs.Formed.{both}
use Rattle.vs_elaborated.proofs.NumberedSignals.{Numbered}
use Rattle.vs_elaborated.proofs.SoundNames.{same_itself}

abbrev pub AreIn : Design → List Signal → Type 0
AreIn d ss = Each (λ (s : Signal). is_signal d s ≡ true) ss

range_itself : (r : Option Range) → same_range r r ≡ true
range_itself None = refl
range_itself (Some r) = both (r.left == r.left) (r.right == r.right) (eq-eqb r.left r.left refl) (eq-eqb r.right r.right refl)

flag_itself : (b : Bool) → same_flag b b ≡ true
flag_itself true = refl
flag_itself false = refl

ten : (a b c d e f g h i j : Bool) → a ≡ true → b ≡ true → c ≡ true → d ≡ true → e ≡ true → f ≡ true → g ≡ true → h ≡ true → i ≡ true → j ≡ true → (a && b && c && d && e && f && g && h && i && j) ≡ true
ten true true true true true true true true true j p q r s t u v w x y = y
ten true true true true true true true true false j p q r s t u v w x y = cc
ten true true true true true true true false i j p q r s t u v w x y = cc
ten true true true true true true false h i j p q r s t u v w x y = cc
ten true true true true true false g h i j p q r s t u v w x y = cc
ten true true true true false f g h i j p q r s t u v w x y = cc
ten true true true false e f g h i j p q r s t u v w x y = cc
ten true true false d e f g h i j p q r s t u v w x y = cc
ten true false c d e f g h i j p q r s t u v w x y = cc
ten false b c d e f g h i j p q r s t u v w x y = cc

signal_itself : (s : Signal) → same_signal s s ≡ true
signal_itself s =
    ten (same_name s.name s.name) (s.scope == s.scope) (s.number == s.number) (same_flag s.net s.net) (same_flag s.input s.input) (same_range s.range s.range) (same_flag s.signed s.signed) (s.first == s.first) (same_range s.words s.words) (same_flag s.integer s.integer) (same_itself s.name)
    (eq-eqb s.scope s.scope refl) (eq-eqb s.number s.number refl) (flag_itself s.net) (flag_itself s.input) (range_itself s.range) (flag_itself s.signed) (eq-eqb s.first s.first refl) (range_itself s.words) (flag_itself s.integer)

found_at : (d : Design) (n b c : ℕ) (ss : List Signal) → ((i : ℕ) → slice_get d.signals (n + i) ≡ slice_get ss i) → Numbered n b c ss → AreIn d ss
found_at d n b c [] f p = tt
found_at d n b c (s ∷ ss) f p = (here (f 0), found_at d (n + 1) (b + signal_length s) s.scope ss (λ i. ap (slice_get d.signals) (omega arith) ∙ f (suc i)) p.3)
  where
    here : slice_get d.signals (n + 0) ≡ Some s → is_this s (slice_get d.signals s.number) ≡ true
    here h = subst (λ o. is_this s o ≡ true) (sym (ap (slice_get d.signals) (omega (arith, p.0)) ∙ h)) (signal_itself s)

pub in_design : (d : Design) → Numbered 0 0 0 d.signals → AreIn d d.signals
in_design d p = found_at d 0 0 0 d.signals (λ i. ap (slice_get d.signals) (omega arith)) p
