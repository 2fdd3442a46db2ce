-- The signals of the design that a name stands for, one after the other.
use Rattle.std.proofs.Common.{◌≡◌, ◌+◌, ℕ, zero, suc, Bool, true, false, ◌&&◌, List, [], ◌∷◌, ◌++◌, map, length, Option, Some, None, is_some, refl, sym, ap, ◌∙◌, append_assoc, add-one, arith}
use Rattle.std.proofs.lemmas.List.{map-append}
use Rattle.vs_four.specs.declared.Range.{Range}
use Rattle.vs_four.specs.Selects.{range_length}
use Rattle.vs_design.specs.Expressions as design
use Rattle.vs_design.specs.Expressions.{addresses, range_or_zero}
use Rattle.vs_design.specs.Values.{count_from}
use Rattle.vs_const.specs.Selects.{array_net}
use Rattle.vs_elaborated.specs.Signals.{nets_if, nets_of}
use Rattle.vs_scope.specs.declared.names.Signal.{Signal}
use Rattle.vs_scope.specs.Signalled.{net, nets_in}

-- the nets of an array from its least address on
abbrev pub nets_below : design.Signal → ℕ → List design.Signal
nets_below s k = map (array_net s) (count_from (addresses s).right k)

-- a name that isn't that of an array stands for itself
pub one_signal : (s : design.Signal) → s.words ≡ None → nets_of s ≡ s ∷ []
one_signal s h = ap (λ (b : Bool). nets_if b s) (neither s.net s.words h)
  where
    neither : (b : Bool) (o : Option Range) → o ≡ None → (b && is_some o) ≡ false
    neither true o h = cc
    neither false o h = refl

pub one_variable : (s : design.Signal) → s.net ≡ false → nets_of s ≡ s ∷ []
one_variable s h = ap (λ (b : Bool). nets_if (b && is_some s.words) s) h

pub many_nets : (s : design.Signal) (r : Range) → s.net ≡ true → s.words ≡ Some r → nets_of s ≡ nets_below s (range_length r)
many_nets s r h e =
    ap (λ (b : Bool). nets_if (b && is_some s.words) s) h
    ∙ ap (λ (o : Option Range). nets_if (is_some o) s) e
    ∙ ap (λ (o : Option Range). nets_below s (range_length (range_or_zero o))) e

count_length : {A : Type 0} (f : ℕ → A) (first n : ℕ) → length (map f (count_from first n)) ≡ n
count_length f first zero = refl
count_length f first (suc n) = ap suc (count_length f (suc first) n)

pub many_length : (s : design.Signal) (r : Range) → s.net ≡ true → s.words ≡ Some r → range_length r ≡ length (nets_of s)
many_length s r h e = sym (ap length (many_nets s r h e) ∙ count_length (array_net s) (addresses s).right (range_length r))

-- one number more
count_more : {A : Type 0} (f : ℕ → A) (first n : ℕ) → map f (count_from first (suc n)) ≡ map f (count_from first n) ++ f (first + n) ∷ []
count_more f first zero = ap (λ (m : ℕ). f m ∷ []) (let e : first ≡ first + 0 = omega arith in e)
count_more f first (suc n) =
    let e : suc first + n ≡ first + suc n = omega arith in
    ap (λ (r : List _). f first ∷ r) (count_more f (suc first) n ∙ ap (λ (m : ℕ). map f (count_from (suc first) n) ++ f m ∷ []) e)

-- one net more
pub net_more : (s : design.Signal) (old list more : List Signal) (x : Signal) (right k : ℕ) → right ≡ (addresses s).right → net x ≡ array_net s (right + k) → more ≡ list ++ x ∷ [] → map net list ≡ map net old ++ nets_below s k
    → map net more ≡ map net old ++ nets_below s (k + 1)
net_more s old list more x right k a h m so_far =
    ap (map net) m ∙ map-append net list (x ∷ [])
    ∙ ap (λ (r : List design.Signal). r ++ net x ∷ []) so_far
    ∙ append_assoc (map net old) (nets_below s k) (net x ∷ [])
    ∙ ap (λ (y : design.Signal). map net old ++ (nets_below s k ++ y ∷ [])) (h ∙ ap (λ (n : ℕ). array_net s (n + k)) a)
    ∙ ap (λ (r : List design.Signal). map net old ++ r) (sym (ap (nets_below s) (add-one k) ∙ count_more (array_net s) (addresses s).right k))

-- one signal more that is no array
pub single_more : (s x : Signal) (old more : List Signal) → nets_in s ≡ net s ∷ [] → net x ≡ net s → more ≡ old ++ x ∷ [] → map net more ≡ map net old ++ nets_in s
single_more s x old more one is m =
    ap (map net) m ∙ map-append net old (x ∷ []) ∙ ap (λ (y : design.Signal). map net old ++ y ∷ []) is ∙ ap (λ (r : List design.Signal). map net old ++ r) (sym one)
