-- The signals that lead, their places, and codes that are the same on all signals.
use Rattle.std.proofs.Common.{◌≡◌, ℕ, zero, suc, ◌+◌, ◌<◌, ◌≤◌, Bool, true, false, List, [], ◌∷◌, length, map, drop, refl, sym, ap, ap₂, ◌∙◌, subst, if◌then◌else◌, arith}
use Rattle.std.specs.Prelude.{slice_index_or, not, All, ◌==◌}
use Rattle.std.specs.List.{filter}
use Rattle.std.proofs.lemmas.Bool.{eq-eqb}
use Rattle.std.proofs.lemmas.List.Elements.{All-cons}
use Rattle.vs_design.specs.Expressions.{Signal, signal_length}
use Rattle.vs_design.specs.Designs.{Design}
use Rattle.vs_design.specs.Footprints.{is_memory}
use Rattle.vs_design.specs.Values.{bits_of_signal, read}
use Rattle.vs_flat.specs.Arena.{Arena}
use Rattle.vs_flat.specs.DesignOf.{design_of}
use Rattle.vs_flat.specs.Trees.{signals_from}
use Rattle.vs_flat.specs.declared.processes.Signal as F
use Rattle.vs_vcd.specs.Scopes.{shown_signals}
use Rattle.vs_vcd.specs.Shared.{coded_by, led_by, led, leads, leading_from, code_of, code_at, class_code, at_places, AreCodes, PlacesLead}
use Rattle.vs_vcd.proofs.Grouping.{by_bool}

-- ---- filters

filter-in : {A : Type 0} (f : A → Bool) (x : A) (xs : List A) → f x ≡ true → filter f (x ∷ xs) ≡ x ∷ filter f xs
filter-in f x xs e = ap (λ (t : Bool). if t then (x ∷ filter f xs) else filter f xs) e

filter-out : {A : Type 0} (f : A → Bool) (x : A) (xs : List A) → f x ≡ false → filter f (x ∷ xs) ≡ filter f xs
filter-out f x xs e = ap (λ (t : Bool). if t then (x ∷ filter f xs) else filter f xs) e

-- one after the other, in either order
pub filters_swap : {A : Type 0} (f g : A → Bool) (xs : List A) → filter f (filter g xs) ≡ filter g (filter f xs)
filters_swap f g [] = refl
filters_swap f g (x ∷ xs) =
    let rest = filters_swap f g xs in
    by_bool (filter f (filter g (x ∷ xs)) ≡ filter g (filter f (x ∷ xs))) (f x)
    (λ p. by_bool (filter f (filter g (x ∷ xs)) ≡ filter g (filter f (x ∷ xs))) (g x)
    (λ q. ap (filter f) (filter-in g x xs q) ∙ filter-in f x (filter g xs) p ∙ ap (λ ys. x ∷ ys) rest ∙ sym (filter-in g x (filter f xs) q) ∙ sym (ap (filter g) (filter-in f x xs p)))
    (λ q. ap (filter f) (filter-out g x xs q) ∙ rest ∙ sym (filter-out g x (filter f xs) q) ∙ sym (ap (filter g) (filter-in f x xs p))))
    (λ p. by_bool (filter f (filter g (x ∷ xs)) ≡ filter g (filter f (x ∷ xs))) (g x)
    (λ q. ap (filter f) (filter-in g x xs q) ∙ filter-out f x (filter g xs) p ∙ rest ∙ sym (ap (filter g) (filter-out f x xs p)))
    (λ q. ap (filter f) (filter-out g x xs q) ∙ rest ∙ sym (ap (filter g) (filter-out f x xs p))))

-- ---- codes that are the same

-- on the numbers of these signals
abbrev pub Agree : (f g : ℕ → ℕ) → List Signal → Type 0
Agree f g [] = Unit {0}
Agree f g (s ∷ ss) = (f s.number ≡ g s.number) × Agree f g ss

agree-filter : (f g : ℕ → ℕ) (test : Signal → Bool) (ss : List Signal) → Agree f g ss → Agree f g (filter test ss)
agree-filter f g test [] h = tt
agree-filter f g test (s ∷ ss) h =
    let rest = agree-filter f g test ss h.1 in
    by_bool (Agree f g (filter test (s ∷ ss))) (test s)
    (λ p. subst (Agree f g) (sym (filter-in test s ss p)) (h.0, rest))
    (λ p. subst (Agree f g) (sym (filter-out test s ss p)) rest)

abbrev with_code : (ℕ → ℕ) → Signal → Signal
with_code code s = record s { number = code s.number }

coded-same : (f g : ℕ → ℕ) (ss : List Signal) → Agree f g ss → map (with_code f) ss ≡ map (with_code g) ss
coded-same f g [] h = refl
coded-same f g (s ∷ ss) h = ap₂ (λ (n : ℕ) (rest : List Signal). record s { number = n } ∷ rest) h.0 (coded-same f g ss h.1)

leads-same : (f g : ℕ → ℕ) (s : Signal) → f s.number ≡ g s.number → leads f s ≡ leads g s
leads-same f g s e = ap (λ (n : ℕ). n == s.number) e

led-same : (f g : ℕ → ℕ) (ss : List Signal) → Agree f g ss → filter (leads f) ss ≡ filter (leads g) ss
led-same f g [] h = refl
led-same f g (s ∷ ss) h = ap₂ (λ (t : Bool) (rest : List Signal). if t then (s ∷ rest) else rest) (leads-same f g s h.0) (led-same f g ss h.1)

places-same : (f g : ℕ → ℕ) (k : ℕ) (ss : List Signal) → Agree f g ss → leading_from f k ss ≡ leading_from g k ss
places-same f g k [] h = refl
places-same f g k (s ∷ ss) h = ap₂ (λ (t : Bool) (rest : List ℕ). if t then (k ∷ rest) else rest) (leads-same f g s h.0) (places-same f g (suc k) ss h.1)

-- each signal's own number
own-same : (ss : List Signal) → map (with_code (λ n. n)) ss ≡ ss
own-same [] = refl
own-same (s ∷ ss) = ap (λ (rest : List Signal). s ∷ rest) (own-same ss)

pub led-own : (ss : List Signal) → filter (leads (λ n. n)) ss ≡ ss
led-own [] = refl
led-own (s ∷ ss) = filter-in (leads (λ n. n)) s ss (eq-eqb s.number s.number refl) ∙ ap (λ (rest : List Signal). s ∷ rest) (led-own ss)

agree-all : (f g : ℕ → ℕ) (ss : List Signal) → ((n : ℕ) → f n ≡ g n) → Agree f g ss
agree-all f g [] h = tt
agree-all f g (s ∷ ss) h = (h s.number, agree-all f g ss h)

-- where each signal has its own code
pub coded_own : (code : ℕ → ℕ) (d : Design) → ((n : ℕ) → code n ≡ n) → coded_by code d ≡ d
coded_own code d h = ap (λ (ss : List Signal). record d { signals = ss }) (coded-same code (λ n. n) d.signals (agree-all code (λ n. n) d.signals h) ∙ own-same d.signals)

pub led_own : (code : ℕ → ℕ) (d : Design) → ((n : ℕ) → code n ≡ n) → led_by code d ≡ d
led_own code d h = ap (λ (ss : List Signal). record d { signals = ss }) (led-same code (λ n. n) d.signals (agree-all code (λ n. n) d.signals h) ∙ led-own d.signals)

-- the signals of a flat design have the numbers of their places
agree-from : (f g : ℕ → ℕ) (k : ℕ) (ss : List F.Signal) → ((n : ℕ) → k ≤ n → n < k + length ss → f n ≡ g n) → Agree f g (signals_from k ss)
agree-from f g k [] h = tt
agree-from f g k (s ∷ ss) h = (h k (omega arith) (omega arith), agree-from f g (suc k) ss (λ n low high. h n (omega arith) (omega arith)))

pub agree_in : (f g : ℕ → ℕ) (a : Arena) → ((n : ℕ) → n < length a.signals → f n ≡ g n) → Agree f g (design_of a).signals
agree_in f g a h = agree-from f g 0 a.signals (λ n low high. h n (omega arith))

code_at-none : (n : ℕ) → code_at [] n ≡ n
code_at-none n = refl

-- no codes are kept, and each signal has its own
pub own_codes : (d : Design) → AreCodes false d []
own_codes d =
    let h : Agree (code_at []) (λ n. n) (shown_signals d) = agree-all (code_at []) (λ n. n) (shown_signals d) code_at-none in
    record { coded_is = coded_own (code_at []) d code_at-none; led_is = led_own (code_at []) d code_at-none; places_are = places-same (code_at []) (λ n. n) 0 (shown_signals d) h }

-- the codes of all classes are kept
pub class_codes : (codes : List ℕ) (d : Design) → Agree (code_at codes) (class_code d) d.signals → AreCodes true d codes
class_codes codes d h = record {
  coded_is = ap (λ (ss : List Signal). record d { signals = ss }) (coded-same (code_at codes) (class_code d) d.signals h);
  led_is = ap (λ (ss : List Signal). record d { signals = ss }) (led-same (code_at codes) (class_code d) d.signals h);
  places_are = places-same (code_at codes) (class_code d) 0 (shown_signals d) (agree-filter (code_at codes) (class_code d) (λ s. not (is_memory s)) d.signals h);
}

-- ---- places

no_cons : {A : Type 0} (y : A) (zs : List A) → [] ≡ y ∷ zs → ⊥
no_cons y zs h = cc

same_cons : {A : Type 0} (x y : A) (ys zs : List A) → x ∷ ys ≡ y ∷ zs → (x ≡ y) × (ys ≡ zs)
same_cons x y ys zs h = (cc, cc)

drop-first : {A : Type 0} (none : A) (ys : List A) (k : ℕ) (y : A) (zs : List A) → drop k ys ≡ y ∷ zs → (slice_index_or ys k none ≡ y) × (drop (suc k) ys ≡ zs)
drop-first none [] zero y zs e = absurd (no_cons y zs e)
drop-first none [] (suc k) y zs e = absurd (no_cons y zs e)
drop-first none (x ∷ ys) zero y zs e = same_cons x y ys zs e
drop-first none (x ∷ ys) (suc k) y zs e = drop-first none ys k y zs e

-- what stands at the places of those that lead
at_leading : {A : Type 0} (none : A) (f : Signal → A) (code : ℕ → ℕ) (ys : List A) (k : ℕ) (ss : List Signal) → drop k ys ≡ map f ss → at_places none (leading_from code k ss) ys ≡ map f (filter (leads code) ss)
at_leading none f code ys k [] e = refl
at_leading none f code ys k (s ∷ ss) e =
    let first = drop-first none ys k (f s) (map f ss) e in
    let rest = at_leading none f code ys (suc k) ss first.1 in
    by_bool (at_places none (leading_from code k (s ∷ ss)) ys ≡ map f (filter (leads code) (s ∷ ss))) (leads code s)
    (λ p. ap (λ (t : Bool). at_places none (if t then (k ∷ leading_from code (suc k) ss) else leading_from code (suc k) ss) ys) p
    ∙ ap₂ (λ x xs. x ∷ xs) first.0 rest
    ∙ sym (ap (map f) (filter-in (leads code) s ss p)))
    (λ p. ap (λ (t : Bool). at_places none (if t then (k ∷ leading_from code (suc k) ss) else leading_from code (suc k) ss) ys) p
    ∙ rest
    ∙ sym (ap (map f) (filter-out (leads code) s ss p)))

-- they are places of signals
leading-within : (code : ℕ → ℕ) (k most : ℕ) (ss : List Signal) → k + length ss ≤ most → All (λ n. n < most) (leading_from code k ss)
leading-within code k most [] h = λ i d inside. absurd (omega arith)
leading-within code k most (s ∷ ss) h =
    let rest = leading-within code (suc k) most ss (omega arith) in
    by_bool (All (λ n. n < most) (leading_from code k (s ∷ ss))) (leads code s)
    (λ p. subst (λ (t : Bool). All (λ n. n < most) (if t then (k ∷ leading_from code (suc k) ss) else leading_from code (suc k) ss)) (sym p) (All-cons (λ n. n < most) k (leading_from code (suc k) ss) (omega arith) rest))
    (λ p. subst (λ (t : Bool). All (λ n. n < most) (if t then (k ∷ leading_from code (suc k) ss) else leading_from code (suc k) ss)) (sym p) rest)

-- those of a design that lead and have lines
shown_led : (share : Bool) (d : Design) → filter (leads (code_of share d)) (shown_signals d) ≡ shown_signals (led share d)
shown_led false d = led-own (shown_signals d)
shown_led true d = filters_swap (leads (class_code d)) (λ (s : Signal). not (is_memory s)) d.signals

pub places_lead : (share : Bool) (d : Design) → PlacesLead share d
places_lead share d = record {
  within = leading-within (code_of share d) 0 (length (shown_signals d)) (shown_signals d) (omega arith);
  lengths = at_leading 0 signal_length (code_of share d) (map signal_length (shown_signals d)) 0 (shown_signals d) refl ∙ ap (map signal_length) (shown_led share d);
  values = λ state. at_leading [] (λ (s : Signal). read state (bits_of_signal s)) (code_of share d) _ 0 (shown_signals d) refl ∙ ap (map (λ (s : Signal). read state (bits_of_signal s))) (shown_led share d);
}
