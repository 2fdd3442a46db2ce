-- The clocks of an accepted design are bits of it, each once, or there is the spare one alone.
use Rattle.std.proofs.Common.{◌≡◌, ℕ, zero, suc, ◌+◌, ◌≤◌, ◌<◌, nat_lt, arith, Bool, true, false, not, List, [], ◌∷◌, ◌++◌, ◌&&◌, ◌||◌, ◌==◌, if◌then◌else◌, ◌⊎◌, map, filter, length, Option, Some, None, sym, ap, ◌∙◌, subst, refl, eqb-true, eq-eqb, inl, inr, slice_get}
use Rattle.std.specs.List.{list_any}
use Rattle.std.proofs.lemmas.Bool.{and_parts, both_ways}
use Rattle.vs_design.specs.Expressions.{Signal, signal_length, Expression}
use Rattle.vs_design.specs.Values.{count_from, bits_of_signal}
use Rattle.vs_design.specs.Statements.{Whole, PartOf, WordOf, WordPartOf, Both}
use Rattle.vs_design.specs.Designs.{Process, Continuous, Always, Design, top_inputs, bit_count}
use Rattle.vs_design.specs.Footprints.{contains, input_bits, without}
use Rattle.vs_design.specs.Elaborated.{have_bits_from}
use Rattle.vs_design.specs.Clocks.{clock_bits, clock_inputs, and_inputs, named_input, named_inputs, same_name, spare_clock, own_clocks, is_one_of, name_of, port_target, port_targets, nets_within}
use Rattle.vs_cone.proofs.Writes.{by_test}
use Rattle.vs_cone.proofs.Processes.{some_is}
use Rattle.vs_cone.proofs.ClockWriters.{InputAt, names_place, found}
use Rattle.vs_cone.proofs.Given.{input_below, bit_of_signal, one_first, from_filter}

or_right : (u v : Bool) → v ≡ true → (u || v) ≡ true
or_right true v h = refl
or_right false v h = h

-- the bit of a one-bit input is an input's
pub input_bit : (d : Design) (c : ℕ) → InputAt d c → contains (input_bits d) c ≡ true
input_bit d c p =
    bit_of_signal (top_inputs d) p.number p.signal c p.there
    (ap (λ m. contains (count_from p.signal.first m) c) p.one ∙ ap (λ b. b || false) (eq-eqb c p.signal.first (sym p.at)))

all_own : (count : ℕ) (cs : List ℕ) → ((b : ℕ) → contains cs b ≡ true → b < count) → filter (λ c. nat_lt c count) cs ≡ cs
all_own count [] f = refl
all_own count (c ∷ cs) f =
    ap (λ (t : Bool). if t then (c ∷ filter (λ k. nat_lt k count) cs) else filter (λ k. nat_lt k count) cs) (below c count (f c (ap (λ t. t || contains cs c) (eq-eqb c c refl))))
    ∙ ap (λ (xs : List ℕ). c ∷ xs) (all_own count cs (λ b h. f b (or_right (b == c) (contains cs b) h)))
  where
    below : (m n : ℕ) → m < n → nat_lt m n ≡ true
    below m n l = grind arith

pub own_or_spare : (d : Design) (names : List (List ℕ)) (ss : List Signal) → clock_inputs d names ≡ Some ss → have_bits_from 0 d.signals ≡ true
    → (own_clocks d (clock_bits ss) ≡ clock_bits ss) ⊎ ((own_clocks d (clock_bits ss) ≡ []) × ((c : ℕ) × (clock_bits ss ≡ c ∷ []) × (bit_count d ≤ c)))
own_or_spare d [] ss e numbered =
    let is : spare_clock d ∷ [] ≡ ss = some_is (spare_clock d ∷ []) ss e in
    inr (subst (λ (xs : List Signal). own_clocks d (clock_bits xs) ≡ []) is (ap (λ (t : Bool). if t then (bit_count d ∷ []) else []) (not_below (bit_count d))), (bit_count d, sym (ap clock_bits is), omega arith))
  where
    not_below : (n : ℕ) → nat_lt n n ≡ false
    not_below n = grind arith
own_or_spare d (name ∷ names) ss e numbered =
    inl (all_own (bit_count d) (clock_bits ss) (λ b h. input_below d numbered b (input_bit d b (names_place d (name ∷ names) ss e b h))))

-- ---- no clock has no nets

no_one : (o : Option Signal) → is_one_of [] o ≡ false
no_one None = refl
no_one (Some s) = and_false (signal_length s == 1)
  where
    and_false : (a : Bool) → (a && false) ≡ false
    and_false true = refl
    and_false false = refl

no_target : (x : Process) → port_target [] x ≡ []
no_target (Continuous place port target_place (Whole signal) e) = ap (λ (b : Bool). if b && (signal_length signal == 1) then (signal.first ∷ []) else []) (no_one (name_of e))
no_target (Continuous place port target_place (PartOf signal part index) e) = refl
no_target (Continuous place port target_place (WordOf signal index) e) = refl
no_target (Continuous place port target_place (WordPartOf signal address part index) e) = refl
no_target (Continuous place port target_place (Both high low) e) = refl
no_target (Always place star events statement) = refl

no_targets : (xs : List Process) → port_targets [] xs ≡ []
no_targets [] = refl
no_targets (x ∷ xs) = ap (λ (bs : List ℕ). bs ++ port_targets [] xs) (no_target x) ∙ no_targets xs

pub no_nets : (n : ℕ) (xs : List Process) → nets_within n xs [] ≡ []
no_nets zero xs = refl
no_nets (suc n) xs = ap (λ (nets : List ℕ). port_targets nets xs) (no_nets n xs) ∙ no_targets xs

pub none_within : (n : ℕ) (xs : List Process) (b : ℕ) → contains (nets_within n xs []) b ≡ true → ⊥
none_within n xs b h = let k : contains [] b ≡ true = subst (λ (nets : List ℕ). contains nets b ≡ true) (no_nets n xs) h in cc

-- ---- each clock is there once

abbrev pub AreOnce : List ℕ → Type 0
AreOnce [] = Unit {0}
AreOnce (c ∷ cs) = (contains cs c ≡ false) × AreOnce cs

same_is : (xs ys : List ℕ) → same_name xs ys ≡ true → xs ≡ ys
same_is [] [] h = refl
same_is [] (y ∷ ys) h = cc
same_is (x ∷ xs) [] h = cc
same_is (x ∷ xs) (y ∷ ys) h =
    let parts = and_parts (x == y) (same_name xs ys) h in
    ap (λ (zs : List ℕ). x ∷ zs) (same_is xs ys parts.1) ∙ ap (λ n. n ∷ ys) (eqb-true x y parts.0)

same_self : (xs : List ℕ) → same_name xs xs ≡ true
same_self [] = refl
same_self (x ∷ xs) = ap (λ t. t && same_name xs xs) (eq-eqb x x refl) ∙ same_self xs

-- the input of one of these names
record NamedAt (d : Design) (names : List (List ℕ)) (c : ℕ) : Type 0 where
  name : List ℕ
  among : list_any (same_name name) names ≡ true
  signal : Signal
  is : named_input d name ≡ Some signal
  at : signal.first ≡ c

named_at : (d : Design) (names : List (List ℕ)) (ss : List Signal) → named_inputs d names ≡ Some ss → (c : ℕ) → contains (clock_bits ss) c ≡ true → NamedAt d names c
named_at d [] ss e c h = absurd (let k : false ≡ true = subst (λ (xs : List Signal). contains (clock_bits xs) c ≡ true) (sym (some_is [] ss e)) h in cc)
named_at d (name ∷ names) ss e c h =
    by_test (list_any (same_name name) names)
    (λ t. absurd (let k : None ≡ Some ss = subst (λ (b : Bool). (if b then None else and_inputs (named_input d name) (named_inputs d names)) ≡ Some ss) t e in cc))
    (λ t. split (named_input d name) refl (named_inputs d names) refl (subst (λ (b : Bool). (if b then None else and_inputs (named_input d name) (named_inputs d names)) ≡ Some ss) t e) (λ more rest has. named_at d names more rest c has))
  where
    split : (o : Option Signal) → named_input d name ≡ o → (q : Option (List Signal)) → named_inputs d names ≡ q → and_inputs o q ≡ Some ss → ((more : List Signal) → named_inputs d names ≡ Some more → contains (clock_bits more) c ≡ true → NamedAt d names c) → NamedAt d (name ∷ names) c
    split None first q rest k later = cc
    split (Some s) first None rest k later = cc
    split (Some s) first (Some more) rest k later =
        let has : ((c == s.first) || contains (clock_bits more) c) ≡ true = subst (λ (xs : List Signal). contains (clock_bits xs) c ≡ true) (sym (some_is (s ∷ more) ss k)) h in
        by_test (c == s.first)
        (λ t. record { name = name; among = ap (λ b. b || list_any (same_name name) names) (same_self name); signal = s; is = first; at = sym (eqb-true c s.first t) })
        (λ t.
        let r = later more rest (subst (λ (b : Bool). (b || contains (clock_bits more) c) ≡ true) t has) in
        record { name = r.name; among = or_right (same_name r.name name) (list_any (same_name r.name) names) r.among; signal = r.signal; is = r.is; at = r.at })

pub named_once : (d : Design) → have_bits_from 0 d.signals ≡ true → (names : List (List ℕ)) (ss : List Signal) → named_inputs d names ≡ Some ss → AreOnce (clock_bits ss)
named_once d numbered [] ss e = subst (λ (xs : List Signal). AreOnce (clock_bits xs)) (some_is [] ss e) tt
named_once d numbered (name ∷ names) ss e =
    by_test (list_any (same_name name) names)
    (λ t. absurd (let k : None ≡ Some ss = subst (λ (b : Bool). (if b then None else and_inputs (named_input d name) (named_inputs d names)) ≡ Some ss) t e in cc))
    (λ t. split t (named_input d name) refl (named_inputs d names) refl (subst (λ (b : Bool). (if b then None else and_inputs (named_input d name) (named_inputs d names)) ≡ Some ss) t e) (λ more rest. named_once d numbered names more rest))
  where
    split : list_any (same_name name) names ≡ false → (o : Option Signal) → named_input d name ≡ o → (q : Option (List Signal)) → named_inputs d names ≡ q → and_inputs o q ≡ Some ss → ((more : List Signal) → named_inputs d names ≡ Some more → AreOnce (clock_bits more)) → AreOnce (clock_bits ss)
    split new None first q rest k later = cc
    split new (Some s) first None rest k later = cc
    split new (Some s) first (Some more) rest k later = subst (λ (xs : List Signal). AreOnce (clock_bits xs)) (some_is (s ∷ more) ss k) (apart, later more rest)
      where
        apart : contains (clock_bits more) s.first ≡ false
        apart = by_test (contains (clock_bits more) s.first)
            (λ has.
            let r = named_at d names more rest s.first has in
            let f = found (λ x. x.input && same_name x.name name && (signal_length x == 1)) d.signals s first in
            let g = found (λ x. x.input && same_name x.name r.name && (signal_length x == 1)) d.signals r.signal r.is in
            let same : s ≡ r.signal = one_first 0 d.signals f.0 g.0 s r.signal numbered f.1 g.1 (sym r.at) in
            let mine : same_name s.name name ≡ true = (and_parts s.input (same_name s.name name) (and_parts (s.input && same_name s.name name) (signal_length s == 1) f.2).0).1 in
            let theirs : same_name r.signal.name r.name ≡ true = (and_parts r.signal.input (same_name r.signal.name r.name) (and_parts (r.signal.input && same_name r.signal.name r.name) (signal_length r.signal == 1) g.2).0).1 in
            let names_same : r.name ≡ name = sym (same_is r.signal.name r.name theirs) ∙ ap (λ (x : Signal). x.name) (sym same) ∙ same_is s.name name mine in
            absurd (both_ways (list_any (same_name name) names) new (subst (λ (n : List ℕ). list_any (same_name n) names ≡ true) names_same r.among)))
            (λ has. has)

-- ---- what is left of bits without them

pub without_less : (bs cs : List ℕ) (c : ℕ) → length (without (without bs (c ∷ [])) cs) ≡ length (without bs (c ∷ cs))
without_less [] cs c = refl
without_less (b ∷ bs) cs c =
    by_test (b == c)
    (λ e. rw e (without_less bs cs c))
    (λ e. by_test (contains cs b) (λ k. rw (e, k) (without_less bs cs c)) (λ k. rw (e, k) (ap suc (without_less bs cs c))))
