-- Flags of bits.
use Rattle.std.proofs.Common.{◌≡◌, ℕ, ◌+◌, ◌<◌, ◌≤◌, Bool, true, false, List, [], ◌∷◌, ◌++◌, ◌||◌, ◌==◌, length, get_or, replicate, take, drop, drop_of_length-le, slice_set, sym, ap, ◌∙◌, subst, refl, arith, eqb-true, eq-eqb, length-set}
use Rattle.std.specs.List.{list_any}
use Rattle.std.proofs.lemmas.List.{length-replicate, get_or-replicate, at_drop_more, take_more, take_all, get_or-set_same, get_or-set_other}
use Rattle.vs_design.specs.Footprints.{contains}
use Rattle.vs_assemble.specs.Flags.{AreFlags}
use Rattle.vs_assemble.proofs.Lists.{by_test, contains-append}

pub flag_next : (set bits : List ℕ) (n : ℕ) → n < length bits → contains set (get_or bits n 0) ≡ false → list_any (contains set) (drop (n + 1) bits) ≡ list_any (contains set) (drop n bits)
flag_next set bits n l e = sym (at_drop_more (list_any (contains set)) bits n 0 l ∙ ap (λ c. c || list_any (contains set) (drop (n + 1) bits)) e)

pub flag_found : (set bits : List ℕ) (n : ℕ) → n < length bits → contains set (get_or bits n 0) ≡ true → list_any (contains set) (drop n bits) ≡ true
flag_found set bits n l e = at_drop_more (list_any (contains set)) bits n 0 l ∙ ap (λ c. c || list_any (contains set) (drop (n + 1) bits)) e

pub flag_end : (set bits : List ℕ) (n : ℕ) → length bits ≤ n → list_any (contains set) (drop n bits) ≡ false
flag_end set bits n l = ap (list_any (contains set)) (drop_of_length-le bits l)

pub set_more : (flags : List Bool) (set bits : List ℕ) (n : ℕ) → n < length bits → get_or bits n 0 < length flags → AreFlags flags (take n bits ++ set) → AreFlags (slice_set flags (get_or bits n 0) true) (take (n + 1) bits ++ set)
set_more flags set bits n l below are = record {
  flag = λ b lt.
      let bit : ℕ = get_or bits n 0 in
      let long : length (slice_set flags bit true) ≡ length flags = length-set flags bit true in
      by_test (b == bit)
      (λ e.
      let same : b ≡ bit = eqb-true b bit e in
      ap (λ k. get_or (slice_set flags bit true) k false) same ∙ get_or-set_same flags bit true false below ∙ sym (shape b ∙ ap (λ c. (contains (take n bits) b || (c || false)) || contains set b) e ∙ found (contains (take n bits) b) (contains set b)))
      (λ e.
      get_or-set_other flags bit b true false (λ h. differs b bit e h)
      ∙ are.flag b (omega (arith, lt, long))
      ∙ contains-append (take n bits) set b
      ∙ sym (shape b ∙ ap (λ c. (contains (take n bits) b || (c || false)) || contains set b) e ∙ ap (λ c. c || contains set b) (or_false (contains (take n bits) b))));
}
  where
    shape : (b : ℕ) → contains (take (n + 1) bits ++ set) b ≡ ((contains (take n bits) b || ((b == get_or bits n 0) || false)) || contains set b)
    shape b = contains-append (take (n + 1) bits) set b
        ∙ ap (λ xs. contains xs b || contains set b) (take_more bits n 0 l)
        ∙ ap (λ c. c || contains set b) (contains-append (take n bits) (get_or bits n 0 ∷ []) b)

    found : (u v : Bool) → ((u || (true || false)) || v) ≡ true
    found true v = refl
    found false v = refl

    or_false : (u : Bool) → (u || (false || false)) ≡ u
    or_false true = refl
    or_false false = refl

    differs : (b bit : ℕ) → (b == bit) ≡ false → b ≡ bit → ⊥
    differs b bit e h = let k : (b == bit) ≡ true = eq-eqb b bit h in cc

pub set_end : (flags : List Bool) (set bits : List ℕ) (n : ℕ) → length bits ≤ n → AreFlags flags (take n bits ++ set) → AreFlags flags (bits ++ set)
set_end flags set bits n l are = subst (λ xs. AreFlags flags (xs ++ set)) (take_all n bits l) are

-- flags of one list are those of each list with the same bits
pub same_flags : (flags : List Bool) (bs cs : List ℕ) → ((b : ℕ) → contains bs b ≡ contains cs b) → AreFlags flags bs → AreFlags flags cs
same_flags flags bs cs same are = record { flag = λ b l. are.flag b l ∙ same b }

pub same_more : (bs cs set : List ℕ) → ((b : ℕ) → contains bs b ≡ contains cs b) → (b : ℕ) → contains (bs ++ set) b ≡ contains (cs ++ set) b
same_more bs cs set same b = contains-append bs set b ∙ ap (λ c. c || contains set b) (same b) ∙ sym (contains-append cs set b)

-- where no flag is set there is no bit
pub none_set : (n : ℕ) → AreFlags (replicate n false) []
none_set n = record { flag = λ b l. let long = length-replicate n false in get_or-replicate n b false false (omega (arith, l, long)) }
