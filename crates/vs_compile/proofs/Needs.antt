-- What a process reads or waits on.
use Rattle.std.proofs.Common.{◌≡◌, ℕ, ◌<◌, Bool, true, false, not, ◌&&◌, ◌||◌, List, [], ◌∷◌, length, if◌then◌else◌, sym, ap, ◌∙◌, refl}
use Rattle.std.proofs.lemmas.Bool.{both_ways}
use Rattle.vs_design.specs.Designs.{Process, is_combinational}
use Rattle.vs_design.specs.Footprints.{all_reads, contains, reads_of, signals_bits, wait_signals, waits_of, without, writes_of}
use Rattle.vs_design.specs.Levels.{needs}
use Rattle.vs_design.specs.Rules.{missing_bits}
use Rattle.vs_reads.specs.Laws as R
use Rattle.vs_assemble.specs.Flags.{HasBitsOf}
use Rattle.vs_compile.proofs.Lists.{all_from, and_true, by_test, contains-append, contains_without, none_in}

-- lists with the bits of each other
pub bits_of : (count : ℕ) (list all : List ℕ) → R.HasBitsOf count list all → HasBitsOf count list all
bits_of count list all h = record { same = h.same; below = all_from (λ b. b < count) list h.below }

not_true : (u : Bool) → not u ≡ true → u ≡ false
not_true true h = cc
not_true false h = refl

or_false : (u : Bool) → (u || false) ≡ u
or_false true = refl
or_false false = refl

-- an empty list of waits
pub reads_are_all : (count : ℕ) (x : Process) (reads waits : List ℕ) → R.HasBitsOf count reads (reads_of x) → R.HasBitsOf count waits (waits_of x) → length waits ≡ 0 → HasBitsOf count reads (needs x)
reads_are_all count x reads waits r w none = record {
  same = λ b.
      let no : contains (waits_of x) b ≡ false = sym (w.same b) ∙ none_in waits none b in
      r.same b ∙ sym (contains-append (reads_of x) (waits_of x) b ∙ ap (λ c. contains (reads_of x) b || c) no ∙ or_false (contains (reads_of x) b));
  below = all_from (λ b. b < count) reads r.below;
}

-- what a combinational block reads it waits on, where no bit is missing
waits_on : (x : Process) → is_combinational x ≡ true → missing_bits x ≡ [] → (b : ℕ) → contains (reads_of x) b ≡ true → contains (waits_of x) b ≡ true
waits_on x comb none b h =
    let signals = signals_bits (wait_signals x) in
    let missing : missing_bits x ≡ without (reads_of x) signals = ap (λ (t : Bool). if t then without (reads_of x) signals else []) comb in
    let read : reads_of x ≡ without (all_reads x) (writes_of x) = ap (λ (t : Bool). if t then without (all_reads x) (writes_of x) else all_reads x) comb in
    let wait : waits_of x ≡ without signals (writes_of x) = ap (λ (t : Bool). if t then without signals (writes_of x) else []) comb in
    let both = and_true (contains (all_reads x) b) (not (contains (writes_of x) b)) (sym (contains_without (all_reads x) (writes_of x) b) ∙ sym (ap (λ bs. contains bs b) read) ∙ h) in
    let absent : contains (without (reads_of x) signals) b ≡ false = ap (λ bs. contains bs b) (sym missing ∙ none) in
    let named : contains signals b ≡ true = by_test (contains signals b) (λ e. e)
    (λ e. absurd (both_ways (contains (without (reads_of x) signals) b) absent (contains_without (reads_of x) signals b ∙ ap (λ c. c && not (contains signals b)) h ∙ ap not e))) in
    ap (λ bs. contains bs b) wait ∙ contains_without signals (writes_of x) b ∙ ap (λ c. c && not (contains (writes_of x) b)) named ∙ both.1

-- some wait
pub waits_are_all : (count : ℕ) (x : Process) (waits : List ℕ) → missing_bits x ≡ [] → R.HasBitsOf count waits (waits_of x) → (length waits ≡ 0 → ⊥) → HasBitsOf count waits (needs x)
waits_are_all count x waits none w some = record {
  same = λ b. w.same b ∙ sym (contains-append (reads_of x) (waits_of x) b ∙ joined b);
  below = all_from (λ b. b < count) waits w.below;
}
  where
    empty : is_combinational x ≡ false → (b : ℕ) → contains waits b ≡ false
    empty e b = w.same b ∙ ap (λ (t : Bool). contains (if t then without (signals_bits (wait_signals x)) (writes_of x) else []) b) e

    has_none : (bs : List ℕ) → ((b : ℕ) → contains bs b ≡ false) → length bs ≡ 0
    has_none [] h = refl
    has_none (c ∷ bs) h = absurd (both_ways (contains (c ∷ bs) c) (h c) (Rattle.vs_compile.proofs.Lists.first_in c bs))

    comb : is_combinational x ≡ true
    comb = by_test (is_combinational x) (λ e. e) (λ e. absurd (some (has_none waits (empty e))))

    joined : (b : ℕ) → (contains (reads_of x) b || contains (waits_of x) b) ≡ contains (waits_of x) b
    joined b = by_test (contains (reads_of x) b)
        (λ e. ap (λ c. c || contains (waits_of x) b) e ∙ sym (waits_on x comb none b e))
        (λ e. ap (λ c. c || contains (waits_of x) b) e)
