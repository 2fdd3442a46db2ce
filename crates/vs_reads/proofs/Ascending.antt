-- Ascending lists of the bits of a design.
use Rattle.std.proofs.Common.{◌≡◌, ℕ, zero, suc, ◌<◌, Bool, true, false, not, ◌&&◌, ◌||◌, ◌==◌, nat_lt, if◌then◌else◌, List, [], ◌∷◌, ◌++◌, map, get_or, refl, sym, ap, ◌∙◌, subst, Some}
use Rattle.std.specs.Prelude.{slice_get, filter}
use Rattle.std.specs.List.Sorted.{IsStrictlyIncreasing}
use Rattle.std.proofs.lemmas.Bool.{ltb-true, lt-ltb}
use Rattle.vs_design.specs.Designs.{Process, bit_count, is_combinational}
use Rattle.vs_design.specs.Footprints.{contains, without, all_reads, reads_of, writes_of, waits_of, ascending}
use Rattle.vs_design.specs.Laws.{AscendingHas, AscendingRises, BitsOfDesign}
use Rattle.vs_reads.specs.Footprint.{Footprint, footprint_in, footprints_of, no_footprint, reads_at, writes_at, waits_at}
use Rattle.vs_reads.specs.Laws.{EachIsOfItsProcess, HasBitsOf, EachHasItsBits}

-- what is made of the element that is found
pub made_at : {A B : Type 0} (f : A → B) (xs : List A) (k : ℕ) (x : A) (d : B) → slice_get xs k ≡ Some x → get_or (map f xs) k d ≡ f x
made_at f [] k x d at = cc
made_at f (y ∷ ys) zero x d at = ap f (first y x at)
  where
    first : {A : Type 0} (y x : A) → Some y ≡ Some x → y ≡ x
    first y x e = cc
made_at f (y ∷ ys) (suc k) x d at = made_at f ys k x d at

pub each_of_its_process : EachIsOfItsProcess
each_of_its_process d p process at =
    let is : get_or (footprints_of d) p no_footprint ≡ footprint_in (bit_count d) process = made_at (footprint_in (bit_count d)) d.processes p process no_footprint at in
    record { reads = ap (λ (f : Footprint). f.reads) is; writes = ap (λ (f : Footprint). f.writes) is; waits = ap (λ (f : Footprint). f.waits) is }

pub both_parts : (a b : Bool) → (a && b) ≡ true → (a ≡ true) × (b ≡ true)
both_parts true b h = (refl, h)
both_parts false b h = cc

only_first : (a b : Bool) → (a ≡ true → b ≡ true) → (a && b) ≡ a
only_first true b h = h refl
only_first false b h = refl

-- an ascending list of bits that are all below the count
has_bits : AscendingHas → AscendingRises → (count : ℕ) (bits all : List ℕ) → bits ≡ ascending count all → ((b : ℕ) → contains all b ≡ true → b < count) → HasBitsOf count bits all
has_bits has rises count bits all is below = record {
  rising = subst IsStrictlyIncreasing (sym is) (rises count all);
  below = λ b h. ltb-true b count (both_parts (contains all b) (nat_lt b count) (sym (has count all b) ∙ ap (λ bs. contains bs b) (sym is) ∙ h)).1;
  same = λ b. ap (λ bs. contains bs b) is ∙ has count all b ∙ only_first (contains all b) (nat_lt b count) (λ h. lt-ltb b count (below b h));
}

or_left : (a b : Bool) → a ≡ true → (a || b) ≡ true
or_left true b h = refl
or_left false b h = cc

or_right : (a b : Bool) → b ≡ true → (a || b) ≡ true
or_right true b h = refl
or_right false b h = h

pub in_first : (bs cs : List ℕ) (b : ℕ) → contains bs b ≡ true → contains (bs ++ cs) b ≡ true
in_first [] cs b h = cc
in_first (c ∷ bs) cs b h = cases (b == c) (contains bs b) (contains (bs ++ cs) b) (in_first bs cs b) h
  where
    cases : (here there after : Bool) → (there ≡ true → after ≡ true) → (here || there) ≡ true → (here || after) ≡ true
    cases true there after f h = refl
    cases false there after f h = f h

pub in_second : (bs cs : List ℕ) (b : ℕ) → contains cs b ≡ true → contains (bs ++ cs) b ≡ true
in_second [] cs b h = h
in_second (c ∷ bs) cs b h = or_right (b == c) (contains (bs ++ cs) b) (in_second bs cs b h)

of_filtered : (test : ℕ → Bool) (bs : List ℕ) (b : ℕ) → contains (filter test bs) b ≡ true → contains bs b ≡ true
of_filtered test [] b h = cc
of_filtered test (c ∷ bs) b h = cases (test c) (λ k. of_filtered test bs b k) h
  where
    cases : (kept : Bool) → (contains (filter test bs) b ≡ true → contains bs b ≡ true) → contains (if kept then (c ∷ filter test bs) else filter test bs) b ≡ true → ((b == c) || contains bs b) ≡ true
    cases true f h = go (b == c) (contains (filter test bs) b) (contains bs b) f h
      where
        go : (here there all : Bool) → (there ≡ true → all ≡ true) → (here || there) ≡ true → (here || all) ≡ true
        go true there all f h = refl
        go false there all f h = f h
    cases false f h = or_right (b == c) (contains bs b) (f h)

-- what a process reads is among all that it reads
pub of_reads : (process : Process) (b : ℕ) → contains (reads_of process) b ≡ true → contains (all_reads process) b ≡ true
of_reads process b h = cases (is_combinational process) h
  where
    cases : (combinational : Bool) → contains (if combinational then without (all_reads process) (writes_of process) else all_reads process) b ≡ true → contains (all_reads process) b ≡ true
    cases true h = of_filtered (λ c. not (contains (writes_of process) c)) (all_reads process) b h
    cases false h = h

pub each_has_its_bits : AscendingHas → AscendingRises → BitsOfDesign → EachHasItsBits
each_has_its_bits has rises bits d lawful p process at =
    let lists = each_of_its_process d p process at in
    let below = bits d lawful p process at in
    let count = bit_count d in
    record {
      reads = has_bits has rises count (reads_at (footprints_of d) p) (reads_of process) lists.reads (λ b h. below b (in_first (all_reads process) (writes_of process ++ waits_of process) b (of_reads process b h)));
      writes =
          has_bits has rises count (writes_at (footprints_of d) p) (writes_of process) lists.writes
          (λ b h. below b (in_second (all_reads process) (writes_of process ++ waits_of process) b (in_first (writes_of process) (waits_of process) b h)));
      waits =
          has_bits has rises count (waits_at (footprints_of d) p) (waits_of process) lists.waits
          (λ b h. below b (in_second (all_reads process) (writes_of process ++ waits_of process) b (in_second (writes_of process) (waits_of process) b h)));
    }
