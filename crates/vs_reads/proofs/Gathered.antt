-- What is gathered of a process, as its footprint.
use Rattle.std.proofs.Common.{◌≡◌, ℕ, ◌<◌, Bool, true, false, not, if◌then◌else◌, List, [], ◌∷◌, ◌++◌, refl, sym, ap, ◌∙◌}
use Rattle.std.specs.Prelude.{filter}
use Rattle.std.specs.List.{list_any}
use Rattle.vs_design.specs.Statements.{Statement}
use Rattle.vs_design.specs.Designs.{Process, Event, Always, has_edge}
use Rattle.vs_design.specs.Footprints.{contains, without, ascending, all_reads, reads_of, writes_of, waits_of, wait_signals, signals_bits, statement_bits, statement_reads}
use Rattle.vs_reads.specs.declared.lists.ProcessBits.{ProcessBits}
use Rattle.vs_reads.specs.Footprint.{Footprint, footprint_in}
use Rattle.vs_reads.specs.Kept.{footprint_of}
use Rattle.vs_reads.specs.Within.{IsWithin}
use Rattle.vs_reads.proofs.Ascending.{in_first, in_second, of_reads}
use Rattle.vs_design.specs.Values.{count_from}

filter_none : (test : ℕ → Bool) → ((b : ℕ) → test b ≡ false) → (xs : List ℕ) → filter test xs ≡ []
filter_none test h [] = refl
filter_none test h (x ∷ xs) = ap (λ c. if c then (x ∷ filter test xs) else filter test xs) (h x) ∙ filter_none test h xs

pub ascending_none : (count : ℕ) → ascending count [] ≡ []
ascending_none count = filter_none (contains []) (λ b. refl) (count_from 0 count)

filter_same : (test other : ℕ → Bool) → ((b : ℕ) → test b ≡ other b) → (xs : List ℕ) → filter test xs ≡ filter other xs
filter_same test other h [] = refl
filter_same test other h (x ∷ xs) =
    ap (λ c. if c then (x ∷ filter test xs) else filter test xs) (h x) ∙ ap (λ ys. if other x then (x ∷ ys) else ys) (filter_same test other h xs)

pub without_same : (bs xs ys : List ℕ) → ((b : ℕ) → contains xs b ≡ contains ys b) → without bs xs ≡ without bs ys
without_same bs xs ys h = filter_same (λ b. not (contains xs b)) (λ b. not (contains ys b)) (λ b. ap not (h b)) bs

pub footprint_is : (count : ℕ) (x : Process) (b : ProcessBits) → b.reads.items ≡ ascending count (reads_of x) → b.writes.items ≡ ascending count (writes_of x) → b.waits.items ≡ ascending count (waits_of x) → footprint_of b ≡ footprint_in count x
footprint_is count x b reads writes waits =
    ap (λ r. let f : Footprint = record { reads = r; writes = b.writes.items; waits = b.waits.items } in f) reads
    ∙ ap (λ w. let f : Footprint = record { reads = ascending count (reads_of x); writes = w; waits = b.waits.items } in f) writes
    ∙ ap (λ w. let f : Footprint = record { reads = ascending count (reads_of x); writes = ascending count (writes_of x); waits = w } in f) waits

pub one_list : (first second xs : List ℕ) → first ≡ [] → second ≡ first ++ xs → second ≡ xs
one_list first second xs h k = k ∙ ap (λ bs. bs ++ xs) h

pub two_lists : (first second third xs ys : List ℕ) → first ≡ [] → second ≡ first ++ xs → third ≡ second ++ ys → third ≡ xs ++ ys
two_lists first second third xs ys h k l = l ∙ ap (λ bs. bs ++ ys) (one_list first second xs h k)

-- each list of a process is within
pub reads_below : (count : ℕ) (x : Process) (bits : List ℕ) → IsWithin count x → bits ≡ all_reads x → (b : ℕ) → contains bits b ≡ true → b < count
reads_below count x bits within is b h = within b (in_first (all_reads x) (writes_of x ++ waits_of x) b (ap (λ bs. contains bs b) (sym is) ∙ h))

pub writes_below : (count : ℕ) (x : Process) (bits : List ℕ) → IsWithin count x → bits ≡ writes_of x → (b : ℕ) → contains bits b ≡ true → b < count
writes_below count x bits within is b h = within b (in_second (all_reads x) (writes_of x ++ waits_of x) b (in_first (writes_of x) (waits_of x) b (ap (λ bs. contains bs b) (sym is) ∙ h)))

pub waits_below : (count : ℕ) (x : Process) (bits : List ℕ) → IsWithin count x → bits ≡ waits_of x → (b : ℕ) → contains bits b ≡ true → b < count
waits_below count x bits within is b h = within b (in_second (all_reads x) (writes_of x ++ waits_of x) b (in_second (writes_of x) (waits_of x) b (ap (λ bs. contains bs b) (sym is) ∙ h)))

pub needs_below : (count : ℕ) (x : Process) (bits : List ℕ) → IsWithin count x → bits ≡ reads_of x → (b : ℕ) → contains bits b ≡ true → b < count
needs_below count x bits within is b h = reads_below count x (all_reads x) within refl b (of_reads x b (ap (λ bs. contains bs b) (sym is) ∙ h))

-- a clocked block, and a combinational one
chosen : {A : Type 0} (c : Bool) (a b : A) → c ≡ true → (if not c then a else b) ≡ b
chosen true a b h = refl
chosen false a b h = cc

other : {A : Type 0} (c : Bool) (a b : A) → c ≡ false → (if not c then a else b) ≡ a
other true a b h = cc
other false a b h = refl

pub clocked_reads : (place : ℕ) (star : Bool) (events : List Event) (st : Statement) → list_any has_edge events ≡ true → reads_of (Always place star events st) ≡ all_reads (Always place star events st)
clocked_reads place star events st h = chosen (list_any has_edge events) (without (all_reads (Always place star events st)) (statement_bits st)) (all_reads (Always place star events st)) h

pub clocked_waits : (place : ℕ) (star : Bool) (events : List Event) (st : Statement) → list_any has_edge events ≡ true → waits_of (Always place star events st) ≡ []
clocked_waits place star events st h = chosen (list_any has_edge events) (without (signals_bits (wait_signals (Always place star events st))) (statement_bits st)) [] h

pub combinational_reads : (place : ℕ) (star : Bool) (events : List Event) (st : Statement) → list_any has_edge events ≡ false → reads_of (Always place star events st) ≡ without (statement_reads st) (statement_bits st)
combinational_reads place star events st h = other (list_any has_edge events) (without (statement_reads st) (statement_bits st)) (statement_reads st) h

pub combinational_waits : (place : ℕ) (star : Bool) (events : List Event) (st : Statement) → list_any has_edge events ≡ false
    → waits_of (Always place star events st) ≡ without (signals_bits (wait_signals (Always place star events st))) (statement_bits st)
combinational_waits place star events st h = other (list_any has_edge events) (without (signals_bits (wait_signals (Always place star events st))) (statement_bits st)) [] h
