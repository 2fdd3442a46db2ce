-- The bits that a reset sets are those that its branch writes, at once or by an update.
use Rattle.std.proofs.Common.{◌≡◌, ℕ, zero, suc, ◌+◌, ◌<◌, Bool, true, false, ◌&&◌, ◌||◌, ◌==◌, List, [], ◌∷◌, ◌++◌, map, if◌then◌else◌, length, Option, Some, None, slice_get, refl, sym, ap, ◌∙◌, subst, arith, ◌⊎◌}
use Rattle.std.specs.Prelude.{slice_index_or}
use Rattle.std.specs.List.{All, filter}
use Rattle.std.proofs.lemmas.Bool.{both_ways}
use Rattle.std.proofs.lemmas.List.Elements.{All-nil}
use Rattle.vs_net.specs.Network.{Write, branch, flatten, is_written}
use Rattle.vs_net.specs.Network as N
use Rattle.vs_net.proofs.Beginning.{written_or}
use Rattle.vs_design.specs.Designs.{Process, is_clocked, Design, bit_count}
use Rattle.vs_design.specs.Footprints.{contains, writes_of}
use Rattle.vs_design.specs.Resets.{branch_writes, branch_updates, reset_of}
use Rattle.vs_design.specs.Statements.{Statement}
use Rattle.vs_design.specs.TreeLaws.{BodyWritesWithin}
use Rattle.vs_flat.specs.Arena.{Arena}
use Rattle.vs_flat.specs.DesignOf.{design_of}
use Rattle.vs_reads.specs.Footprint.{Footprint, footprints_of}
use Rattle.vs_reads.specs.Footprint as R
use Rattle.vs_reads.specs.Laws.{EachHasItsBits}
use Rattle.vs_reads.specs.Laws as L
use Rattle.vs_sets.specs.StatementParts.{Covers, statement_of}
use Rattle.vs_clock.specs.declared.resets.Reset.{Reset}
use Rattle.vs_clock.specs.Clocked.{Clocked}
use Rattle.vs_clock.specs.Resets.{IsReset, plain_branch, plain_reset, reset_at}
use Rattle.vs_clock.specs.Resets as C
use Rattle.vs_cone.specs.Given.{bits_of_reset}
use Rattle.vs_assemble.specs.Flags.{HasBitsOf}
use Rattle.vs_assemble.specs.Plans.{reset_bits_or}
use Rattle.vs_compile.specs.Known.{AreFacts, Known}
use Rattle.vs_compile.specs.Resets.{AreSet, HasFacts}
use Rattle.vs_compile.proofs.Accepted.{there}
use Rattle.vs_compile.proofs.Lists.{all_from, by_test, contains_filter}
use Rattle.vs_values.specs.Templates.{Templated}
use Rattle.vs_compile.proofs.Branches.{IsBranch, branch_is}

-- ---- one process

-- the reset of a process, and the bits that its block writes
pub record CanSet (a : Arena) (clocks : List ℕ) (p : ℕ) (r : Reset) (bits : List ℕ) : Type 0 where
  pub process : Process
  pub at : slice_get (design_of a).processes p ≡ Some process
  pub reset : C.IsResetOf a clocks process r
  pub branch : IsBranch process (plain_reset a r) (plain_branch a r)
  pub own : L.HasBitsOf (bit_count (design_of a)) bits (writes_of process)
  pub covers : Covers bits (statement_of a r.branch)
  pub within : All (λ b. b < bit_count (design_of a)) bits

pub can_set : EachHasItsBits → (a : Arena) (fs : List Footprint) (c : Clocked) → AreFacts a fs c → (p : ℕ) → p < length (design_of a).processes → (r : Reset) → Some r ≡ reset_at c.resets p
    → (bits : List ℕ) → bits ≡ R.writes_at fs p → CanSet a c.bits p r bits
can_set has a fs c facts p low r e bits is =
    let d = design_of a in
    let x = there d.processes p low in
    let i : C.IsResetOf a c.bits x.0 r = subst (λ (o : Option Reset). IsReset a c.bits x.0 o) (sym e) (facts.resets.resets.each p x.0 x.1) in
    let b = branch_is d c.bits facts.accepted p x.0 x.1 (plain_reset a r) (plain_branch a r) i.is i.branch in
    let same : bits ≡ R.writes_at (footprints_of d) p = is ∙ ap (λ z. R.writes_at z p) facts.footprints_are in
    let own : L.HasBitsOf (bit_count d) bits (writes_of x.0) = subst (λ (bs : List ℕ). L.HasBitsOf (bit_count d) bs (writes_of x.0)) (sym same) (has d facts.accepted.accepted.lawful p x.0 x.1).writes in
    record {
      process = x.0;
      at = x.1;
      reset = i;
      branch = b;
      own = own;
      covers = λ n m. own.same n ∙ b.within n m;
      within = all_from (λ n. n < bit_count d) bits own.below;
    }

written : (ws : List Write) (b : ℕ) → contains (map (λ (w : Write). w.bit) ws) b ≡ is_written ws b
unfolding is_written
written [] b = refl
written (w ∷ ws) b = ap (λ c. (b == w.bit) || c) (written ws b)

-- the bits of a clocked block's reset
set_of : (d : Design) (clocks : List ℕ) (x : Process) (r : N.Reset) → is_clocked x ≡ true → reset_of d clocks x ≡ Some r → reset_bits_or d clocks (Some x) ≡ bits_of_reset (Some r)
set_of d clocks x r clocked is = ap (λ (t : Bool). if t then bits_of_reset (reset_of d clocks x) else []) clocked ∙ ap bits_of_reset is

written_either : (st : Statement) (b : ℕ) → is_written (flatten (branch_writes st ∷ branch_updates st)) b ≡ true → (is_written (branch_writes st) b ≡ true) ⊎ (is_written (flatten (branch_updates st)) b ≡ true)
unfolding flatten
written_either st b h = written_or (branch_writes st) (flatten (branch_updates st)) b h

pub are_set : BodyWritesWithin → (a : Arena) (clocks : List ℕ) (p : ℕ) (r : Reset) (bits list : List ℕ) → CanSet a clocks p r bits → list ≡ [] ++ filter (is_written (flatten (branch (plain_reset a r)))) bits
    → HasBitsOf (bit_count (design_of a)) list (reset_bits_or (design_of a) clocks (slice_get (design_of a).processes p))
are_set law a clocks p r bits list can is =
    let d = design_of a in
    let ws = flatten (branch (plain_reset a r)) in
    let all : reset_bits_or d clocks (slice_get d.processes p) ≡ bits_of_reset (Some (plain_reset a r)) =
    ap (reset_bits_or d clocks) can.at ∙ set_of d clocks can.process (plain_reset a r) can.branch.block.clocked can.reset.is in
    let has : (b : ℕ) → contains list b ≡ (contains bits b && is_written ws b) = λ b. ap (λ (bs : List ℕ). contains bs b) is ∙ contains_filter (is_written ws) bits b in
    subst (λ (bs : List ℕ). HasBitsOf (bit_count d) list bs) (sym all) (record {
      same = λ b. has b ∙ by_test (is_written ws b)
          (λ w. let here = can.covers b (law (plain_branch a r) can.branch.fixed.fits (λ n. Rattle.vs_four.specs.declared.Bit4.TheVariants.X) b (written_either (plain_branch a r) b w)) in
          ap (λ c. c && is_written ws b) here ∙ sym (written ws b))
          (λ w. ap (λ (c : Bool). contains bits b && c) w ∙ and_false (contains bits b) ∙ sym (written ws b ∙ w));
      below = all_from (λ b. b < bit_count d) list (λ b m. can.own.below b (left (contains bits b) (is_written ws b) (sym (has b) ∙ m)));
    })
  where
    and_false : (u : Bool) → (u && false) ≡ false
    and_false true = refl
    and_false false = refl

    left : (u v : Bool) → (u && v) ≡ true → u ≡ true
    left true v h = refl
    left false v h = cc

-- where a block has no reset no bit is set by one
pub none_set : (a : Arena) (fs : List Footprint) (c : Clocked) → AreFacts a fs c → (p : ℕ) → p < length (design_of a).processes → None ≡ reset_at c.resets p
    → HasBitsOf (bit_count (design_of a)) [] (reset_bits_or (design_of a) c.bits (slice_get (design_of a).processes p))
none_set a fs c facts p low e =
    let d = design_of a in
    let x = there d.processes p low in
    let none : reset_of d c.bits x.0 ≡ None = subst (λ (o : Option Reset). IsReset a c.bits x.0 o) (sym e) (facts.resets.resets.each p x.0 x.1) in
    let empty : reset_bits_or d c.bits (slice_get d.processes p) ≡ [] = ap (reset_bits_or d c.bits) x.1 ∙ by_test (is_clocked x.0)
    (λ e. ap (λ (t : Bool). if t then bits_of_reset (reset_of d c.bits x.0) else []) e ∙ ap bits_of_reset none)
    (λ e. ap (λ (t : Bool). if t then bits_of_reset (reset_of d c.bits x.0) else []) e) in
    subst (λ (bs : List ℕ). HasBitsOf (bit_count d) [] bs) (sym empty) (record { same = λ b. refl; below = All-nil (λ b. b < bit_count d) })

-- ---- one process after the other

at_end : (lists : List (List ℕ)) (list : List ℕ) → slice_index_or (lists ++ list ∷ []) (length lists) [] ≡ list
at_end [] list = refl
at_end (x ∷ lists) list = at_end lists list

before_end : (lists : List (List ℕ)) (list : List ℕ) (p : ℕ) → p < length lists → slice_index_or (lists ++ list ∷ []) p [] ≡ slice_index_or lists p []
before_end [] list p h = absurd (omega (arith, h))
before_end (x ∷ lists) list zero h = refl
before_end (x ∷ lists) list (suc p) h = before_end lists list p (omega (arith, h))

pub no_lists : (d : Design) (clocks : List ℕ) → AreSet d clocks 0 []
no_lists d clocks = record { count = refl; each = λ p h. absurd (omega (arith, h)) }

pub one_more : (d : Design) (clocks : List ℕ) (n : ℕ) (old new : List (List ℕ)) (list : List ℕ) → AreSet d clocks n old → new ≡ old ++ list ∷ []
    → HasBitsOf (bit_count d) list (reset_bits_or d clocks (slice_get d.processes n)) → AreSet d clocks (n + 1) new
one_more d clocks n old new list are is has = subst (AreSet d clocks (n + 1)) (sym is) (record {
  count = let long = Rattle.std.proofs.Common.length-append old (list ∷ []) in omega (arith, long, are.count);
  each = λ p h. by_test (p == n)
      (λ e. let here = Rattle.std.proofs.Common.eqb-true p n e in
      subst (λ (q : ℕ). HasBitsOf (bit_count d) (slice_index_or (old ++ list ∷ []) q []) (reset_bits_or d clocks (slice_get d.processes q))) (sym here)
      (subst (λ (bs : List ℕ). HasBitsOf (bit_count d) bs (reset_bits_or d clocks (slice_get d.processes n)))
      (sym (subst (λ q. slice_index_or (old ++ list ∷ []) q [] ≡ list) are.count (at_end old list))) has))
      (λ e. let low : p < length old = (let other = apart p n e in omega (arith, h, are.count, other)) in
      subst (λ (bs : List ℕ). HasBitsOf (bit_count d) bs (reset_bits_or d clocks (slice_get d.processes p))) (sym (before_end old list p low))
      (are.each p (omega (arith, low, are.count))));
})
  where
    apart : (p n : ℕ) → (p == n) ≡ false → p ≡ n → ⊥
    apart p n e same = both_ways (p == n) e (Rattle.std.proofs.Common.eq-eqb p n same)

-- ---- by the value that clauses see

pub set_known : (t : Templated) (fs : List Footprint) (c : Clocked) (lists : List (List ℕ)) (k : Known) → record { arena = t.arena; clocks = c.bits } ≡ k → HasFacts t fs c lists
    → (p : ℕ) → p < length (design_of k.arena).processes → (clocks : List ℕ) → clocks ≡ k.clocks → (list : List ℕ) → list ≡ slice_index_or lists p []
    → HasBitsOf (bit_count (design_of k.arena)) list (reset_bits_or (design_of k.arena) clocks (slice_get (design_of k.arena).processes p))
set_known t fs c lists k is has p low clocks this list at =
    subst (λ (z : Known). p < length (design_of z.arena).processes → clocks ≡ z.clocks → HasBitsOf (bit_count (design_of z.arena)) list (reset_bits_or (design_of z.arena) clocks (slice_get (design_of z.arena).processes p))) is here low this
  where
    here : p < length (design_of t.arena).processes → clocks ≡ c.bits → HasBitsOf (bit_count (design_of t.arena)) list (reset_bits_or (design_of t.arena) clocks (slice_get (design_of t.arena).processes p))
    here least same =
        subst (λ (cs : List ℕ). HasBitsOf (bit_count (design_of t.arena)) list (reset_bits_or (design_of t.arena) cs (slice_get (design_of t.arena).processes p))) (sym same)
        (subst (λ (bs : List ℕ). HasBitsOf (bit_count (design_of t.arena)) bs (reset_bits_or (design_of t.arena) c.bits (slice_get (design_of t.arena).processes p))) (sym at) (has.set.each p least))
