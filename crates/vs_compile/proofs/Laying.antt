-- What a design with a layout gives the lowering of a process.
use Rattle.std.proofs.Common.{◌≡◌, ℕ, ◌+◌, ◌<◌, ◌^◌, Bool, true, false, List, [], ◌++◌, Some, None, Option, length, slice_get, sym, ap, ◌∙◌, subst, refl, arith}
use Rattle.std.specs.Prelude.{slice_index}
use Rattle.vs_net.specs.Network as N
use Rattle.vs_design.specs.Designs.{Process, Design, bit_count}
use Rattle.vs_design.specs.Footprints.{ascending, contains}
use Rattle.vs_design.specs.Resets.{reset_of}
use Rattle.vs_design.specs.Sizes.{register_bits}
use Rattle.vs_design.specs.Sleepers.{is_sleeping, sleeper_if}
use Rattle.vs_flat.specs.Arena.{Arena}
use Rattle.vs_flat.specs.DesignOf.{design_of}
use Rattle.vs_cone.specs.Lists.{AscendingIsOnce, FewAreApart}
use Rattle.vs_cone.specs.Sources.{SourcesOfDesign}
use Rattle.vs_code.specs.Calls.{Call}
use Rattle.vs_program.specs.Compiled.{IsAcceptedAt}
use Rattle.vs_program.specs.Layouts.{AreRegisters, IsLayoutOf, mask_of}
use Rattle.vs_program.specs.Lowered.{Layout, IsLoweredProcess, IsLoweredReset, process_stores}
use Rattle.vs_program.specs.Made.{IsLoweredAs, IsLoweredAt, IsResetAt, RegistersInOrder}
use Rattle.vs_reset.specs.Calls.{NoneAreNeeded}
use Rattle.vs_compile.specs.Known.{Known}
use Rattle.vs_compile.specs.Laid.{AreFewRegisters, IsTable, Laid, laid_layout, table_layout}
use Rattle.vs_compile.proofs.Accepted.{there}
use Rattle.vs_compile.proofs.Layouts.{few_registers, first_low}
use Rattle.vs_compile.proofs.Lists.{all_from}
use Rattle.vs_compile.proofs.Lowering.{few_stores}

-- the registers of an accepted design, ascending
pub registers_once : AscendingIsOnce → SourcesOfDesign → (d : Design) (clocks : List ℕ) → IsAcceptedAt d clocks → AreRegisters d (ascending (bit_count d) (register_bits d.processes))
registers_once once sources d clocks at = once (bit_count d) (register_bits d.processes) (sources d at.names at.accepted).registers_below

pub registers_below : SourcesOfDesign → (d : Design) (clocks : List ℕ) → IsAcceptedAt d clocks → (b : ℕ) → contains (register_bits d.processes) b ≡ true → b < bit_count d
registers_below sources d clocks at = (sources d at.names at.accepted).registers_below

-- the temporaries of a process have numbers
pub temps_fit : FewAreApart → RegistersInOrder → (d : Design) (clocks : List ℕ) → IsAcceptedAt d clocks → (count : ℕ) (shadows : List ℕ) (first : ℕ) → IsTable d count shadows first
    → (p : ℕ) (x : Process) → slice_get d.processes p ≡ Some x → first + process_stores x < 2 ^ 32
temps_fit few ordered d clocks at count shadows first table p x e =
    let low = first_low d (record { bits = count; shadow = slice_index shadows; first_temp = first }) clocks at table.layout in
    let own = few_stores few d clocks at (ascending (bit_count d) (register_bits d.processes)) (ordered d at.names at.accepted) p x e in
    omega (arith, low, own)

-- the calls of a process that doesn't sleep
pub lowered_at : (d : Design) (l : Layout) (p : ℕ) (x : Process) → is_sleeping d x ≡ false → slice_get d.processes p ≡ Some x → (calls : List Call) → IsLoweredProcess l x calls → IsLoweredAt d l p calls
lowered_at d l p x awake e calls lowered =
    (x, e, subst (λ (c : Bool). IsLoweredAs l (mask_of d p) (sleeper_if c x) x calls) (sym awake) lowered)

-- ---- a block without a reset

-- no calls are those of its reset
reset_at : NoneAreNeeded → (d : Design) (clocks : List ℕ) (l : Layout) (p : ℕ) → p < length d.processes → ((x : Process) → slice_get d.processes p ≡ Some x → reset_of d clocks x ≡ None) → (at : List ℕ) → at ≡ clocks → IsResetAt d at l p []
reset_at none d clocks l p low unset at this =
    let x = there d.processes p low in
    let is : reset_of d at x.0 ≡ None = ap (λ c. reset_of d c x.0) this ∙ unset x.0 x.1 in
    (x.0, x.1, subst (λ (o : Option N.Reset). IsLoweredReset l o x.0 []) (sym is) (none l x.0))

-- ---- by the value that clauses see

pub lowered_by : (k : Known) (count : ℕ) (shadows : List ℕ) (first : ℕ) (l : Laid) → record { known = k; count = count; shadows = shadows; first = first } ≡ l
    → (p : ℕ) → p < length (design_of l.known.arena).processes → (old new : List Call) (a : Arena) (slots : List ℕ) → a ≡ k.arena → slots ≡ shadows
    → ((x : Process) → slice_get (design_of a).processes p ≡ Some x → is_sleeping (design_of a) x ≡ false)
    → ((x : Process) → slice_get (design_of a).processes p ≡ Some x → (calls : List Call) × (new ≡ old ++ calls) × IsLoweredProcess (table_layout count slots first) x calls)
    → (calls : List Call) × (new ≡ old ++ calls) × IsLoweredAt (design_of l.known.arena) (laid_layout l) p calls
lowered_by k count shadows first l is p low old new a slots same table awake done =
    subst (λ (z : Laid). p < length (design_of z.known.arena).processes → (calls : List Call) × (new ≡ old ++ calls) × IsLoweredAt (design_of z.known.arena) (laid_layout z) p calls) is here low
  where
    here : p < length (design_of k.arena).processes → (calls : List Call) × (new ≡ old ++ calls) × IsLoweredAt (design_of k.arena) (table_layout count shadows first) p calls
    here least =
        let x = there (design_of k.arena).processes p least in
        let at = subst (λ (z : Arena). slice_get (design_of z).processes p ≡ Some x.0) (sym same) x.1 in
        let r = done x.0 at in
        let here = subst (λ (z : Arena). is_sleeping (design_of z) x.0 ≡ false) same (awake x.0 at) in
        (r.0, r.1, lowered_at (design_of k.arena) (table_layout count shadows first) p x.0 here x.1 r.0 (subst (λ s. IsLoweredProcess (table_layout count s first) x.0 r.0) table r.2))

-- the calls of one that sleeps
pub asleep_by : (k : Known) (count : ℕ) (shadows : List ℕ) (first : ℕ) (l : Laid) → record { known = k; count = count; shadows = shadows; first = first } ≡ l → IsTable (design_of k.arena) count shadows first
    → (p : ℕ) (old new : List Call) (a : Arena) → a ≡ k.arena
    → ((z : Layout) → IsLayoutOf (design_of a) z → z.first_temp ≡ first → (calls : List Call) × (new ≡ old ++ calls) × IsLoweredAt (design_of a) z p calls)
    → (calls : List Call) × (new ≡ old ++ calls) × IsLoweredAt (design_of l.known.arena) (laid_layout l) p calls
asleep_by k count shadows first l is table p old new a same done =
    subst (λ (z : Laid). (calls : List Call) × (new ≡ old ++ calls) × IsLoweredAt (design_of z.known.arena) (laid_layout z) p calls) is
    (subst (λ (z : Arena). (z_layout : Layout) → IsLayoutOf (design_of z) z_layout → z_layout.first_temp ≡ first → (calls : List Call) × (new ≡ old ++ calls) × IsLoweredAt (design_of z) z_layout p calls) same done
    (table_layout count shadows first) table.layout.layout refl)

pub none_by : NoneAreNeeded → (k : Known) (count : ℕ) (shadows : List ℕ) (first : ℕ) (l : Laid) → record { known = k; count = count; shadows = shadows; first = first } ≡ l
    → (p : ℕ) → p < length (design_of l.known.arena).processes → ((x : Process) → slice_get (design_of k.arena).processes p ≡ Some x → reset_of (design_of k.arena) k.clocks x ≡ None)
    → (at : List ℕ) → at ≡ l.known.clocks → IsResetAt (design_of l.known.arena) at (laid_layout l) p []
none_by none k count shadows first l is p low unset at this =
    let each = subst (λ (z : Laid). (x : Process) → slice_get (design_of z.known.arena).processes p ≡ Some x → reset_of (design_of z.known.arena) z.known.clocks x ≡ None) is unset in
    reset_at none (design_of l.known.arena) l.known.clocks (laid_layout l) p low each at this

-- ---- what a layout is made of

pub ascending_registers : FewAreApart → AscendingIsOnce → SourcesOfDesign → (d : Design) (clocks : List ℕ) → IsAcceptedAt d clocks → (count : ℕ) → count ≡ bit_count d
    → (regs : List ℕ) → regs ≡ ascending count (register_bits d.processes) → AreFewRegisters d count regs
ascending_registers few once sources d clocks at count counted regs is =
    let are : AreRegisters d regs = subst (AreRegisters d) (sym (is ∙ ap (λ n. ascending n (register_bits d.processes)) counted)) (registers_once once sources d clocks at) in
    record {
      are = are;
      below = all_from (λ b. b < count) regs (λ b h. let low = registers_below sources d clocks at b (sym (are.has b) ∙ h) in omega (arith, low, counted));
      few = few_registers few d clocks at regs are;
    }
