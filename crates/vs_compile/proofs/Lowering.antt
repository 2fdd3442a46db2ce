-- The room that the calls of a process have.
use Rattle.std.proofs.Common.{◌≡◌, ℕ, zero, suc, ◌+◌, ◌≤◌, ◌^◌, Bool, true, ◌||◌, List, [], ◌∷◌, ◌++◌, if◌then◌else◌, get_or, Some, slice_get, ap, ◌∙◌, subst, arith}
use Rattle.std.specs.Prelude.{sum_by}
use Rattle.std.proofs.lemmas.List.Sums.{get_or-le-sum_by}
use Rattle.std.proofs.lemmas.Option.{slice_get_within, get_or_from_slice_get}
use Rattle.vs_design.specs.Designs.{Process, Design, is_clocked}
use Rattle.vs_design.specs.Footprints.{contains, writes_of}
use Rattle.vs_design.specs.Sizes.{distinct, process_weight, register_bits}
use Rattle.vs_cone.specs.Lists.{FewAreApart}
use Rattle.vs_program.specs.Compiled.{IsAcceptedAt}
use Rattle.vs_program.specs.Lowered.{process_stores}
use Rattle.vs_program.specs.Layouts.{AreRegisters}
use Rattle.vs_assemble.specs.Plans.{may_store, may_store_or}
use Rattle.vs_compile.proofs.Layouts.{few_registers}
use Rattle.vs_compile.proofs.Lists.{by_test, contains-append, distinct_within, or_right}

weighs : (d : Design) (p : ℕ) (x : Process) → slice_get d.processes p ≡ Some x → process_weight x ≤ sum_by process_weight d.processes
weighs d p x e =
    let within = slice_get_within d.processes p x e in
    let at : get_or d.processes p x ≡ x = get_or_from_slice_get d.processes p x x e in
    subst (λ z. process_weight z ≤ sum_by process_weight d.processes) at (get_or-le-sum_by process_weight d.processes p x within)

-- the bits of a clocked block are registers
pub writes_in : (ps : List Process) (p : ℕ) (x : Process) → slice_get ps p ≡ Some x → is_clocked x ≡ true → (b : ℕ) → contains (writes_of x) b ≡ true → contains (register_bits ps) b ≡ true
writes_in [] p x e clocked b h = cc
writes_in (y ∷ ps) zero x e clocked b h =
    let same : y ≡ x = some_is y x e in
    ap (λ z. contains ((if is_clocked z then writes_of z else []) ++ register_bits ps) b) same
    ∙ ap (λ (c : Bool). contains ((if c then writes_of x else []) ++ register_bits ps) b) clocked
    ∙ contains-append (writes_of x) (register_bits ps) b
    ∙ ap (λ c. c || contains (register_bits ps) b) h
  where
    some_is : (a b : Process) → Some a ≡ Some b → a ≡ b
    some_is a b q = cc
writes_in (y ∷ ps) (suc p) x e clocked b h =
    contains-append (if is_clocked y then writes_of y else []) (register_bits ps) b
    ∙ or_right (contains (if is_clocked y then writes_of y else []) b) (contains (register_bits ps) b) (writes_in ps p x e clocked b h)

pub few_stores : FewAreApart → (d : Design) (clocks : List ℕ) → IsAcceptedAt d clocks → (regs : List ℕ) → AreRegisters d regs → (p : ℕ) (x : Process) → slice_get d.processes p ≡ Some x → process_stores x ≤ 33554432
few_stores few d clocks at regs are p x e =
    let weight = weighs d p x e in
    by_test (is_clocked x)
    (λ c.
    let own = distinct_within (writes_of x) regs (λ b h. are.has b ∙ writes_in d.processes p x e c b h) in
    let most = few_registers few d clocks at regs are in
    let here : process_stores x ≡ process_weight x + distinct (writes_of x) = ap (λ (t : Bool). process_weight x + (if t then distinct (writes_of x) else 0)) c in
    omega (arith, weight, own, most, here, at.accepted.small))
    (λ c.
    let here : process_stores x ≡ process_weight x + 0 = ap (λ (t : Bool). process_weight x + (if t then distinct (writes_of x) else 0)) c in
    omega (arith, weight, here, at.accepted.small))

-- a process that may make so many stores makes no more by its text alone
pub stores_left : (d : Design) (p : ℕ) (x : Process) (calls : ℕ) → slice_get d.processes p ≡ Some x → calls + may_store d p ≤ 2 ^ 32 → calls + process_stores x ≤ 2 ^ 32
stores_left d p x calls e h =
    let is : may_store d p ≡ may_store_or d (Some x) = ap (may_store_or d) e in
    omega (arith, is, h)
