-- Calls make stores: where there are no stores, there are no calls.
use Rattle.std.proofs.Common.{◌≡◌, ℕ, ◌*◌, ◌≤◌, Bool, true, ◌&&◌, ◌==◌, nat_le, List, [], ◌∷◌, sym, refl, arith, true≢false, eqb-true}
use Rattle.std.specs.List.{All}
use Rattle.std.proofs.Math.Nat.{one-le-mul}
use Rattle.std.proofs.lemmas.List.Sums.{sum_by-cons}
use Rattle.std.proofs.lemmas.List.Elements.{All-head}
use Rattle.vs_four.specs.Lengths.{last_or}
use Rattle.vs_kern_logic.specs.Costs as LC
use Rattle.vs_kern_arith.specs.Costs as AC
use Rattle.vs_kern_select.specs.Costs as SC
use Rattle.vs_kern_arith.specs.declared.costs.Kernel.{Kernel}
use Rattle.vs_kern_arith.specs.declared.costs.Kernel.TheVariants.{Mul}
use Rattle.vs_code.specs.declared.kernels.AnyKernel.{AnyKernel}
use Rattle.vs_code.specs.declared.kernels.AnyKernel.TheVariants as K
use Rattle.vs_code.specs.Kernels.{takes, cost_of}
use Rattle.vs_code.specs.Calls.{Call, call_cost, length_of, lengths_of, IsCall}
use Rattle.vs_four.specs.Selects.{range_length}
use Rattle.vs_kern_select.specs.declared.costs.Kernel.{Kernel as SelectKernel}
use Rattle.vs_kern_select.specs.declared.costs.Kernel.TheVariants as S
use Rattle.vs_values.proofs.Selecting.{range_is_some}
use Rattle.vs_values.proofs.Values.{both_true}

le_is : (a b : ℕ) → nat_le a b ≡ true → a ≤ b
le_is a b h = grind arith

vector : (a b : ℕ) → (nat_le 1 a && a == b) ≡ true → 1 ≤ b
vector a b h = let p = both_true (nat_le 1 a) (a == b) h in omega (arith, le_is 1 a p.0, eqb-true a b p.1)

last_is : (q : Bool) (a b : ℕ) → (q && a == b) ≡ true → a ≡ b
last_is q a b h = eqb-true a b (both_true q (a == b) h).1

vectors : (a b c : ℕ) → (nat_le 1 a && a == b && b == c) ≡ true → 1 ≤ c
vectors a b c h = let p = both_true (nat_le 1 a && a == b) (b == c) h in omega (arith, vector a b p.0, eqb-true b c p.1)

logic_some : (s : LC.Shape) (ls : List ℕ) → LC.takes s ls ≡ true → 1 ≤ last_or 0 ls
logic_some LC.Vector (a ∷ to ∷ []) h = vector a to h
logic_some LC.Vectors (a ∷ b ∷ to ∷ []) h = vectors a b to h
logic_some LC.Reduction (a ∷ to ∷ []) h = omega (arith, last_is (nat_le 1 a) to 1 h)
logic_some LC.Truths (a ∷ b ∷ to ∷ []) h = omega (arith, last_is (nat_le 1 a && nat_le 1 b) to 1 h)
logic_some LC.Comparison (a ∷ b ∷ to ∷ []) h = omega (arith, last_is (nat_le 1 a && a == b) to 1 h)
logic_some _ _ h = absurd (true≢false (sym h))

arith_some : (s : AC.Shape) (ls : List ℕ) → AC.takes s ls ≡ true → 1 ≤ last_or 0 ls
arith_some AC.Vector (a ∷ to ∷ []) h = vector a to h
arith_some AC.Vectors (a ∷ b ∷ to ∷ []) h = vectors a b to h
arith_some AC.Comparison (a ∷ b ∷ to ∷ []) h = omega (arith, last_is (nat_le 1 a && a == b) to 1 h)
arith_some _ _ h = absurd (true≢false (sym h))

arith_cost : (k : Kernel) (ls : List ℕ) → last_or 0 ls ≤ AC.cost_of k ls
arith_cost Mul (a ∷ b ∷ to ∷ []) = omega arith
arith_cost _ _ = omega arith

-- what stands for the length of a vector that is written, or the number of words of a memory, is some
record IsSome (s : SC.Shape) : Type 0 where
  written : (n : ℕ) → s ≡ SC.Written n → 1 ≤ n
  words : (n : ℕ) → s ≡ SC.WordWritten n → 1 ≤ n

select_some : (s : SC.Shape) (ls : List ℕ) → IsSome s → SC.takes s ls ≡ true → 1 ≤ SC.cost_of_shape s ls
select_some SC.Shift (a ∷ amount ∷ to ∷ []) f h = let p = both_true (nat_le 1 a && nat_le 1 amount) (a == to) h in omega (arith, le_is 1 a (both_true (nat_le 1 a) (nat_le 1 amount) p.0).0, eqb-true a to p.1)
select_some (SC.Selected n) (a ∷ base ∷ to ∷ []) f h = le_is 1 to (both_true (a == n && nat_le 1 base) (nat_le 1 to) h).1
select_some (SC.Written n) (a ∷ base ∷ value ∷ to ∷ []) f h =
    let p = both_true (a == n && nat_le 1 base && nat_le 1 value) (a == to) h in
    let q = both_true (a == n && nat_le 1 base) (nat_le 1 value) p.0 in
    let r = both_true (a == n) (nat_le 1 base) q.0 in
    omega (arith, f.written n refl, eqb-true a n r.0, eqb-true a to p.1)
select_some (SC.WordRead n) (a ∷ address ∷ to ∷ []) f h = omega (arith, le_is 1 to (both_true (a == n * to && nat_le 1 address) (nat_le 1 to) h).1)
select_some (SC.WordWritten n) (a ∷ address ∷ value ∷ to ∷ []) f h =
    let p = both_true (a == n * value && nat_le 1 address && nat_le 1 value) (a == to) h in
    let q = both_true (a == n * value && nat_le 1 address) (nat_le 1 value) p.0 in
    let r = both_true (a == n * value) (nat_le 1 address) q.0 in
    omega (arith, one-le-mul (f.words n refl) (le_is 1 value q.1), eqb-true a (n * value) r.0, eqb-true a to p.1)
select_some SC.Choice (c ∷ p ∷ q ∷ to ∷ []) f h =
    let x = both_true (nat_le 1 c && nat_le 1 p && p == q) (q == to) h in
    let y = both_true (nat_le 1 c && nat_le 1 p) (p == q) x.0 in
    omega (arith, le_is 1 p (both_true (nat_le 1 c) (nat_le 1 p) y.0).1, eqb-true p q y.1, eqb-true q to x.1)
select_some _ _ f h = absurd (true≢false (sym h))

written_is : (n m : ℕ) → SC.Written n ≡ SC.Written m → n ≡ m
written_is n m h = cc

words_are : (n m : ℕ) → SC.WordWritten n ≡ SC.WordWritten m → n ≡ m
words_are n m h = cc

select_long : (k : SelectKernel) → IsSome (SC.shape_of k)
select_long (S.Write s) = record { written = λ n h. omega (arith, range_is_some s.range, written_is (range_length s.range) n h); words = λ n h. cc }
select_long (S.WriteWord m) = record { written = λ n h. cc; words = λ n h. omega (arith, range_is_some m.range, words_are (range_length m.range) n h) }
select_long S.ShiftLeft = record { written = λ n h. cc; words = λ n h. cc }
select_long S.ShiftRight = record { written = λ n h. cc; words = λ n h. cc }
select_long S.ShiftArith = record { written = λ n h. cc; words = λ n h. cc }
select_long (S.Select s) = record { written = λ n h. cc; words = λ n h. cc }
select_long (S.ReadWord m) = record { written = λ n h. cc; words = λ n h. cc }
select_long S.Choose = record { written = λ n h. cc; words = λ n h. cc }
select_long S.Branch = record { written = λ n h. cc; words = λ n h. cc }

-- a kernel makes a store at least
pub some_cost : (k : AnyKernel) (ls : List ℕ) → takes k ls ≡ true → 1 ≤ cost_of k ls
some_cost (K.Logic k) ls h = logic_some (LC.shape_of k) ls h
some_cost (K.Arith k) ls h = omega (arith, arith_some (AC.shape_of k) ls h, arith_cost k ls)
some_cost (K.Select k) ls h = select_some (SC.shape_of k) ls (select_long k) h

pub no_calls : (calls : List Call) → All IsCall calls → length_of calls ≤ 0 → calls ≡ []
no_calls [] h l = refl
no_calls (call ∷ calls) h l =
    let some = some_cost call.kernel (lengths_of call) (All-head IsCall call calls h).lengths in
    let sum = sum_by-cons call_cost call calls in
    absurd (omega (arith, some, sum, l))
