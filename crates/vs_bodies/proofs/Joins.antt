-- What is told of parts, one before the other.
use Rattle.std.proofs.Common.{◌≡◌, ℕ, ◌+◌, ◌-◌, ◌<◌, ◌≤◌, Bool, true, false, max, Option, Some, None, refl, sym, ap, arith}
use Rattle.vs_const.specs.declared.faults.Fault.{Fault}
use Rattle.vs_const.specs.Faults.{better}
use Rattle.vs_const.proofs.Least.{better_assoc}
use Rattle.vs_bodies.specs.declared.told.Told.{Told}
use Rattle.vs_bodies.specs.Told.{nothing, joined, one}

-- what is told, by its parts
abbrev pub tell : Option Fault → (count depth : ℕ) → Told
tell f n d = record { fault = f; count = n; depth = d }

pub same : (f g : Option Fault) (m n d e : ℕ) → f ≡ g → m ≡ n → d ≡ e → tell f m d ≡ tell g n e
same f g m n d e p q r = cc

pub better_none : (a : Option Fault) → better a None ≡ a
better_none None = refl
better_none (Some a) = refl

max_assoc : (a b c : ℕ) → max (max a b) c ≡ max a (max b c)
max_assoc a b c = omega arith

pub joined_assoc : (a b c : Told) → joined (joined a b) c ≡ joined a (joined b c)
joined_assoc a b c = same _ _ _ _ _ _ (better_assoc a.fault b.fault c.fault) (omega arith) (max_assoc a.depth b.depth c.depth)

pub nothing_before : (a : Told) → joined nothing a ≡ a
nothing_before a = same _ _ _ _ _ _ refl (omega arith) (omega arith)

pub nothing_behind : (a : Told) → joined a nothing ≡ a
nothing_behind a = same _ _ _ _ _ _ (better_none a.fault) (omega arith) (omega arith)

-- how many are counted
pub count_of : (a b c : Told) → a ≡ joined b c → a.count ≡ b.count + c.count
count_of a b c e = ap (λ (t : Told). t.count) e

-- what is left suffices for both
pub both_within : (left : ℕ) (a b sum : Told) → a.count ≤ left → b.count ≤ left - a.count → sum ≡ joined a b → sum.count ≤ left
both_within left a b sum h k e = let n = count_of sum a b e in omega (arith, n)

-- what is left behind the first part doesn't suffice for the second, so it doesn't for all
pub both_over : (left : ℕ) (a b whole : Told) → left - a.count < b.count → whole ≡ joined a b → left < whole.count
both_over left a b whole h e = let n = count_of whole a b e in omega (arith, n)

-- a statement by itself outside of loops, and in one
pub counted_outside : (b : Bool) (said : Told) → b ≡ false → said.count ≡ 0 → said ≡ joined said (one b)
counted_outside true said h n = cc
counted_outside false said h n = same _ _ _ _ _ _ (sym (better_none said.fault)) (omega (arith, n)) (omega arith)

pub counted_inside : (b : Bool) (said : Told) → b ≡ true → said.count ≡ 0 → tell said.fault 1 said.depth ≡ joined said (one b)
counted_inside true said h n = same _ _ _ _ _ _ (sym (better_none said.fault)) (omega (arith, n)) (omega arith)
counted_inside false said h n = cc
