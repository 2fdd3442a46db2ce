-- The initial processes of an elaborated design stand in the order of the text.
use Rattle.std.proofs.Common.{◌≡◌, ℕ, ◌+◌, ◌≤◌, Bool, true, false, ◌&&◌, List, [], ◌∷◌, ◌++◌, map, length, refl, sym, subst, arith, nat_le, length-append}
use Rattle.std.proofs.lemmas.Bool.{leb-true, le-leb}
use Rattle.vs_design.specs.Designs.{Initial, Design}
use Rattle.vs_design.specs.Elaborated.{are_behind}
use Rattle.vs_elaborated.specs.Elaborated.{moved, both_designs}

record Behind (first count : ℕ) (i : Initial) (is : List Initial) : Type 0 where
  after : first ≤ i.behind
  most : i.behind ≤ count
  rest : are_behind i.behind count is ≡ true

behind_is : (first count : ℕ) (i : Initial) (is : List Initial) → are_behind first count (i ∷ is) ≡ true → Behind first count i is
behind_is first count i is h =
    let a = three (nat_le first i.behind) (nat_le i.behind count) (are_behind i.behind count is) h in
    record { after = leb-true first i.behind a.0; most = leb-true i.behind count a.1; rest = a.2 }
  where
    three : (a b c : Bool) → (a && b && c) ≡ true → (a ≡ true) × (b ≡ true) × (c ≡ true)
    three true true true k = (refl, refl, refl)
    three true true false k = cc
    three true false c k = cc
    three false b c k = cc

is_behind : (first count : ℕ) (i : Initial) (is : List Initial) → Behind first count i is → are_behind first count (i ∷ is) ≡ true
is_behind first count i is b = three (nat_le first i.behind) (nat_le i.behind count) (are_behind i.behind count is) (le-leb first i.behind b.after) (le-leb i.behind count b.most) b.rest
  where
    three : (a b c : Bool) → a ≡ true → b ≡ true → c ≡ true → (a && b && c) ≡ true
    three true true true h k l = refl
    three true true false h k l = cc
    three true false c h k l = cc
    three false b c h k l = cc

earlier : (first mid count : ℕ) (is : List Initial) → first ≤ mid → are_behind mid count is ≡ true → are_behind first count is ≡ true
earlier first mid count [] l h = refl
earlier first mid count (i ∷ is) l h =
    let b = behind_is mid count i is h in
    let a = b.after in
    is_behind first count i is (record { after = omega (arith, l, a); most = b.most; rest = b.rest })

joined : (first mid count : ℕ) (is js : List Initial) → first ≤ mid → mid ≤ count → are_behind first mid is ≡ true → are_behind mid count js ≡ true → are_behind first count (is ++ js) ≡ true
joined first mid count [] js l m h k = earlier first mid count js l k
joined first mid count (i ∷ is) js l m h k =
    let b = behind_is first mid i is h in
    let a = b.most in
    is_behind first count i (is ++ js) (record { after = b.after; most = omega (arith, m, a); rest = joined i.behind mid count is js a m b.rest k })

further : (n first count : ℕ) (is : List Initial) → are_behind first count is ≡ true → are_behind (n + first) (n + count) (map (moved n) is) ≡ true
further n first count [] h = refl
further n first count (i ∷ is) h =
    let b = behind_is first count i is h in
    let a = b.after in
    let c = b.most in
    is_behind (n + first) (n + count) (moved n i) (map (moved n) is) (record { after = omega (arith, a); most = omega (arith, c); rest = further n i.behind count is b.rest })

abbrev pub AreBehind : Design → Type 0
AreBehind d = are_behind 0 (length d.processes) d.initials ≡ true

pub both_behind : (d e : Design) → AreBehind d → AreBehind e → AreBehind (both_designs d e)
both_behind d e h k =
    let n = length d.processes in
    let m = length e.processes in
    subst (λ c. are_behind 0 c (d.initials ++ map (moved n) e.initials) ≡ true) (sym (length-append d.processes e.processes))
    (joined 0 n (n + m) d.initials (map (moved n) e.initials) (omega arith) (omega arith) h (subst (λ f. are_behind f (n + m) (map (moved n) e.initials) ≡ true) (omega arith) (further n 0 m e.initials k)))
