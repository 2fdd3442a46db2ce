-- Scopes that are nested: each is within the one before it or within one around that.
use Rattle.std.proofs.Common.{◌≡◌, ℕ, suc, ◌+◌, ◌≤◌, Bool, true, false, not, ◌&&◌, List, [], ◌∷◌, ◌++◌, length, Some, refl, sym, ap, ◌∙◌, subst, arith, ◌==◌, if◌then◌else◌, eq-eqb}
use Rattle.std.proofs.lemmas.Bool.{eqb-true}
use Rattle.vs_design.specs.Designs.{Scope}
use Rattle.vs_design.specs.Elaborated.{is_nil, way_from, way_of_parent, are_nested}
use Rattle.vs_grammar.specs.Shapes.{Each}

-- ---- lists of scopes

abbrev pub way_after : ℕ → List ℕ → List Scope → List ℕ
way_after n way [] = way
way_after n way (s ∷ ss) = way_after (suc n) (n ∷ way_of_parent s.parent way) ss

way_append : (n : ℕ) (way : List ℕ) (xs ys : List Scope) → way_after n way (xs ++ ys) ≡ way_after (n + length xs) (way_after n way xs) ys
way_append n way [] ys = ap (λ m. way_after m way ys) (omega arith)
way_append n way (s ∷ ss) ys = way_append (suc n) (n ∷ way_of_parent s.parent way) ss ys ∙ ap (λ m. way_after m (way_after (suc n) (n ∷ way_of_parent s.parent way) ss) ys) (omega arith)

nested_append : (n : ℕ) (way : List ℕ) (xs ys : List Scope) → are_nested n way xs ≡ true → are_nested (n + length xs) (way_after n way xs) ys ≡ true → are_nested n way (xs ++ ys) ≡ true
nested_append n way [] ys h k = subst (λ m. are_nested m way ys ≡ true) (omega arith) k
nested_append n way (s ∷ ss) ys h k = of (not (is_nil (way_of_parent s.parent way))) (are_nested (suc n) (n ∷ way_of_parent s.parent way) ss) h (λ g. nested_append (suc n) (n ∷ way_of_parent s.parent way) ss ys g (subst (λ m. are_nested m (way_after (suc n) (n ∷ way_of_parent s.parent way) ss) ys ≡ true) (omega arith) k))
  where
    of : (a b : Bool) → (a && b) ≡ true → (b ≡ true → are_nested (suc n) (n ∷ way_of_parent s.parent way) (ss ++ ys) ≡ true) → (a && are_nested (suc n) (n ∷ way_of_parent s.parent way) (ss ++ ys)) ≡ true
    of true b g f = f g
    of false b g f = cc

-- ---- ways

abbrev pub AreFrom : ℕ → List ℕ → Type 0
AreFrom n ms = Each (λ (m : ℕ). n ≤ m) ms

from_less : (n m : ℕ) (xs : List ℕ) → n ≤ m → AreFrom m xs → AreFrom n xs
from_less n m [] h p = tt
from_less n m (x ∷ xs) h p = (omega (arith, p.0), from_less n m xs h p.1)

-- what came after a scope is passed over on the way out to it
passed : (m : ℕ) (xs w : List ℕ) → AreFrom (suc m) xs → way_from m (xs ++ m ∷ w) ≡ m ∷ w
passed m [] w p = of (m == m) (eq-eqb m m refl)
  where
    of : (b : Bool) → b ≡ true → (if b then (m ∷ w) else way_from m w) ≡ m ∷ w
    of true k = refl
    of false k = cc
passed m (x ∷ xs) w p = of (x == m) refl ∙ passed m xs w p.1
  where
    of : (b : Bool) → (x == m) ≡ b → (if b then (x ∷ (xs ++ m ∷ w)) else way_from m (xs ++ m ∷ w)) ≡ way_from m (xs ++ m ∷ w)
    of true k = absurd (omega (arith, p.0, eqb-true x m k))
    of false k = refl

-- from a way on these scopes are nested, and they leave the way out to scope m, which goes on as w
pub record NestsOn (m : ℕ) (w : List ℕ) (n : ℕ) (way : List ℕ) (ss : List Scope) : Type 0 where
  pub nested : are_nested n way ss ≡ true
  pub inner : List ℕ
  pub later : AreFrom (suc m) inner
  pub left : way_after n way ss ≡ inner ++ m ∷ w

-- a way that leads out to scope m
pub record LeadsTo (m : ℕ) (w way : List ℕ) : Type 0 where
  pub inner : List ℕ
  pub later : AreFrom (suc m) inner
  pub is : way ≡ inner ++ m ∷ w

pub no_scopes : (m : ℕ) (w : List ℕ) (n : ℕ) (way : List ℕ) → LeadsTo m w way → NestsOn m w n way []
no_scopes m w n way l = record { nested = refl; inner = l.inner; later = l.later; left = l.is }

pub nests_both : (m : ℕ) (w : List ℕ) (n k : ℕ) (way : List ℕ) (xs ys : List Scope) → k ≡ n + length xs → NestsOn m w n way xs → (LeadsTo m w (way_after n way xs) → NestsOn m w k (way_after n way xs) ys) → NestsOn m w n way (xs ++ ys)
nests_both m w n k way xs ys e g h =
    let i = h (record { inner = g.inner; later = g.later; is = g.left }) in
    record {
      nested = nested_append n way xs ys g.nested (subst (λ j. are_nested j (way_after n way xs) ys ≡ true) e i.nested);
      inner = i.inner;
      later = i.later;
      left = way_append n way xs ys ∙ ap (λ j. way_after j (way_after n way xs) ys) (sym e) ∙ i.left;
    }

-- a scope of its own, and then those within it
pub own_nested : (m : ℕ) (w : List ℕ) (n : ℕ) (way : List ℕ) (s : Scope) (ss : List Scope) → s.parent ≡ Some m → LeadsTo m w way → suc m ≤ n → NestsOn n (m ∷ w) (suc n) (n ∷ m ∷ w) ss → NestsOn m w n way (s ∷ ss)
own_nested m w n way s ss e l b g = record {
  nested = of (way_of_parent s.parent way) out;
  inner = g.inner ++ n ∷ [];
  later = joined (suc m) g.inner n (from_less (suc m) (suc n) g.inner (omega (arith, b)) g.later) b;
  left = ap (λ v. way_after (suc n) (n ∷ v) ss) out ∙ g.left ∙ regroup g.inner;
}
  where
    out : way_of_parent s.parent way ≡ m ∷ w
    out = ap (λ o. way_of_parent o way) e ∙ ap (way_from m) l.is ∙ passed m l.inner w l.later

    of : (v : List ℕ) → v ≡ m ∷ w → (not (is_nil v) && are_nested (suc n) (n ∷ v) ss) ≡ true
    of v h = subst (λ u. (not (is_nil u) && are_nested (suc n) (n ∷ u) ss) ≡ true) (sym h) g.nested

    joined : (low : ℕ) (xs : List ℕ) (n : ℕ) → AreFrom low xs → low ≤ n → AreFrom low (xs ++ n ∷ [])
    joined low [] n p q = (q, tt)
    joined low (x ∷ xs) n p q = (p.0, joined low xs n p.1 q)

    regroup : (xs : List ℕ) → xs ++ n ∷ m ∷ w ≡ (xs ++ n ∷ []) ++ m ∷ w
    regroup [] = refl
    regroup (x ∷ xs) = ap (λ ys. x ∷ ys) (regroup xs)
