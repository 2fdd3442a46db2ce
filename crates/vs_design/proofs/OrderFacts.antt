-- What a level order is.
use Rattle.std.proofs.Common.{◌≡◌, ℕ, true, false, List, [], ◌∷◌, ◌++◌, ◌||◌, ◌==◌, refl, sym, ◌∙◌, subst, eqb-true, Some}
use Rattle.std.specs.Prelude.{slice_get}
use Rattle.vs_design.specs.Designs.{Process, is_clocked, Design}
use Rattle.vs_design.specs.Footprints.{contains, writes_of}
use Rattle.vs_design.specs.Levels.{needs, is_order_after}
use Rattle.vs_design.specs.Cycles.{Feeds}
use Rattle.vs_design.specs.Laws.{LevelOrderIs}
use Rattle.vs_design.proofs.Lists.{by_test, and_both, or_left, or_right, or_false}
use Rattle.vs_design.proofs.Writes.{either_way}
use Rattle.vs_design.proofs.WidthExact.{and_true}
use Rattle.vs_design.proofs.TimeBits.{any_bit}
use Rattle.vs_design.proofs.Order.{turn_of, all_at_end}
use Rattle.vs_design.proofs.LevelTurns.{goes, is_partial, partial_apart}

same_process : (x y : Process) → Some x ≡ Some y → x ≡ y
same_process x y e = cc

order_partial : (d : Design) (order placed : List ℕ) → is_order_after placed d order ≡ true → is_partial placed d order ≡ true
order_partial d [] placed h = refl
order_partial d (p ∷ order) placed h = let k = and_both (goes d placed p) (is_order_after (p ∷ placed) d order) h in and_true _ _ k.0 (order_partial d order (p ∷ placed) k.1)

-- each member is an assign or a combinational block
member_settles : (d : Design) (order placed : List ℕ) (p : ℕ) → is_order_after placed d order ≡ true → contains order p ≡ true → (process : Process) × (slice_get d.processes p ≡ Some process) × (is_clocked process ≡ false)
member_settles d [] placed p h c = cc
member_settles d (q ∷ order) placed p h c =
    let t = turn_of d placed q order h in
    by_test (p == q)
    (λ e. (t.process, subst (λ n. slice_get d.processes n ≡ Some t.process) (sym (eqb-true p q e)) t.is, t.settles))
    (λ e. member_settles d order (q ∷ placed) p t.rest (subst (λ x. (x || contains order p) ≡ true) e c))

-- and each of these is one, or was placed before
all_members : (d : Design) (order placed : List ℕ) (p : ℕ) (x : Process) → is_order_after placed d order ≡ true → slice_get d.processes p ≡ Some x → is_clocked x ≡ false → contains placed p ≡ false → contains order p ≡ true
all_members d [] placed p x h e c n = absurd (either_way (contains placed p) (all_at_end d placed p x h e c) n)
all_members d (q ∷ order) placed p x h e c n =
    by_test (p == q)
    (λ k. or_left (p == q) (contains order p) k)
    (λ k. or_right (p == q) (contains order p) (all_members d order (q ∷ placed) p x (turn_of d placed q order h).rest e c (or_false (p == q) (contains placed p) k n)))

-- what feeds a process stands before it, or was placed before
fed_before : (d : Design) (order placed earlier : List ℕ) (p : ℕ) (later : List ℕ) → is_order_after placed d order ≡ true → order ≡ earlier ++ p ∷ later → (q : ℕ) → Feeds d q p → contains placed q ≡ false → contains earlier q ≡ true
fed_before d [] placed [] p later h e q f n = cc
fed_before d [] placed (x ∷ earlier) p later h e q f n = cc
fed_before d (r ∷ order) placed [] p later h e q f n =
    let t = turn_of d placed r order h in
    let w : r ≡ p = same_head r p order later e in
    let s : f.to ≡ t.process = same_process f.to t.process (sym f.to_is ∙ subst (λ m. slice_get d.processes m ≡ Some t.process) w t.is) in
    let b = any_bit (contains (needs f.to)) (writes_of f.from) f.fed in
    absurd (either_way (contains placed q) (t.ready q f.from b.0 f.from_is f.from_settles b.1 (subst (λ x. contains (needs x) b.0 ≡ true) s b.2)) n)
  where
    same_head : (x y : ℕ) (xs ys : List ℕ) → x ∷ xs ≡ y ∷ ys → x ≡ y
    same_head x y xs ys e = cc
fed_before d (r ∷ order) placed (x ∷ earlier) p later h e q f n =
    let t = turn_of d placed r order h in
    let w : r ≡ x = same_head r x order (earlier ++ p ∷ later) e in
    by_test (q == x)
    (λ k. or_left (q == x) (contains earlier q) k)
    (λ k. or_right (q == x) (contains earlier q) (fed_before d order (r ∷ placed) earlier p later t.rest (same_tail r x order (earlier ++ p ∷ later) e) q f (or_false (q == r) (contains placed q) (subst (λ m. (q == m) ≡ false) (sym w) k) n)))
  where
    same_head : (x y : ℕ) (xs ys : List ℕ) → x ∷ xs ≡ y ∷ ys → x ≡ y
    same_head x y xs ys e = cc

    same_tail : (x y : ℕ) (xs ys : List ℕ) → x ∷ xs ≡ y ∷ ys → xs ≡ ys
    same_tail x y xs ys e = cc

pub level_order_is : LevelOrderIs
level_order_is d order h = record {
  once = partial_apart d order [] (order_partial d order [] h);
  members = λ p. (λ c. member_settles d order [] p h c, λ w. all_members d order [] p w.0 h w.1 w.2 refl);
  after = λ earlier p later e q f. fed_before d order [] earlier p later h e q f refl;
}
