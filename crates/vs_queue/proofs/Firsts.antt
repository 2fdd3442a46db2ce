-- The values that bits begin with, and the roles of processes.
use Rattle.std.proofs.Common.{◌≡◌, ℕ, zero, suc, ◌+◌, ◌<◌, ◌≤◌, Bool, true, false, ◌&&◌, ◌==◌, if◌then◌else◌, cond, List, [], ◌∷◌, ◌++◌, filter, length, get_or, eqb-true, eq-eqb, refl, sym, ap, ap₂, ◌∙◌, subst, arith, ◌⊎◌, inl, inr}
use Rattle.std.specs.List.{list_any}
use mathlib.Core.Path.{fun_ext}
use Rattle.vs_four.specs.declared.Bit4.{Bit4}
use Rattle.vs_four.specs.declared.Bit4.TheVariants.{X, Z}
use Rattle.vs_net.specs.Network.{State, put}
use Rattle.vs_design.specs.Values.{count_from}
use Rattle.vs_design.specs.Designs.{Design, bit_count}
use Rattle.vs_design.specs.Footprints.{contains, net_bits}
use Rattle.vs_design.specs.Networks.{idle_value}
use Rattle.vs_writes.specs.Held.{state_of}
use Rattle.vs_queue.specs.Chosen.{next_seed, drawn}
use Rattle.vs_queue.specs.First.{flag_at, flagged, idle_by, first_value, first_seed}
use Rattle.vs_queue.specs.Ordered.{driven_bits, drawn_values, drives, seed_after, x_or_z}

-- ---- lists

pub count_more : (first k : ℕ) → count_from first (suc k) ≡ count_from first k ++ (first + k) ∷ []
count_more first zero = let e : first ≡ first + 0 = omega arith in ap (λ n. n ∷ []) e
count_more first (suc k) = ap (λ xs. first ∷ xs) (count_more (suc first) k ∙ ap (λ n. count_from (suc first) k ++ n ∷ []) (let e : suc first + k ≡ first + suc k = omega arith in e))

filter_more : (test : ℕ → Bool) (xs : List ℕ) (b : ℕ) → filter test (xs ++ b ∷ []) ≡ (if test b then (filter test xs ++ b ∷ []) else filter test xs)
filter_more test [] b = go (test b)
  where
    go : (c : Bool) → cond c (b ∷ []) [] ≡ (if c then (b ∷ []) else [])
    go true = refl
    go false = refl
filter_more test (x ∷ xs) b = go (test x) (test b) (filter_more test xs b)
  where
    go : (c e : Bool) → filter test (xs ++ b ∷ []) ≡ (if e then (filter test xs ++ b ∷ []) else filter test xs)
        → cond c (x ∷ filter test (xs ++ b ∷ [])) (filter test (xs ++ b ∷ [])) ≡ (if e then (cond c (x ∷ filter test xs) (filter test xs) ++ b ∷ []) else cond c (x ∷ filter test xs) (filter test xs))
    go true true h = ap (λ ys. x ∷ ys) h
    go true false h = ap (λ ys. x ∷ ys) h
    go false true h = h
    go false false h = h

filter_same : (f g : ℕ → Bool) (xs : List ℕ) → ((b : ℕ) → f b ≡ g b) → filter f xs ≡ filter g xs
filter_same f g [] h = refl
filter_same f g (x ∷ xs) h = ap₂ (λ c ys. cond c (x ∷ ys) ys) (h x) (filter_same f g xs h)

-- ---- draws

drawn_more : (bs : List ℕ) (b seed : ℕ) (s : State) → drawn_values (bs ++ b ∷ []) seed s ≡ put (drawn_values bs seed s) b (x_or_z (drawn (seed_after bs seed)))
drawn_more [] b seed s = refl
drawn_more (c ∷ bs) b seed s = drawn_more bs b (next_seed seed) (put s c (x_or_z (drawn seed)))

seed_more : (bs : List ℕ) (b seed : ℕ) → seed_after (bs ++ b ∷ []) seed ≡ next_seed (seed_after bs seed)
seed_more [] b seed = refl
seed_more (c ∷ bs) b seed = seed_more bs b (next_seed seed)

pub at_last : (vs : List Bit4) (v : Bit4) (j : ℕ) → j ≡ length vs → get_or (vs ++ v ∷ []) j X ≡ v
at_last [] v zero h = refl
at_last [] v (suc j) h = absurd (omega (arith, h))
at_last (w ∷ vs) v zero h = absurd (omega (arith, h))
at_last (w ∷ vs) v (suc j) h = at_last vs v j (omega (arith, h))

pub at_before : (vs : List Bit4) (v : Bit4) (j : ℕ) → j < length vs → get_or (vs ++ v ∷ []) j X ≡ get_or vs j X
at_before [] v j h = absurd (omega (arith, h))
at_before (w ∷ vs) v zero h = refl
at_before (w ∷ vs) v (suc j) h = at_before vs v j (omega (arith, h))

pub beyond : {A : Type 0} (vs : List A) (j : ℕ) (d : A) → length vs ≤ j → get_or vs j d ≡ d
beyond [] j d h = refl
beyond (w ∷ vs) zero d h = absurd (omega (arith, h))
beyond (w ∷ vs) (suc j) d h = beyond vs j d (omega (arith, h))

pub order_of : (j b : ℕ) → (j < b) ⊎ (b ≤ j)
order_of j zero = inr (omega arith)
order_of zero (suc b) = inl (omega arith)
order_of (suc j) (suc b) = elim (order_of j b) [ inl h ↦ inl (omega (arith, h)) | inr h ↦ inr (omega (arith, h)) ]

-- the bits below this number that are flagged in both
abbrev pub flagged_to : List Bool → List Bool → ℕ → List ℕ
flagged_to nets driven k = filter (λ b. flag_at nets b && flag_at driven b) (count_from 0 k)

-- the values of the bits below this number, and the generator after what was drawn for them
pub record AreBegun (nets driven : List Bool) (order b : ℕ) (values : List Bit4) (seed : ℕ) : Type 0 where
  pub count : length values ≡ b
  pub seed_is : seed ≡ seed_after (flagged_to nets driven b) order
  pub below : (j : ℕ) → j < b → get_or values j X ≡ drawn_values (flagged_to nets driven b) order (idle_by nets) j
  pub above : (j : ℕ) → b ≤ j → drawn_values (flagged_to nets driven b) order (idle_by nets) j ≡ idle_by nets j

pub none_begun : (nets driven : List Bool) (order : ℕ) → AreBegun nets driven order 0 [] order
none_begun nets driven order = record { count = refl; seed_is = refl; below = λ j h. absurd (omega (arith, h)); above = λ j h. refl }

module _ (nets driven : List Bool) (order b : ℕ) (values : List Bit4) (seed : ℕ) (r : AreBegun nets driven order b values seed) where
  abbrev test : ℕ → Bool
  test b = flag_at nets b && flag_at driven b

  abbrev to : ℕ → List ℕ
  to k = flagged_to nets driven k

  to_more : to (suc b) ≡ (if test b then (to b ++ b ∷ []) else to b)
  to_more = ap (filter test) (count_more 0 b) ∙ ap (λ n. filter test (count_from 0 b ++ n ∷ [])) (let e : 0 + b ≡ b = omega arith in e) ∙ filter_more test (count_from 0 b) b

  not_same : (j : ℕ) → (j < b) ⊎ (suc b ≤ j) → (j == b) ≡ false
  not_same j h = go (j == b) refl h
    where
      go : (c : Bool) → (j == b) ≡ c → (j < b) ⊎ (suc b ≤ j) → c ≡ false
      go true e (inl l) = let same = eqb-true j b e in absurd (omega (arith, same, l))
      go true e (inr l) = let same = eqb-true j b e in absurd (omega (arith, same, l))
      go false e k = refl

  -- one bit more, for which nothing is drawn
  pub idle_more : (v : Bit4) → test b ≡ false → v ≡ idle_by nets b → AreBegun nets driven order (suc b) (values ++ v ∷ []) seed
  idle_more v off is =
      let list : to (suc b) ≡ to b = to_more ∙ ap (λ c. if c then (to b ++ b ∷ []) else to b) off in
      record {
        count = long values v ∙ ap suc r.count;
        seed_is = r.seed_is ∙ ap (λ bs. seed_after bs order) (sym list);
        below = λ j h. at j (order_of j b) h ∙ ap (λ bs. drawn_values bs order (idle_by nets) j) (sym list);
        above = λ j h. ap (λ bs. drawn_values bs order (idle_by nets) j) list ∙ r.above j (omega (arith, h));
      }
    where
      long : (vs : List Bit4) (v : Bit4) → length (vs ++ v ∷ []) ≡ suc (length vs)
      long [] v = refl
      long (w ∷ vs) v = ap suc (long vs v)

      at : (j : ℕ) → (j < b) ⊎ (b ≤ j) → j < suc b → get_or (values ++ v ∷ []) j X ≡ drawn_values (to b) order (idle_by nets) j
      at j (inl l) h = at_before values v j (let c = r.count in omega (arith, l, c)) ∙ r.below j l
      at j (inr l) h =
          let same : j ≡ b = omega (arith, l, h) in
          at_last values v j (same ∙ sym r.count) ∙ is ∙ ap (idle_by nets) (sym same) ∙ sym (r.above j l)

  -- and one for which something is
  pub drawn_one : test b ≡ true → AreBegun nets driven order (suc b) (values ++ x_or_z (drawn seed) ∷ []) (next_seed seed)
  drawn_one on =
      let list : to (suc b) ≡ to b ++ b ∷ [] = to_more ∙ ap (λ c. if c then (to b ++ b ∷ []) else to b) on in
      let state = ap (λ bs. drawn_values bs order (idle_by nets)) list ∙ drawn_more (to b) b order (idle_by nets) in
      record {
        count = long values (x_or_z (drawn seed)) ∙ ap suc r.count;
        seed_is = ap next_seed r.seed_is ∙ sym (ap (λ bs. seed_after bs order) list ∙ seed_more (to b) b order);
        below = λ j h. at j (order_of j b) h ∙ sym (ap (λ (s : State). s j) state);
        above = λ j h. ap (λ (s : State). s j) state ∙ ap (λ c. if c then x_or_z (drawn (seed_after (to b) order)) else drawn_values (to b) order (idle_by nets) j) (not_same j (inr h)) ∙ r.above j (omega (arith, h));
      }
    where
      long : (vs : List Bit4) (v : Bit4) → length (vs ++ v ∷ []) ≡ suc (length vs)
      long [] v = refl
      long (w ∷ vs) v = ap suc (long vs v)

      at : (j : ℕ) → (j < b) ⊎ (b ≤ j) → j < suc b → get_or (values ++ x_or_z (drawn seed) ∷ []) j X ≡ put (drawn_values (to b) order (idle_by nets)) b (x_or_z (drawn (seed_after (to b) order))) j
      at j (inl l) h =
          at_before values (x_or_z (drawn seed)) j (let c = r.count in omega (arith, l, c)) ∙ r.below j l
          ∙ sym (ap (λ c. if c then x_or_z (drawn (seed_after (to b) order)) else drawn_values (to b) order (idle_by nets) j) (not_same j (inl l)))
      at j (inr l) h =
          let same : j ≡ b = omega (arith, l, h) in
          at_last values (x_or_z (drawn seed)) j (same ∙ sym r.count) ∙ ap (λ s. x_or_z (drawn s)) r.seed_is
          ∙ sym (ap (λ c. if c then x_or_z (drawn (seed_after (to b) order)) else drawn_values (to b) order (idle_by nets) j) (eq-eqb j b same))

  -- one bit more
  pub one_begun : (v : Bit4) (next : ℕ) → v ≡ first_value (flag_at nets b) (flag_at driven b) seed → next ≡ first_seed (flag_at nets b) (flag_at driven b) seed → AreBegun nets driven order (b + 1) (values ++ v ∷ []) next
  one_begun v next e k = subst (λ n. AreBegun nets driven order n (values ++ v ∷ []) next) (let e2 : suc b ≡ b + 1 = omega arith in e2) (go (flag_at nets b) (flag_at driven b) refl refl e k)
    where
      both : (x y : Bool) → flag_at nets b ≡ x → flag_at driven b ≡ y → test b ≡ (x && y)
      both x y h l = ap₂ ◌&&◌ h l

      idle : (x : Bool) → flag_at nets b ≡ x → (if x then Z else X) ≡ idle_by nets b
      idle x h = ap (λ c. if c then Z else X) (sym h)

      go : (x y : Bool) → flag_at nets b ≡ x → flag_at driven b ≡ y → v ≡ first_value x y seed → next ≡ first_seed x y seed → AreBegun nets driven order (suc b) (values ++ v ∷ []) next
      go false y h l is s = subst (AreBegun nets driven order (suc b) (values ++ v ∷ [])) (sym s) (idle_more v (both false y h l) (is ∙ idle false h))
      go true false h l is s = subst (AreBegun nets driven order (suc b) (values ++ v ∷ [])) (sym s) (idle_more v (both true false h l) (is ∙ idle true h))
      go true true h l is s = subst (λ (w : Bit4). AreBegun nets driven order (suc b) (values ++ w ∷ []) next) (sym is) (subst (AreBegun nets driven order (suc b) (values ++ x_or_z (drawn seed) ∷ [])) (sym s) (drawn_one (both true true h l)))

  pub all_begun : b ≡ length nets → state_of values ≡ drawn_values (flagged nets driven) order (idle_by nets)
  all_begun whole = fun_ext (λ j. at j (order_of j b) ∙ ap (λ k. drawn_values (flagged_to nets driven k) order (idle_by nets) j) whole)
    where
      at : (j : ℕ) → (j < b) ⊎ (b ≤ j) → state_of values j ≡ drawn_values (to b) order (idle_by nets) j
      at j (inl l) = r.below j l
      at j (inr l) =
          beyond values j X (let c = r.count in omega (arith, l, c))
          ∙ sym (r.above j l ∙ ap (λ c. if c then Z else X) (beyond nets j false (omega (arith, l, whole))))

-- flags of the nets and of the driven bits of a design
module _ (d : Design) (nets driven : List Bool) (count : length nets ≡ bit_count d) (net : (b : ℕ) → flag_at nets b ≡ contains (net_bits d) b) (drive : (b : ℕ) → flag_at driven b ≡ list_any (drives b) d.processes) where
  pub flagged_are : flagged nets driven ≡ driven_bits d
  flagged_are = filter_same (λ b. flag_at nets b && flag_at driven b) (λ b. contains (net_bits d) b && list_any (drives b) d.processes) (count_from 0 (length nets)) (λ b. ap₂ ◌&&◌ (net b) (drive b))
      ∙ ap (λ k. filter (λ b. contains (net_bits d) b && list_any (drives b) d.processes) (count_from 0 k)) count

  pub idle_is : idle_by nets ≡ idle_value d
  idle_is = fun_ext (λ b. ap (λ c. if c then Z else X) (net b))
