-- What is stirred, and that what breaks the rule Race is the same along each level order.
use Rattle.std.proofs.Common.{◌≡◌, ℕ, suc, Bool, true, false, List, [], ◌∷◌, ◌++◌, ◌||◌, ◌==◌, if◌then◌else◌, ◌⊎◌, inl, inr, refl, sym, ap, ◌∙◌, subst, Option, Some}
use Rattle.std.specs.Prelude.{filter, slice_get}
use Rattle.std.specs.List.{list_any}
use Rattle.vs_design.specs.Designs.{Process, is_clocked, Design}
use Rattle.vs_design.specs.Footprints.{contains, writes_of, reads_of}
use Rattle.vs_design.specs.Levels.{needs, level_order, is_order_after, is_level_order, has_no_cycle}
use Rattle.vs_design.specs.Races.{at_once_bits, stirred_at, stir, stirred, DependsOn, Itself, Through, raced_from, race_bits}
use Rattle.vs_design.specs.Laws.{StirredBitsAre, RaceByAnyOrder}
use Rattle.vs_design.proofs.Lists.{by_test, contains_head, or_right}
use Rattle.vs_design.proofs.Order.{Turn, turn_of}
use Rattle.vs_design.proofs.RaceLaws.{stir_grows, closed_stir, split}
use Rattle.vs_design.proofs.CycleFound.{order_or_cycle}

any_found : (bits ns : List ℕ) → list_any (contains bits) ns ≡ true → (b : ℕ) × (contains bits b ≡ true) × (contains ns b ≡ true)
any_found bits [] h = cc
any_found bits (n ∷ ns) h = by_test (contains bits n)
    (λ e. (n, e, contains_head n ns))
    (λ e. let f = any_found bits ns (subst (λ t. (t || list_any (contains bits) ns) ≡ true) e h) in (f.0, f.1, or_right (f.0 == n) (contains ns f.0) f.2))

-- what is new at a process depends on what was there
new_depends : (d : Design) (all bits : List ℕ) (p : ℕ) (x : Process) → slice_get d.processes p ≡ Some x → is_clocked x ≡ false → ((b : ℕ) → contains bits b ≡ true → DependsOn d all b)
    → (c : ℕ) → contains (stirred_at bits (Some x)) c ≡ true → DependsOn d all c
new_depends d all bits p x i s h c k = by_test (list_any (contains bits) (needs x))
    (λ e. let f = any_found bits (needs x) e in Through p x f.0 c i s (h f.0 f.1) f.2 (subst (λ (t : Bool). contains (if t then writes_of x else []) c ≡ true) e k))
    (λ e. absurd (let z = subst (λ (t : Bool). contains (if t then writes_of x else []) c ≡ true) e k in cc))

stir_depends : (d : Design) (all order placed bits : List ℕ) → is_order_after placed d order ≡ true → ((b : ℕ) → contains bits b ≡ true → DependsOn d all b) → (b : ℕ) → contains (stir d order bits) b ≡ true → DependsOn d all b
stir_depends d all [] placed bits o h b k = h b k
stir_depends d all (p ∷ order) placed bits o h b k = stir_depends d all order (p ∷ placed) (bits ++ stirred_at bits (slice_get d.processes p)) t.rest more b k
  where
    t : Turn d placed p order
    t = turn_of d placed p order o

    more : (c : ℕ) → contains (bits ++ stirred_at bits (slice_get d.processes p)) c ≡ true → DependsOn d all c
    more c m = go (split bits (stirred_at bits (slice_get d.processes p)) c m)
      where
        go : (contains bits c ≡ true) ⊎ (contains (stirred_at bits (slice_get d.processes p)) c ≡ true) → DependsOn d all c
        go (inl n) = h c n
        go (inr n) = new_depends d all bits p t.process t.is t.settles h c (subst (λ (w : Option Process). contains (stirred_at bits w) c ≡ true) t.is n)

depends_stirs : (d : Design) (order bits : List ℕ) → is_level_order d order ≡ true → (b : ℕ) → DependsOn d bits b → contains (stir d order bits) b ≡ true
depends_stirs d order bits o _ (Itself b h) = stir_grows d order bits b h
depends_stirs d order bits o _ (Through p x b c i s k n w) = closed_stir d order [] bits o (λ q z m e g. cc) (λ q z m e y g. cc) p x b c i s (depends_stirs d order bits o b k) n w

pub stirred_bits_are : StirredBitsAre
stirred_bits_are d order o bits b = (stir_depends d bits order [] bits o (λ c h. Itself c h) b, depends_stirs d order bits o b)

both_ways : (a b : Bool) → (a ≡ true → b ≡ true) → (b ≡ true → a ≡ true) → a ≡ b
both_ways true b f g = sym (f refl)
both_ways false true f g = g refl
both_ways false false f g = refl

filter_same : (f g : ℕ → Bool) → ((b : ℕ) → f b ≡ g b) → (xs : List ℕ) → filter f xs ≡ filter g xs
filter_same f g h [] = refl
filter_same f g h (x ∷ xs) = ap (λ (t : Bool). if t then x ∷ filter f xs else filter f xs) (h x) ∙ ap (λ ys. if g x then x ∷ ys else ys) (filter_same f g h xs)

module _ (d : Design) (one other : List ℕ) (o : is_level_order d one ≡ true) (p : is_level_order d other ≡ true) where
  stir_same : (bits : List ℕ) (b : ℕ) → contains (stir d one bits) b ≡ contains (stir d other bits) b
  stir_same bits b = both_ways (contains (stir d one bits) b) (contains (stir d other bits) b)
      (λ h. (stirred_bits_are d other p bits b).1 ((stirred_bits_are d one o bits b).0 h))
      (λ h. (stirred_bits_are d one o bits b).1 ((stirred_bits_are d other p bits b).0 h))

  raced_same : (bits : List ℕ) (n k : ℕ) (ps : List Process) → raced_from d one bits n k ps ≡ raced_from d other bits n k ps
  raced_same bits n k [] = refl
  raced_same bits n k (x ∷ ps) =
      ap (λ ys. (if k == n then [] else ys) ++ raced_from d one bits n (suc k) ps) (filter_same (contains (stirred d one x)) (contains (stirred d other x)) (stir_same (at_once_bits x)) bits)
      ∙ ap (λ ys. (if k == n then [] else filter (contains (stirred d other x)) bits) ++ ys) (raced_same bits n (suc k) ps)

  race_same : (n : ℕ) (x : Process) → race_bits d one n x ≡ race_bits d other n x
  race_same n x = ap (λ bs. if is_clocked x then bs else []) (raced_same (reads_of x) n 0 d.processes)

pub race_by_any_order : RaceByAnyOrder
race_by_any_order d order o = race_same d order (level_order d) o acyclic
  where
    acyclic : has_no_cycle d ≡ true
    acyclic = by_test (has_no_cycle d) (λ e. e) (λ e. let c = (order_or_cycle d).found e in absurd ((order_or_cycle d).none order o c.0 c.1))
