-- What the driven nets begin with.
use Rattle.std.proofs.Common.{◌≡◌, ℕ, suc, Bool, true, false, ◌&&◌, ◌||◌, ◌==◌, ◌%◌, if◌then◌else◌, List, [], ◌∷◌, ◌++◌, map, filter, refl, sym, ◌∙◌, subst, ◌⊎◌, inl, inr}
use Rattle.std.specs.List.{list_any}
use Rattle.std.proofs.lemmas.Bool.{eqb-true}
use Rattle.vs_four.specs.declared.Bit4.{Bit4}
use Rattle.vs_four.specs.declared.Bit4.TheVariants.{X, Z}
use Rattle.vs_net.specs.Network.{State, Network, AnAssign, put, kind, writes}
use Rattle.vs_net.specs.Network as N
use Rattle.vs_design.specs.Designs.{Process, Continuous, Always, Design, bit_count, top_inputs}
use Rattle.vs_design.specs.Footprints.{contains, net_bits}
use Rattle.vs_design.specs.Initials.{sole_bits}
use Rattle.vs_design.specs.Networks.{network_of, idle_value, process_of, writer_of, spare_writers, keeper_of, at_or_input}
use Rattle.vs_design.specs.Values.{count_from}
use Rattle.vs_queue.specs.Chosen.{next_seed, drawn}
use Rattle.vs_queue.specs.Laws.{DrawnIsFirst}
use Rattle.vs_queue.specs.Ordered.{driven_bits, drawn_values, drives, x_or_z, x_values}

-- an assign of the network writes the bit
abbrev IsDriven : Network → ℕ → Type 0
IsDriven n b = (p : ℕ) × (kind (n.process p) ≡ AnAssign) × (writes (n.process p) b ≡ true)

abbrev IsEither : Bit4 → Type 0
IsEither v = (v ≡ X) ⊎ (v ≡ Z)

abbrev AreDriven : Network → List ℕ → Type 0
AreDriven n [] = Unit {0}
AreDriven n (b ∷ bs) = IsDriven n b × AreDriven n bs

-- ---- the bits that are driven

here : (d : Design) (clocks : List ℕ) (b : ℕ) (p : Process) → drives b p ≡ true → (kind (process_of d clocks p) ≡ AnAssign) × (writes (process_of d clocks p) b ≡ true)
here d clocks b (Continuous place port target_place target e) h = (refl, h)
here d clocks b (Always place star events statement) h = absurd (let z : ⊥ = cc in z)

driver : (d : Design) (clocks : List ℕ) (b : ℕ) (ps : List Process) (others : List N.Process) → list_any (drives b) ps ≡ true
    → (p : ℕ) × (kind (at_or_input (map (process_of d clocks) ps ++ others) p) ≡ AnAssign) × (writes (at_or_input (map (process_of d clocks) ps ++ others) p) b ≡ true)
driver d clocks b [] others h = absurd (let z : ⊥ = cc in z)
driver d clocks b (x ∷ ps) others h = at (drives b x) refl h (driver d clocks b ps others) where
  at : (k : Bool) → drives b x ≡ k → (k || list_any (drives b) ps) ≡ true
      → (list_any (drives b) ps ≡ true → (p : ℕ) × (kind (at_or_input (map (process_of d clocks) ps ++ others) p) ≡ AnAssign) × (writes (at_or_input (map (process_of d clocks) ps ++ others) p) b ≡ true))
      → (p : ℕ) × (kind (at_or_input (process_of d clocks x ∷ (map (process_of d clocks) ps ++ others)) p) ≡ AnAssign) × (writes (at_or_input (process_of d clocks x ∷ (map (process_of d clocks) ps ++ others)) p) b ≡ true)
  at true e i rest = let own = here d clocks b x e in (0, own.0, own.1)
  at false e i rest = let found = rest i in (suc found.0, found.1, found.2)

right : (a b : Bool) → (a && b) ≡ true → b ≡ true
right true b h = h
right false b h = absurd (let z : ⊥ = cc in z)

kept : (n : Network) (test : ℕ → Bool) (bs : List ℕ) → ((b : ℕ) → test b ≡ true → IsDriven n b) → AreDriven n (filter test bs)
kept n test [] h = tt
kept n test (b ∷ bs) h = at (test b) refl (kept n test bs h) where
  at : (k : Bool) → test b ≡ k → AreDriven n (filter test bs) → AreDriven n (if k then (b ∷ filter test bs) else filter test bs)
  at true e rest = (h b e, rest)
  at false e rest = rest

all_driven : (d : Design) (clocks : List ℕ) → AreDriven (network_of d clocks) (driven_bits d)
all_driven d clocks =
    kept (network_of d clocks) (λ b. contains (net_bits d) b && list_any (drives b) d.processes) (count_from 0 (bit_count d))
    (λ b h. driver d clocks b d.processes (map (writer_of clocks) (top_inputs d) ++ (spare_writers d clocks ++ keeper_of clocks (sole_bits d))) (right (contains (net_bits d) b) (list_any (drives b) d.processes) h))

-- ---- their values

abbrev IsBegun : Network → State → State → ℕ → Type 0
IsBegun n s t b = (t b ≡ s b) ⊎ (IsEither (t b) × IsDriven n b)

-- one of them has this value, and then the others
with_one : (n : Network) (s t : State) (c b : ℕ) (v : Bit4) → IsEither v → IsDriven n c → IsBegun n (put s c v) t b → IsBegun n s t b
with_one n s t c b v either driven (inr h) = inr h
with_one n s t c b v either driven (inl h) = at (b == c) refl h where
  at : (k : Bool) → (b == c) ≡ k → t b ≡ (if k then v else s b) → IsBegun n s t b
  at true e i = inr (moved (t b) v i either, subst (IsDriven n) (sym (eqb-true b c e)) driven)
    where
      moved : (x y : Bit4) → x ≡ y → IsEither y → IsEither x
      moved x y e (inl h) = inl (e ∙ h)
      moved x y e (inr h) = inr (e ∙ h)
  at false e i = inl i

x_or_z_is : (n : ℕ) → IsEither (x_or_z n)
x_or_z_is n = at ((n % 2) == 0) where
  at : (k : Bool) → IsEither (if k then X else Z)
  at true = inl refl
  at false = inr refl

drawn_is : (n : Network) (bs : List ℕ) (seed : ℕ) (s : State) (b : ℕ) → AreDriven n bs → IsBegun n s (drawn_values bs seed s) b
drawn_is n [] seed s b h = inl refl
drawn_is n (c ∷ bs) seed s b h = with_one n s (drawn_values (c ∷ bs) seed s) c b (x_or_z (drawn seed)) (x_or_z_is (drawn seed)) h.0 (drawn_is n bs (next_seed seed) (put s c (x_or_z (drawn seed))) b h.1)

x_is : (n : Network) (bs : List ℕ) (s : State) (b : ℕ) → AreDriven n bs → IsBegun n s (x_values bs s) b
x_is n [] s b h = inl refl
x_is n (c ∷ bs) s b h = with_one n s (x_values (c ∷ bs) s) c b X (inl refl) h.0 (x_is n bs (put s c X) b h.1)

pub drawn_is_first : DrawnIsFirst
drawn_is_first d clocks seed = (λ b. drawn_is (network_of d clocks) (driven_bits d) seed (idle_value d) b (all_driven d clocks), λ b. x_is (network_of d clocks) (driven_bits d) (idle_value d) b (all_driven d clocks))
