-- The equations have at most one solution.
use Rattle.vs_net.proofs.Drives.{driven_input, driven_drive, clocked_only, input_rise}
use Rattle.std.proofs.Common.{◌≡◌, ℕ, true, List, [], ◌∷◌, refl, sym, ap, ap₂, ◌∙◌, subst, inl, inr, None}
use mathlib.Core.Path.{fun_ext}
use Rattle.vs_net.specs.Network.{State, write_all, Network, kind, writes, listens, flatten}
use Rattle.vs_net.specs.Queue.{Slot, Fall, Rise}
use Rattle.vs_net.specs.Solution.{given, IsSlotEnd, IsSolution, IsWriter}
use Rattle.vs_net.proofs.Asleep.{given_local, given_all, given_none}
use Rattle.vs_net.specs.Lawful.{IsLawful, Settles, IsKnown, IsSure}
use Rattle.vs_net.proofs.Parts.{sure_same}
use Rattle.vs_net.specs.Laws.{OneSolution, HasKnownSelects, AreKnownSelects}
use Rattle.vs_net.proofs.Basics.{write_all_covered, write_none}
use Rattle.vs_net.proofs.Levels.{by_order, no_writer, settles, updates, writer_of, same_writer}

module _ (n : Network) (L : IsLawful n) (before : State) (slot : Slot) (s t : State) (ss : IsSlotEnd n before slot s) (ts : IsSlotEnd n before slot t) (known : (b : ℕ) → L.selects b ≡ true → IsKnown (t b)) where
  same_at : (b : ℕ) → ((r : ℕ) → writes (n.process r) b ≡ true → Settles (kind (n.process r)) → s b ≡ t b) → s b ≡ t b
  same_at b below = elim (writer_of n L b) [
    | no_writer none ↦ ss.kept b none ∙ sym (ts.kept b none)
    | settles r w k ↦ below r w k
    | updates r w k only ↦ ss.updated r b k w ∙ sym (ts.updated r b k w)
  ]

  abbrev Same : ℕ → Type 0
  Same p = (b : ℕ) → writes (n.process p) b ≡ true → s b ≡ t b

  same_of : (p : ℕ) → Settles (kind (n.process p)) → ((b r : ℕ) → listens (n.process p) b ≡ true → writes (n.process r) b ≡ true → Settles (kind (n.process r)) → Same r) → Same p
  same_of p k below b w =
      let same : (c : ℕ) → listens (n.process p) c ≡ true → s c ≡ t c = (λ c l. same_at c (λ r wr kr. below c r l wr kr c wr)) in
      let sure : IsSure n p t = (λ c e. known c (L.selector_is p c e).3) in
      let before_sure : IsSure n p s = sure_same n L p t s (λ c l. sym (same c l)) sure in
      let reads = given_local n L before s t p k before_sure same in
      sym (ap (λ (f : State). f b) (ss.settled p k before_sure))
      ∙ ap (λ ws. write_all s ws b) reads
      ∙ write_all_covered (given n before p t) s t b (given_all n L before t p b k sure w)
      ∙ ap (λ (f : State). f b) (ts.settled p k sure)

  pub one_end : s ≡ t
  one_end = fun_ext (λ b. same_at b (λ r w k. by_order n L Same same_of r k b w))

-- at the end of a slot the select nets are known, where those of the inputs are
module _ (n : Network) (L : IsLawful n) (before : State) (slot : Slot) (s : State) (e : IsSlotEnd n before slot s) (inputs : HasKnownSelects n L s) where
  abbrev Known : ℕ → Type 0
  Known p = (b : ℕ) → writes (n.process p) b ≡ true → L.selects b ≡ true → IsKnown (s b)

  known_of : (p : ℕ) → Settles (kind (n.process p)) → ((b r : ℕ) → listens (n.process p) b ≡ true → writes (n.process r) b ≡ true → Settles (kind (n.process r)) → Known r) → Known p
  known_of p k below b w h =
      let d = L.select_driven b h in
      elim d.2 [
        | inl i ↦ inputs d.0 b i d.1 h
        | inr x ↦ (let same = same_writer n L p d.0 b w d.1 in
            let awake = subst (λ (y : ℕ). n.sleeper y ≡ None) same x.1 in
            let reads : (c : ℕ) → listens (n.process p) c ≡ true → L.selects c ≡ true → IsKnown (s c) = (λ c l g. let y = L.select_driven c g in elim y.2 [ inl i ↦ inputs y.0 c i y.1 g | inr z ↦ below c y.0 l y.1 z.0 c y.1 g ]) in
            let sure : IsSure n p s = (λ c g. let i = L.selector_is p c g in reads c i.2 i.3) in
            subst IsKnown (ap (λ ws. write_all s ws b) (sym (given_none n L before s p awake)) ∙ ap (λ (f : State). f b) (e.settled p k sure))
            (L.select_made p b s s k h w reads))
      ]

  pub selects_known : (b : ℕ) → L.selects b ≡ true → IsKnown (s b)
  selects_known b h = let d = L.select_driven b h in elim d.2 [ inl i ↦ inputs d.0 b i d.1 h | inr x ↦ by_order n L Known known_of d.0 x.0 b d.1 h ]

-- an input has its vector's value, and keeps it where the clock rises
fall_inputs : (n : Network) (L : IsLawful n) (before v s : State) → IsSlotEnd n before (Fall v) s → HasKnownSelects n L v → HasKnownSelects n L s
fall_inputs n L before v s e h p b k w g = subst IsKnown (sym (e.updated p b (subst IsWriter (sym k) tt) w ∙ driven_input (n.process p) v before b k w)) (h p b k w g)

rise_inputs : (n : Network) (L : IsLawful n) (before s : State) → IsSlotEnd n before Rise s → HasKnownSelects n L before → HasKnownSelects n L s
rise_inputs n L before s e h p b k w g =
    subst IsKnown (sym (e.updated p b (subst IsWriter (sym k) tt) w
    ∙ driven_drive (n.process p) Rise before b (clocked_only (n.process p) Rise before (λ x. cc))
    ∙ ap (λ us. write_all before (flatten us) b) (input_rise (n.process p) k)
    ∙ write_none before b)) (h p b k w g)

-- what is known of the values before is known of what was to be known
again : (n : Network) (L : IsLawful n) (before x : State) (slots : List Slot) → HasKnownSelects n L x → AreKnownSelects n L before slots → AreKnownSelects n L x slots
again n L before x [] h k = tt
again n L before x (Fall v ∷ slots) h k = k
again n L before x (Rise ∷ slots) h k = (h, again n L before x slots h k.1)

pub one_solution : OneSolution
one_solution n L before [] [] [] known h k = refl
one_solution n L before [] [] (y ∷ ys) known h k = absurd k
one_solution n L before [] (x ∷ xs) ys known h k = absurd h
one_solution n L before (slot ∷ slots) [] ys known h k = absurd h
one_solution n L before (slot ∷ slots) (x ∷ xs) [] known h k = absurd k
one_solution n L before (Fall v ∷ slots) (x ∷ xs) (y ∷ ys) known h k =
    let inputs = fall_inputs n L before v y k.0 known.0 in
    let e = one_end n L before (Fall v) x y h.0 k.0 (selects_known n L before (Fall v) y k.0 inputs) in
    ap₂ (λ (a : State) (b : List State). a ∷ b) e (one_solution n L y slots xs ys (again n L v y slots inputs known.1) (subst (λ (s : State). IsSolution n s slots xs) e h.1) k.1)
one_solution n L before (Rise ∷ slots) (x ∷ xs) (y ∷ ys) known h k =
    let inputs = rise_inputs n L before y k.0 known.0 in
    let e = one_end n L before Rise x y h.0 k.0 (selects_known n L before Rise y k.0 inputs) in
    ap₂ (λ (a : State) (b : List State). a ∷ b) e (one_solution n L y slots xs ys (again n L before y slots inputs known.1) (subst (λ (s : State). IsSolution n s slots xs) e h.1) k.1)
