-- The nets of the clock and of the resets.
use Rattle.std.proofs.Common.{◌≡◌, ◌≢◌, ℕ, Bool, true, false, [], ◌∷◌, ◌||◌, ◌⊎◌, inl, inr, Option, Some, None, refl, sym, ap, ◌∙◌, subst, if◌then◌else◌, eq-eqb}
use Rattle.std.proofs.lemmas.Bool.{both_ways, cond-true, cond-false}
use Rattle.vs_net.specs.Network.{State, Process, Input, Clock, Assign, Comb, Clocked, Network, Kind, AnInput, TheClock, AnAssign, AComb, AClocked, kind, writes, listens, made, reset_of, Reset, clock_net}
use Rattle.vs_net.specs.Solution.{IsWriter}
use Rattle.vs_net.specs.Lawful.{IsLawful, IsClockPort, IsResetPort, Settles}
use Rattle.vs_net.proofs.Basics.{by_test}
use Rattle.vs_net.proofs.Levels.{by_order}

-- the clock's nets, or those that copy the reset input of this bit
abbrev pub Family : Type 0
Family = Option ℕ

abbrev pub of_root : Option ℕ → Option Family
of_root None = None
of_root (Some i) = Some (Some i)

-- the assign of an input port that copies one net of a family to another
pub record IsPort (nets : ℕ → Option Family) (process : Process) : Type 0 where
  pub from : ℕ
  pub to : ℕ
  pub family : Family
  pub from_net : nets from ≡ Some family
  pub to_net : nets to ≡ Some family
  pub apart : to ≢ from
  pub reads_one : (b : ℕ) → listens process b ≡ true → b ≡ from
  pub reads_it : listens process from ≡ true
  pub writes_one : (b : ℕ) → writes process b ≡ true → b ≡ to
  pub writes_it : writes process to ≡ true
  pub copies : (s : State) → made process s ≡ record { bit = to; value = s from } ∷ []

abbrev pub IsInput : Kind → Type 0
IsInput AnInput = Unit {0}
IsInput TheClock = Unit {0}
IsInput _ = ⊥

module _ (n : Network) (L : IsLawful n) where
  abbrev pub nets : ℕ → Option Family
  nets b = if L.clock_nets b then Some None else of_root (L.roots b)

  pub clock_family : (b : ℕ) → L.clock_nets b ≡ true → nets b ≡ Some None
  clock_family b h = cond-true (L.clock_nets b) (Some None) (of_root (L.roots b)) h

  -- the writer of a reset net
  pub root_writer : (p b i : ℕ) → writes (n.process p) b ≡ true → L.roots b ≡ Some i → ((b ≡ i) × (kind (n.process p) ≡ AnInput)) ⊎ (kind (n.process p) ≡ AnAssign)
  root_writer p b i w h =
      let r = L.roots_written b i h in
      let e = L.one_writer p r.0 b w r.1 in
      subst (λ (x : ℕ). ((b ≡ i) × (kind (n.process x) ≡ AnInput)) ⊎ (kind (n.process x) ≡ AnAssign)) e r.2

  -- and of a clock net
  pub clock_writer : (p b : ℕ) → writes (n.process p) b ≡ true → L.clock_nets b ≡ true → (kind (n.process p) ≡ TheClock) ⊎ (kind (n.process p) ≡ AnAssign)
  clock_writer p b w h =
      let r = L.nets_written b h in
      let e = L.one_writer p r.0 b w r.1 in
      subst (λ (x : ℕ). (kind (n.process x) ≡ TheClock) ⊎ (kind (n.process x) ≡ AnAssign)) e r.2

  -- a reset net is no clock net
  abbrev Apart : ℕ → Type 0
  Apart p = (b i : ℕ) → writes (n.process p) b ≡ true → L.roots b ≡ Some i → L.clock_nets b ≡ true → ⊥

  abbrev settles_of : (p : ℕ) → kind (n.process p) ≡ AnAssign → Settles (kind (n.process p))
  settles_of p k = subst Settles (sym k) tt

  apart_step : (p : ℕ) → Settles (kind (n.process p)) → ((b r : ℕ) → listens (n.process p) b ≡ true → writes (n.process r) b ≡ true → Settles (kind (n.process r)) → Apart r) → Apart p
  apart_step p s below b i w root net = elim (root_writer p b i w root) [
    | inl k ↦ (let e = k.1 in subst Settles e s)
    | inr k ↦ elim (L.assign_nets p k) [
      | inr off ↦ both_ways (writes (n.process p) b) (off b net).1 w
      | inl c ↦ elim (L.assign_roots p k) [
        | inr none ↦ (let e = none b w in cc)
        | inl d ↦ at_from c d
      ]
    ]
  ]
    where
      at_from : IsClockPort L.clock_nets (n.process p) → IsResetPort L.roots (n.process p) → ⊥
      at_from c d =
          let e = d.reads_one c.from c.reads_it in
          let root_from = subst (λ (x : ℕ). L.roots x ≡ Some d.input) (sym e) d.from_net in
          let r = L.nets_written c.from c.from_net in
          elim r.2 [
            | inl t ↦ elim (root_writer r.0 c.from d.input r.1 root_from) [ inl x ↦ (let y = x.1 in cc) | inr x ↦ cc ]
            | inr a ↦ below c.from r.0 c.reads_it r.1 (settles_of r.0 a) c.from d.input r.1 root_from c.from_net
          ]

  pub off_clock : (b i : ℕ) → L.roots b ≡ Some i → L.clock_nets b ≡ false
  off_clock b i h = by_test (L.clock_nets b)
      (λ net. let r = L.roots_written b i h in absurd (elim r.2 [
        | inl k ↦ elim (clock_writer r.0 b r.1 net) [ inl x ↦ (let y = k.1 in cc) | inr x ↦ (let y = k.1 in cc) ]
        | inr k ↦ by_order n L Apart apart_step r.0 (settles_of r.0 k) b i r.1 h net
      ]))
      (λ e. e)

  pub root_family : (b i : ℕ) → L.roots b ≡ Some i → nets b ≡ Some (Some i)
  root_family b i h = cond-false (L.clock_nets b) (Some None) (of_root (L.roots b)) (off_clock b i h) ∙ ap of_root h

  -- what a family says of a net
  pub data Net (b : ℕ) (f : Family) : Type 0 where
    of_clock : f ≡ None → L.clock_nets b ≡ true → Net b f
    of_reset : (i : ℕ) → f ≡ Some i → L.roots b ≡ Some i → Net b f

  pub net_of : (b : ℕ) (f : Family) → nets b ≡ Some f → Net b f
  net_of b f h = by_test (L.clock_nets b)
      (λ e. of_clock (let x = clock_family b e in cc) e)
      (λ e. by_root (L.roots b) refl (sym (cond-false (L.clock_nets b) (Some None) (of_root (L.roots b)) e) ∙ h))
    where
      by_root : (o : Option ℕ) → L.roots b ≡ o → of_root (L.roots b) ≡ Some f → Net b f
      by_root None e g = absurd (let x = ap of_root e in cc)
      by_root (Some i) e g = of_reset i (let x = ap of_root e in cc) e

  -- the bit of the input that a reset net copies
  pub record Root (i : ℕ) : Type 0 where
    pub input : ℕ
    pub is_input : kind (n.process input) ≡ AnInput
    pub writes_it : writes (n.process input) i ≡ true
    pub itself : L.roots i ≡ Some i

  abbrev Rooted : ℕ → Type 0
  Rooted p = (b i : ℕ) → writes (n.process p) b ≡ true → L.roots b ≡ Some i → Root i

  root_of_input : (p b i : ℕ) → writes (n.process p) b ≡ true → L.roots b ≡ Some i → b ≡ i → kind (n.process p) ≡ AnInput → Root i
  root_of_input p b i w h e k = record { input = p; is_input = k; writes_it = subst (λ (x : ℕ). writes (n.process p) x ≡ true) e w; itself = subst (λ (x : ℕ). L.roots x ≡ Some i) e h }

  rooted_step : (p : ℕ) → Settles (kind (n.process p)) → ((b r : ℕ) → listens (n.process p) b ≡ true → writes (n.process r) b ≡ true → Settles (kind (n.process r)) → Rooted r) → Rooted p
  rooted_step p s below b i w h = elim (root_writer p b i w h) [
    | inl k ↦ absurd (let e = k.1 in subst Settles e s)
    | inr k ↦ elim (L.assign_roots p k) [
      | inr none ↦ absurd (let e = none b w in cc)
      | inl d ↦ at_from d
    ]
  ]
    where
      at_from : IsResetPort L.roots (n.process p) → Root i
      at_from d =
          let same : d.input ≡ i = (let x = d.to_net in let y = subst (λ (z : ℕ). L.roots z ≡ Some i) (d.writes_one b w) h in cc) in
          let root_from : L.roots d.from ≡ Some i = d.from_net ∙ ap Some same in
          let r = L.roots_written d.from i root_from in
          elim r.2 [
            | inl k ↦ root_of_input r.0 d.from i r.1 root_from k.0 k.1
            | inr k ↦ below d.from r.0 d.reads_it r.1 (settles_of r.0 k) d.from i r.1 root_from
          ]

  pub rooted : (b i : ℕ) → L.roots b ≡ Some i → Root i
  rooted b i h =
      let r = L.roots_written b i h in
      elim r.2 [
        | inl k ↦ root_of_input r.0 b i r.1 h k.0 k.1
        | inr k ↦ by_order n L Rooted rooted_step r.0 (settles_of r.0 k) b i r.1 h
      ]

  -- who writes a net of a family
  pub net_writer : (p b : ℕ) (f : Family) → nets b ≡ Some f → writes (n.process p) b ≡ true → IsInput (kind (n.process p)) ⊎ (kind (n.process p) ≡ AnAssign)
  net_writer p b f h w = elim (net_of b f h) [
    | of_clock e c ↦ elim (clock_writer p b w c) [ inl k ↦ inl (subst IsInput (sym k) tt) | inr k ↦ inr k ]
    | of_reset i e r ↦ elim (root_writer p b i w r) [ inl k ↦ inl (subst IsInput (sym k.1) tt) | inr k ↦ inr k ]
  ]

  pub some_writer : (b : ℕ) (f : Family) → nets b ≡ Some f → (p : ℕ) × (writes (n.process p) b ≡ true)
  some_writer b f h = elim (net_of b f h) [
    | of_clock e c ↦ (let w = L.nets_written b c in (w.0, w.1))
    | of_reset i e r ↦ (let w = L.roots_written b i r in (w.0, w.1))
  ]

  -- a process that is neither an input nor an assign writes none
  pub off_nets : (p : ℕ) → kind (n.process p) ≢ AnAssign → (IsInput (kind (n.process p)) → ⊥) → (b : ℕ) (f : Family) → nets b ≡ Some f → writes (n.process p) b ≡ false
  off_nets p na ni b f h = by_test (writes (n.process p) b) (λ w. elim (net_writer p b f h w) [ inl k ↦ absurd (ni k) | inr k ↦ absurd (na k) ]) (λ e. e)

  -- an assign is a port, or writes none
  pub port_of : (p : ℕ) → kind (n.process p) ≡ AnAssign → IsPort nets (n.process p) ⊎ ((b : ℕ) (f : Family) → nets b ≡ Some f → writes (n.process p) b ≡ false)
  port_of p k = elim (L.assign_nets p k) [
    | inl c ↦ inl (clock_port c)
    | inr off ↦ elim (L.assign_roots p k) [
      | inl d ↦ inl (reset_port d)
      | inr none ↦ inr (λ b f h. elim (net_of b f h) [
        | of_clock e c ↦ (off b c).1
        | of_reset i e r ↦ by_test (writes (n.process p) b) (λ w. absurd (let x = none b w in cc)) (λ z. z)
      ])
    ]
  ]
    where
      reset_port : IsResetPort L.roots (n.process p) → IsPort nets (n.process p)
      reset_port d = record { from = d.from; to = d.to; family = Some d.input; from_net = root_family d.from d.input d.from_net; to_net = root_family d.to d.input d.to_net; apart = d.apart; reads_one = d.reads_one; reads_it = d.reads_it; writes_one = d.writes_one; writes_it = d.writes_it; copies = d.copies }

      clock_port : IsClockPort L.clock_nets (n.process p) → IsPort nets (n.process p)
      clock_port c = record { from = c.from; to = c.to; family = None; from_net = clock_family c.from c.from_net; to_net = clock_family c.to c.to_net; apart = c.apart; reads_one = c.reads_one; reads_it = c.reads_it; writes_one = c.writes_one; writes_it = c.writes_it; copies = c.copies }

  -- a data input writes none, or is a reset input of one bit
  pub input_net : (p : ℕ) → kind (n.process p) ≡ AnInput → ((i : ℕ) × (nets i ≡ Some (Some i)) × (writes (n.process p) i ≡ true)) ⊎ ((b : ℕ) (f : Family) → nets b ≡ Some f → writes (n.process p) b ≡ false)
  input_net p k = elim (L.input_roots p k) [
    | inl d ↦ inl (d.0, root_family d.0 d.0 d.2, own d.0 d.1)
    | inr none ↦ inr (λ b f h. by_test (writes (n.process p) b) (λ w. absurd (elim (net_of b f h) [
      | of_clock e c ↦ elim (clock_writer p b w c) [ inl x ↦ cc | inr x ↦ cc ]
      | of_reset i e r ↦ (let x = none b w in cc)
    ])) (λ z. z))
  ]
    where
      own : (i : ℕ) → n.process p ≡ Input (i ∷ []) → writes (n.process p) i ≡ true
      own i e = subst (λ (x : Process). writes x i ≡ true) (sym e) (ap (λ (t : Bool). t || false) (eq-eqb i i refl))

  -- the nets of a clocked block
  pub clock_net_family : (p : ℕ) → kind (n.process p) ≡ AClocked → nets (clock_net (n.process p)) ≡ Some None
  clock_net_family p k = clock_family (clock_net (n.process p)) (L.clock_net_is p k)

  pub reset_net_family : (p : ℕ) (e : Reset) → reset_of (n.process p) ≡ Some e → nets e.net ≡ Some (Some e.input)
  reset_net_family p e h = root_family e.net e.input (L.reset_net_is p e h)

pub reset_clocked : (process : Process) (e : Reset) → reset_of process ≡ Some e → kind process ≡ AClocked
reset_clocked (Clocked clock reset targets run) e h = refl
reset_clocked (Input bits) e h = cc
reset_clocked (Clock bit) e h = cc
reset_clocked (Assign reads targets value) e h = cc
reset_clocked (Comb waits targets run) e h = cc

pub clock_bit : (process : Process) → kind process ≡ TheClock → (b : ℕ) × (writes process b ≡ true)
clock_bit (Clock bit) h = (bit, eq-eqb bit bit refl)
clock_bit (Input bits) h = cc
clock_bit (Clocked clock reset targets run) h = cc
clock_bit (Assign reads targets value) h = cc
clock_bit (Comb waits targets run) h = cc

pub input_writes : (k : Kind) → IsInput k → IsWriter k
input_writes AnInput i = tt
input_writes TheClock i = tt
input_writes AnAssign i = absurd i
input_writes AComb i = absurd i
input_writes AClocked i = absurd i
