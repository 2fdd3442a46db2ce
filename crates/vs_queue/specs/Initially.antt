-- What initial processes write at the beginning of a run (IEEE 1364-2005, 9.9.1): each update of one of them is driven in parts, to each process what is to bits that it keeps.
use Rattle.std.specs.Prelude.{◌≡◌, ◌<◌, ℕ, Bool, true, false, not, ◌&&◌, ◌==◌, ◌⊎◌, if◌then◌else◌, List, [], ◌∷◌, filter, length, slice_index_or, slice_get, Some}
use Rattle.vs_net.specs.Network.{Write, Update, is_written}
use Rattle.vs_design.specs.Designs.{Process, is_clocked, Design, bit_count}
use Rattle.vs_design.specs.Footprints.{contains, writes_of}
use Rattle.vs_design.specs.Initials.{initial_bits}
use Rattle.vs_design.specs.Networks.{kept_bits, network_of}
use Rattle.std.specs.List.{flat_map, list_any}
use Rattle.vs_flat.specs.declared.processes.Kind.{Kind}
use Rattle.vs_flat.specs.declared.processes.Kind.TheVariants as K
use Rattle.vs_flat.specs.Events.{is_edge_event}
use Rattle.vs_events.specs.Beginning.{Drive, begun, drives_of}
use Rattle.vs_events.specs.Held.{Events}
use Rattle.vs_queue.specs.First.{flag_at}

-- each of these updates is one of these processes', and all of its writes are to the first of these bits
abbrev pub AllDriven : (count bits : ℕ) → List Drive → Type 0
AllDriven count bits [] = Unit {0}
AllDriven count bits (d ∷ ds) = (d.process < count) × ((b : ℕ) → is_written d.update b ≡ true → b < bits) × AllDriven count bits ds

-- by bit the process that keeps it
abbrev pub owner : List ℕ → ℕ → ℕ
owner owners b = slice_index_or owners b 0

abbrev pub is_own : List ℕ → ℕ → ℕ → Bool
is_own owners p b = p == owner owners b

-- the write is to a bit that this process keeps
abbrev pub is_own_write : List ℕ → ℕ → Write → Bool
is_own_write owners p w = is_own owners p w.bit

-- the parts of all these writes, as far as these are the last of theirs
abbrev pub parts : List ℕ → (all rest : List Write) → List Drive
parts owners all [] = []
parts owners all (w ∷ ws) =
    if list_any (is_own_write owners (owner owners w.bit)) ws then parts owners all ws else (record { process = owner owners w.bit; update = filter (is_own_write owners (owner owners w.bit)) all } ∷ parts owners all ws)

-- those of all of these updates
abbrev pub parts_of : List ℕ → List Update → List Drive
parts_of owners us = flat_map (λ ws. parts owners ws ws) us

-- the bit has no flag
abbrev pub is_unflagged : List Bool → ℕ → Bool
is_unflagged flags b = not (flag_at flags b)

-- whether a process of this kind of a flat design is a clocked block
abbrev pub is_clocked_kind : Kind → Bool
is_clocked_kind (K.Assign target e port) = false
is_clocked_kind (K.Block star events s) = list_any is_edge_event events

-- of the first so many processes a clocked block of this number writes the bit; or none of them does, and it is the number of the keeper
abbrev pub IsKeptBy : Design → (count keeper b o : ℕ) → Type 0
IsKeptBy d count keeper b o =
    ((x : Process) × (slice_get d.processes o ≡ Some x) × (is_clocked x ≡ true) × (contains (writes_of x) b ≡ true))
    ⊎ ((o ≡ keeper) × ((p : ℕ) (x : Process) → p < count → slice_get d.processes p ≡ Some x → (is_clocked x && contains (writes_of x) b) ≡ false))

-- so it is for each bit
abbrev pub AreKept : Design → (count keeper : ℕ) → List ℕ → Type 0
AreKept d count keeper owners = (b : ℕ) → b < bit_count d → IsKeptBy d count keeper b (owner owners b)

-- by bit the process that keeps it, of those that initial processes write
pub record AreOwners (d : Design) (clocks : List ℕ) (owners : List ℕ) : Type 0 where
  pub count : length owners ≡ bit_count d
  pub inside : (b : ℕ) → contains (initial_bits d.initials) b ≡ true → b < bit_count d
  pub below : (b : ℕ) → contains (initial_bits d.initials) b ≡ true → owner owners b < (network_of d clocks).count
  pub kept : (p b : ℕ) → contains (initial_bits d.initials) b ≡ true → kept_bits ((network_of d clocks).process p) b ≡ is_own owners p b

-- what the initial processes of a design write at once is active, and what they give by updates waits
pub record HasBegun (d : Design) (clocks : List ℕ) (e now : Events) : Type 0 where
  pub firsts : List Drive
  pub lates : List Drive
  pub now_is : now ≡ begun e firsts lates
  pub firsts_there : AllDriven (network_of d clocks).count (bit_count d) firsts
  pub lates_there : AllDriven (network_of d clocks).count (bit_count d) lates
  pub firsts_are : (p : ℕ) → drives_of firsts p ≡ (network_of d clocks).initial p
  pub lates_are : (p : ℕ) → drives_of lates p ≡ (network_of d clocks).initial_updates p
