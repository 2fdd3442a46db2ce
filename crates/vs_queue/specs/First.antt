-- Flags of bits, and the values that bits begin with by them.
use Rattle.std.specs.Prelude.{ℕ, Bool, true, false, not, ◌&&◌, List, filter, length, slice_index_or, if◌then◌else◌}
use Rattle.vs_four.specs.declared.Bit4.{Bit4}
use Rattle.vs_four.specs.declared.Bit4.TheVariants.{X, Z}
use Rattle.vs_net.specs.Network.{State}
use Rattle.vs_design.specs.Values.{count_from}
use Rattle.vs_flat.specs.declared.processes.Kind.{Kind}
use Rattle.vs_flat.specs.declared.processes.Kind.TheVariants as K
use Rattle.vs_queue.specs.Chosen.{next_seed, drawn}
use Rattle.vs_queue.specs.Ordered.{x_or_z}

abbrev pub flag_at : List Bool → ℕ → Bool
flag_at flags b = slice_index_or flags b false

-- the bits that are flagged in both, in ascending order
abbrev pub flagged : List Bool → List Bool → List ℕ
flagged nets driven = filter (λ b. flag_at nets b && flag_at driven b) (count_from 0 (length nets))

-- z in a net, x elsewhere
abbrev pub idle_by : List Bool → State
idle_by nets b = if flag_at nets b then Z else X

-- what a bit begins with, by whether it is a net's and whether it is driven, and the generator after that
abbrev pub first_value : (net driven : Bool) → ℕ → Bit4
first_value false driven seed = X
first_value true true seed = x_or_z (drawn seed)
first_value true false seed = Z

abbrev pub first_seed : (net driven : Bool) → ℕ → ℕ
first_seed net driven seed = if net && driven then next_seed seed else seed

-- what it begins with in a run in level order
abbrev pub plain_value : (net driven : Bool) → Bit4
plain_value net driven = if net && not driven then Z else X

-- whether a process of this kind is an assign
abbrev pub is_assign_kind : Kind → Bool
is_assign_kind (K.Assign target e port) = true
is_assign_kind (K.Block star events s) = false
