-- Writes to parts of words of memories. By a variable address and a constant index the bits at the part's places in every word are a memory of their own.
use Rattle.std.specs.Prelude.{◌≡◌, ℕ, ◌+◌, ◌*◌, ◌<◌, true, List, [], ◌∷◌, ◌++◌, length, map, slice_index, All, Option, Some, None}
use Rattle.std.specs.List.{flat_map, range_with_len}
use Rattle.vs_four.specs.Selects.{range_length}
use Rattle.vs_design.specs.Expressions.{Signal, word_length, addresses, sign}
use Rattle.vs_design.specs.Fits.{fits_target}
use Rattle.vs_design.specs.Statements.{Target, WordPartOf}
use Rattle.vs_design.specs.Values.{bits_of_signal, count_from}
use Rattle.vs_design.specs.Within.{signal_within}
use Rattle.vs_flat.specs.Arena.{Arena}
use Rattle.vs_flat.specs.DesignOf.{arena_signals, arena_trees}
use Rattle.vs_flat.specs.Trees.{signal_at, tree_at}
use Rattle.vs_kern_select.specs.declared.costs.Kernel.TheVariants as S
use Rattle.vs_code.specs.declared.kernels.AnyKernel.TheVariants.{Select}
use Rattle.vs_values.specs.Coded.{Coding, with_call}
use Rattle.vs_values.specs.Made.{word_kernel}
use Rattle.vs_values.specs.Templates.{Templated, node_bound}
use Rattle.vs_lower.specs.declared.parts.WordPart.{WordPart}
use Rattle.vs_lower.specs.Written.{AddsWrites, HasRoom, IsIndex, write_weight}

-- the elements for which there is a place
abbrev pub those_there : {A : Type 0} → List (Option ℕ) → List A → List A
those_there [] vs = []
those_there (p ∷ ps) [] = []
those_there (None ∷ ps) (v ∷ vs) = those_there ps vs
those_there (Some n ∷ ps) (v ∷ vs) = v ∷ those_there ps vs

-- the bits at these places of what begins with this bit
abbrev pub bits_there : ℕ → List (Option ℕ) → List ℕ
bits_there first [] = []
bits_there first (None ∷ ps) = bits_there first ps
bits_there first (Some n ∷ ps) = (first + n) ∷ bits_there first ps

-- those of all words, by ascending address
abbrev pub column_bits : Signal → List (Option ℕ) → List ℕ
column_bits signal ps = flat_map (λ n. bits_there (signal.first + n * word_length signal) ps) (count_from 0 (range_length (addresses signal)))

-- the target that such a part is, of so many bits
abbrev pub part_target : Arena → WordPart → ℕ → Target
part_target a p n =
    WordPartOf (signal_at (arena_signals a) p.signal) (tree_at (arena_trees a) p.address) (record { range = p.selection.range; up = p.selection.up; width = n }) (tree_at (arena_trees a) p.index)

-- what the write of a value, in the slots `value`, to it needs
pub record IsPartReady (t : Templated) (env : List ℕ) (code : Coding) (p : WordPart) (address index value : List ℕ) : Type 0 where
  pub signal : p.signal < length t.arena.signals
  pub at : p.address < node_bound t
  pub within : signal_within (length env) (signal_at (arena_signals t.arena) p.signal) ≡ true
  pub room : HasRoom env code (write_weight (part_target t.arena p (length value)))
  pub fit : fits_target (part_target t.arena p (length value)) ≡ true
  pub sign_is : p.selection.signed ≡ sign (tree_at (arena_trees t.arena) p.index)
  pub value_below : All (λ slot. slot < code.next) value
  pub address_below : All (λ slot. slot < code.next) address
  pub index_below : All (λ slot. slot < code.next) index
  pub addressed : IsIndex (tree_at (arena_trees t.arena) p.address) address
  pub indexed : IsIndex (tree_at (arena_trees t.arena) p.index) index

-- what is added for it
abbrev pub AddsPart : (t : Templated) (env env_after : List ℕ) (old new : Coding) (p : WordPart) (address index value : List ℕ) → Type 0
AddsPart t env env_after old new p address index value =
    AddsWrites env env_after old new (part_target t.arena p (length value)) ((address ++ index) ∷ []) value (write_weight (part_target t.arena p (length value)))

-- by a variable address and a variable index the word gets slots, and then once more, with the part written
abbrev pub changed_code : (t : Templated) (env : List ℕ) (code : Coding) (p : WordPart) (address index value : List ℕ) → Coding
changed_code t env code p address index value =
    let signal = signal_at (arena_signals t.arena) p.signal in
    with_call (with_call code (word_kernel signal (sign (tree_at (arena_trees t.arena) p.address))) (map (slice_index env) (bits_of_signal signal) ∷ address ∷ []) (word_length signal))
    (Select (S.Write p.selection)) (range_with_len code.next (word_length signal) ∷ index ∷ value ∷ []) (word_length signal)

abbrev pub changed_slots : Templated → Coding → WordPart → List ℕ
changed_slots t code p = let k = word_length (signal_at (arena_signals t.arena) p.signal) in range_with_len (code.next + k) k
