-- What is found of the cases of a design.
use Rattle.std.specs.Prelude.{◌≡◌, ◌<◌, ◌≤◌, ℕ, Bool, true, false, ◌||◌, List, [], ◌∷◌, ◌++◌, length, map, set, Option, Some, None, slice_get, slice_index, slice_index_or}
use Rattle.vs_design.specs.Designs as D
use Rattle.vs_design.specs.Designs.{Design, bit_count}
use Rattle.vs_design.specs.Elaborated.{is_formed_statement}
use Rattle.vs_design.specs.Expressions.{Signal}
use Rattle.vs_design.specs.Fits.{fits_statement}
use Rattle.vs_design.specs.Footprints.{contains}
use Rattle.vs_design.specs.Selects.{is_full, is_lenient_block, numbers_of, select_root}
use Rattle.vs_design.specs.Sets.{Set4}
use Rattle.vs_design.specs.Statements.{CaseKind}
use Rattle.vs_flat.specs.declared.processes.Event.{Event}
use Rattle.vs_flat.specs.declared.processes.Process.{Process}
use Rattle.vs_flat.specs.declared.processes.Kind.TheVariants.{Block}
use Rattle.vs_flat.specs.declared.statements.Arm.{Arm}
use Rattle.vs_flat.specs.declared.statements.Statement.TheVariants.{Case}
use Rattle.vs_flat.specs.Arena.{Arena, statement_at}
use Rattle.vs_flat.specs.DesignOf.{design_of}
use Rattle.vs_sets.specs.Completing.{Under, default_in, other_of}
use Rattle.vs_sets.specs.Nodes.{tree_of}
use Rattle.vs_sets.specs.StatementParts.{arms_of, statement_of}
use Rattle.vs_sets.specs.Tables.{known_of}
use Rattle.vs_full.specs.Roots.{AreRoots}

pub record Found : Type 0 where
  pub roots : List (Option ℕ)
  pub known : List Set4
  pub full : List Bool
  pub others : List (Option ℕ)
  pub lenient : List Bool

-- these are the roots of the design's signals, and a table of its bits that are known; there are as many entries of both kinds for cases, and one for each process
pub record AreSound (a : Arena) (c : Found) : Type 0 where
  pub roots : AreRoots (design_of a) c.roots
  pub known : known_of c.known
  pub count : length c.known ≡ bit_count (design_of a)
  pub both : length c.full ≡ length c.others
  pub processes : length c.lenient ≡ length a.processes

-- there is an entry for statement s
abbrev pub HasRoom : Found → ℕ → Type 0
HasRoom c s = s < length c.others

-- with room for one statement more, and with what is noted of case s
abbrev pub grown : Found → Found
grown c = record c { full = c.full ++ false ∷ []; others = c.others ++ None ∷ [] }

abbrev pub put_case : Found → ℕ → Bool → Option ℕ → Found
put_case c s full default = record c { full = set c.full s full; others = set c.others s default }

-- if statement t is a case, it is noted whether it is full, and its default
abbrev pub IsCaseNoted : Arena → Found → ℕ → Type 0
IsCaseNoted a c t = (kind : CaseKind) (of : ℕ) (arms : List Arm) (other : Option ℕ) → statement_at a t ≡ Some (Case kind of arms other)
    → (slice_index_or c.full t false ≡ is_full (design_of a) kind (tree_of a of) (arms_of a other arms)) × (default_in c.others t ≡ other_of a kind of arms other)

-- so it is of each case in statement s
abbrev pub AreNoted : Arena → Found → ℕ → Type 0
AreNoted a c s = (t : ℕ) → Under a s t → IsCaseNoted a c t

abbrev pub AreNotedIn : Arena → Found → Option ℕ → Type 0
AreNotedIn a c None = Unit {0}
AreNotedIn a c (Some s) = AreNoted a c s

abbrev pub AreArmsNoted : Arena → Found → List Arm → Type 0
AreArmsNoted a c arms = (k : ℕ) (arm : Arm) → slice_get arms k ≡ Some arm → AreNoted a c arm.statement

abbrev pub ArePartsNoted : Arena → Found → List ℕ → Type 0
ArePartsNoted a c parts = (k : ℕ) → k < length parts → AreNoted a c (slice_index parts k)

-- a statement before this one, of which nothing is over 64 bits and which is formed as in a lawful design
pub record IsReady (a : Arena) (n s : ℕ) : Type 0 where
  pub earlier : s < n
  pub fits : fits_statement (statement_of a s) ≡ true
  pub formed : is_formed_statement (design_of a) (statement_of a s) ≡ true

abbrev pub IsReadyIn : Arena → ℕ → Option ℕ → Type 0
IsReadyIn a n None = Unit {0}
IsReadyIn a n (Some s) = IsReady a n s

abbrev pub AreReadyArms : Arena → ℕ → List Arm → Type 0
AreReadyArms a n arms = (k : ℕ) (arm : Arm) → slice_get arms k ≡ Some arm → IsReady a n arm.statement

abbrev pub AreReady : Arena → ℕ → List ℕ → Type 0
AreReady a n parts = (k : ℕ) → k < length parts → IsReady a n (slice_index parts k)

-- what was noted of a case stays, and so do the marks of blocks
pub record IsAsBefore (a : Arena) (before after : Found) : Type 0 where
  pub lenient : after.lenient ≡ before.lenient
  pub longer : length before.others ≤ length after.others
  pub stay : (t : ℕ) → IsCaseNoted a before t → IsCaseNoted a after t

-- beside what was noted before this is noted
pub record IsGrown (a : Arena) (before after : Found) (holds : Found → Type 0) : Type 0 where
  pub sound : AreSound a after
  pub kept : IsAsBefore a before after
  pub noted : holds after

-- process p is marked where its block is accepted as a completed one alone, and then the cases in it are noted
pub record IsMarked (a : Arena) (c : Found) (p : ℕ) : Type 0 where
  pub mark : (x : D.Process) → slice_get (design_of a).processes p ≡ Some x → slice_index_or c.lenient p false ≡ is_lenient_block x
  pub cases : (x : Process) (star : Bool) (events : List Event) (statement : ℕ) → slice_get a.processes p ≡ Some x → x.kind ≡ Block star events statement → slice_index_or c.lenient p false ≡ true → AreNoted a c statement

-- so it is of all processes
pub record AreAllNoted (a : Arena) (c : Found) : Type 0 where
  pub sound : AreSound a c
  pub each : (p : ℕ) → p < length a.processes → IsMarked a c p

-- the root of a signal is one of so many, and with it marked
abbrev pub IsRootBelow : ℕ → Option ℕ → Type 0
IsRootBelow count None = Unit {0}
IsRootBelow count (Some n) = n < count

abbrev pub with_mark : List Bool → Option ℕ → List Bool
with_mark picked None = picked
with_mark picked (Some n) = set picked n true

-- the roots of these signals are marked, beside what was
abbrev pub ArePicked : Design → List Signal → List Bool → List Bool → Type 0
ArePicked d signals before after = (length after ≡ length before)
    × ((n : ℕ) → n < length before → slice_index_or after n false ≡ (slice_index_or before n false || contains (numbers_of (map (select_root d) signals)) n))
