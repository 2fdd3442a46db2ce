-- The names of a header, one after the other.
use Rattle.std.proofs.Common.{◌≡◌, ℕ, Bool, true, false, not, ◌||◌, List, [], ◌∷◌, ◌++◌, Option, None, refl, sym, ap, ◌∙◌, subst, append_assoc}
use Rattle.vs_design.specs.Clocks.{same_name}
use Rattle.vs_grammar.specs.Trees as tree
use Rattle.vs_grammar.specs.Trees.{Name}
use Rattle.vs_const.specs.declared.faults.Fault.{Fault}
use Rattle.vs_const.specs.Faults.{least, better, fault_if}
use Rattle.vs_const.specs.declared.rules.Rule.TheVariants.{UnknownName, DuplicateName, UnknownPort}
use Rattle.vs_elaborated.specs.Ports.{Direction, is_named, has_direction, repeated}
use Rattle.vs_scope.specs.Headers.{opposed_faults, undirected_faults}
use Rattle.vs_scope.specs.SoFar.{IsFirstSoFar}
use Rattle.vs_elaborated.specs.Signals.{is_input}
use Rattle.vs_scope.proofs.SoFar.{so_far_start, so_far_more, so_far_end}

swap_or : (a b c : Bool) → (b || (a || c)) ≡ ((a || b) || c)
swap_or true true c = refl
swap_or true false c = refl
swap_or false true c = refl
swap_or false false c = refl

pub or_false : (a : Bool) → (a || false) ≡ a
or_false true = refl
or_false false = refl

-- names that may stand there again
pub record AreRepeated (known : List ℕ → Bool) (found : Option Fault) (rest all : List Name) : Type 0 where
  pub seen : List Name
  pub same : (n : List ℕ) → known n ≡ is_named n seen
  pub first : IsFirstSoFar found (repeated seen rest) (repeated [] all)
  pub whole : (n : List ℕ) → (is_named n rest || is_named n seen) ≡ is_named n all

pub repeated_start : (known : List ℕ → Bool) (all : List Name) → ((n : List ℕ) → known n ≡ false) → IsFirstSoFar None (repeated [] all) (repeated [] all) → AreRepeated known None all all
repeated_start known all none first = record { seen = []; same = none; first = first; whole = λ n. or_false (is_named n all) }

pub repeated_more : (known new : List ℕ → Bool) (d : Name) (rest all : List Name) (found mine sum : Option Fault) → AreRepeated known found (d ∷ rest) all → mine ≡ least (fault_if (known d.bytes) DuplicateName d.place)
    → sum ≡ better found mine → ((n : List ℕ) → new n ≡ (same_name d.bytes n || known n)) → AreRepeated new sum rest all
repeated_more known new d rest all found mine sum before m s is = record {
  seen = d ∷ before.seen;
  same = λ n. is n ∙ ap (λ (b : Bool). same_name d.bytes n || b) (before.same n);
  first = so_far_more (fault_if (is_named d.bytes before.seen) DuplicateName d.place) (repeated (d ∷ before.seen) rest) (repeated [] all) found mine sum before.first (m ∙ ap (λ (b : Bool). least (fault_if b DuplicateName d.place)) (before.same d.bytes)) s;
  whole = λ n. swap_or (same_name d.bytes n) (is_named n rest) (is_named n before.seen) ∙ before.whole n;
}

-- names that get a direction
pub record AreDirected (known before directed : List ℕ → Bool) (found : Option Fault) (rest all : List Direction) : Type 0 where
  pub first : IsFirstSoFar found (opposed_faults known rest) (opposed_faults known all)
  pub whole : (n : List ℕ) → (has_direction rest n || directed n) ≡ (has_direction all n || before n)

pub directed_more : (known before directed new : List ℕ → Bool) (d : Direction) (rest all : List Direction) (found mine sum : Option Fault) → AreDirected known before directed found (d ∷ rest) all
    → mine ≡ least (fault_if (not (known d.name.bytes)) UnknownPort d.name.place) → sum ≡ better found mine → ((n : List ℕ) → new n ≡ (same_name d.name.bytes n || directed n)) → AreDirected known before new sum rest all
directed_more known before directed new d rest all found mine sum h m s is = record {
  first = so_far_more (fault_if (not (known d.name.bytes)) UnknownPort d.name.place) (opposed_faults known rest) (opposed_faults known all) found mine sum h.first m s;
  whole = λ n. ap (λ (b : Bool). has_direction rest n || b) (is n) ∙ swap_or (same_name d.name.bytes n) (has_direction rest n) (directed n) ∙ h.whole n;
}

either_append : (xs ys : List Direction) (n : List ℕ) → has_direction (xs ++ ys) n ≡ (has_direction xs n || has_direction ys n)
either_append [] ys n = refl
either_append (x ∷ xs) ys n = by (same_name x.name.bytes n) (either_append xs ys n)
  where
    by : (b : Bool) → has_direction (xs ++ ys) n ≡ (has_direction xs n || has_direction ys n) → (b || has_direction (xs ++ ys) n) ≡ ((b || has_direction xs n) || has_direction ys n)
    by true h = refl
    by false h = h

opposed_append : (known : List ℕ → Bool) (xs ys : List Direction) → opposed_faults known (xs ++ ys) ≡ opposed_faults known xs ++ opposed_faults known ys
opposed_append known [] ys = refl
opposed_append known (x ∷ xs) ys =
    ap (λ (r : List Fault). fault_if (not (known x.name.bytes)) UnknownPort x.name.place ++ r) (opposed_append known xs ys)
    ∙ sym (append_assoc (fault_if (not (known x.name.bytes)) UnknownPort x.name.place) (opposed_faults known xs) (opposed_faults known ys))

-- several at once
pub directed_all : (known before directed new : List ℕ → Bool) (one rest all : List Direction) (found mine sum : Option Fault) → AreDirected known before directed found (one ++ rest) all
    → mine ≡ least (opposed_faults known one) → sum ≡ better found mine → ((n : List ℕ) → new n ≡ (has_direction one n || directed n)) → AreDirected known before new sum rest all
directed_all known before directed new one rest all found mine sum h m s is = record {
  first = so_far_more (opposed_faults known one) (opposed_faults known rest) (opposed_faults known all) found mine sum
      (subst (λ (x : List Fault). IsFirstSoFar found x (opposed_faults known all)) (opposed_append known one rest) h.first) m s;
  whole = λ n.
      ap (λ (b : Bool). has_direction rest n || b) (is n) ∙ swap_or (has_direction one n) (has_direction rest n) (directed n)
      ∙ ap (λ (b : Bool). b || directed n) (sym (either_append one rest n)) ∙ h.whole n;
}

pub repeated_end : (known : List ℕ → Bool) (found : Option Fault) (all : List Name) → AreRepeated known found [] all → (found ≡ least (repeated [] all)) × ((n : List ℕ) → known n ≡ is_named n all)
repeated_end known found all h = (so_far_end found (repeated [] all) h.first, λ n. h.same n ∙ h.whole n)

pub directed_start : (known before : List ℕ → Bool) (all : List Direction) → AreDirected known before before None all all
directed_start known before all = record { first = so_far_start (opposed_faults known all); whole = λ n. refl }

pub directed_end : (known before directed : List ℕ → Bool) (found : Option Fault) (all : List Direction) → AreDirected known before directed found [] all
    → (found ≡ least (opposed_faults known all)) × ((n : List ℕ) → directed n ≡ (has_direction all n || before n))
directed_end known before directed found all h = (so_far_end found (opposed_faults known all) h.first, h.whole)

pub opposed_same : (f g : List ℕ → Bool) (ds : List Direction) → ((n : List ℕ) → f n ≡ g n) → opposed_faults f ds ≡ opposed_faults g ds
opposed_same f g [] h = refl
opposed_same f g (d ∷ ds) h =
    ap (λ (b : Bool). fault_if (not b) UnknownPort d.name.place ++ opposed_faults f ds) (h d.name.bytes) ∙ ap (λ (r : List Fault). fault_if (not (g d.name.bytes)) UnknownPort d.name.place ++ r) (opposed_same f g ds h)

pub undirected_same : (f g : List ℕ → Bool) (ns : List Name) → ((n : List ℕ) → f n ≡ g n) → undirected_faults f ns ≡ undirected_faults g ns
undirected_same f g [] h = refl
undirected_same f g (d ∷ ds) h =
    ap (λ (b : Bool). fault_if (not b) UnknownName d.place ++ undirected_faults f ds) (h d.bytes) ∙ ap (λ (r : List Fault). fault_if (not (g d.bytes)) UnknownName d.place ++ r) (undirected_same f g ds h)

-- a declaration's name with its direction
abbrev pub direction : tree.SignalKind → tree.Declarator → Direction
direction kind d = record { name = d.name; input = is_input kind }
