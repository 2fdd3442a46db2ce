-- The names of named blocks that are scopes, one after the other.
use Rattle.std.proofs.Common.{◌≡◌, ◌<◌, ◌≤◌, ◌||◌, ℕ, suc, Bool, true, false, List, [], ◌∷◌, ◌++◌, map, length, get_or, drop, Option, Some, None, refl, sym, ap, ◌∙◌, subst, append_assoc}
use Rattle.vs_design.specs.Clocks.{same_name}
use Rattle.vs_grammar.specs.Trees as tree
use Rattle.vs_const.specs.declared.faults.Fault.{Fault}
use Rattle.vs_const.specs.Faults.{fault_if, least, better}
use Rattle.vs_const.specs.declared.rules.Rule.TheVariants.{DuplicateName}
use Rattle.vs_elaborated.specs.Generate.{BlockName}
use Rattle.vs_elaborated.specs.NamedBlocks as spec
use Rattle.vs_maps.specs.declared.sets.NameSet.{NameSet}
use Rattle.vs_maps.specs.Sets.{has}
use Rattle.vs_scope.specs.declared.block_scopes.NamedBlock.{NamedBlock}
use Rattle.vs_scope.specs.declared.locals.Local.{Local}
use Rattle.vs_scope.specs.Locals.{local}
use Rattle.vs_scope.specs.NamedBlocks.{AreKnown, is_among, local_texts, named, names_after}
use Rattle.vs_scope.specs.SoFar.{IsFirstSoFar}
use Rattle.vs_scope.proofs.SoFar.{so_far_start, so_far_more, so_far_end}
use Rattle.vs_scope.proofs.Steps.{from_place, none_left}

-- ---- what is declared

abbrev pub texts_of : List Local → List (List ℕ)
texts_of vs = local_texts (map local vs)

-- a set and those that are left have all
abbrev pub AreAdded : NameSet → (rest all : List Local) → Type 0
AreAdded s rest all = (n : List ℕ) → (has s n || is_among (texts_of rest) n) ≡ is_among (texts_of all) n

pub added_start : (s : NameSet) (all : List Local) → ((n : List ℕ) → has s n ≡ false) → AreAdded s all all
added_start s all h n = ap (λ (b : Bool). b || is_among (texts_of all) n) (h n)

swap : (a b c : Bool) → ((a || b) || c) ≡ (b || (a || c))
swap true true c = refl
swap true false c = refl
swap false b c = refl

pub added_more : (old new : NameSet) (all : List Local) (i : ℕ) (v : Local) → i < length all → v ≡ get_or all i v → ((n : List ℕ) → has new n ≡ (same_name (local v).name.bytes n || has old n)) → AreAdded old (drop i all) all → AreAdded new (drop (suc i) all) all
added_more old new all i v h e is before n =
    let rest = is_among (texts_of (drop (suc i) all)) n in
    ap (λ (b : Bool). b || rest) (is n) ∙ swap (same_name (local v).name.bytes n) (has old n) rest ∙ ap (λ (x : List Local). has old n || is_among (texts_of x) n) (sym (from_place all i v h e)) ∙ before n

or_none : (b : Bool) → b ≡ (b || false)
or_none true = refl
or_none false = refl

pub added_end : (s : NameSet) (all : List Local) (i : ℕ) → length all ≤ i → AreAdded s (drop i all) all → AreKnown s (texts_of all)
added_end s all i h before n = or_none (has s n) ∙ ap (λ (x : List Local). has s n || is_among (texts_of x) n) (sym (none_left all i h)) ∙ before n

-- ---- one name

pub outside_none : (b : NamedBlock) → b.outer ≡ None → spec.name_outside (named b) ≡ spec.name_by (named b).name None
outside_none b h = ap (spec.name_by (named b).name) h

pub outside_some : (b : NamedBlock) (n : ℕ) → b.outer ≡ Some n → spec.name_outside (named b) ≡ []
outside_some b n h = ap (spec.name_by (named b).name) h

one_or_none : (b : Bool) (place : ℕ) → fault_if b DuplicateName place ++ [] ≡ fault_if b DuplicateName place
one_or_none true place = refl
one_or_none false place = refl

pub one_repeated : (s : NameSet) (names : List (List ℕ)) (name : tree.Name) (f : Option Fault) → AreKnown s names → f ≡ least (fault_if (has s name.bytes) DuplicateName name.place) → f ≡ least (spec.repeated_blocks names (spec.name_by name None))
one_repeated s names name f h e = e ∙ ap (λ (b : Bool). least (fault_if b DuplicateName name.place)) (h name.bytes) ∙ ap least (sym (one_or_none (is_among names name.bytes) name.place))

pub one_known : (old new : NameSet) (names : List (List ℕ)) (name : tree.Name) → AreKnown old names → ((n : List ℕ) → has new n ≡ (same_name name.bytes n || has old n)) → AreKnown new (names_after names (spec.name_by name None))
one_known old new names name h is n = is n ∙ ap (λ (b : Bool). same_name name.bytes n || b) (h n)

-- ---- one block after the other

both_repeated : (names : List (List ℕ)) (xs ys : List BlockName) → spec.repeated_blocks names (xs ++ ys) ≡ spec.repeated_blocks names xs ++ spec.repeated_blocks (names_after names xs) ys
both_repeated names [] ys = refl
both_repeated names (x ∷ xs) ys =
    let one = fault_if (is_among names x.name) DuplicateName x.place in
    ap (λ (r : List Fault). one ++ r) (both_repeated (x.name ∷ names) xs ys) ∙ sym (append_assoc one (spec.repeated_blocks (x.name ∷ names) xs) (spec.repeated_blocks (names_after (x.name ∷ names) xs) ys))

abbrev pub outside : List NamedBlock → List BlockName
outside bs = spec.names_outside (map named bs)

-- blocks whose names are looked up, behind the names that came before all of them
pub record AreRepeating (before : List (List ℕ)) (s : NameSet) (found : Option Fault) (rest all : List NamedBlock) : Type 0 where
  pub names : List (List ℕ)
  pub known : AreKnown s names
  pub first : IsFirstSoFar found (spec.repeated_blocks names (outside rest)) (spec.repeated_blocks before (outside all))

pub repeating_start : (before : List (List ℕ)) (s : NameSet) (all : List NamedBlock) → AreKnown s before → AreRepeating before s None all all
repeating_start before s all h = record { names = before; known = h; first = so_far_start (spec.repeated_blocks before (outside all)) }

pub repeating_more : (before : List (List ℕ)) (old new : NameSet) (found mine sum : Option Fault) (all : List NamedBlock) (i : ℕ) (b : NamedBlock) → i < length all → b ≡ get_or all i b
    → ((names : List (List ℕ)) → AreKnown old names → mine ≡ least (spec.repeated_blocks names (spec.name_outside (named b))))
    → ((names : List (List ℕ)) → AreKnown old names → AreKnown new (names_after names (spec.name_outside (named b)))) → sum ≡ better found mine → AreRepeating before old found (drop i all) all
    → AreRepeating before new sum (drop (suc i) all) all
repeating_more before old new found mine sum all i b h e is knows s r =
    let one = spec.name_outside (named b) in
    let rest = outside (drop (suc i) all) in
    let split = ap (λ (x : List NamedBlock). spec.repeated_blocks r.names (outside x)) (from_place all i b h e) ∙ both_repeated r.names one rest in
    record {
      names = names_after r.names one;
      known = knows r.names r.known;
      first = so_far_more (spec.repeated_blocks r.names one) (spec.repeated_blocks (names_after r.names one) rest) (spec.repeated_blocks before (outside all)) found mine sum
          (subst (λ (x : List Fault). IsFirstSoFar found x (spec.repeated_blocks before (outside all))) split r.first) (is r.names r.known) s;
    }

pub repeating_end : (before : List (List ℕ)) (s : NameSet) (found : Option Fault) (all : List NamedBlock) (i : ℕ) → length all ≤ i → AreRepeating before s found (drop i all) all → found ≡ least (spec.repeated_blocks before (outside all))
repeating_end before s found all i h r =
    so_far_end found (spec.repeated_blocks before (outside all)) (subst (λ (x : List NamedBlock). IsFirstSoFar found (spec.repeated_blocks r.names (outside x)) (spec.repeated_blocks before (outside all))) (none_left all i h) r.first)
