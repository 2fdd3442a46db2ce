-- Each attached path has a file, before a call and after it.
use Rattle.std.proofs.Common.{◌≡◌, ℕ, List, Bool, true, false, ◌||◌, Option, Some, None, ◌==◌, IsTrue, IsSomeAnd, refl, sym, ◌∙◌, ap, subst, arith}
use Rattle.std.specs.Prelude.{if◌then◌else◌}
use Rattle.std.specs.Ordering.{nat_cmp}
use Rattle.std.specs.Option.{option_map}
use Rattle.std.specs.Map.{lookup}
use Rattle.std.specs.BTreeMap.{BTreeMap, get, is_at}
use Rattle.std.proofs.lemmas.Slice.Eq.{bytes_eq-Decides}
use Rattle.vs_desk.specs.declared.desk.Way.{Way}
use Rattle.vs_desk.specs.declared.desk.Way.TheVariants.{Read, Write}
use Rattle.vs_desk.specs.declared.place.Place.{Place}
use Rattle.vs_desk.specs.Desk.{Attachment}
use Rattle.vs_desk.specs.Files.{FileMap, bytes_at, holds_file}
use Rattle.vs_desk.specs.Place.{attachment_of, attached_in}
use Rattle.vs_desk.specs.Tape.{is_emptied}

-- each attached path has a file
abbrev pub IsHeld : (ℕ → Option Attachment) → (List ℕ → Bool) → Type 0
IsHeld attached holds = (p : ℕ) (a : Attachment) → attached p ≡ Some a → IsTrue (holds a.path)

-- the file that was found, or made
begun : (way : Way) (path : List ℕ) (holds : List ℕ → Bool) → (way ≡ Read → IsTrue (holds path)) → IsTrue (is_emptied way path path || holds path)
begun Read path holds found = found refl
begun Write path holds found = rw ((bytes_eq-Decides path path).1 refl) refl

more : (b c : Bool) → IsTrue c → IsTrue (b || c)
more true c h = refl
more false c h = h

at_place : (b : Bool) (new old : Option Attachment) (first a : Attachment) (P : Attachment → Type 0) → new ≡ (if b then Some first else old) → new ≡ Some a
    → P first → (old ≡ Some a → P a) → P a
at_place true new old first a P is new_is at_first at_old = let same : first ≡ a = cc in subst P same at_first
at_place false new old first a P is new_is at_first at_old = at_old (sym is ∙ new_is)

pub held_attached : (attached new : ℕ → Option Attachment) (holds holds_new : List ℕ → Bool) (place : ℕ) (way : Way) (path : List ℕ)
    → IsHeld attached holds
    → ((p : ℕ) → new p ≡ (if p == place then Some (record { way = way; path = path }) else attached p))
    → ((q : List ℕ) → holds_new q ≡ (is_emptied way path q || holds q))
    → (way ≡ Read → IsTrue (holds path))
    → IsHeld new holds_new
held_attached attached new holds holds_new place way path held places files found p a is =
    at_place (p == place) (new p) (attached p) (record { way = way; path = path }) a (λ b. IsTrue (holds_new b.path)) (places p) is
    (subst IsTrue (sym (files path)) (begun way path holds found))
    (λ was. subst IsTrue (sym (files a.path)) (more (is_emptied way path a.path) (holds a.path) (held p a was)))

pub held_same : (attached new : ℕ → Option Attachment) (holds holds_new : List ℕ → Bool) → IsHeld attached holds
    → ((p : ℕ) → new p ≡ attached p) → ((q : List ℕ) → holds_new q ≡ holds q) → IsHeld new holds_new
held_same attached new holds holds_new held places files p a is = subst IsTrue (sym (files a.path)) (held p a (sym (places p) ∙ is))

-- what is attached has a file
pub held_at : (o : Option Attachment) (P Q : Attachment → Type 0) → IsSomeAnd o P → ((a : Attachment) → o ≡ Some a → Q a) → IsSomeAnd o Q
held_at None P Q h all = h
held_at (Some a) P Q h all = all a refl

-- with the same entries the same places are attached
pub same_places : {S : Type 0} (places new : BTreeMap ℕ (Place S)) → new.entries ≡ places.entries → (p : ℕ) → attached_in new p ≡ attached_in places p
same_places places new same p = ap (λ es. option_map attachment_of (lookup (is_at (nat_cmp p)) es)) same

-- and the same files held
pub same_holds : (files new : FileMap) → new.entries ≡ files.entries → (q : List ℕ) → holds_file new q ≡ holds_file files q
same_holds files new same q = grind (arith, same)

-- and the same bytes are in the files
pub same_bytes : (files new : FileMap) → new.entries ≡ files.entries → (q : List ℕ) → bytes_at new q ≡ bytes_at files q
same_bytes files new same q = grind (arith, same)

-- and the same is at each place
pub same_at : {S : Type 0} (places new : BTreeMap ℕ (Place S)) → new.entries ≡ places.entries → (p : ℕ) → get nat_cmp new p ≡ get nat_cmp places p
same_at places new same p = ap (λ es. lookup (is_at (nat_cmp p)) es) same
