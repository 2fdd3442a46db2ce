-- What a desk in memory tells after a call.
use Rattle.std.proofs.Common.{◌≡◌, ◌≢◌, ℕ, List, Bool, true, false, not, ◌&&◌, ◌++◌, [], Option, Some, None, ◌==◌, IsNone, refl, sym, ◌∙◌, ap, arith, take, length, ◌<◌, ◌∷◌}
use Rattle.std.specs.Prelude.{min, if◌then◌else◌}
use Rattle.std.specs.Str.{bytes_eq}
use Rattle.std.specs.Ordering.{nat_cmp}
use Rattle.std.specs.Option.{option_map}
use Rattle.std.specs.BTreeMap.{BTreeMap, get}
use Rattle.std.proofs.lemmas.Bool.Decides.{Decides-eqb, nat_tests}
use Rattle.std.proofs.Math.Path.{fun_ext}
use Rattle.std.proofs.Math.Seq.{take-length}
use Rattle.vs_desk.specs.declared.place.Place.{Place}
use Rattle.vs_desk.specs.declared.tape.Tape.{Tape}
use Rattle.vs_desk.specs.Place.{attachment_of, attached_in}
use Rattle.vs_desk.specs.declared.desk.Way.{Way}
use Rattle.vs_desk.specs.declared.desk.Way.TheVariants.{Read, Write}
use Rattle.vs_desk.specs.declared.failures.Failures.{Failures}
use Rattle.vs_desk.specs.Desk.{Attachment, Contents, Register, path_at, with_place, with_attached, with_put}
use Rattle.vs_desk.specs.Failures.{register_of}
use Rattle.vs_desk.specs.Tape.{left_first, left_on, put_on, put_in, is_emptied}
use Rattle.vs_desk.proofs.Contents.{same_contents}

-- the register follows the places
pub same_register : (f g : ℕ → Option Attachment) (failures : Failures) → ((p : ℕ) → g p ≡ f p) → register_of g failures ≡ register_of f failures
same_register f g failures same = ap (λ h. register_of h failures) (fun_ext same)

-- nothing was put at a place that is attached now
put_first : (b : Bool) (put new : List ℕ) → new ≡ put → (b ≡ true → put ≡ []) → new ≡ (if b then [] else put)
put_first true put new same none = same ∙ none refl
put_first false put new same none = same

-- nothing was left to take at a place that is attached now with Write
left_none : (b : Bool) (left new : List ℕ) → new ≡ (if b then [] else left) → (b ≡ true → left ≡ []) → new ≡ left
left_none true left new is none = is ∙ sym (none refl)
left_none false left new is none = is

pub attached_contents : (c d : Contents) (place : ℕ) (way : Way) (path : List ℕ)
    → ((q : List ℕ) → d.files q ≡ (if is_emptied way path q then [] else c.files q))
    → ((p : ℕ) → d.left p ≡ (if p == place then left_first way (c.files path) else c.left p))
    → ((p : ℕ) → d.put p ≡ c.put p)
    → ((p : ℕ) → (p == place) ≡ true → c.left p ≡ [])
    → ((p : ℕ) → (p == place) ≡ true → c.put p ≡ [])
    → d ≡ with_attached c place way path
attached_contents c d place Read path files left put no_left no_put = same_contents _ _ files left put
attached_contents c d place Write path files left put no_left no_put =
    same_contents _ _ files
    (λ p. left_none (p == place) (c.left p) (d.left p) (left p) (no_left p))
    (λ p. put_first (p == place) (c.put p) (d.put p) (put p) (no_put p))

left_nowhere : (o : Option (Place Tape)) → IsNone (option_map attachment_of o) → left_on o ≡ []
left_nowhere None none = refl
left_nowhere (Some attached) none = cc

put_nowhere : (o : Option (Place Tape)) → IsNone (option_map attachment_of o) → put_on o ≡ []
put_nowhere None none = refl
put_nowhere (Some attached) none = cc

-- nothing is left to take at a place that isn't attached
pub left_unattached : (tapes : BTreeMap ℕ (Place Tape)) (place p : ℕ) → IsNone (attached_in tapes place) → (p == place) ≡ true → left_on (get nat_cmp tapes p) ≡ []
left_unattached tapes place p none here = rw ((Decides-eqb p place).0 here) (left_nowhere (get nat_cmp tapes place) none)

-- and nothing was put there, unless it is the report
pub put_unattached : (report : List ℕ) (tapes : BTreeMap ℕ (Place Tape)) (place p : ℕ) → place ≢ 0 → IsNone (attached_in tapes place) → (p == place) ≡ true → put_in report tapes p ≡ []
put_unattached report tapes place p apart none here =
    let other : (place == 0) ≡ false = grind (arith, nat_tests) in
    rw ((Decides-eqb p place).0 here, other) (put_nowhere (get nat_cmp tapes place) none)

-- the register follows a place that was attached
pub placed_register : (f g : ℕ → Option Attachment) (failures : Failures) (place : ℕ) (way : Way) (path : List ℕ)
    → ((p : ℕ) → g p ≡ (if p == place then Some (record { way = way; path = path }) else f p))
    → register_of g failures ≡ with_place (register_of f failures) place way path
placed_register f g failures place way path is = ap (λ h. register_of h failures) (fun_ext is)

-- what was put follows the places
pub put_follows : (report : List ℕ) (tapes new : BTreeMap ℕ (Place Tape)) → ((p : ℕ) → put_on (get nat_cmp new p) ≡ put_on (get nat_cmp tapes p)) → (p : ℕ) → put_in report new p ≡ put_in report tapes p
put_follows report tapes new same p = ap (λ bytes. if p == 0 then report else bytes) (same p)

-- all bytes were put
pub put_contents : (r : Register) (c d : Contents) (place : ℕ) (bytes : List ℕ)
    → ((q : List ℕ) → d.files q ≡ (if not (place == 0) && bytes_eq (path_at r place) q then c.files q ++ bytes else c.files q))
    → ((p : ℕ) → d.left p ≡ c.left p)
    → ((p : ℕ) → d.put p ≡ (if p == place then c.put p ++ bytes else c.put p))
    → d ≡ with_put r c place (take (length bytes) bytes)
put_contents r c d place bytes files left put = rw (take-length bytes) (same_contents _ _ files left put)

-- where none was taken, none was left
pub none_left : (xs : List ℕ) (n a b : ℕ) → n ≡ min (min a b) (length xs) → 0 < a → 0 < b → n ≡ 0 → xs ≡ []
none_left [] n a b is some room none = refl
none_left (x ∷ xs) n a b is some room none = absurd (omega (arith, is, some, room, none))
