-- Assigns that copy a bit.
use Rattle.std.proofs.Common.{◌≡◌, ℕ, ◌+◌, ◌<◌, Bool, true, false, List, [], ◌∷◌, ◌++◌, ◌||◌, ◌&&◌, ◌==◌, refl, sym, ap, ◌∙◌, subst, eqb-true, eq-eqb, get_or, set, take, length, Some, None, Option, ◌≢◌, cond, get_or-set_same, get_or-set_other}
use Rattle.std.specs.Prelude.{slice_get, filter}
use Rattle.std.proofs.Math.ListN.{length-set}
use Rattle.std.proofs.lemmas.List.{take_more}
use Rattle.std.proofs.lemmas.List.Folds.{list_any-append}
use Rattle.std.proofs.lemmas.Option.{slice_get_within, get_or_from_slice_get}
use Rattle.vs_design.specs.Expressions as E
use Rattle.vs_design.specs.Expressions.{Signal, signal_length, Expression, Name, At}
use Rattle.vs_design.specs.Values.{count_from, bits_of_signal}
use Rattle.vs_design.specs.Statements.{Target, Whole, PartOf, WordOf, WordPartOf, Both}
use Rattle.vs_design.specs.Designs.{Port, Process, Continuous, Always, Design, bit_count}
use Rattle.vs_design.specs.Footprints.{contains, all_reads, read_bits, writes_of, waits_of}
use Rattle.vs_design.specs.Clocks.{name_of}
use Rattle.vs_design.specs.Dead.{is_port}
use Rattle.vs_design.specs.Elaborated.{IsLawfulDesign}
use Rattle.vs_design.specs.Laws.{BitsOfDesign}
use Rattle.vs_clock.specs.Spread.{targets_at}
use Rattle.vs_clock.specs.Ports.{one_bit, bit_of, both_bits, whole_bit, port_bits, ported_bits, is_copy, copies_by, copies, AreTargets}
use Rattle.vs_reads.proofs.Tests.{by_test, either_way, or_left, or_right, contains-append, contains_head}

same_other : (q p : ℕ) → (q == p) ≡ false → q ≡ p → ⊥
same_other q p h e = either_way (q == p) (subst (λ m. (q == m) ≡ true) e (eq-eqb q q refl)) h

or_nothing : (a : Bool) → (a || false) ≡ a
or_nothing true = refl
or_nothing false = refl

-- ---- what an assign copies, by its target

none_right : (o : Option ℕ) → both_bits o None ≡ None
none_right None = refl
none_right (Some b) = refl

pub whole_port : (place target_place : ℕ) (port : Port) (t : Target) (e : Expression) → both_bits (bit_of (name_of e)) (whole_bit t) ≡ port_bits (Continuous place port target_place t e)
whole_port place target_place port (Whole signal) e = refl
whole_port place target_place port (PartOf signal part index) e = none_right (bit_of (name_of e))
whole_port place target_place port (WordOf signal index) e = none_right (bit_of (name_of e))
whole_port place target_place port (WordPartOf signal address part index) e = none_right (bit_of (name_of e))
whole_port place target_place port (Both high low) e = none_right (bit_of (name_of e))

-- ---- the bits that are copied are bits of the design

one_is : (s : Signal) (b : ℕ) → one_bit s ≡ Some b → contains (bits_of_signal s) b ≡ true
one_is s b h = go (signal_length s == 1) refl h
  where
    some_same : (a b : ℕ) → Some a ≡ Some b → a ≡ b
    some_same a b e = cc

    go : (t : Bool) → (signal_length s == 1) ≡ t → (cond t (Some s.first) None) ≡ Some b → contains (bits_of_signal s) b ≡ true
    go true e k = subst (λ m. contains (bits_of_signal s) m ≡ true) (some_same s.first b k) (ap {B = Bool} (λ n. contains (count_from s.first n) s.first) (eqb-true (signal_length s) 1 e) ∙ contains_head s.first [])
    go false e k = cc

name_read : (e : Expression) (b : ℕ) → bit_of (name_of e) ≡ Some b → contains (read_bits e) b ≡ true
name_read (E.Literal bits signed sized) b h = cc
name_read (Name signal) b h = one_is signal b h
name_read (E.Select source part index) b h = cc
name_read (E.Unary op a) b h = cc
name_read (E.Binary op a c) b h = cc
name_read (E.Word signal index) b h = cc
name_read (E.WordPart signal address part index) b h = cc
name_read (E.Call header statement arguments) b h = cc
name_read (E.Choice c p q) b h = cc
name_read (E.Join high low) b h = cc
name_read (E.Repeat count a) b h = cc
name_read (At place e) b h = name_read e b h

both_are : (p q : Option ℕ) (b t : ℕ) → both_bits p q ≡ Some (b, t) → (p ≡ Some b) × (q ≡ Some t)
both_are None q b t h = cc
both_are (Some x) None b t h = cc
both_are (Some x) (Some y) b t h = (ap Some (ap (λ (p : ℕ × ℕ). p.0) (some_same (x, y) (b, t) h)), ap Some (ap (λ (p : ℕ × ℕ). p.1) (some_same (x, y) (b, t) h)))
  where
    some_same : (a b : ℕ × ℕ) → Some a ≡ Some b → a ≡ b
    some_same a b e = cc

copy_in : (x : Process) (b t : ℕ) → port_bits x ≡ Some (b, t) → (contains (all_reads x) b ≡ true) × (contains (writes_of x) t ≡ true)
copy_in (Continuous place port target_place (Whole signal) e) b t h = let p = both_are (bit_of (name_of e)) (one_bit signal) b t h in (name_read e b p.0, one_is signal t p.1)
copy_in (Continuous place port target_place (PartOf signal part index) e) b t h = cc
copy_in (Continuous place port target_place (WordOf signal index) e) b t h = cc
copy_in (Continuous place port target_place (WordPartOf signal address part index) e) b t h = cc
copy_in (Continuous place port target_place (Both high low) e) b t h = cc
copy_in (Always place star events statement) b t h = cc

pub copy_below : BitsOfDesign → (d : Design) → IsLawfulDesign d → (p : ℕ) (x : Process) (b t : ℕ) → slice_get d.processes p ≡ Some x → port_bits x ≡ Some (b, t) → (b < bit_count d) × (t < bit_count d)
copy_below law d l p x b t e h =
    let c = copy_in x b t h in (
      law d l p x e b (contains-append (all_reads x) (writes_of x ++ waits_of x) b ∙ or_left (contains (all_reads x) b) (contains (writes_of x ++ waits_of x) b) c.0),
      law d l p x e t (contains-append (all_reads x) (writes_of x ++ waits_of x) t ∙ or_right (contains (all_reads x) t) (contains (writes_of x ++ waits_of x) t) (contains-append (writes_of x) (waits_of x) t ∙ or_left (contains (writes_of x) t) (contains (waits_of x) t) c.1)),
    )

-- ---- the table of targets

copies_more : (bits : Process → Option (ℕ × ℕ)) (ps : List Process) (p : ℕ) (x : Process) (b t : ℕ) → slice_get ps p ≡ Some x → copies_by bits (take (p + 1) ps) b t ≡ (copies_by bits (take p ps) b t || is_copy b t (bits x))
copies_more bits ps p x b t e =
    ap {B = Bool} (λ zs. copies_by bits zs b t) (take_more ps p x (slice_get_within ps p x e))
    ∙ list_any-append (λ x. is_copy b t (bits x)) (take p ps) (get_or ps p x ∷ [])
    ∙ ap {B = Bool} (λ z. copies_by bits (take p ps) b t || z) (or_nothing (is_copy b t (bits (get_or ps p x))) ∙ ap {B = Bool} (λ z. is_copy b t (bits z)) (get_or_from_slice_get ps p x x e))

pub no_targets : (bits : Process → Option (ℕ × ℕ)) (d : Design) (targets : List (List ℕ)) → ((b : ℕ) → targets_at targets b ≡ []) → AreTargets bits d 0 targets
no_targets bits d targets h b t l = ap {B = Bool} (λ zs. contains zs t) (h b)

-- one port more
pub targets_more : (bits : Process → Option (ℕ × ℕ)) (d : Design) (p : ℕ) (x : Process) (from to : ℕ) (targets : List (List ℕ)) → slice_get d.processes p ≡ Some x → bits x ≡ Some (from, to) → from < length targets → AreTargets bits d p targets → AreTargets bits d (p + 1) (set targets from (targets_at targets from ++ to ∷ []))
targets_more bits d p x from to targets e h l a b t k =
    by_test (b == from)
    (λ s. subst (λ m. contains (targets_at now m) t ≡ copies_by bits (take (p + 1) d.processes) m t) (sym (eqb-true b from s))
    (ap {B = Bool} (λ zs. contains zs t) here ∙ contains-append (targets_at targets from) (to ∷ []) t
    ∙ ap {B = Bool} (λ z. z || ((t == to) || false)) (a from t l)
    ∙ ap {B = Bool} (λ z. copies_by bits (take p d.processes) from t || z) (or_nothing (t == to) ∙ sym (ap {B = Bool} (λ z. z && (t == to)) (eq-eqb from from refl)))
    ∙ sym (copies_more bits d.processes p x from t e ∙ ap {B = Bool} (λ z. copies_by bits (take p d.processes) from t || is_copy from t z) h)))
    (λ s. ap {B = Bool} (λ zs. contains zs t) (other s) ∙ a b t (old_length k) ∙ sym (copies_more bits d.processes p x b t e ∙ ap {B = Bool} (λ z. copies_by bits (take p d.processes) b t || is_copy b t z) h ∙ ap {B = Bool} (λ z. copies_by bits (take p d.processes) b t || (z && (t == to))) s ∙ or_nothing (copies_by bits (take p d.processes) b t)))
  where
    now : List (List ℕ)
    now = set targets from (targets_at targets from ++ to ∷ [])

    here : targets_at now from ≡ targets_at targets from ++ to ∷ []
    here = rw get_or-set_same refl

    other : (b == from) ≡ false → targets_at now b ≡ targets_at targets b
    other s = let ne : b ≢ from = same_other b from s in rw get_or-set_other refl

    old_length : b < length now → b < length targets
    old_length k = subst (λ m. b < m) (length-set targets from (targets_at targets from ++ to ∷ [])) k

-- a process that is none
pub targets_same : (bits : Process → Option (ℕ × ℕ)) (d : Design) (p : ℕ) (x : Process) (targets : List (List ℕ)) → slice_get d.processes p ≡ Some x → bits x ≡ None → AreTargets bits d p targets → AreTargets bits d (p + 1) targets
targets_same bits d p x targets e h a b t k = a b t k ∙ sym (copies_more bits d.processes p x b t e ∙ ap {B = Bool} (λ z. copies_by bits (take p d.processes) b t || is_copy b t z) h ∙ or_nothing (copies_by bits (take p d.processes) b t))

-- ---- ports alone

-- what a port copies an assign copies
pub ported_is : (x : Process) (b t : ℕ) → ported_bits x ≡ Some (b, t) → port_bits x ≡ Some (b, t)
ported_is x b t h = go (is_port x) h
  where
    go : (c : Bool) → (cond c (port_bits x) None) ≡ Some (b, t) → port_bits x ≡ Some (b, t)
    go true k = k
    go false k = cc

pub copies_ported : (ps : List Process) (b t : ℕ) → copies_by ported_bits ps b t ≡ copies (filter is_port ps) b t
copies_ported [] b t = refl
copies_ported (x ∷ ps) b t = go (is_port x) (copies_ported ps b t)
  where
    go : (c : Bool) → copies_by ported_bits ps b t ≡ copies (filter is_port ps) b t → (is_copy b t (cond c (port_bits x) None) || copies_by ported_bits ps b t) ≡ copies (cond c (x ∷ filter is_port ps) (filter is_port ps)) b t
    go true h = ap {B = Bool} (λ z. is_copy b t (port_bits x) || z) h
    go false h = h
