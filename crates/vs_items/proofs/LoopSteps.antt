-- The integers that head loops so far, and which they are.
use Rattle.std.proofs.Common.{◌≡◌, ◌||◌, ◌&&◌, ◌+◌, ◌<◌, ◌==◌, ℕ, Bool, true, false, List, [], ◌∷◌, ◌++◌, length, get_or, take, map, if◌then◌else◌, refl, sym, ap, ◌∙◌, append_assoc, zero, suc, Option, arith}
use Rattle.std.specs.List.{list_any}
use Rattle.std.proofs.lemmas.Bool.{eqb-true}
use Rattle.std.proofs.lemmas.List.{append-nil, map-append}
use Rattle.std.proofs.lemmas.List.Folds.{list_any-append}
use Rattle.indexmap.specs.IndexSet.{insert_key}
use Rattle.vs_const.specs.declared.faults.Fault.{Fault}
use Rattle.vs_const.specs.Faults.{least, better, fault_if}
use Rattle.vs_const.specs.declared.rules.Rule.TheVariants.{LoopVariable}
use Rattle.vs_elaborated.specs.Heads as spec
use Rattle.vs_elaborated.specs.Heads.{same_integer, shared_heads}
use Rattle.vs_elaborated.specs.Surveys.{Loops}
use Rattle.vs_items.specs.declared.loops.Integer.{Integer}
use Rattle.vs_items.specs.declared.loops.Head.{Head}
use Rattle.vs_items.specs.Loops.{AreKnown, head, integer_of, and_heads}
use Rattle.vs_items.proofs.FaultLists.{least_more}
use Rattle.vs_items.proofs.Repeats.{one_more}

-- ---- equal integers

both_true : (a b : Bool) → (a && b) ≡ true → (a ≡ true) × (b ≡ true)
both_true true b h = (refl, h)
both_true false b h = cc

same_is : (a b : spec.Integer) → same_integer a b ≡ true → a ≡ b
same_is a b h =
    let both = both_true (a.scope == b.scope) (a.place == b.place) h in
    ap (λ n. let i : spec.Integer = record { scope = n; place = a.place } in i) (eqb-true a.scope b.scope both.0)
    ∙ ap (λ n. let i : spec.Integer = record { scope = b.scope; place = n } in i) (eqb-true a.place b.place both.1)

or_false : (b : Bool) → (b || false) ≡ b
or_false true = refl
or_false false = refl

-- ---- which are known

abbrev same_code : Integer → Integer → Bool
same_code i j = same_integer (integer_of i) (integer_of j)

any_code : (i : Integer) (ks : List Integer) → list_any (same_code i) ks ≡ list_any (same_integer (integer_of i)) (map integer_of ks)
any_code i [] = refl
any_code i (k ∷ ks) = ap (λ b. same_code i k || b) (any_code i ks)

-- what a look-up finds
pub known_headed : (known headed : List Integer) (i : Integer) → AreKnown known headed → list_any (same_code i) known ≡ list_any (same_integer (integer_of i)) (map integer_of headed)
known_headed known headed i a = any_code i known ∙ a.each (integer_of i)

one_behind : (j : spec.Integer) (ks : List Integer) (i : Integer) → list_any (same_integer j) (map integer_of (ks ++ i ∷ [])) ≡ (list_any (same_integer j) (map integer_of ks) || same_integer j (integer_of i))
one_behind j ks i =
    ap (list_any (same_integer j)) (map-append integer_of ks (i ∷ [])) ∙ list_any-append (same_integer j) (map integer_of ks) (integer_of i ∷ [])
    ∙ ap (λ b. list_any (same_integer j) (map integer_of ks) || b) (or_false (same_integer j (integer_of i)))

had_already : (j : spec.Integer) (ks : List Integer) (i : Integer) → list_any (same_code i) ks ≡ true → list_any (same_integer j) (map integer_of ks) ≡ (list_any (same_integer j) (map integer_of ks) || same_integer j (integer_of i))
had_already j ks i h = by (list_any (same_integer j) (map integer_of ks)) (same_integer j (integer_of i)) (λ e. ap (λ k. list_any (same_integer k) (map integer_of ks)) (same_is j (integer_of i) e) ∙ sym (any_code i ks) ∙ h)
  where
    by : (a b : Bool) → (b ≡ true → a ≡ true) → a ≡ (a || b)
    by true b f = refl
    by false true f = f refl
    by false false f = refl

-- one more
pub more_known : (known new headed : List Integer) (i : Integer) → new ≡ insert_key same_code known i → AreKnown known headed → AreKnown new (headed ++ i ∷ [])
more_known known new headed i e a = record { each = λ j. ap (λ ks. list_any (same_integer j) (map integer_of ks)) e ∙ by j (list_any (same_code i) known) refl ∙ ap (λ b. b || same_integer j (integer_of i)) (a.each j) ∙ sym (one_behind j headed i) }
  where
    by : (j : spec.Integer) (b : Bool) → list_any (same_code i) known ≡ b
        → list_any (same_integer j) (map integer_of (if b then known else known ++ i ∷ [])) ≡ (list_any (same_integer j) (map integer_of known) || same_integer j (integer_of i))
    by j true h = had_already j known i h
    by j false h = one_behind j known i

-- none is known at first
pub none_known : (known headed : List Integer) → known ≡ [] → headed ≡ [] → AreKnown known headed
none_known known headed h k = record { each = λ i. ap (λ ks. list_any (same_integer i) (map integer_of ks)) (h ∙ sym k) }

-- ---- one head more

item_is : (hs : List Head) (i : ℕ) (d e : Head) → i < length hs → get_or hs i d ≡ get_or hs i e
item_is [] i d e h = absurd (let no : ⊥ = omega (arith, h) in no)
item_is (x ∷ hs) zero d e h = refl
item_is (x ∷ hs) (suc i) d e h = item_is hs i d e (omega (arith, h))

-- the first fault of those shared with blocks before
pub shared_more : (before : List spec.Integer) (hs : List Head) (i : ℕ) (d : Head) (a b both : Option Fault) → i < length hs → both ≡ better a b → a ≡ least (shared_heads before (map head (take i hs)))
    → (let h = get_or hs i d in b ≡ least (fault_if (list_any (same_integer (integer_of h.integer)) before) LoopVariable h.at)) → both ≡ least (shared_heads before (map head (take (i + 1) hs)))
shared_more before hs i d a b both k is so own =
    least_more head (λ (h : spec.Head). fault_if (list_any (same_integer h.integer) before) LoopVariable h.at) hs i (get_or hs i d) a b both k (item_is hs i d (get_or hs i d) k) is so own

-- the integers with those of one more
one_head_more : (l : Loops) (hs : List Head) (i : ℕ) (h : Head) (now more : Loops) → i < length hs → h ≡ get_or hs i h → now ≡ and_heads l (map head (take i hs))
    → more ≡ record { copies = now.copies; headed = now.headed ++ integer_of h.integer ∷ [] } → more ≡ and_heads l (map head (take (i + 1) hs))
one_head_more l hs i h now more k e is after =
    let integers : List spec.Head → List spec.Integer = map (λ (x : spec.Head). x.integer) in
    let with : List spec.Integer → Loops = λ all. record { copies = l.copies; headed = all } in
    after ∙ ap (λ (n : Loops). let m : Loops = record { copies = n.copies; headed = n.headed ++ integer_of h.integer ∷ [] } in m) is
    ∙ ap with (append_assoc l.headed (integers (map head (take i hs))) (integer_of h.integer ∷ []) ∙ ap (λ all. l.headed ++ all) (sym (map-append (λ (x : spec.Head). x.integer) (map head (take i hs)) (head h ∷ []))))
    ∙ ap (λ all. with (l.headed ++ integers all)) (sym (one_more head hs i h k e))

pub heads_more : (l : Loops) (hs : List Head) (i : ℕ) (d : Head) (now more : Loops) → i < length hs → now ≡ and_heads l (map head (take i hs))
    → (let h = get_or hs i d in let m : Loops = record { copies = now.copies; headed = now.headed ++ integer_of h.integer ∷ [] } in more ≡ m) → more ≡ and_heads l (map head (take (i + 1) hs))
heads_more l hs i d now more k is after = one_head_more l hs i (get_or hs i d) now more k (item_is hs i d (get_or hs i d) k) is after

-- none so far
pub heads_none : (l : Loops) → l ≡ and_heads l []
heads_none l = ap (λ all. let m : Loops = record { copies = l.copies; headed = all } in m) (sym (append-nil l.headed))
