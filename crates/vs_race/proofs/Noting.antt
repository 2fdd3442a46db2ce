-- Bits that are noted or gathered one after the other.
use Rattle.std.proofs.Common.{◌≡◌, ◌≢◌, ℕ, ◌+◌, ◌<◌, Bool, true, false, List, ◌||◌, ◌&&◌, ◌==◌, refl, sym, ap, ◌∙◌, subst, eqb-true, eq-eqb, get_or, set, take, drop, length, get_or-set_same, get_or-set_other, arith, ◌++◌}
use Rattle.std.specs.List.{list_any}
use Rattle.std.proofs.Math.ListN.{length-set}
use Rattle.std.proofs.lemmas.List.{take-append-le, take_all}
use Rattle.vs_design.specs.Footprints.{contains}
use Rattle.vs_race.specs.declared.stirrer.Stirrer.{Stirrer}
use Rattle.vs_race.specs.Stirrers.{joined, Tells, stirrer_at, AreTold, with_noted}
use Rattle.vs_reads.proofs.Tests.{by_test, either_way, contains_more, any_more}
use Rattle.vs_race.proofs.Telling.{tells_same, tells_joined, or_nothing}

abbrev pub IsNoted : List Stirrer → List Stirrer → List ℕ → Stirrer → Type 0
IsNoted old new bits s = (f : ℕ → ℕ → Bool) (g : ℕ → Bool) → AreTold old f → Tells s g → AreTold new (with_noted f bits g)

same_other : (q p : ℕ) → (q == p) ≡ false → q ≡ p → ⊥
same_other q p h e = either_way (q == p) (subst (λ m. (q == m) ≡ true) e (eq-eqb q q refl)) h

-- none yet
pub none_noted : (old : List Stirrer) (bits : List ℕ) (s : Stirrer) → ((b : ℕ) → contains bits b ≡ false) → IsNoted old old bits s
none_noted old bits s none f g h k b l = tells_same (stirrer_at old b) (f b) (with_noted f bits g b) (λ q. sym (ap {B = Bool} (λ c. f b q || (c && g q)) (none b) ∙ or_nothing (f b q))) (h b l)

noted_law : (a c d : Bool) → ((a || (c && d)) || d) ≡ (a || ((c || true) && d))
noted_law true c d = refl
noted_law false true true = refl
noted_law false true false = refl
noted_law false false d = refl

other_law : (c : Bool) → c ≡ (c || false)
other_law true = refl
other_law false = refl

pub one_noted : (old now new : List Stirrer) (bits : List ℕ) (i : ℕ) (s before r : Stirrer) → length now ≡ length old → i < length bits → get_or bits i 0 < length now → before ≡ stirrer_at now (get_or bits i 0) → r ≡ joined before s
    → new ≡ set now (get_or bits i 0) r → IsNoted old now (take i bits) s → IsNoted old new (take (i + 1) bits) s
one_noted old now new bits i s before r c l m read is e h f g told tells b k =
    subst (λ (t : List Stirrer). Tells (stirrer_at t b) (with_noted f (take (i + 1) bits) g b)) (sym e) (by_test (b == bit) here there)
  where
    bit : ℕ
    bit = get_or bits i 0

    more : contains (take (i + 1) bits) b ≡ (contains (take i bits) b || (b == bit))
    more = contains_more bits i b l

    inside : b < length now
    inside = subst (λ n. b < n) (ap length e ∙ simp length-set) k

    told_now : AreTold now (with_noted f (take i bits) g)
    told_now = h f g told tells

    here : (b == bit) ≡ true → Tells (stirrer_at (set now bit r) b) (with_noted f (take (i + 1) bits) g b)
    here t =
        let same : b ≡ bit = eqb-true b bit t in
        let written : stirrer_at (set now bit r) bit ≡ r = rw get_or-set_same refl in
        let at : stirrer_at (set now bit r) b ≡ joined (stirrer_at now b) s = ap {B = Stirrer} (stirrer_at (set now bit r)) same ∙ written ∙ is ∙ ap {B = Stirrer} (λ x. joined x s) (read ∙ ap {B = Stirrer} (stirrer_at now) (sym same)) in
        subst (λ (x : Stirrer). Tells x (with_noted f (take (i + 1) bits) g b)) (sym at)
        (tells_same (joined (stirrer_at now b) s) (λ q. with_noted f (take i bits) g b q || g q) (with_noted f (take (i + 1) bits) g b)
        (λ q. noted_law (f b q) (contains (take i bits) b) (g q) ∙ ap {B = Bool} (λ t. f b q || (t && g q)) (sym (more ∙ ap {B = Bool} (λ t. contains (take i bits) b || t) t)))
        (tells_joined (stirrer_at now b) s (with_noted f (take i bits) g b) g (told_now b inside) tells))

    there : (b == bit) ≡ false → Tells (stirrer_at (set now bit r) b) (with_noted f (take (i + 1) bits) g b)
    there t =
        let ne : b ≢ bit = same_other b bit t in
        let at : stirrer_at (set now bit r) b ≡ stirrer_at now b = rw get_or-set_other refl in
        subst (λ (x : Stirrer). Tells x (with_noted f (take (i + 1) bits) g b)) (sym at)
        (tells_same (stirrer_at now b) (with_noted f (take i bits) g b) (with_noted f (take (i + 1) bits) g b)
        (λ q. ap {B = Bool} (λ t. f b q || (t && g q)) (other_law (contains (take i bits) b) ∙ sym (more ∙ ap {B = Bool} (λ t. contains (take i bits) b || t) t)))
        (told_now b inside))

-- ---- what some bits have together

abbrev pub IsGathered : List Stirrer → List ℕ → Stirrer → Stirrer → Type 0
IsGathered table bits before all = (f : ℕ → ℕ → Bool) (g : ℕ → Bool) → AreTold table f → Tells before g → Tells all (λ q. g q || list_any (λ b. f b q) bits)

pub none_gathered : (table : List Stirrer) (bits : List ℕ) (s : Stirrer) → ((t : ℕ → Bool) → list_any t bits ≡ false) → IsGathered table bits s s
none_gathered table bits s none f g h k = tells_same s g (λ q. g q || list_any (λ b. f b q) bits) (λ q. sym (ap {B = Bool} (λ c. g q || c) (none (λ b. f b q)) ∙ or_nothing (g q))) k

or_assoc : (a b c : Bool) → ((a || b) || c) ≡ (a || (b || c))
or_assoc true b c = refl
or_assoc false b c = refl

pub one_gathered : (table : List Stirrer) (bits : List ℕ) (i : ℕ) (before all read new : Stirrer) → i < length bits → get_or bits i 0 < length table → read ≡ stirrer_at table (get_or bits i 0) → new ≡ joined all read
    → IsGathered table (take i bits) before all → IsGathered table (take (i + 1) bits) before new
one_gathered table bits i before all read new l m e is h f g told tells =
    subst (λ (x : Stirrer). Tells x (λ q. g q || list_any (λ b. f b q) (take (i + 1) bits))) (sym (is ∙ ap {B = Stirrer} (joined all) e))
    (tells_same (joined all (stirrer_at table bit)) (λ q. (g q || list_any (λ b. f b q) (take i bits)) || f bit q) (λ q. g q || list_any (λ b. f b q) (take (i + 1) bits))
    (λ q. or_assoc (g q) (list_any (λ b. f b q) (take i bits)) (f bit q) ∙ ap {B = Bool} (λ t. g q || t) (sym (any_more (λ b. f b q) bits i l)))
    (tells_joined all (stirrer_at table bit) (λ q. g q || list_any (λ b. f b q) (take i bits)) (f bit) (h f g told tells) (told bit m)))
  where
    bit : ℕ
    bit = get_or bits i 0

-- ---- a slice of a list that is as long

pub written_back : {A : Type 0} (n : ℕ) (new old : List A) → length new ≡ n → take n (new ++ drop (length new) old) ≡ new
written_back n new old e = take-append-le n new (drop (length new) old) (omega (arith, e)) ∙ take_all n new (omega (arith, e))
