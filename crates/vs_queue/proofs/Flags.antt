-- Flags that are set one after the other.
use Rattle.std.proofs.Common.{◌≡◌, ℕ, zero, suc, ◌+◌, ◌<◌, ◌≤◌, Bool, true, false, ◌&&◌, ◌||◌, ◌==◌, cond, List, [], ◌∷◌, ◌++◌, filter, drop, take, replicate, set, length, get_or, eqb-true, eq-eqb, refl, sym, ap, ap₂, ◌∙◌, arith, Some}
use Rattle.std.specs.Prelude.{slice_get}
use Rattle.std.specs.List.{list_any}
use Rattle.std.proofs.lemmas.List.{get_or-set_same, get_or-set_other, length-set, length-replicate, take_all}
use Rattle.std.proofs.lemmas.List.Folds.{list_any-append}
use Rattle.vs_design.specs.Expressions.{Signal}
use Rattle.vs_design.specs.Values.{count_from, bits_of_signal}
use Rattle.vs_design.specs.Designs.{Process}
use Rattle.vs_design.specs.Footprints.{contains, signals_bits, is_net}
use Rattle.vs_writes.proofs.Writing.{drop_at, drop_end}
use Rattle.vs_events.proofs.Woken.{not_same}
use Rattle.vs_queue.specs.First.{flag_at}
use Rattle.vs_queue.specs.Ordered.{drives}
use Rattle.vs_queue.proofs.Firsts.{count_more}

or_true : (a : Bool) → (a || true) ≡ true
or_true true = refl
or_true false = refl

or_none : (a : Bool) → (a || false) ≡ a
or_none true = refl
or_none false = refl

or_assoc : (a b c : Bool) → ((a || b) || c) ≡ (a || (b || c))
or_assoc true b c = refl
or_assoc false b c = refl

pub flag_set : (flags : List Bool) (x b : ℕ) → x < length flags → flag_at (set flags x true) b ≡ (flag_at flags b || (b == x))
flag_set flags x b l = go (b == x) refl
  where
    go : (c : Bool) → (b == x) ≡ c → flag_at (set flags x true) b ≡ (flag_at flags b || c)
    go true e = ap (flag_at (set flags x true)) (eqb-true b x e) ∙ get_or-set_same flags x true false l ∙ sym (or_true (flag_at flags b))
    go false e = get_or-set_other flags x b true false (not_same b x e) ∙ sym (or_none (flag_at flags b))

-- those of these bits, up to here
pub record AreFlagged (bits : List ℕ) (first now : List Bool) (k : ℕ) : Type 0 where
  pub told : (b : ℕ) → (flag_at now b || contains (drop k bits) b) ≡ (flag_at first b || contains bits b)
  pub long : length now ≡ length first

pub contains_at : (bits : List ℕ) (k x : ℕ) → x ≡ get_or bits k 0 → k < length bits → contains bits x ≡ true
contains_at [] k x is l = absurd (omega (arith, l))
contains_at (b ∷ bits) zero x is l = ap (λ c. c || contains bits x) (eq-eqb x b is)
contains_at (b ∷ bits) (suc k) x is l = ap (λ c. (x == b) || c) (contains_at bits k x is (omega (arith, l))) ∙ or_true (x == b)

pub any_default : (bits : List ℕ) (k c d : ℕ) → k < length bits → get_or bits k c ≡ get_or bits k d
any_default [] k c d l = absurd (omega (arith, l))
any_default (b ∷ bits) zero c d l = refl
any_default (b ∷ bits) (suc k) c d l = any_default bits k c d (omega (arith, l))

pub flagged_more : (bits : List ℕ) (first now : List Bool) (k x : ℕ) → x ≡ get_or bits k 0 → k < length bits → x < length now → AreFlagged bits first now k → AreFlagged bits first (set now x true) (k + 1)
flagged_more bits first now k x is l inside r = record {
  told = λ b.
      ap (λ c. c || contains (drop (k + 1) bits) b) (flag_set now x b inside) ∙ or_assoc (flag_at now b) (b == x) (contains (drop (k + 1) bits) b)
      ∙ ap (λ bs. flag_at now b || contains bs b) (sym (drop_at bits k x (is ∙ any_default bits k 0 x l) l)) ∙ r.told b;
  long = length-set now x true ∙ r.long;
}

pub flagged_all : (bits : List ℕ) (first now : List Bool) (k : ℕ) → length bits ≤ k → AreFlagged bits first now k → (b : ℕ) → flag_at now b ≡ (flag_at first b || contains bits b)
flagged_all bits first now k l r b = sym (or_none (flag_at now b)) ∙ ap (λ bs. flag_at now b || contains bs b) (sym (drop_end k bits l)) ∙ r.told b

-- and those of bits in a row
pub record AreRun (start : ℕ) (first now : List Bool) (k : ℕ) : Type 0 where
  pub told : (b : ℕ) → flag_at now b ≡ (flag_at first b || contains (count_from start k) b)
  pub long : length now ≡ length first

pub none_run : (start : ℕ) (first : List Bool) → AreRun start first first 0
none_run start first = record { told = λ b. sym (or_none (flag_at first b)); long = refl }

pub run_more : (start : ℕ) (first now : List Bool) (k x : ℕ) → x ≡ start + k → x < length now → AreRun start first now k → AreRun start first (set now x true) (k + 1)
run_more start first now k x is inside r = record {
  told = λ b.
      flag_set now x b inside ∙ ap₂ (λ c y. c || (b == y)) (r.told b) is ∙ or_assoc (flag_at first b) (contains (count_from start k) b) (b == start + k)
      ∙ ap (λ c. flag_at first b || c) (ap (λ c. contains (count_from start k) b || c) (sym (or_none (b == start + k))) ∙ sym (list_any-append (λ c. b == c) (count_from start k) ((start + k) ∷ [])) ∙ ap (λ bs. contains bs b) (sym (count_more start k) ∙ ap (count_from start) (let e : suc k ≡ k + 1 = omega arith in e)));
  long = length-set now x true ∙ r.long;
}

-- no flag is set
pub none_set : (n b : ℕ) → flag_at (replicate n false) b ≡ false
none_set zero b = refl
none_set (suc n) zero = refl
none_set (suc n) (suc b) = none_set n b

-- ---- nets

signals_next : (ss : List Signal) (k : ℕ) (s : Signal) (b : ℕ) → slice_get ss k ≡ Some s → contains (signals_bits (filter is_net (take (suc k) ss))) b ≡ (contains (signals_bits (filter is_net (take k ss))) b || (is_net s && contains (bits_of_signal s) b))
signals_next [] k s b at = cc
signals_next (t ∷ ss) zero s b at = let same : t ≡ s = cc in go (is_net t) same
  where
    nil : {A : Type 0} (xs : List A) → xs ++ [] ≡ xs
    nil [] = refl
    nil (x ∷ xs) = ap (λ ys. x ∷ ys) (nil xs)

    go : (c : Bool) → t ≡ s → contains (signals_bits (cond (is_net t) (t ∷ []) [])) b ≡ (false || (is_net s && contains (bits_of_signal s) b))
    go c e = at_one (is_net t) ∙ ap (λ (x : Signal). is_net x && contains (bits_of_signal x) b) e
      where
        at_one : (c : Bool) → contains (signals_bits (cond c (t ∷ []) [])) b ≡ (c && contains (bits_of_signal t) b)
        at_one true = ap (λ bs. contains bs b) (nil (bits_of_signal t))
        at_one false = refl
signals_next (t ∷ ss) (suc k) s b at = go (is_net t) (signals_next ss k s b at)
  where
    rest : ℕ → List Signal
    rest j = filter is_net (take j ss)

    go : (c : Bool) → contains (signals_bits (rest (suc k))) b ≡ (contains (signals_bits (rest k)) b || (is_net s && contains (bits_of_signal s) b))
        → contains (signals_bits (cond c (t ∷ rest (suc k)) (rest (suc k)))) b ≡ (contains (signals_bits (cond c (t ∷ rest k) (rest k))) b || (is_net s && contains (bits_of_signal s) b))
    go true h =
        list_any-append (λ c. b == c) (bits_of_signal t) (signals_bits (rest (suc k))) ∙ ap (λ c. contains (bits_of_signal t) b || c) h
        ∙ sym (or_assoc (contains (bits_of_signal t) b) (contains (signals_bits (rest k)) b) (is_net s && contains (bits_of_signal s) b))
        ∙ ap (λ c. c || (is_net s && contains (bits_of_signal s) b)) (sym (list_any-append (λ c. b == c) (bits_of_signal t) (signals_bits (rest k))))
    go false h = h

signals_more : (ss : List Signal) (k : ℕ) (s : Signal) (b : ℕ) → slice_get ss k ≡ Some s → contains (signals_bits (filter is_net (take (k + 1) ss))) b ≡ (contains (signals_bits (filter is_net (take k ss))) b || (is_net s && contains (bits_of_signal s) b))
signals_more ss k s b at = ap (λ m. contains (signals_bits (filter is_net (take m ss))) b) (let e : k + 1 ≡ suc k = omega arith in e) ∙ signals_next ss k s b at

-- the flags of the nets among the first signals
pub record AreNets (ss : List Signal) (flags : List Bool) (count k : ℕ) : Type 0 where
  pub long : length flags ≡ count
  pub told : (b : ℕ) → flag_at flags b ≡ contains (signals_bits (filter is_net (take k ss))) b

pub net_more : (ss : List Signal) (flags now : List Bool) (count k : ℕ) (s : Signal) → slice_get ss k ≡ Some s → is_net s ≡ true → length now ≡ length flags → ((b : ℕ) → flag_at now b ≡ (flag_at flags b || contains (bits_of_signal s) b)) → AreNets ss flags count k → AreNets ss now count (k + 1)
net_more ss flags now count k s at net long each r = record {
  long = long ∙ r.long;
  told = λ b. each b ∙ ap₂ ◌||◌ (r.told b) (ap (λ c. c && contains (bits_of_signal s) b) (sym net)) ∙ sym (signals_more ss k s b at);
}

pub other_more : (ss : List Signal) (flags : List Bool) (count k : ℕ) (s : Signal) → slice_get ss k ≡ Some s → is_net s ≡ false → AreNets ss flags count k → AreNets ss flags count (k + 1)
other_more ss flags count k s at net r = record {
  long = r.long;
  told = λ b. r.told b ∙ sym (or_none (contains (signals_bits (filter is_net (take k ss))) b)) ∙ ap (λ c. contains (signals_bits (filter is_net (take k ss))) b || c) (ap (λ c. c && contains (bits_of_signal s) b) (sym net)) ∙ sym (signals_more ss k s b at);
}

-- ---- what assigns drive

any_next : {A : Type 0} (f : A → Bool) (xs : List A) (k : ℕ) (x : A) → slice_get xs k ≡ Some x → list_any f (take (suc k) xs) ≡ (list_any f (take k xs) || f x)
any_next f [] k x at = cc
any_next f (y ∷ ys) zero x at = let same : y ≡ x = cc in or_none (f y) ∙ ap f same
any_next f (y ∷ ys) (suc k) x at = ap (λ c. f y || c) (any_next f ys k x at) ∙ sym (or_assoc (f y) (list_any f (take k ys)) (f x))

pub any_more : {A : Type 0} (f : A → Bool) (xs : List A) (k : ℕ) (x : A) → slice_get xs k ≡ Some x → list_any f (take (k + 1) xs) ≡ (list_any f (take k xs) || f x)
any_more f xs k x at = ap (λ m. list_any f (take m xs)) (let e : k + 1 ≡ suc k = omega arith in e) ∙ any_next f xs k x at

pub record AreDriven (ps : List Process) (flags : List Bool) (count k : ℕ) : Type 0 where
  pub long : length flags ≡ count
  pub told : (b : ℕ) → flag_at flags b ≡ list_any (drives b) (take k ps)

pub driven_more : (ps : List Process) (flags now : List Bool) (count k : ℕ) (x : Process) → slice_get ps k ≡ Some x → length now ≡ length flags → ((b : ℕ) → flag_at now b ≡ (flag_at flags b || drives b x)) → AreDriven ps flags count k → AreDriven ps now count (k + 1)
driven_more ps flags now count k x at long each r = record { long = long ∙ r.long; told = λ b. each b ∙ ap (λ c. c || drives b x) (r.told b) ∙ sym (any_more (drives b) ps k x at) }

-- ---- where a walk begins, and where it ends

pub no_nets : (ss : List Signal) (flags : List Bool) (count n : ℕ) → flags ≡ replicate n false → n ≡ count → AreNets ss flags count 0
no_nets ss flags count n is same = record { long = ap length is ∙ length-replicate n false ∙ same; told = λ b. ap (λ fs. flag_at fs b) is ∙ none_set n b }

pub all_nets : (ss : List Signal) (flags : List Bool) (count k : ℕ) → length ss ≤ k → AreNets ss flags count k → (b : ℕ) → flag_at flags b ≡ contains (signals_bits (filter is_net ss)) b
all_nets ss flags count k l r b = r.told b ∙ ap (λ xs. contains (signals_bits (filter is_net xs)) b) (take_all k ss l)

pub none_driven : (ps : List Process) (flags : List Bool) (count n : ℕ) → flags ≡ replicate n false → n ≡ count → AreDriven ps flags count 0
none_driven ps flags count n is same = record { long = ap length is ∙ length-replicate n false ∙ same; told = λ b. ap (λ fs. flag_at fs b) is ∙ none_set n b }

pub all_driven : (ps : List Process) (flags : List Bool) (count k : ℕ) → length ps ≤ k → AreDriven ps flags count k → (b : ℕ) → flag_at flags b ≡ list_any (drives b) ps
all_driven ps flags count k l r b = r.told b ∙ ap (λ xs. list_any (drives b) xs) (take_all k ps l)
