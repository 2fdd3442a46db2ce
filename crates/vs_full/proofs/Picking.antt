-- The roots that are marked, one after the other.
use Rattle.std.proofs.Common.{◌≡◌, ℕ, zero, suc, ◌+◌, ◌<◌, ◌≢◌, Bool, true, false, ◌&&◌, ◌||◌, ◌==◌, eqb-true, eq-eqb, List, [], ◌∷◌, ◌++◌, length, map, take, drop, get_or, set, replicate, get_or-set_same, get_or-set_other, append-nil, if◌then◌else◌, Option, Some, None, option_map, refl, sym, ap, ap₂, ◌∙◌, subst, arith}
use Rattle.std.specs.Prelude.{slice_get, slice_index_or, filter}
use Rattle.std.specs.List.{flat_map}
use Rattle.std.proofs.Math.ListN.{length-set}
use Rattle.std.proofs.Math.Seq.{take-append_seam}
use Rattle.std.proofs.lemmas.List.{take_more, drop_more}
use Rattle.std.proofs.lemmas.Option.{slice_get_within, get_or_from_slice_get}
use Rattle.vs_four.specs.Selects.{Part}
use Rattle.vs_design.specs.Expressions.{Signal, Source, OfSignal, OfConstant, Expression, Literal, Name, Select, Word, WordPart, Unary, Binary, Choice, Join, Repeat, At, Call}
use Rattle.vs_design.specs.Statements as T
use Rattle.vs_design.specs.Designs.{Design, Process}
use Rattle.vs_design.specs.Clocks.{name_of}
use Rattle.vs_design.specs.Elaborated.{IsLawfulDesign}
use Rattle.vs_design.specs.Footprints.{contains, read_signals, source_signals}
use Rattle.vs_design.specs.Selects.{arms_selector_signals, block_selector_signals, is_selector, numbers_of, root_numbers, select_root, selector_signals}
use Rattle.vs_design.proofs.Lists.{and_both}
use Rattle.vs_design.proofs.SelectNets as nets
use Rattle.vs_flat.specs.declared.statements.Arm.{Arm}
use Rattle.vs_flat.specs.Arena.{Arena}
use Rattle.vs_flat.specs.DesignOf.{design_of}
use Rattle.vs_flat.specs.Lawful.{IsLawful}
use Rattle.vs_flat.specs.Targets.{source_of}
use Rattle.vs_flat.specs.Trees.{arms_tree, joined, no_signal, sequence, signal_at}
use Rattle.vs_full.specs.Found.{ArePicked, IsRootBelow, with_mark}
use Rattle.vs_full.specs.Roots.{number_of}
use Rattle.vs_full.specs.Selectors.{is_source}
use Rattle.vs_full.proofs.Rooting.{design_long}
use Rattle.vs_full.proofs.Selecting.{source_name, source_named}

-- ---- numbers of roots

abbrev rooted : Design → List Signal → List ℕ
rooted d ss = numbers_of (map (select_root d) ss)

or_assoc : (p q r : Bool) → (p || (q || r)) ≡ ((p || q) || r)
or_assoc true q r = refl
or_assoc false q r = refl

or_false : (p : Bool) → (p || false) ≡ p
or_false true = refl
or_false false = refl

both_rooted : (d : Design) (ss ts : List Signal) (n : ℕ) → contains (rooted d (ss ++ ts)) n ≡ (contains (rooted d ss) n || contains (rooted d ts) n)
both_rooted d [] ts n = refl
both_rooted d (s ∷ ss) ts n = go (select_root d s) (both_rooted d ss ts n)
  where
    go : (o : Option Signal) → contains (rooted d (ss ++ ts)) n ≡ (contains (rooted d ss) n || contains (rooted d ts) n)
        → contains (numbers_of (o ∷ map (select_root d) (ss ++ ts))) n ≡ (contains (numbers_of (o ∷ map (select_root d) ss)) n || contains (rooted d ts) n)
    go None h = h
    go (Some r) h = ap (λ (c : Bool). (n == r.number) || c) h ∙ or_assoc (n == r.number) (contains (rooted d ss) n) (contains (rooted d ts) n)

-- ---- what is marked

pub picked_none : (d : Design) (x : List Bool) → ArePicked d [] x x
picked_none d x = (refl, λ n inside. sym (or_false (slice_index_or x n false)))

pub picked_both : (d : Design) (ss ts : List Signal) (x y z : List Bool) → ArePicked d ss x y → ArePicked d ts y z → ArePicked d (ss ++ ts) x z
picked_both d ss ts x y z h k = (
  k.0 ∙ h.0,
  λ n inside.
      k.1 n (omega (arith, inside, h.0)) ∙ ap (λ (c : Bool). c || contains (rooted d ts) n) (h.1 n inside) ∙ sym (or_assoc (slice_index_or x n false) (contains (rooted d ss) n) (contains (rooted d ts) n))
      ∙ ap (λ (c : Bool). slice_index_or x n false || c) (sym (both_rooted d ss ts n)),
)

pub picked_as : (d : Design) (ss ts : List Signal) (x y : List Bool) → ss ≡ ts → ArePicked d ss x y → ArePicked d ts x y
picked_as d ss ts x y e h = subst (λ (zs : List Signal). ArePicked d zs x y) e h

-- what is no selector
pub nothing_picked : (d : Design) (e : Expression) (x : List Bool) → is_selector d e ≡ true → is_selector d e ≡ false → ArePicked d (read_signals e) x x
nothing_picked d e x h k = absurd (differ (is_selector d e) h k)
  where
    differ : (c : Bool) → c ≡ true → c ≡ false → ⊥
    differ true h k = cc
    differ false h k = cc

-- with the roots of signals that are left
pub record ArePickedTo (d : Design) (left whole : List Signal) (before now : List Bool) : Type 0 where
  pub count : length now ≡ length before
  pub each : (n : ℕ) → n < length before → (slice_index_or now n false || contains (numbers_of (map (select_root d) left)) n) ≡ (slice_index_or before n false || contains (numbers_of (map (select_root d) whole)) n)

pub picked_start : (d : Design) (whole : List Signal) (before : List Bool) → ArePickedTo d whole whole before before
picked_start d whole before = record { count = refl; each = λ n inside. refl }

pub picked_more : (d : Design) (piece rest left whole : List Signal) (before now next : List Bool) → left ≡ piece ++ rest → ArePicked d piece now next → ArePickedTo d left whole before now → ArePickedTo d rest whole before next
picked_more d piece rest left whole before now next e h k = record {
  count = h.0 ∙ k.count;
  each = λ n inside.
      ap (λ (c : Bool). c || contains (rooted d rest) n) (h.1 n (omega (arith, inside, k.count))) ∙ sym (or_assoc (slice_index_or now n false) (contains (rooted d piece) n) (contains (rooted d rest) n))
      ∙ ap (λ (c : Bool). slice_index_or now n false || c) (sym (both_rooted d piece rest n) ∙ ap (λ (zs : List Signal). contains (rooted d zs) n) (sym e)) ∙ k.each n inside;
}

pub picked_last : (d : Design) (last left whole : List Signal) (before now after : List Bool) → left ≡ last → ArePicked d last now after → ArePickedTo d left whole before now → ArePicked d whole before after
picked_last d last left whole before now after e h k = (
  h.0 ∙ k.count,
  λ n inside.
      h.1 n (omega (arith, inside, k.count)) ∙ ap (λ (zs : List Signal). slice_index_or now n false || contains (rooted d zs) n) (sym e) ∙ k.each n inside,
)

pub picked_done : (d : Design) (left whole : List Signal) (before now : List Bool) → left ≡ [] → ArePickedTo d left whole before now → ArePicked d whole before now
picked_done d left whole before now e k = picked_last d [] left whole before now now e (picked_none d now) k

-- ---- one signal

-- the root of a signal of the design is one too
root_there : (d : Design) (l : IsLawfulDesign d) (s r : Signal) → slice_get d.signals s.number ≡ Some s → select_root d s ≡ Some r → slice_get d.signals r.number ≡ Some r
root_there d l s r h k =
    nets.by_root d l (λ (z : Signal). slice_get d.signals r.number ≡ Some r) r (λ z at i e. subst (λ (y : Signal). slice_get d.signals y.number ≡ Some y) e at) (λ z u at p q. q) (length d.processes) s h k

pub root_below : (a : Arena) → IsLawful a → (s : Signal) (o : Option ℕ) (count : ℕ) → count ≡ length a.signals → slice_get (design_of a).signals s.number ≡ Some s → o ≡ option_map number_of (select_root (design_of a) s) → IsRootBelow count o
root_below a l s o count long there is = subst (IsRootBelow count) (sym is) (go (select_root (design_of a) s) refl)
  where
    go : (r : Option Signal) → select_root (design_of a) s ≡ r → IsRootBelow count (option_map number_of r)
    go None e = tt
    go (Some r) e = let w = slice_get_within (design_of a).signals r.number r (root_there (design_of a) l.design s r there e) in omega (arith, w, design_long a, long)

marked : (x : List Bool) (m n : ℕ) → m < length x → slice_index_or (set x m true) n false ≡ (slice_index_or x n false || ((n == m) || false))
marked x m n h = go (n == m) refl
  where
    or_true : (p : Bool) → (p || true) ≡ true
    or_true true = refl
    or_true false = refl

    differ : (c : Bool) → c ≡ false → c ≡ true → ⊥
    differ true h k = cc
    differ false h k = cc

    go : (c : Bool) → (n == m) ≡ c → slice_index_or (set x m true) n false ≡ (slice_index_or x n false || ((n == m) || false))
    go true e =
        let same = eqb-true n m e in
        ap (λ (k : ℕ). slice_index_or (set x m true) k false) same ∙ get_or-set_same x m true false h
        ∙ sym (ap (λ (c : Bool). slice_index_or x n false || (c || false)) e ∙ or_true (slice_index_or x n false))
    go false e =
        let other : n ≢ m = λ q. differ (n == m) e (eq-eqb n m q) in
        get_or-set_other x m n true false other ∙ sym (ap (λ (c : Bool). slice_index_or x n false || (c || false)) e ∙ or_false (slice_index_or x n false))

pub picked_one : (d : Design) (s : Signal) (o : Option ℕ) (x y : List Bool) → o ≡ option_map number_of (select_root d s) → IsRootBelow (length x) o → y ≡ with_mark x o → ArePicked d (s ∷ []) x y
picked_one d s o x y is below e = subst (λ (z : List Bool). ArePicked d (s ∷ []) x z) (sym (e ∙ ap (with_mark x) is)) (go (select_root d s) refl (subst (IsRootBelow (length x)) is below))
  where
    go : (r : Option Signal) → select_root d s ≡ r → IsRootBelow (length x) (option_map number_of r) → ArePicked d (s ∷ []) x (with_mark x (option_map number_of r))
    go None q h = (refl, λ n inside. sym (ap (λ (r : Option Signal). slice_index_or x n false || contains (numbers_of (r ∷ [])) n) q ∙ or_false (slice_index_or x n false)))
    go (Some r) q h = (length-set x r.number true, λ n inside. marked x r.number n h ∙ sym (ap (λ (z : Option Signal). slice_index_or x n false || contains (numbers_of (z ∷ [])) n) q))

-- ---- names

-- a source is its signal, or nothing
pub source_picked : (e : Expression) (s : Signal) → name_of e ≡ Some s → source_signals (source_of e) ≡ s ∷ []
source_picked e s h = ap source_signals (source_name e s h)

source_empty : (e : Expression) → name_of e ≡ None → source_signals (source_of e) ≡ []
source_empty (Name t) h = cc
source_empty (At place e) h = source_empty e h
source_empty (Literal bits signed sized) h = refl
source_empty (Select source part index) h = refl
source_empty (Word signal index) h = refl
source_empty (WordPart signal address part index) h = refl
source_empty (Unary op a) h = refl
source_empty (Binary op a b) h = refl
source_empty (Choice c p q) h = refl
source_empty (Join high low) h = refl
source_empty (Repeat count a) h = refl
source_empty (Call header statement arguments) h = refl

pub source_unpicked : (d : Design) (e : Expression) (x : List Bool) → None ≡ option_map number_of (name_of e) → ArePicked d (source_signals (source_of e)) x x
source_unpicked d e x h = go (name_of e) refl h
  where
    go : (o : Option Signal) → name_of e ≡ o → None ≡ option_map number_of o → ArePicked d (source_signals (source_of e)) x x
    go None q k = picked_as d [] (source_signals (source_of e)) x x (sym (source_empty e q)) (picked_none d x)
    go (Some s) q k = cc

-- by the number of its signal
pub source_by : (a : Arena) (e : Expression) (n : ℕ) (x y : List Bool) → Some n ≡ option_map number_of (name_of e) → is_source (design_of a) (source_of e) ≡ true
    → ((s : Signal) → slice_get (design_of a).signals n ≡ Some s → ArePicked (design_of a) (s ∷ []) x y) → ArePicked (design_of a) (source_signals (source_of e)) x y
source_by a e n x y is formed picked = go (name_of e) refl is
  where
    same_number : (m n : ℕ) → Some m ≡ Some n → m ≡ n
    same_number m n h = cc

    go : (o : Option Signal) → name_of e ≡ o → Some n ≡ option_map number_of o → ArePicked (design_of a) (source_signals (source_of e)) x y
    go None q k = cc
    go (Some s) q k =
        picked_as (design_of a) (s ∷ []) (source_signals (source_of e)) x y (sym (source_picked e s q)) (picked s (ap (slice_get (design_of a).signals) (same_number n s.number k) ∙ source_named (design_of a) e formed s q))

-- a constant select names what it is taken from alone
pub select_names : (d : Design) (l : IsLawfulDesign d) (source : Source) (part : Part) (index : Expression) → is_selector d (Select source part index) ≡ true → source_signals source ≡ read_signals (Select source part index)
select_names d l (OfConstant bits) part index h = cc
select_names d l (OfSignal s) part index h =
    let f = and_both _ _ (and_both _ _ h).0 in
    ap (λ (zs : List Signal). s ∷ zs) (sym (nets.constant_names d l index f.1))

joined_names : (e : Expression) (es : List Expression) → read_signals (joined (e ∷ es)) ≡ read_signals e ++ read_signals (joined es)
joined_names e [] = sym (append-nil (read_signals e))
joined_names e (f ∷ es) = refl

pub next_names : (tree : ℕ → Expression) (ns : List ℕ) (k : ℕ) → k < length ns → read_signals (joined (map tree (drop k ns))) ≡ read_signals (tree (get_or ns k 0)) ++ read_signals (joined (map tree (drop (k + 1) ns)))
next_names tree ns k h = ap (λ (ms : List ℕ). read_signals (joined (map tree ms))) (drop_more ns k 0 h) ∙ joined_names (tree (get_or ns k 0)) (map tree (drop (k + 1) ns))

-- each part of a selector is one
part_selector : (d : Design) (tree : ℕ → Expression) (ns : List ℕ) (k : ℕ) → is_selector d (joined (map tree ns)) ≡ true → k < length ns → is_selector d (tree (get_or ns k 0)) ≡ true
part_selector d tree [] k h inside = absurd (omega arith)
part_selector d tree (n ∷ []) zero h inside = h
part_selector d tree (n ∷ []) (suc k) h inside = absurd (omega arith)
part_selector d tree (n ∷ m ∷ ns) zero h inside = (and_both (is_selector d (tree n)) (is_selector d (joined (map tree (m ∷ ns)))) h).0
part_selector d tree (n ∷ m ∷ ns) (suc k) h inside = part_selector d tree (m ∷ ns) k (and_both (is_selector d (tree n)) (is_selector d (joined (map tree (m ∷ ns)))) h).1 (omega arith)

pub each_selector : (d : Design) (tree : ℕ → Expression) (ns : List ℕ) (k : ℕ) → is_selector d (joined (map tree ns)) ≡ true → k < length ns → is_selector d (tree (get_or ns k 0)) ≡ true
each_selector d tree ns k h inside = part_selector d tree ns k h inside

-- ---- statements

pub next_arm : (d : Design) (tree : ℕ → Expression) (body : ℕ → T.Statement) (other : Option ℕ) (arms : List Arm) (k : ℕ) (arm : Arm) → k < length arms → arm ≡ get_or arms k arm
    → arms_selector_signals d (arms_tree tree body other (drop k arms)) ≡ selector_signals d (body arm.statement) ++ arms_selector_signals d (arms_tree tree body other (drop (k + 1) arms))
next_arm d tree body other arms k arm h is = ap (λ (xs : List Arm). arms_selector_signals d (arms_tree tree body other xs)) (drop_more arms k arm h ∙ ap (λ (x : Arm). x ∷ drop (k + 1) arms) (sym is))

sequence_signals : (d : Design) (s : T.Statement) (ss : List T.Statement) → selector_signals d (sequence (s ∷ ss)) ≡ selector_signals d s ++ selector_signals d (sequence ss)
sequence_signals d s [] = sym (append-nil (selector_signals d s))
sequence_signals d s (t ∷ ss) = refl

pub next_statement : (d : Design) (body : ℕ → T.Statement) (parts : List ℕ) (k : ℕ) → k < length parts
    → selector_signals d (sequence (map body (drop k parts))) ≡ selector_signals d (body (get_or parts k 0)) ++ selector_signals d (sequence (map body (drop (k + 1) parts)))
next_statement d body parts k h = ap (λ (ms : List ℕ). selector_signals d (sequence (map body ms))) (drop_more parts k 0 h) ∙ sequence_signals d (body (get_or parts k 0)) (map body (drop (k + 1) parts))

-- ---- processes

pub next_block : (d : Design) (p : ℕ) (x : Process) → slice_get d.processes p ≡ Some x → flat_map (block_selector_signals d) (drop p d.processes) ≡ block_selector_signals d x ++ flat_map (block_selector_signals d) (drop (p + 1) d.processes)
next_block d p x at =
    ap (flat_map (block_selector_signals d)) (drop_more d.processes p x (slice_get_within d.processes p x at) ∙ ap (λ (y : Process). y ∷ drop (p + 1) d.processes) (get_or_from_slice_get d.processes p x x at))

abbrev falses : ℕ → List Bool
falses n = replicate n false

false_at : (n m : ℕ) → slice_index_or (falses n) m false ≡ false
false_at zero zero = refl
false_at zero (suc m) = refl
false_at (suc n) zero = refl
false_at (suc n) (suc m) = false_at n m

-- all are marked that are at the root of a selector
pub all_picked : (d : Design) (count : ℕ) (start now : List Bool) → start ≡ replicate count false → ArePicked d (flat_map (block_selector_signals d) d.processes) start now → (n : ℕ) → n < length start → slice_index_or now n false ≡ contains (root_numbers d) n
all_picked d count start now is h n inside = h.1 n inside ∙ ap (λ (c : Bool). c || contains (root_numbers d) n) (ap (λ (xs : List Bool). slice_index_or xs n false) is ∙ false_at count n)

-- ---- the first bits

abbrev chosen_first : (numbers : List ℕ) (ss : List Signal) → List ℕ
chosen_first numbers ss = map (λ (s : Signal). s.first) (filter (λ (s : Signal). contains numbers s.number) (filter (λ (s : Signal). s.input) ss))

abbrev first_if : Bool → ℕ → List ℕ
first_if c n = if c then (n ∷ []) else []

first_last : (numbers : List ℕ) (ss : List Signal) (s : Signal) → chosen_first numbers (ss ++ s ∷ []) ≡ chosen_first numbers ss ++ first_if (s.input && contains numbers s.number) s.first
first_last numbers [] s = go s.input (contains numbers s.number) refl
  where
    go : (i k : Bool) → contains numbers s.number ≡ k → map (λ (s : Signal). s.first) (filter (λ (s : Signal). contains numbers s.number) (if i then (s ∷ []) else [])) ≡ first_if (i && contains numbers s.number) s.first
    go false k e = refl
    go true true e = rw e refl
    go true false e = rw e refl
first_last numbers (t ∷ ss) s = go t.input (contains numbers t.number) refl (first_last numbers ss s)
  where
    go : (i k : Bool) → contains numbers t.number ≡ k → chosen_first numbers (ss ++ s ∷ []) ≡ chosen_first numbers ss ++ first_if (s.input && contains numbers s.number) s.first
        → map (λ (s : Signal). s.first) (filter (λ (s : Signal). contains numbers s.number) (if i then (t ∷ filter (λ (s : Signal). s.input) (ss ++ s ∷ [])) else filter (λ (s : Signal). s.input) (ss ++ s ∷ [])))
        ≡ map (λ (s : Signal). s.first) (filter (λ (s : Signal). contains numbers s.number) (if i then (t ∷ filter (λ (s : Signal). s.input) ss) else filter (λ (s : Signal). s.input) ss)) ++ first_if (s.input && contains numbers s.number) s.first
    go false k e h = h
    go true true e h = rw e (ap (λ (bs : List ℕ). t.first ∷ bs) h)
    go true false e h = rw e h

pub firsts_more : (numbers : List ℕ) (ss : List Signal) (n : ℕ) (firsts : List ℕ) (chosen : Bool) → n < length ss → chosen ≡ ((signal_at ss n).input && contains numbers (signal_at ss n).number)
    → firsts ≡ map (λ s. s.first) (filter (λ s. contains numbers s.number) (filter (λ s. s.input) (take n ss)))
    → firsts ++ (if chosen then ((signal_at ss n).first ∷ []) else []) ≡ map (λ s. s.first) (filter (λ s. contains numbers s.number) (filter (λ s. s.input) (take (n + 1) ss)))
firsts_more numbers ss n firsts chosen inside is h =
    ap₂ (λ (bs : List ℕ) (c : Bool). bs ++ first_if c (signal_at ss n).first) h is ∙ sym (first_last numbers (take n ss) (signal_at ss n)) ∙ sym (ap (chosen_first numbers) (take_more ss n no_signal inside))

-- ---- a slice that was changed in place

pub bool_seam : (n : ℕ) (xs ys : List Bool) → n ≡ length xs → take n (xs ++ ys) ≡ xs
bool_seam n xs ys h = ap {B = List Bool} (λ m. take m (xs ++ ys)) h ∙ take-append_seam xs ys
