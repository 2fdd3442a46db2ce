-- Selects of names, and calls.
use Rattle.std.proofs.Common.{◌≡◌, ℕ, ◌+◌, ◌-◌, ◌<◌, ◌≤◌, Bool, true, false, not, ◌&&◌, ◌||◌, List, [], ◌∷◌, ◌++◌, length, max, min, nat_le, ℤ, pos, negsuc, Option, Some, None, is_some, Result, OnOk, refl, sym, ap, ◌∙◌, subst, arith}
use Rattle.std.proofs.lemmas.Bool.{leb-true}
use Rattle.vs_four.specs.declared.Range.{Range}
use Rattle.vs_four.specs.Logic.{BitList}
use Rattle.vs_four.specs.Numbers.{bits_of, clog2}
use Rattle.vs_four.specs.Selects.{Part, range_length}
use Rattle.vs_design.specs.Expressions as E
use Rattle.vs_design.specs.Expressions.{range_or_zero, addresses, Expression}
use Rattle.vs_design.specs.Values.{constant_value}
use Rattle.vs_design.specs.Designs.{Design}
use Rattle.vs_design.specs.Elaborated.{has_words, is_formed, is_formed_select}
use Rattle.vs_grammar.specs.Trees as tree
use Rattle.vs_grammar.specs.Trees.{expr_place}
use Rattle.vs_grammar.specs.Shapes.{IsExpr}
use Rattle.vs_grammar.specs.Depths.{expr_depth}
use Rattle.vs_const.specs.declared.faults.Fault.{Fault}
use Rattle.vs_const.specs.Faults.{fault, fault_if, names_signal}
use Rattle.vs_const.specs.declared.rules.Rule.TheVariants.{BadRange, NotConstant}
use Rattle.vs_const.specs.declared.names.Named.{Named}
use Rattle.vs_const.specs.declared.names.Named.TheVariants as named
use Rattle.vs_const.specs.declared.names.SignalShape.{SignalShape}
use Rattle.vs_const.specs.Meanings.{SignalMeaning, Meaning, AValue, Undefined, ASignal, AMemory, AFunction, Incomplete, Another, Barred, Unknown, Find, Means, steady}
use Rattle.vs_const.specs.Sound.{AreSound}
use Rattle.vs_const.specs.Typed.{Typed, begins_at, noted, number_of, natural_if, natural_within, natural, is_over, unary_typed}
use Rattle.vs_const.specs.Selects.{Base, base_of, Taken, taken, if_width, moving, is_against, lesser_bound, along, between, range_if, range_of, up_to, bounds, slice_taken, first_needed, first_names, select_if, select_typed, is_array, Addressed, in_array, addressed_in, addressed, word_if, word_typed, bit_typed}
use Rattle.vs_const.specs.Expressions.{constant, typed, selected, clog2_of, clog2_typed}
use Rattle.vs_const.proofs.Steady.{sound_needed, steady_sound}
use Rattle.vs_const.proofs.WordArms.{no_memory}
use Rattle.vs_const.proofs.Formed.{both_nil, begins_same, split, typed_fine, array_sound, address_clean, index_same, in_array_faults}
use Rattle.vs_flat.specs.Targets.{source_of}
use Rattle.vs_flat.specs.Trees.{signal_at}
use Rattle.vs_build.specs.Drafts.{Draft, home, EndsWith, EndsInSelect, AddsExpression}
use Rattle.vs_build.specs.Buildable.{IsBuildable, selected_by, memory_of, IsAddressable, IsWordAddressable, IsSelectable, HasBits, AddsSource, IsWithin, AreBounds, IsRangeOf, IsConstant}
use Rattle.vs_build.proofs.Arms.{begins_twice, noted_clean, same_home, ok_up_to}
use Rattle.vs_build.proofs.Lists.{fair_of, number_is}
use Rattle.vs_build.proofs.SignalNames.{signal_is, signal_within, memory_signal}
use Rattle.vs_build.proofs.Steps.{added_two}

-- ---- names

selected_same : (select : tree.Select) (name : tree.Name) (find : Find) (needed : Bool) → selected select name find needed ≡ selected_by select name find needed needed
selected_same tree.Whole name find needed = refl
selected_same (tree.BitAt bracket index) name find needed = refl
selected_same (tree.Slice bracket kind a b) name find needed = refl
selected_same (tree.OfWord bracket address part) name find needed = refl

pub named_select : (d : Design) (find : Find) (needed : Bool) (name : tree.Name) (select : tree.Select) → IsBuildable d find needed (tree.Named name select) → IsSelectable d find needed needed name select
named_select d find needed name select b =
    let fine = typed_fine d find (tree.Named name select) needed b.sound b.shaped b.clean in
    let t = selected select name find needed in
    let same = selected_same select name find needed in
    record {
      shaped = b.shaped.1;
      signals = b.sound name.bytes;
      sound = b.sound;
      numbered = b.numbered;
      clean = subst (λ (x : Typed). x.faults ≡ []) same (noted_clean needed name.place t b.clean);
      good = subst (λ (x : Typed). x.good ≡ true) same (split t.good (not (needed && is_over 64 t.length)) fine.good).0;
      formed = subst (λ (x : Typed). is_formed d x.expression ≡ true) same (sym (begins_same (is_formed d) (λ p e. refl) name.place t.expression) ∙ fine.formed);
      shallow = b.shallow;
    }

pub named_expression : (find : Find) (needed : Bool) (at : ℕ) (name : tree.Name) (select : tree.Select) → begins_at at (selected_by select name find needed needed).expression ≡ begins_at at (typed (tree.Named name select) find needed).expression
named_expression find needed at name select = ap (λ (x : Typed). begins_at at x.expression) (sym (selected_same select name find needed)) ∙ sym (begins_twice at name.place (selected select name find needed).expression)

-- ---- a select that takes bits

select_good : (b : Base) (t : Taken) (c : Bool) → (select_if c b t).good ≡ true → (select_if c b t).expression ≡ E.Select b.source t.part t.index
select_good b t true h = refl
select_good b t false h = cc

both_good : (b : Base) (t : Taken) (c : Bool) → (b.good && t.good) ≡ c → (select_if c b t).good ≡ true → (b.good && t.good) ≡ true
both_good b t true e h = e
both_good b t false e h = cc

pub record HasRange (o : Option Range) : Type 0 where
  pub r : Range
  pub is : o ≡ Some r

taken_range : (declared : Option Range) (up : Bool) (n : ℕ) (i : Typed) (fs : List Fault) → (taken declared up n i fs).good ≡ true → HasRange declared
taken_range None up n i fs h = cc
taken_range (Some r) up n i fs h = record { r = r; is = refl }

taken_is : (source : E.Source) (declared : Option Range) (r : Range) (up : Bool) (n : ℕ) (i : Typed) (fs : List Fault) → declared ≡ Some r
    → E.Select source (taken declared up n i fs).part (taken declared up n i fs).index ≡ E.Select source (record { range = r; up = up; width = n }) i.expression
taken_is source declared r up n i fs e = ap (λ o. E.Select source (taken o up n i fs).part (taken o up n i fs).index) e

-- what is selected: this many bits, upwards or downwards from an index on
pub record IsTaken (d : Design) (find : Find) (fixed needed : Bool) (name : tree.Name) (select : tree.Select) (up : Bool) (n : ℕ) (i : Expression) : Type 0 where
  pub bits : HasBits d fixed name.place (find name.bytes)
  pub expression : (r : Range) → (base_of fixed name.place (find name.bytes)).range ≡ Some r
      → (selected_by select name find fixed needed).expression ≡ E.Select (base_of fixed name.place (find name.bytes)).source (record { range = r; up = up; width = n }) i
  pub formed : (r : Range) → (base_of fixed name.place (find name.bytes)).range ≡ Some r → is_formed_select d (base_of fixed name.place (find name.bytes)).source (record { range = r; up = up; width = n }) ≡ true

pub taken_bits : (d : Design) (find : Find) (fixed needed : Bool) (name : tree.Name) (select : tree.Select) (up : Bool) (n : ℕ) (i : Typed) (fs : List Fault) → IsSelectable d find fixed needed name select
    → selected_by select name find fixed needed ≡ select_typed (base_of fixed name.place (find name.bytes)) (taken (base_of fixed name.place (find name.bytes)).range up n i fs)
    → IsTaken d find fixed needed name select up n i.expression
taken_bits d find fixed needed name select up n i fs s e =
    let b = base_of fixed name.place (find name.bytes) in
    let t = taken b.range up n i fs in
    let good : (select_typed b t).good ≡ true = sym (ap (λ (x : Typed). x.good) e) ∙ s.good in
    let both = split b.good t.good (both_good b t (b.good && t.good) refl good) in
    let range = taken_range b.range up n i fs both.1 in
    let is = λ (r : Range) (k : b.range ≡ Some r). ap (λ (x : Typed). x.expression) e ∙ select_good b t (b.good && t.good) good ∙ taken_is b.source b.range r up n i fs k in
    record {
      bits = record { sound = s.signals; good = both.0; range = range.r; has_range = range.is };
      expression = is;
      formed = λ r k. (split (is_formed_select d b.source (record { range = r; up = up; width = n })) (is_formed d i.expression) (sym (ap (is_formed d) (is r k)) ∙ s.formed)).0;
    }

-- ---- `[a +: w]` and `[a -: w]`

pub moving_taken : (d : Design) (find : Find) (fixed needed up : Bool) (name : tree.Name) (bracket : ℕ) (kind : tree.SliceKind) (a w : tree.Expr) (n : ℕ)
    → ((declared : Option Range) → slice_taken declared bracket kind (expr_place a) (typed a (first_names kind find) (first_needed kind needed)) (expr_place w) (typed w (steady find) true) ≡ moving declared up (typed a find needed) (expr_place w) (typed w (steady find) true))
    → IsSelectable d find fixed needed name (tree.Slice bracket kind a w) → (natural 1 64 (expr_place w) (constant w (steady find))).number ≡ Some n → IsTaken d find fixed needed name (tree.Slice bracket kind a w) up n (typed a find needed).expression
moving_taken d find fixed needed up name bracket kind a w n kinds s e =
    let b = base_of fixed name.place (find name.bytes) in
    let m = natural 1 64 (expr_place w) (typed w (steady find) true) in
    let fs = (typed a find needed).faults ++ m.faults in
    taken_bits d find fixed needed name (tree.Slice bracket kind a w) up n (typed a find needed) fs s
    (ap (select_typed b) (kinds b.range) ∙ ap (λ o. select_typed b (if_width b.range up o (typed a find needed) fs)) e)

select_faults : (b : Base) (t : Taken) (c : Bool) → (select_if c b t).faults ≡ [] → (b.faults ≡ []) × (t.faults ≡ [])
select_faults b t true h = both_nil b.faults t.faults h
select_faults b t false h = both_nil b.faults t.faults h

pub width_faults : (declared : Option Range) (up : Bool) (n : Option ℕ) (t : Typed) (fs : List Fault) → (if_width declared up n t fs).faults ≡ fs
width_faults declared up None t fs = refl
width_faults None up (Some n) t fs = refl
width_faults (Some r) up (Some n) t fs = refl

-- the index and the width have no fault
pub record IsMoving (d : Design) (find : Find) (needed : Bool) (a w : tree.Expr) : Type 0 where
  pub index : IsBuildable d find needed a
  pub width : IsWithin 1 64 (steady find) w

pub moving_is : (d : Design) (find : Find) (fixed needed up : Bool) (name : tree.Name) (bracket : ℕ) (kind : tree.SliceKind) (a w : tree.Expr)
    → ((declared : Option Range) → slice_taken declared bracket kind (expr_place a) (typed a (first_names kind find) (first_needed kind needed)) (expr_place w) (typed w (steady find) true) ≡ moving declared up (typed a find needed) (expr_place w) (typed w (steady find) true))
    → IsSelectable d find fixed needed name (tree.Slice bracket kind a w) → IsMoving d find needed a w
moving_is d find fixed needed up name bracket kind a w kinds s =
    let b = base_of fixed name.place (find name.bytes) in
    let t = slice_taken b.range bracket kind (expr_place a) (typed a (first_names kind find) (first_needed kind needed)) (expr_place w) (typed w (steady find) true) in
    let m = natural 1 64 (expr_place w) (typed w (steady find) true) in
    let k = select_faults b t (b.good && t.good) s.clean in
    let p = both_nil (typed a find needed).faults m.faults (sym (ap (λ (x : Taken). x.faults) (kinds b.range) ∙ width_faults b.range up m.number (typed a find needed) ((typed a find needed).faults ++ m.faults)) ∙ k.1) in
    record {
      index = record { shaped = s.shaped.0; sound = s.sound; numbered = s.numbered; clean = p.0; shallow = omega (arith, s.shallow) };
      width = number_is d true (steady find) 1 64 w (steady_sound d needed find s.sound) s.shaped.1 p.1;
    }

-- ---- `[i]`: a bit, or a word

-- of what is no memory, whatever the address
pub bit_is : (needed : Bool) (place : ℕ) (m : Meaning) (at : ℕ) (i j : Typed) → memory_of m at j ≡ None → bit_typed needed place m at i ≡ select_typed (base_of needed place m) (taken (base_of needed place m).range true 1 i i.faults)
bit_is needed place (AValue v r turns) at i j e = refl
bit_is needed place (Undefined r) at i j e = refl
bit_is needed place (ASignal s) at i j e = refl
bit_is needed place (AMemory s) at i j e = cc
bit_is needed place (AFunction f) at i j e = refl
bit_is needed place Incomplete at i j e = refl
bit_is needed place Another at i j e = refl
bit_is needed place (Barred rule) at i j e = refl
bit_is needed place Unknown at i j e = refl

pub memory_is : (m : Meaning) (at : ℕ) (i : Typed) (n : ℕ) → memory_of m at i ≡ Some n → (t : SignalMeaning) × (m ≡ AMemory t) × ((addressed t at i).signal.number ≡ n)
memory_is (AValue v r turns) at i n e = cc
memory_is (Undefined r) at i n e = cc
memory_is (ASignal s) at i n e = cc
memory_is (AFunction f) at i n e = cc
memory_is Incomplete at i n e = cc
memory_is (Barred rule) at i n e = cc
memory_is (AMemory s) at i n e = (s, refl, (let same : (addressed s at i).signal.number ≡ n = cc in same))
memory_is Another at i n e = cc
memory_is Unknown at i n e = cc

-- an array's address is a constant anyway, and a memory's says not where its words are
pub one_number : (m : SignalMeaning) (needed : Bool) (at : ℕ) (i : Bool → Typed) → (addressed m at (i true)).signal.number ≡ (addressed m at (i (m.signal.net || needed))).signal.number
one_number m needed at i = of m.signal.net
  where
    of : (array : Bool) → (addressed_in array m at (i true)).signal.number ≡ (addressed_in array m at (i (array || needed))).signal.number
    of true = refl
    of false = refl

-- where a number from `low` on is meant, it is one
pub natural_least : (low high place : ℕ) (t : Typed) (n : ℕ) → (natural low high place t).number ≡ Some n → low ≤ n
natural_least low high place t n h = of (number_of place t).number h
  where
    same : (k : ℕ) → Some k ≡ Some n → k ≡ n
    same k e = cc

    inside : (k : ℕ) (b : Bool) → (nat_le low k && nat_le k high) ≡ b → (natural_if b place k).number ≡ Some n → low ≤ n
    inside k true e f = subst (λ z. low ≤ z) (same k f) (leb-true low k (split (nat_le low k) (nat_le k high) e).0)
    inside k false e f = cc

    of : (o : Option ℤ) → (natural_within low high place o).number ≡ Some n → low ≤ n
    of None e = cc
    of (Some (pos k)) e = inside k (nat_le low k && nat_le k high) refl e
    of (Some (negsuc k)) e = cc

-- the number of a net of an array, by its address
net_number : (m : SignalMeaning) (at : ℕ) (i : Typed) (words : Range) (n : ℕ) → m.signal.net ≡ true → m.signal.words ≡ Some words → (natural words.right words.left at i).number ≡ Some n → (addressed m at i).signal.number ≡ m.signal.number + (n - words.right)
net_number m at i words n net w e =
    let bounds : addresses m.signal ≡ words = ap range_or_zero w in
    let fs = λ (r : Range). (natural r.right r.left at i).faults in
    ap (λ b. (addressed_in b m at i).signal.number) net
    ∙ ap (λ (r : Range). (in_array m i (natural r.right r.left at i).number (fs r)).signal.number) bounds
    ∙ ap (λ o. (in_array m i o (fs words)).signal.number) e
    ∙ ap (λ (r : Range). m.signal.number + (n - r.right)) bounds

-- what has the word by number: an array's net, or the memory
pub array_number : (m : Meaning) (s : SignalShape) (words : Range) (at : ℕ) (i : Typed) (n : ℕ) → Means (named.Memory s) m → s.net ≡ true → s.words ≡ Some words → (natural words.right words.left at i).number ≡ Some n
    → memory_of m at i ≡ Some (s.number + (n - words.right))
array_number m s words at i n k net w e =
    ap (λ x. memory_of x at i) k.1 ∙ ap (λ z. Some z) (net_number k.0 at i words n (sym k.8 ∙ net) (sym k.10 ∙ w) e ∙ ap (λ z. z + (n - words.right)) (sym k.2))

pub plain_number : (m : Meaning) (s : SignalShape) (at : ℕ) (i : Typed) → Means (named.Memory s) m → s.net ≡ false → memory_of m at i ≡ Some s.number
plain_number m s at i k net = ap (λ x. memory_of x at i) k.1 ∙ ap (λ z. Some z) (ap (λ b. (addressed_in b k.0 at i).signal.number) (sym k.8 ∙ net) ∙ sym k.2)

-- an array has addresses, and the one that stands there is a constant and one of them
pub array_address : (m : Meaning) (s : SignalShape) (words : Range) (find : Find) (address : tree.Expr) → Means (named.Memory s) m → s.net ≡ true → s.words ≡ Some words → IsWordAddressable m find address → IsWithin words.right words.left find address
array_address m s words find address k net w a =
    let b : IsAddressable k.0 find address = subst (λ x. IsWordAddressable x find address) k.1 a in
    let bounds : addresses k.0.signal ≡ words = ap range_or_zero (sym k.10 ∙ w) in
    subst (λ (r : Range). IsWithin r.right r.left find address) bounds (b (sym k.8 ∙ net))

pub no_addresses : (m : Meaning) (s : SignalShape) → Means (named.Memory s) m → s.words ≡ None → ⊥
no_addresses m s k e = none k.0.signal.words (sym k.10 ∙ e) k.7
  where
    none : (o : Option Range) → o ≡ None → is_some o ≡ true → ⊥
    none None e f = cc
    none (Some r) e f = cc

pub no_memory_number : (m : Meaning) (x : Named) (at : ℕ) (i : Typed) → ((s : SignalShape) → x ≡ named.Memory s → ⊥) → Means x m → memory_of m at i ≡ None
no_memory_number (AMemory s) x at i other h = absurd (no_memory x s other h)
no_memory_number (AValue v r turns) x at i other h = refl
no_memory_number (Undefined r) x at i other h = refl
no_memory_number (ASignal s) x at i other h = refl
no_memory_number (AFunction f) x at i other h = refl
no_memory_number Incomplete x at i other h = refl
no_memory_number Another x at i other h = refl
no_memory_number (Barred rule) x at i other h = refl
no_memory_number Unknown x at i other h = refl

pub bit_taken : (d : Design) (find : Find) (fixed needed : Bool) (name : tree.Name) (bracket : ℕ) (index : tree.Expr) → memory_of (find name.bytes) (expr_place index) (constant index find) ≡ None → IsSelectable d find fixed needed name (tree.BitAt bracket index)
    → IsTaken d find fixed needed name (tree.BitAt bracket index) true 1 (typed index find (is_array (find name.bytes) || needed)).expression
bit_taken d find fixed needed name bracket index e s =
    let m = find name.bytes in
    let i = typed index find (is_array m || needed) in
    taken_bits d find fixed needed name (tree.BitAt bracket index) true 1 i i.faults s (bit_is fixed name.place m (expr_place index) i (constant index find) e)

-- the index has no fault
word_faults : (b : Bool) (place : ℕ) (t : SignalMeaning) (a : Addressed) → (word_typed b place t a).faults ≡ [] → a.faults ≡ []
word_faults true place t a h = (both_nil (fault NotConstant place) a.faults h).1
word_faults false place t a h = of (t.known && a.good) h
  where
    of : (good : Bool) → (word_if good t a).faults ≡ [] → a.faults ≡ []
    of true k = k
    of false k = k

bit_faults : (needed : Bool) (place : ℕ) (m : Meaning) (at : ℕ) (i : Typed) → (bit_typed needed place m at i).faults ≡ [] → i.faults ≡ []
bit_faults needed place m at i h = of (memory_of m at i) refl
  where
    faults : (declared : Option Range) → (taken declared true 1 i i.faults).faults ≡ i.faults
    faults None = refl
    faults (Some r) = refl

    of_word : (b : Bool) (t : SignalMeaning) → (word_typed b place t (addressed t at i)).faults ≡ [] → i.faults ≡ []
    of_word b t k = address_clean t at i (word_faults b place t (addressed t at i) k)

    of : (o : Option ℕ) → memory_of m at i ≡ o → i.faults ≡ []
    of None e =
        let b = base_of needed place m in
        let t = taken b.range true 1 i i.faults in
        sym (faults b.range) ∙ (select_faults b t (b.good && t.good) (sym (ap (λ (x : Typed). x.faults) (bit_is needed place m at i i e)) ∙ h)).1
    of (Some n) e = let w = memory_is m at i n e in of_word needed w.0 (subst (λ x. (bit_typed needed place x at i).faults ≡ []) w.1 h)

pub bit_index : (d : Design) (find : Find) (fixed needed : Bool) (name : tree.Name) (bracket : ℕ) (index : tree.Expr) → IsSelectable d find fixed needed name (tree.BitAt bracket index) → IsBuildable d find (is_array (find name.bytes) || needed) index
bit_index d find fixed needed name bracket index s =
    let m = find name.bytes in
    record {
      shaped = s.shaped;
      sound = array_sound d (is_array m) needed find s.sound;
      numbered = s.numbered;
      clean = bit_faults fixed name.place m (expr_place index) (typed index find (is_array m || needed)) s.clean;
      shallow = omega (arith, s.shallow);
    }

-- and so an array's address is one that it has
pub is_addressable : (d : Design) (find : Find) (needed : Bool) (m : SignalMeaning) (address : tree.Expr) → AreSound d needed find → IsExpr address → (addressed m (expr_place address) (typed address find (m.signal.net || needed))).faults ≡ [] → IsAddressable m find address
is_addressable d find needed m address sound shaped h = of m.signal.net h
  where
    of : (array : Bool) → (addressed_in array m (expr_place address) (typed address find (array || needed))).faults ≡ [] → array ≡ true → IsWithin (addresses m.signal).right (addresses m.signal).left find address
    of true k e =
        let i = constant address find in
        let n = natural (addresses m.signal).right (addresses m.signal).left (expr_place address) i in
        number_is d needed find (addresses m.signal).right (addresses m.signal).left address sound shaped (sym (in_array_faults m i n.number n.faults) ∙ k)
    of false k e = cc

pub bit_address : (d : Design) (find : Find) (fixed needed : Bool) (name : tree.Name) (bracket : ℕ) (index : tree.Expr) → IsSelectable d find fixed needed name (tree.BitAt bracket index) → IsWordAddressable (find name.bytes) find index
bit_address d find fixed needed name bracket index s = of (find name.bytes) s.clean
  where
    of : (m : Meaning) → (bit_typed fixed name.place m (expr_place index) (typed index find (is_array m || needed))).faults ≡ [] → IsWordAddressable m find index
    of (AMemory m) h =
        let a = addressed m (expr_place index) (typed index find (m.signal.net || needed)) in
        is_addressable d find needed m index s.sound s.shaped (word_faults fixed name.place m a h)
    of (AValue v r turns) h = tt
    of (Undefined r) h = tt
    of (ASignal k) h = tt
    of (AFunction f) h = tt
    of Incomplete h = tt
    of Another h = tt
    of (Barred rule) h = tt
    of Unknown h = tt

-- a word of the memory of this number, at the address that `i` is
pub record IsWord (d : Design) (t i : Typed) (n : ℕ) : Type 0 where
  pub there : n < length d.signals
  pub memory : has_words d (signal_at d.signals n) ≡ true
  pub expression : t.expression ≡ E.Word (signal_at d.signals n) i.expression

word_good : (needed : Bool) (place : ℕ) (m : SignalMeaning) (a : Addressed) → (word_typed needed place m a).good ≡ true → (word_typed needed place m a).expression ≡ E.Word a.signal a.index
word_good true place m a h = cc
word_good false place m a h = of (m.known && a.good) h
  where
    of : (good : Bool) → (word_if good m a).good ≡ true → (word_if good m a).expression ≡ E.Word a.signal a.index
    of true k = refl
    of false k = cc

word_is : (d : Design) (t i : Typed) (m : E.Signal) (n : ℕ) → m.number ≡ n → t.expression ≡ E.Word m i.expression → is_formed d t.expression ≡ true → IsWord d t i n
word_is d t i m n e is formed =
    let words : has_words d m ≡ true = (split (has_words d m) (is_formed d i.expression) (sym (ap (is_formed d) is) ∙ formed)).0 in
    let signal = memory_signal d m words in
    let at : signal_at d.signals n ≡ m = ap (signal_at d.signals) (sym e) ∙ signal_is d m signal in
    record { there = subst (λ k. k < length d.signals) e (signal_within d m signal); memory = ap (has_words d) at ∙ words; expression = is ∙ ap (λ x. E.Word x i.expression) (sym at) }

-- the number is that of what has the word at the constant
pub number_there : (m : Meaning) (s : SignalMeaning) (needed : Bool) (at : ℕ) (i : Bool → Typed) (n : ℕ) → m ≡ AMemory s → (addressed s at (i true)).signal.number ≡ n → (addressed s at (i (is_array m || needed))).signal.number ≡ n
number_there m s needed at i n e h = ap (λ x. (addressed s at (i (is_array x || needed))).signal.number) e ∙ sym (one_number s needed at i) ∙ h

pub bit_word : (d : Design) (find : Find) (fixed needed : Bool) (name : tree.Name) (bracket : ℕ) (index : tree.Expr) (n : ℕ) → memory_of (find name.bytes) (expr_place index) (constant index find) ≡ Some n → IsSelectable d find fixed needed name (tree.BitAt bracket index)
    → IsWord d (selected_by (tree.BitAt bracket index) name find fixed needed) (typed index find (is_array (find name.bytes) || needed)) n
bit_word d find fixed needed name bracket index n e s =
    let m = find name.bytes in
    let at = expr_place index in
    let i = typed index find (is_array m || needed) in
    let t = selected_by (tree.BitAt bracket index) name find fixed needed in
    let w = memory_is m at (constant index find) n e in
    let a = addressed w.0 at i in
    let is : t ≡ word_typed fixed name.place w.0 a = ap (λ x. bit_typed fixed name.place x at i) w.1 in
    let number : a.signal.number ≡ n = number_there m w.0 needed at (λ b. typed index find b) n w.1 w.2 in
    word_is d t i a.signal n number (ap (λ (x : Typed). x.expression) is ∙ word_good fixed name.place w.0 a (sym (ap (λ (x : Typed). x.good) is) ∙ s.good) ∙ ap (λ x. E.Word a.signal x) (index_same w.0 at i)) s.formed

-- ---- `[a:b]`

pub between_faults : (declared : Option Range) (bracket place : ℕ) (range : Option Range) (fs : List Fault) → (between declared bracket place range fs).faults ≡ [] → fs ≡ []
between_faults declared bracket place None fs h = h
between_faults declared bracket place (Some q) fs h = of (is_against declared q) declared h
  where
    of : (b : Bool) (o : Option Range) → (along b o bracket place q fs).faults ≡ [] → fs ≡ []
    of true o k = (both_nil fs (fault BadRange bracket) k).0
    of false None k = k
    of false (Some s) k = k

short_range : (bracket : ℕ) (q : Range) (b : Bool) → nat_le (range_length q) 64 ≡ b → (range_if b bracket q).faults ≡ [] → (range_length q ≤ 64) × ((range_if b bracket q).range ≡ Some q)
short_range bracket q true e h = (leb-true (range_length q) 64 e, refl)
short_range bracket q false e h = cc

pub record IsBetween (d : Design) (find : Find) (needed : Bool) (bracket : ℕ) (a b : tree.Expr) : Type 0 where
  pub bounds_are : AreBounds (steady find) a b
  pub range : (l r : ℕ) → (natural 0 65535 (expr_place a) (constant a (steady find))).number ≡ Some l → (natural 0 65535 (expr_place b) (constant b (steady find))).number ≡ Some r
      → (bounds bracket (expr_place a) (typed a (steady find) true) (expr_place b) (typed b (steady find) true)).range ≡ Some (record { left = l; right = r })

pub between_range : (bracket : ℕ) (m n : Option ℕ) (l r : ℕ) → m ≡ Some l → n ≡ Some r → (range_of 64 bracket m n).faults ≡ []
    → (range_length (record { left = l; right = r }) ≤ 64) × ((range_of 64 bracket m n).range ≡ Some (record { left = l; right = r }))
between_range bracket m n l r e f h =
    let is : range_of 64 bracket m n ≡ up_to 64 bracket (record { left = l; right = r }) = ap (λ o. range_of 64 bracket o n) e ∙ ap (range_of 64 bracket (Some l)) f in
    let q : Range = record { left = l; right = r } in
    let p = short_range bracket q (nat_le (range_length q) 64) refl (sym (ap (λ x. x.faults) is) ∙ h) in
    (p.0, ap (λ x. x.range) is ∙ p.1)

pub between_is : (d : Design) (find : Find) (fixed needed : Bool) (name : tree.Name) (bracket : ℕ) (a b : tree.Expr) → IsSelectable d find fixed needed name (tree.Slice bracket tree.Between a b) → IsBetween d find needed bracket a b
between_is d find fixed needed name bracket a b s =
    let base = base_of fixed name.place (find name.bytes) in
    let t = slice_taken base.range bracket tree.Between (expr_place a) (typed a (steady find) true) (expr_place b) (typed b (steady find) true) in
    let q = bounds bracket (expr_place a) (typed a (steady find) true) (expr_place b) (typed b (steady find) true) in
    let m = natural 0 65535 (expr_place a) (typed a (steady find) true) in
    let n = natural 0 65535 (expr_place b) (typed b (steady find) true) in
    let k = select_faults base t (base.good && t.good) s.clean in
    let w = both_nil m.faults (n.faults ++ (range_of 64 bracket m.number n.number).faults) (between_faults base.range bracket (expr_place a) q.range q.faults k.1) in
    let v = both_nil n.faults (range_of 64 bracket m.number n.number).faults w.1 in
    let first = number_is d true (steady find) 0 65535 a (steady_sound d needed find s.sound) s.shaped.0 w.0 in
    let second = number_is d true (steady find) 0 65535 b (steady_sound d needed find s.sound) s.shaped.1 v.0 in
    record {
      bounds_are = record { first = first; second = second; short = (between_range bracket m.number n.number first.number second.number first.is second.is v.1).0 };
      range = λ l r e f. (between_range bracket m.number n.number l r e f v.1).1;
    }

along_taken : (b : Base) (bracket place : ℕ) (q : Range) (fs : List Fault) (against : Bool) (c : Bool) → (b.good && (along against b.range bracket place q fs).good) ≡ c → (select_if c b (along against b.range bracket place q fs)).good ≡ true
    → select_if c b (along against b.range bracket place q fs) ≡ select_typed b (taken b.range true (range_length q) (lesser_bound place q) fs)
along_taken b bracket place q fs false c e h = ap (λ x. select_if x b (taken b.range true (range_length q) (lesser_bound place q) fs)) (sym e)
along_taken b bracket place q fs true true e h = absurd (no b.good e)
  where
    no : (x : Bool) → (x && false) ≡ true → ⊥
    no true k = cc
    no false k = cc
along_taken b bracket place q fs true false e h = cc

pub between_taken : (d : Design) (find : Find) (fixed needed : Bool) (name : tree.Name) (bracket : ℕ) (a b : tree.Expr) (q : Range) → IsSelectable d find fixed needed name (tree.Slice bracket tree.Between a b) → IsRangeOf (steady find) a b q
    → IsTaken d find fixed needed name (tree.Slice bracket tree.Between a b) true (range_length q) (E.At (expr_place a) (E.Literal (bits_of 32 (min q.left q.right)) true true))
between_taken d find fixed needed name bracket a b q s r =
    let base = base_of fixed name.place (find name.bytes) in
    let w = bounds bracket (expr_place a) (typed a (steady find) true) (expr_place b) (typed b (steady find) true) in
    let range : w.range ≡ Some q = (between_is d find fixed needed name bracket a b s).range q.left q.right r.first r.second in
    let t = along (is_against base.range q) base.range bracket (expr_place a) q w.faults in
    let is : selected_by (tree.Slice bracket tree.Between a b) name find fixed needed ≡ select_typed base t = ap (λ o. select_typed base (between base.range bracket (expr_place a) o w.faults)) range in
    taken_bits d find fixed needed name (tree.Slice bracket tree.Between a b) true (range_length q) (lesser_bound (expr_place a) q) w.faults s
    (is ∙ along_taken base bracket (expr_place a) q w.faults (is_against base.range q) (base.good && t.good) refl (sym (ap (λ (x : Typed). x.good) is) ∙ s.good))

-- ---- the step

pub select_ends : (d : Design) (find : Find) (fixed needed : Bool) (name : tree.Name) (select : tree.Select) (up : Bool) (n : ℕ) (i : Expression) (s q v : Draft) (m : ℕ) (r : Range) → IsTaken d find fixed needed name select up n i → home s ≡ d
    → AddsExpression s q i m → m ≤ 254 → AddsSource q v (base_of fixed name.place (find name.bytes)) r → EndsInSelect (record { range = r; up = up; width = n }) v
select_ends d find fixed needed name select up n i s q v m r t e h few a =
    let part : Part = record { range = r; up = up; width = n } in
    let design : d ≡ home v = sym e ∙ same_home s q i m h ∙ same_home q v a.tree 1 a.adds in
    record {
      before = s;
      index = record { tree = i; levels = h.levels };
      of = record { tree = a.tree; levels = a.adds.levels };
      is = added_two s q v i a.tree m 1 h a.adds;
      few = omega (arith, h.few, few, a.adds.few);
      formed = subst (λ c. is_formed_select c (source_of a.tree) part ≡ true) design (ap (λ x. is_formed_select d x part) a.source ∙ t.formed r a.has_range);
    }

pub select_arm : {U F : Type 0} (o : Result U F) (d : Design) (find : Find) (fixed needed : Bool) (name : tree.Name) (select : tree.Select) (up : Bool) (n : ℕ) (i : Expression) (s q v new : Draft) (m at most : ℕ) (r : Range) → IsTaken d find fixed needed name select up n i
    → AddsExpression s q i m → AddsSource q v (base_of fixed name.place (find name.bytes)) r
    → ((p k : Draft) (t u : Expression) (x y : ℕ) → AddsExpression p k t x → AddsExpression k v u y → OnOk o (AddsExpression p new (E.At at (E.Select (source_of u) (record { range = r; up = up; width = n }) t)) (1 + max x y)))
    → 1 + max m 1 ≤ most → OnOk o (AddsExpression s new (begins_at at (selected_by select name find fixed needed).expression) most)
select_arm o d find fixed needed name select up n i s q v new m at most r t h a f le =
    let part : Part = record { range = r; up = up; width = n } in
    subst (λ x. OnOk o (AddsExpression s new x most)) (ap (λ x. E.At at (E.Select x part i)) a.source ∙ sym (ap (begins_at at) (t.expression r a.has_range)))
    (ok_up_to o s new (E.At at (E.Select (source_of a.tree) part i)) (1 + max m 1) most (f s q i a.tree m 1 h a.adds) le)

-- what a word is built on
pub record EndsInAddress (n : ℕ) (s : Draft) : Type 0 where
  pub there : n < length (home s).signals
  pub memory : has_words (home s) (signal_at (home s).signals n) ≡ true
  pub ends : EndsWith 1 s

pub word_ends : (s v : Draft) (t i : Typed) (n m : ℕ) → IsWord (home s) t i n → AddsExpression s v i.expression m → m ≤ 254 → EndsInAddress n v
word_ends s v t i n m w h few =
    let design : home s ≡ home v = same_home s v i.expression m h in
    record {
      there = subst (λ (d : Design). n < length d.signals) design w.there;
      memory = subst (λ (d : Design). has_words d (signal_at d.signals n) ≡ true) design w.memory;
      ends = record { before = s; last = record { tree = i.expression; levels = h.levels } ∷ []; is = h.is; many = refl; few = omega (arith, h.few, few) };
    }

pub word_arm : {U F : Type 0} (o : Result U F) (s v new : Draft) (t i : Typed) (n m at most : ℕ) → IsWord (home s) t i n → AddsExpression s v i.expression m
    → ((p : Draft) (x : Expression) (k : ℕ) → AddsExpression p v x k → OnOk o (AddsExpression p new (E.At at (E.Word (signal_at (home v).signals n) x)) (1 + k)))
    → 1 + m ≤ most → OnOk o (AddsExpression s new (begins_at at t.expression) most)
word_arm o s v new t i n m at most w h f le =
    subst (λ x. OnOk o (AddsExpression s new x most)) (ap (λ (d : Design). E.At at (E.Word (signal_at d.signals n) i.expression)) (sym (same_home s v i.expression m h)) ∙ sym (ap (begins_at at) w.expression))
    (ok_up_to o s new (E.At at (E.Word (signal_at (home v).signals n) i.expression)) (1 + m) most (f s i.expression m h) le)

-- ---- calls

pub signed_operand : (d : Design) (find : Find) (needed : Bool) (place : ℕ) (a : tree.Expr) → IsBuildable d find needed (tree.Call place tree.AsSigned a) → IsBuildable d find needed a
signed_operand d find needed place a b = record { shaped = b.shaped; sound = b.sound; numbered = b.numbered; clean = noted_clean needed place (unary_typed E.Signed (typed a find needed)) b.clean; shallow = omega (arith, b.shallow) }

pub unsigned_operand : (d : Design) (find : Find) (needed : Bool) (place : ℕ) (a : tree.Expr) → IsBuildable d find needed (tree.Call place tree.AsUnsigned a) → IsBuildable d find needed a
unsigned_operand d find needed place a b = record { shaped = b.shaped; sound = b.sound; numbered = b.numbered; clean = noted_clean needed place (unary_typed E.Unsigned (typed a find needed)) b.clean; shallow = omega (arith, b.shallow) }

clog2_length : (place : ℕ) (t : Typed) (n : Option ℕ) (fs : List Fault) → (clog2_of n place fs).length ≡ Some 32
clog2_length place t None fs = refl
clog2_length place t (Some n) fs = refl

clog2_long : (place : ℕ) (t : Typed) (good : Bool) → (clog2_typed good place t).length ≡ Some 32
clog2_long place t false = refl
clog2_long place t true = clog2_length place t (clog2 (constant_value t.expression)) t.faults

pub clog2_constant : (d : Design) (find : Find) (needed : Bool) (place : ℕ) (a : tree.Expr) → IsBuildable d find needed (tree.Call place tree.Clog2 a) → IsConstant find (tree.Call place tree.Clog2 a)
clog2_constant d find needed place a b =
    let t = clog2_typed (typed a find true).good (expr_place a) (typed a find true) in
    let sound : AreSound d true find = λ name. sound_needed d needed (find name) (b.sound name) in
    let short : is_over 64 t.length ≡ false = ap (is_over 64) (clog2_long (expr_place a) (typed a find true) (typed a find true).good) in
    let none : t.faults ≡ [] = noted_clean needed place t b.clean in
    let clean : (noted true place t).faults ≡ [] =
    ap (λ x. t.faults ++ fault_if (x && not (names_signal t.faults)) BadRange place) short ∙ nil_right t.faults ∙ none
    in
    record { shaped = b.shaped; fair = fair_of d needed find b.sound; clean = clean; good = (typed_fine d find (tree.Call place tree.Clog2 a) true sound b.shaped clean).good }
  where
    nil_right : (fs : List Fault) → fs ++ [] ≡ fs
    nil_right [] = refl
    nil_right (x ∷ xs) = ap (λ ys. x ∷ ys) (nil_right xs)

clog2_literal : (t : Typed) (at inner place : ℕ) (good : Bool) → (clog2_typed good place t).good ≡ true
    → E.At at (E.Literal (constant_value (begins_at inner (clog2_typed good place t).expression)) true true) ≡ begins_at at (begins_at inner (clog2_typed good place t).expression)
clog2_literal t at inner place false h = cc
clog2_literal t at inner place true h = of (clog2 (constant_value t.expression)) h
  where
    of : (n : Option ℕ) → (clog2_of n place t.faults).good ≡ true
        → E.At at (E.Literal (constant_value (begins_at inner (clog2_of n place t.faults).expression)) true true) ≡ begins_at at (begins_at inner (clog2_of n place t.faults).expression)
    of None k = cc
    of (Some n) k = refl

pub clog2_arm : {U F : Type 0} (r : Result U F) (s v : Draft) (d : Design) (find : Find) (needed : Bool) (at place : ℕ) (a : tree.Expr) (bits : BitList) → IsBuildable d find needed (tree.Call place tree.Clog2 a)
    → bits ≡ constant_value (constant (tree.Call place tree.Clog2 a) find).expression → OnOk r (AddsExpression s v (E.At at (E.Literal bits true true)) 1)
    → OnOk r (AddsExpression s v (begins_at at (typed (tree.Call place tree.Clog2 a) find needed).expression) (1 + expr_depth (tree.Call place tree.Clog2 a)))
clog2_arm r s v d find needed at place a bits b e h =
    let t = typed a find true in
    let x = clog2_typed t.good (expr_place a) t in
    let good : x.good ≡ true = (split x.good (not (is_over 64 x.length)) (clog2_constant d find needed place a b).good).0 in
    ok_up_to r s v (begins_at at (begins_at place x.expression)) 1 (1 + expr_depth (tree.Call place tree.Clog2 a))
    (subst (λ y. OnOk r (AddsExpression s v y 1)) (ap (λ z. E.At at (E.Literal z true true)) e ∙ clog2_literal t at place (expr_place a) t.good good) h) (omega arith)
