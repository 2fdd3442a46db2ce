-- A constant whose value no fault leaves undefined has a length, of 1 to 64 bits, which is that of its expression.
use Rattle.std.proofs.Common.{◌≡◌, ℕ, zero, suc, ◌+◌, ◌*◌, ◌≤◌, Bool, true, false, not, ◌&&◌, ◌||◌, List, [], ◌++◌, Option, Some, None, max, nat_le, refl, sym, ap, ◌∙◌, subst, arith, ℤ, pos, negsuc}
use Rattle.std.proofs.lemmas.Bool.{leb-true}
use Rattle.vs_four.specs.declared.Range.{Range}
use Rattle.vs_four.specs.Numbers.{clog2}
use Rattle.vs_four.specs.Selects.{range_length}
use Rattle.vs_design.specs.Expressions.{Literal, UnaryOp, Plus, Minus, BitNot, LogicalNot, ReduceAnd, ReduceNand, ReduceOr, ReduceNor, ReduceXor, ReduceXnor, Signed, Unsigned, unary_length, BinaryOp, Way, InContext, Own, Compared, Shifted, Raised, way, binary_length, width}
use Rattle.vs_design.specs.Values.{constant_value}
use Rattle.vs_design.proofs.Lengths.{length_bits_of}
use Rattle.vs_grammar.specs.Trees as tree
use Rattle.vs_grammar.specs.Trees.{expr_place}
use Rattle.vs_grammar.specs.Shapes.{IsExpr, AreParts, IsSelect}
use Rattle.vs_const.specs.declared.faults.Fault.{Fault}
use Rattle.vs_const.specs.Meanings.{Meaning, AValue, Undefined, ASignal, AMemory, AFunction, Incomplete, Another, Barred, Unknown, Find, IsFairMeaning, IsFair, steady}
use Rattle.vs_const.specs.Typed.{Typed, is_over, noted, number_of, natural_if, natural_within, natural, both_lengths, length_map, unary_op_length, unary_typed, binary_way_length, binary_typed, choice_typed, join_typed, copies_typed, fine}
use Rattle.vs_const.specs.Selects.{bounds, name_typed, Base, base_of, Taken, taken, if_width, is_against, along, between, slice_taken, first_needed, first_names, select_if, select_typed, bit_typed, word_range, is_array, further_typed}
use Rattle.vs_const.specs.Expressions.{unsized_faults, is_clean, part_typed, replicated, replication_typed, clog2_of, clog2_typed, TypedItems, applied, typed, selected, taken_by, typed_parts, typed_arguments}
use Rattle.vs_const.proofs.Formed.{begins_same, split, way_length, length_some}

-- good: its length is known, and it has a bit
pub record IsLong (t : Typed) : Type 0 where
  pub length : t.length ≡ Some (width t.expression)
  pub some : 1 ≤ width t.expression

unless_long : (a b : Bool) → (a && not b) ≡ true → (a ≡ true) × (b ≡ false)
unless_long true false h = (refl, refl)
unless_long true true h = cc
unless_long false b h = cc

noted_long : (place : ℕ) (t : Typed) → (t.good ≡ true → IsLong t) → (noted true place t).good ≡ true → IsLong (noted true place t)
noted_long place t k h =
    let g = k (unless_long t.good (is_over 64 t.length) h).0 in
    let w = begins_same width (λ p e. refl) place t.expression in
    record { length = g.length ∙ ap Some (sym w); some = subst (λ n. 1 ≤ n) (sym w) g.some }

unary_some : (op : UnaryOp) (n : ℕ) → 1 ≤ n → 1 ≤ unary_length op n
unary_some Plus n h = h
unary_some Minus n h = h
unary_some BitNot n h = h
unary_some LogicalNot n h = omega arith
unary_some ReduceAnd n h = omega arith
unary_some ReduceNand n h = omega arith
unary_some ReduceOr n h = omega arith
unary_some ReduceNor n h = omega arith
unary_some ReduceXor n h = omega arith
unary_some ReduceXnor n h = omega arith
unary_some Signed n h = h
unary_some Unsigned n h = h

binary_some : (w : Way) (m n : ℕ) → 1 ≤ m → 1 ≤ binary_length w m n
binary_some InContext m n h = omega arith
binary_some Own m n h = omega arith
binary_some Compared m n h = omega arith
binary_some Shifted m n h = h
binary_some Raised m n h = h

unary_long : (op : UnaryOp) (t : Typed) → IsLong t → IsLong (unary_typed op t)
unary_long op t g = record { length = ap (unary_op_length op) g.length; some = unary_some op (width t.expression) g.some }

binary_long : (op : BinaryOp) (t u : Typed) → IsLong t → IsLong u → IsLong (binary_typed op t u)
binary_long op t u g h = record {
  length = ap (λ l. binary_way_length (way op) l u.length) g.length ∙ ap (binary_way_length (way op) (Some (width t.expression))) h.length ∙ way_length (way op) (width t.expression) (width u.expression);
  some = binary_some (way op) (width t.expression) (width u.expression) g.some;
}

choice_long : (t u v : Typed) → IsLong u → IsLong v → IsLong (choice_typed t u v)
choice_long t u v g h = record { length = ap (λ l. both_lengths max l v.length) g.length ∙ ap (both_lengths max (Some (width u.expression))) h.length; some = omega (arith, g.some) }

join_long : (t u : Typed) → IsLong t → IsLong u → IsLong (join_typed t u)
join_long t u g h = record { length = ap (λ l. both_lengths ◌+◌ l u.length) g.length ∙ ap (both_lengths ◌+◌ (Some (width t.expression))) h.length; some = omega (arith, g.some) }

times_some : (n m : ℕ) → 1 ≤ n → 1 ≤ m → 1 ≤ n * m
times_some zero m h k = absurd (omega arith)
times_some (suc n) m h k = omega (arith, k)

copies_long : (n : ℕ) (t : Typed) → 1 ≤ n → IsLong t → IsLong (copies_typed n t)
copies_long n t h g = record { length = ap (length_map (λ m. n * m)) g.length; some = times_some n (width t.expression) h g.some }

-- a number that is there is within its bounds
pub natural_bounds : (low high place : ℕ) (z : Option ℤ) (n : ℕ) → (natural_within low high place z).number ≡ Some n → (nat_le low n && nat_le n high) ≡ true
natural_bounds low high place None n h = cc
natural_bounds low high place (Some (pos m)) n h = of (nat_le low m && nat_le m high) refl h
  where
    of : (b : Bool) → (nat_le low m && nat_le m high) ≡ b → (natural_if b place m).number ≡ Some n → (nat_le low n && nat_le n high) ≡ true
    of true e k = subst (λ j. (nat_le low j && nat_le j high) ≡ true) (same k) e
      where
        same : Some m ≡ Some n → m ≡ n
        same i = cc
    of false e k = cc
natural_bounds low high place (Some (negsuc m)) n h = cc

replicated_long : (n : Option ℕ) (fs : List Fault) (t : Typed) → ((k : ℕ) → n ≡ Some k → 1 ≤ k) → (t.good ≡ true → IsLong t) → (replicated n fs t).good ≡ true → IsLong (replicated n fs t)
replicated_long None fs t b k h = cc
replicated_long (Some n) fs t b k h = let g = copies_long n t (b n refl) (k h) in record { length = g.length; some = g.some }

clog2_long : (good : Bool) (place : ℕ) (t : Typed) → (clog2_typed good place t).good ≡ true → IsLong (clog2_typed good place t)
clog2_long false place t h = cc
clog2_long true place t h = of (clog2 (constant_value t.expression)) h
  where
    of : (n : Option ℕ) → (clog2_of n place t.faults).good ≡ true → IsLong (clog2_of n place t.faults)
    of None k = cc
    of (Some n) k = record { length = refl; some = omega (arith, length_bits_of 32 n) }

taken_long : (declared : Option Range) (up : Bool) (n : ℕ) (t : Typed) (fs : List Fault) → (taken declared up n t fs).good ≡ true → 1 ≤ n → ((taken declared up n t fs).length ≡ Some (taken declared up n t fs).part.width) × (1 ≤ (taken declared up n t fs).part.width)
taken_long None up n t fs h k = cc
taken_long (Some r) up n t fs h k = (refl, k)

abbrev IsLongTaken : Taken → Type 0
IsLongTaken t = (t.length ≡ Some t.part.width) × (1 ≤ t.part.width)

select_long : (b : Base) (t : Taken) → (t.good ≡ true → IsLongTaken t) → (select_typed b t).good ≡ true → IsLong (select_typed b t)
select_long b t k h = of (b.good && t.good) refl h
  where
    of : (c : Bool) → (b.good && t.good) ≡ c → (select_if c b t).good ≡ true → IsLong (select_if c b t)
    of true e i = let g = k (split b.good t.good e).1 in record { length = g.0; some = g.1 }
    of false e i = cc

width_long : (declared : Option Range) (up : Bool) (n : Option ℕ) (t : Typed) (fs : List Fault) → ((k : ℕ) → n ≡ Some k → 1 ≤ k) → (if_width declared up n t fs).good ≡ true → IsLongTaken (if_width declared up n t fs)
width_long declared up None t fs b h = cc
width_long declared up (Some n) t fs b h = taken_long declared up n t fs h (b n refl)

at_least : (place : ℕ) (t : Typed) (k : ℕ) → (natural 1 64 place t).number ≡ Some k → 1 ≤ k
at_least place t k e = leb-true 1 k (split (nat_le 1 k) (nat_le k 64) (natural_bounds 1 64 place (number_of place t).number k e)).0

between_long : (declared : Option Range) (bracket place : ℕ) (range : Option Range) (fs : List Fault) → (between declared bracket place range fs).good ≡ true → IsLongTaken (between declared bracket place range fs)
between_long declared bracket place None fs h = cc
between_long declared bracket place (Some r) fs h = of (is_against declared r) h
  where
    of : (c : Bool) → (along c declared bracket place r fs).good ≡ true → IsLongTaken (along c declared bracket place r fs)
    of true k = cc
    of false k = taken_long declared true (range_length r) _ fs k (leb-true 1 (range_length r) (length_some r))

slice_long : (declared : Option Range) (bracket : ℕ) (kind : tree.SliceKind) (p : ℕ) (a : Typed) (q : ℕ) (b : Typed) → (slice_taken declared bracket kind p a q b).good ≡ true → IsLongTaken (slice_taken declared bracket kind p a q b)
slice_long declared bracket tree.Between p a q b h = between_long declared bracket p (bounds bracket p a q b).range (bounds bracket p a q b).faults h
slice_long declared bracket tree.Upward p a q b h = width_long declared true (natural 1 64 q b).number a (a.faults ++ (natural 1 64 q b).faults) (at_least q b) h
slice_long declared bracket tree.Downward p a q b h = width_long declared false (natural 1 64 q b).number a (a.faults ++ (natural 1 64 q b).faults) (at_least q b) h

name_long : (place : ℕ) (m : Meaning) → IsFairMeaning m → (name_typed true place m).good ≡ true → IsLong (name_typed true place m)
name_long place (AValue v r turns) f h = record { length = refl; some = f.some }
name_long place (Undefined r) f h = cc
name_long place (ASignal s) f h = cc
name_long place (AMemory m) f h = cc
name_long place (AFunction g) f h = cc
name_long place Incomplete f h = cc
name_long place Another f h = cc
name_long place (Barred rule) f h = cc
name_long place Unknown f h = cc

one_bit_long : (place : ℕ) (m : Meaning) (i : Typed) → (select_typed (base_of true place m) (taken (base_of true place m).range true 1 i i.faults)).good ≡ true → IsLong (select_typed (base_of true place m) (taken (base_of true place m).range true 1 i i.faults))
one_bit_long place m i h = let b = base_of true place m in select_long b (taken b.range true 1 i i.faults) (λ k. taken_long b.range true 1 i i.faults k (omega arith)) h

-- a word is no constant
bit_long : (place : ℕ) (m : Meaning) (at : ℕ) (i : Typed) → (bit_typed true place m at i).good ≡ true → IsLong (bit_typed true place m at i)
bit_long place (AMemory m) at i h = cc
bit_long place (AValue v r turns) at i h = one_bit_long place (AValue v r turns) i h
bit_long place (Undefined r) at i h = one_bit_long place (Undefined r) i h
bit_long place (ASignal s) at i h = one_bit_long place (ASignal s) i h
bit_long place (AFunction f) at i h = one_bit_long place (AFunction f) i h
bit_long place Incomplete at i h = one_bit_long place Incomplete i h
bit_long place Another at i h = one_bit_long place Another i h
bit_long place (Barred rule) at i h = one_bit_long place (Barred rule) i h
bit_long place Unknown at i h = one_bit_long place Unknown i h

part_long : (e : tree.Expr) (t : Typed) → (t.good ≡ true → IsLong t) → (part_typed e t).good ≡ true → IsLong (part_typed e t)
part_long e t k h = let g = k (split t.good (is_clean (unsized_faults e)) h).0 in record { length = g.length; some = g.some }

-- a call is no constant
applied_long : (place : ℕ) (m : Meaning) (t : TypedItems) → (applied true place m t).good ≡ true → IsLong (applied true place m t)
applied_long place (AValue v r turns) t h = cc
applied_long place (Undefined r) t h = cc
applied_long place (ASignal s) t h = cc
applied_long place (AMemory m) t h = cc
applied_long place (AFunction f) t h = cc
applied_long place Incomplete t h = cc
applied_long place Another t h = cc
applied_long place (Barred rule) t h = cc
applied_long place Unknown t h = cc

-- nor is a further select
further_long : (place : ℕ) (m : Meaning) (at : ℕ) (i : Typed) (t : Taken) → (further_typed true place m at i t).good ≡ true → IsLong (further_typed true place m at i t)
further_long place m at i t h = cc

module _ (find : Find) (fair : IsFair find) where
  mutual
    pub typed_long : (e : tree.Expr) → IsExpr e → (typed e find true).good ≡ true → IsLong (typed e find true)
    typed_long (tree.Number n) x h = noted_long n.place (fine (Literal n.bits n.signed n.sized) []) (λ k. record { length = refl; some = x.some }) h
    typed_long (tree.Named name select) x h = noted_long name.place (selected select name find true) (λ k. selected_long select name x.1 k) h
    typed_long (tree.Apply name arguments) x h = let t = typed_arguments arguments find true in noted_long name.place (applied true name.place (find name.bytes) t) (λ k. applied_long name.place (find name.bytes) t k) h
    typed_long (tree.Unary place op a) x h = noted_long place (unary_typed op (typed a find true)) (λ k. unary_long op (typed a find true) (typed_long a x k)) h
    typed_long (tree.Binary op a b) x h =
        noted_long (expr_place a) (binary_typed op (typed a find true) (typed b find true))
        (λ k. let g = split (typed a find true).good (typed b find true).good k in binary_long op (typed a find true) (typed b find true) (typed_long a x.0 g.0) (typed_long b x.1 g.1)) h
    typed_long (tree.Choice c p q) x h =
        noted_long (expr_place c) (choice_typed (typed c find true) (typed p find true) (typed q find true))
        (λ k.
        let g = split (typed p find true).good (typed q find true).good (split (typed c find true).good ((typed p find true).good && (typed q find true).good) k).1 in
        choice_long (typed c find true) (typed p find true) (typed q find true) (typed_long p x.1 g.0) (typed_long q x.2 g.1)) h
    typed_long (tree.Concatenation place parts) x h = noted_long place (copies_typed 1 (typed_parts parts find true)) (λ k. copies_long 1 (typed_parts parts find true) (omega arith) (parts_long parts x k)) h
    typed_long (tree.Replication place count parts) x h =
        let c = typed count (steady find) true in
        noted_long place (replication_typed (expr_place count) c (typed_parts parts find true))
        (λ k. replicated_long (natural 1 64 (expr_place count) c).number (natural 1 64 (expr_place count) c).faults (typed_parts parts find true) (at_least (expr_place count) c) (λ i. parts_long parts x.1 i) k) h
    typed_long (tree.Call place tree.AsSigned a) x h = noted_long place (unary_typed Signed (typed a find true)) (λ k. unary_long Signed (typed a find true) (typed_long a x k)) h
    typed_long (tree.Call place tree.AsUnsigned a) x h = noted_long place (unary_typed Unsigned (typed a find true)) (λ k. unary_long Unsigned (typed a find true) (typed_long a x k)) h
    typed_long (tree.Call place tree.Clog2 a) x h = noted_long place (clog2_typed (typed a find true).good (expr_place a) (typed a find true)) (λ k. clog2_long (typed a find true).good (expr_place a) (typed a find true) k) h
    typed_long (tree.Brackets place e) x h = noted_long place (typed e find true) (λ k. typed_long e x k) h

    selected_long : (select : tree.Select) (name : tree.Name) → IsSelect select → (selected select name find true).good ≡ true → IsLong (selected select name find true)
    selected_long tree.Whole name x h = name_long name.place (find name.bytes) (fair name.bytes) h
    selected_long (tree.BitAt bracket index) name x h = let m = find name.bytes in bit_long name.place m (expr_place index) (typed index find (is_array m || true)) h
    selected_long (tree.Slice bracket kind e f) name x h =
        let b = base_of true name.place (find name.bytes) in
        let first = typed e (first_names kind find) (first_needed kind true) in
        let second = typed f (steady find) true in
        select_long b (slice_taken b.range bracket kind (expr_place e) first (expr_place f) second) (λ k. slice_long b.range bracket kind (expr_place e) first (expr_place f) second k) h
    selected_long (tree.OfWord bracket address part) name x h = let m = find name.bytes in further_long name.place m (expr_place address) (typed address find (is_array m || true)) (taken_by (word_range m) part find true) h

    parts_long : (parts : tree.Exprs) → AreParts parts → (typed_parts parts find true).good ≡ true → IsLong (typed_parts parts find true)
    parts_long tree.NoExpr x h = absurd x
    parts_long (tree.AndExpr e tree.NoExpr) x h = part_long e (typed e find true) (typed_long e x.0) h
    parts_long (tree.AndExpr e (tree.AndExpr f rest)) x h =
        let t = part_typed e (typed e find true) in
        let u = typed_parts (tree.AndExpr f rest) find true in
        let g = split t.good u.good h in
        join_long t u (part_long e (typed e find true) (typed_long e x.0) g.0) (parts_long (tree.AndExpr f rest) x.1 g.1)
