-- What is named in a lawful flat design is there, and where the bits of signals are.
use Rattle.std.proofs.Common.{◌≡◌, ℕ, zero, suc, ◌+◌, ◌<◌, ◌≤◌, Bool, true, false, List, [], ◌∷◌, length, map, take, drop, get_or, Option, Some, None, refl, sym, ap, ap₂, ◌∙◌, subst, arith, ◌⊎◌, inl, inr}
use Rattle.std.specs.Prelude.{◌&&◌, ◌||◌, ◌==◌, not, is_some, nat_lt, nat_le, slice_get, sum_by}
use Rattle.std.specs.List.{list_all}
use Rattle.std.proofs.lemmas.Bool.Decides.{nat_tests}
use Rattle.std.proofs.lemmas.List.Sums.{sum_by-cons}
use Rattle.std.proofs.lemmas.List.{drop_more}
use Rattle.vs_four.specs.declared.Range.{Range}
use Rattle.vs_four.specs.Selects.{range_length}
use Rattle.vs_design.specs.Sets.{Set4}
use Rattle.vs_design.specs.Expressions as E
use Rattle.vs_design.specs.Designs as D
use Rattle.vs_design.specs.Elaborated.{have_bits_from, is_signal, is_declared, is_formed, is_formed_header, is_formed_statement, is_formed_function, is_lawful_range, is_local, is_nil, is_plain, is_this, are_numbered, inside, same_range, same_flag, same_signal}
use Rattle.vs_design.specs.Clocks.{same_name}
use Rattle.vs_design.specs.Footprints.{is_memory, is_input, is_variable}
use Rattle.vs_design.specs.Rules.{mixed_in}
use Rattle.vs_design.specs.Statements as T
use Rattle.vs_design.specs.Values.{count_from}
use Rattle.vs_flat.specs.Arena.{Arena}
use Rattle.vs_flat.specs.Named.{all_below}
use Rattle.vs_flat.specs.Lawful.{IsLawful, at_home, node_design, node_home}
use Rattle.vs_flat.specs.Laws.{CountsStay, EachIsFormed, EachFunction}
use Rattle.vs_flat.specs.declared.functions.Declared.{Declared}
use Rattle.vs_flat.specs.declared.functions.Body.{Body}
use Rattle.vs_flat.specs.Trees.{signal_at, statement_at}
use Rattle.vs_flat.specs.DesignOf.{arena_signals, arena_statements, design_of, header_in, header_of, local_of}
use Rattle.vs_sets.specs.FitParts.{Is64}
use Rattle.vs_flat.specs.declared.expressions.Node.{Node}
use Rattle.vs_flat.specs.declared.expressions.Node.TheVariants.{Name, Local}
use Rattle.vs_flat.specs.Targets.{source_of}
use Rattle.vs_design.specs.Fits.{source_length}
use Rattle.vs_sets.specs.Nodes.{EachBelow, place_of, signal_of, tree_of, tree_of_node}
use Rattle.vs_sets.specs.Tables.{beyond, family_of}
use Rattle.vs_sets.proofs.Fit.{and_left, and_right, and_both, left3}

below : (m n : ℕ) → nat_lt m n ≡ true → m < n
below m n h = grind (arith, nat_tests, h)

pub all_below-each : (n : ℕ) (ms : List ℕ) → all_below n ms ≡ true → EachBelow n ms
all_below-each n [] h k inside = absurd (omega arith)
all_below-each n (m ∷ ms) h zero inside = below m n (and_left _ _ h)
all_below-each n (m ∷ ms) h (suc k) inside = all_below-each n ms (and_right (nat_lt m n) _ h) k (omega arith)

-- ---- the bits of signals

within_from : (first : ℕ) (ss : List E.Signal) (n : ℕ) → have_bits_from first ss ≡ true → n < length ss → (signal_at ss n).first + E.signal_length (signal_at ss n) ≤ first + sum_by E.signal_length ss
within_from first [] n h inside = absurd (omega arith)
within_from first (s ∷ ss) zero h inside =
    let e : s.first ≡ first = grind (arith, nat_tests, and_left (s.first == first) _ h) in
    let all = sum_by-cons E.signal_length s ss in
    omega (arith, e, all)
within_from first (s ∷ ss) (suc n) h inside =
    let k = within_from (first + E.signal_length s) ss n (and_right (s.first == first) _ h) (omega arith) in
    let all = sum_by-cons E.signal_length s ss in
    omega (arith, k, all)

-- a signal's bits are bits of the design
pub signal_within : CountsStay → (a : Arena) (n : ℕ) → IsLawful a → n < length a.signals → (signal_of a n).first + E.signal_length (signal_of a n) ≤ D.bit_count (design_of a)
signal_within counts a n lawful h =
    let k = within_from 0 (arena_signals a) n lawful.design.bits_numbered (omega (arith, (counts a).signals)) in
    omega (arith, k)

pub signal_short_end : CountsStay → (a : Arena) (n : ℕ) → IsLawful a → n < length a.signals → (signal_of a n).first + E.signal_length (signal_of a n) ≤ 1048576
signal_short_end counts a n lawful h = omega (arith, signal_within counts a n lawful h, lawful.design.few_bits)

pub signal_short : CountsStay → (a : Arena) (n : ℕ) → IsLawful a → n < length a.signals → E.signal_length (signal_of a n) ≤ 1048576
signal_short counts a n lawful h = omega (arith, signal_within counts a n lawful h, lawful.design.few_bits)

declared_at : (d : D.Design) (ss : List E.Signal) (n : ℕ) → list_all (is_declared d) ss ≡ true → n < length ss → is_lawful_range (signal_at ss n).range ≡ true
declared_at d [] n h inside = absurd (omega arith)
declared_at d (s ∷ ss) zero h inside = and_right (nat_lt s.scope (length d.scopes)) _ (and_left (nat_lt s.scope (length d.scopes) && is_lawful_range s.range) _ (and_left _ _ h))
declared_at d (s ∷ ss) (suc n) h inside = declared_at d ss n (and_right (is_declared d s) _ h) (omega arith)

some_bits : (r : Range) → 1 ≤ range_length r
some_bits r = grind arith

few_bits : (r : Option Range) → is_lawful_range r ≡ true → Is64 (E.range_or_one r)
few_bits None h = (omega arith, omega arith)
few_bits (Some r) h =
    let k : range_length r ≤ 64 = grind (arith, nat_tests, and_right (nat_le r.left 65535 && nat_le r.right 65535) (nat_le (range_length r) 64) h) in
    (some_bits r, k)

-- and there are 1 to 64 of them in each word
pub word_few : CountsStay → (a : Arena) (n : ℕ) → IsLawful a → n < length a.signals → Is64 (E.word_length (signal_of a n))
word_few counts a n lawful h = few_bits (signal_of a n).range (declared_at (design_of a) (arena_signals a) n lawful.design.declared (omega (arith, (counts a).signals)))

-- what is no memory has one word
one_word : (words : Option Range) (k : ℕ) → is_some words ≡ false → E.words_length words k ≡ k
one_word None k h = refl
one_word (Some r) k h = cc

pub signal_few : CountsStay → (a : Arena) (n : ℕ) → IsLawful a → n < length a.signals → is_memory (signal_of a n) ≡ false → Is64 (E.signal_length (signal_of a n))
signal_few counts a n lawful h plain = subst Is64 (sym (one_word (signal_of a n).words (E.word_length (signal_of a n)) plain)) (word_few counts a n lawful h)

-- ---- signals that are named

isnt : (b : Bool) → not b ≡ true → b ≡ false
isnt true h = cc
isnt false h = refl

abbrev has_range : E.Signal → Bool
has_range s = is_lawful_range s.range

ranges_of : (d : D.Design) (ss : List E.Signal) → list_all (is_declared d) ss ≡ true → list_all has_range ss ≡ true
ranges_of d [] h = refl
ranges_of d (s ∷ ss) h = and_both (is_lawful_range s.range) _ (and_right (nat_lt s.scope (length d.scopes)) _ (and_left _ _ (and_left (is_declared d s) _ h))) (ranges_of d ss (and_right (is_declared d s) _ h))

local_ranges : (d : D.Design) (h : E.Header) (ss : List E.Signal) → list_all (is_local d h) ss ≡ true → list_all has_range ss ≡ true
local_ranges d h [] p = refl
local_ranges d h (s ∷ ss) p =
    let own = and_left (is_local d h s) _ p in
    let scope = (s.scope == h.result.scope) && nat_lt s.scope (length d.scopes) in
    let front = and_left (scope && is_lawful_range s.range) (not s.net || s.input) (and_left (scope && is_lawful_range s.range && (not s.net || s.input)) (not (is_memory s)) own) in
    and_both (is_lawful_range s.range) _ (and_right scope (is_lawful_range s.range) front) (local_ranges d h ss (and_right (is_local d h s) _ p))

function_at : (d : D.Design) (fs : List T.Function) (f : ℕ) (x : T.Function) → list_all (is_formed_function d) fs ≡ true → slice_get fs f ≡ Some x → is_formed_function d x ≡ true
function_at d [] f x h e = absurd (let z : ⊥ = cc in z)
function_at d (y ∷ fs) zero x h e = let same : y ≡ x = cc in subst (λ (z : T.Function). is_formed_function d z ≡ true) same (and_left _ _ h)
function_at d (y ∷ fs) (suc f) x h e = function_at d fs f x (and_right (is_formed_function d y) _ h) e

formed_header : (d : D.Design) (f : T.Function) → is_formed_function d f ≡ true → is_formed_header d f.header ≡ true
formed_header d f h = left3 (is_formed_header d f.header) (is_nil (mixed_in false f.statement)) (is_formed_statement (inside d f.header) f.statement) h

header_locals : (d : D.Design) (h : E.Header) → is_formed_header d h ≡ true → list_all (is_local d h) (E.local_signals h) ≡ true
header_locals d h p =
    let one = not (is_nil h.inputs) && are_numbered 0 0 (E.local_signals h) in
    let two = one && have_bits_from 0 (E.local_signals h) in
    and_right two _ (and_left (two && list_all (is_local d h) (E.local_signals h)) (list_all is_input h.inputs) (and_left (two && list_all (is_local d h) (E.local_signals h) && list_all is_input h.inputs) (list_all is_variable (h.result ∷ h.own)) p))

there_is : {A : Type 0} (xs : List A) (k : ℕ) → k < length xs → (x : A) × (slice_get xs k ≡ Some x)
there_is [] k h = absurd (omega arith)
there_is (x ∷ xs) zero h = (x, refl)
there_is (x ∷ xs) (suc k) h = there_is xs k (omega arith)

below_length : {A : Type 0} (xs : List A) (k : ℕ) (x : A) → slice_get xs k ≡ Some x → k < length xs
below_length [] k x h = absurd (let z : ⊥ = cc in z)
below_length (y ∷ xs) zero x h = omega arith
below_length (y ∷ xs) (suc k) x h = let l = below_length xs k x h in omega (arith, l)

-- a function that was declared is formed in the plain design
pub formed_function : EachFunction → (a : Arena) (f : ℕ) (d : Declared) (b : Body) → IsLawful a → slice_get a.functions f ≡ Some d → slice_get a.bodies f ≡ Some b
    → is_formed_function (design_of a) (record { header = header_of d.function; statement = statement_at (arena_statements a) b.statement }) ≡ true
formed_function functions a f d b lawful e i = function_at (design_of a) (design_of a).functions f _ lawful.design.functions (functions a f d b e i)

-- what names mean where an expression stands has lawful ranges
home_ranges : EachFunction → (a : Arena) → IsLawful a → (h : Option ℕ) → list_all has_range (at_home a h).signals ≡ true
home_ranges functions a lawful None = ranges_of (design_of a) (arena_signals a) lawful.design.declared
home_ranges functions a lawful (Some f) = at (slice_get a.functions f) refl where
  at : (o : Option Declared) → slice_get a.functions f ≡ o → list_all has_range (E.local_signals (header_in (slice_get a.functions f))) ≡ true
  at None e = ap (λ o. list_all has_range (E.local_signals (header_in o))) e
  at (Some d) e =
      let inside = below_length a.functions f d e in
      let b = there_is a.bodies f (omega (arith, inside, lawful.complete)) in
      let callee : T.Function = record { header = header_of d.function; statement = statement_at (arena_statements a) b.0.statement } in
      let header = formed_header (design_of a) callee (formed_function functions a f d b.0 lawful e b.1) in
      ap (λ o. list_all has_range (E.local_signals (header_in o))) e ∙ local_ranges (design_of a) (header_of d.function) (E.local_signals (header_of d.function)) (header_locals (design_of a) (header_of d.function) header)

same_ranges : (r s : Option Range) → same_range r s ≡ true → is_lawful_range s ≡ true → Is64 (E.range_or_one r)
same_ranges None s h k = (omega arith, omega arith)
same_ranges (Some r) None h k = absurd (let z : ⊥ = cc in z)
same_ranges (Some r) (Some s) h k =
    let left : r.left ≡ s.left = grind (arith, nat_tests, and_left (r.left == s.left) _ h) in
    let right : r.right ≡ s.right = grind (arith, nat_tests, and_right (r.left == s.left) _ h) in
    few_bits (Some r) (ap₂ (λ m n. nat_le m 65535 && nat_le n 65535 && nat_le (range_length (record { left = m; right = n })) 64) left right ∙ k)

found_few : (ss : List E.Signal) (k : ℕ) (s : E.Signal) → list_all has_range ss ≡ true → is_this s (slice_get ss k) ≡ true → Is64 (E.range_or_one s.range)
found_few [] k s h i = absurd (let z : ⊥ = cc in z)
found_few (t ∷ ss) zero s h i = same_ranges s.range t.range (ranges s t i) (and_left _ _ h) where
  ranges : (s t : E.Signal) → same_signal s t ≡ true → same_range s.range t.range ≡ true
  ranges s t p =
      let one = same_name s.name t.name && (s.scope == t.scope) && (s.number == t.number) && same_flag s.net t.net && same_flag s.input t.input in
      and_right one (same_range s.range t.range) (and_left (one && same_range s.range t.range) (same_flag s.signed t.signed) (and_left (one && same_range s.range t.range && same_flag s.signed t.signed) (s.first == t.first) (and_left (one && same_range s.range t.range && same_flag s.signed t.signed && (s.first == t.first)) (same_range s.words t.words)
      (and_left (one && same_range s.range t.range && same_flag s.signed t.signed && (s.first == t.first) && same_range s.words t.words) (same_flag s.integer t.integer) p))))
found_few (t ∷ ss) (suc k) s h i = found_few ss k s (and_right (is_lawful_range t.range) _ h) i

-- a signal that an expression names is no memory, and has 1 to 64 bits
pub named_few : EachIsFormed → EachFunction → (a : Arena) (e place : ℕ) (s : E.Signal) → IsLawful a → e < length a.nodes → tree_of a e ≡ E.At place (E.Name s) → Is64 (E.signal_length s)
named_few formed functions a e place s lawful there named =
    let d = node_design a e in
    let plain : is_plain d s ≡ true = ap (is_formed d) (sym named) ∙ formed a lawful e there in
    let word = found_few d.signals s.number s (home_ranges functions a lawful (node_home 0 a.functions a.bodies e)) (and_left (is_signal d s) _ plain) in
    subst Is64 (sym (one_word s.words (E.word_length s) (isnt (is_memory s) (and_right (is_signal d s) _ plain)))) word

-- the signal of the design, or of a function, that a select is taken of
pub source_few : EachIsFormed → EachFunction → (a : Arena) (e : ℕ) (n : Node) → IsLawful a → e < length a.nodes → tree_of a e ≡ E.At (place_of a e) (tree_of_node a n)
    → ((x : ℕ) × (n ≡ Name x)) ⊎ ((f : ℕ) × (x : ℕ) × (n ≡ Local f x)) → source_length (source_of (tree_of a e)) ≤ 64
source_few formed functions a e n lawful there tree (inl (x, is)) =
    let named : tree_of a e ≡ E.At (place_of a e) (E.Name (signal_of a x)) = tree ∙ ap (λ m. E.At (place_of a e) (tree_of_node a m)) is in
    let few = named_few formed functions a e (place_of a e) (signal_of a x) lawful there named in
    omega (arith, few.1, ap (λ t. source_length (source_of t)) named)
source_few formed functions a e n lawful there tree (inr (f, x, is)) =
    let named : tree_of a e ≡ E.At (place_of a e) (E.Name (local_of a f x)) = tree ∙ ap (λ m. E.At (place_of a e) (tree_of_node a m)) is in
    let few = named_few formed functions a e (place_of a e) (local_of a f x) lawful there named in
    omega (arith, few.1, ap (λ t. source_length (source_of t)) named)

-- ---- their sets

pub sets_at : (table : List Set4) (first n : ℕ) → first + n ≤ length table → map (family_of table) (count_from first n) ≡ take n (drop first table)
sets_at table first zero h = refl
sets_at table first (suc n) h =
    let e = drop_more table first beyond (omega arith) in
    let next : suc first ≡ first + 1 = omega arith in
    let k = sets_at table (suc first) n (omega arith) ∙ ap (λ m. take n (drop m table)) next in
    ap (λ t. get_or table first beyond ∷ t) k ∙ ap (take (suc n)) (sym e)
