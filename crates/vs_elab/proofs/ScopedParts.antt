-- The scopes and the variables of named blocks, one after the other.
use Rattle.std.proofs.Common.{◌≡◌, ℕ, zero, suc, ◌+◌, ◌<◌, ◌≤◌, ◌^◌, ◌&&◌, Bool, true, false, List, [], ◌∷◌, ◌++◌, length, length-append, get_or, take, map, Option, Some, None, refl, sym, ap, ◌∙◌, subst, append_assoc, arith}
use Rattle.std.specs.Prelude.{sum_by, option_to_list}
use Rattle.std.proofs.lemmas.Bool.{lt-ltb}
use Rattle.std.proofs.lemmas.List.{append-nil, take_all}
use Rattle.std.proofs.lemmas.List.Sums.{sum_by-cons}
use Rattle.vs_design.specs.Designs.{Scope, bit_count}
use Rattle.vs_design.specs.Expressions.{Signal, signal_length}
use Rattle.vs_grammar.specs.Shapes.{Each, IsValueType}
use Rattle.vs_elaborated.specs.Functions.{LocalSignal}
use Rattle.vs_elaborated.specs.NamedBlocks as spec
use Rattle.vs_elaborated.specs.NamedBlocks.{named_scope, named_scopes, outer_scope}
use Rattle.vs_elaborated.specs.Scoped.{IsBefore, AreBefore, AreNumberedBelow}
use Rattle.vs_elaborated.specs.Statements.{Local}
use Rattle.vs_flat.specs.Named.{all_below}
use Rattle.vs_build.specs.Drafts.{Draft, and_scope}
use Rattle.vs_scope.specs.declared.frames.Frame.{Frame}
use Rattle.vs_scope.specs.declared.block_scopes.NamedBlock.{NamedBlock}
use Rattle.vs_scope.specs.declared.names.LocalSignal.{LocalSignal as LocalOf}
use Rattle.vs_scope.specs.Locals.{placed_local, placed_local_of}
use Rattle.vs_scope.specs.LocalLists.{AreShapedLocals}
use Rattle.vs_scope.specs.NamedBlocks.{AreShapedBlocks, named}
use Rattle.vs_scope.specs.Signalled.{Placed}
use Rattle.vs_elab.specs.Functions.{signals_of}
use Rattle.vs_elab.specs.Opening.{Follow}
use Rattle.vs_elab.specs.Scoped.{AreMoreFrames, IsEmptyFrame, and_scopes}
use Rattle.vs_elab.proofs.Sequences.{one_more}

-- ---- shapes

locals_shaped : (vs : List Local) → Each (λ (v : Local). IsValueType v.value_type) vs → AreShapedLocals vs
locals_shaped [] h = tt
locals_shaped (v ∷ vs) h = (h.0, locals_shaped vs h.1)

pub blocks_shaped : (bs : List spec.NamedBlock) → Each (λ (b : spec.NamedBlock). Each (λ (v : Local). IsValueType v.value_type) b.variables) bs → AreShapedBlocks bs
blocks_shaped [] h = tt
blocks_shaped (b ∷ bs) h = (locals_shaped b.variables h.0, blocks_shaped bs h.1)

-- ---- scopes

abbrev pub scope_here : (around first : ℕ) → NamedBlock → Scope
scope_here around first b = named_scope around first (named b)

pub scopes_of : (around first : ℕ) (bs : List NamedBlock) → map (scope_here around first) bs ≡ named_scopes around first (map named bs)
scopes_of around first [] = refl
scopes_of around first (b ∷ bs) = ap (λ (xs : List Scope). scope_here around first b ∷ xs) (scopes_of around first bs)

pub scopes_nothing : (s : Draft) → s ≡ and_scopes s []
scopes_nothing s = ap (λ xs. let t : Draft = record s { design = record s.design { scopes = xs } } in t) (sym (append-nil s.design.scopes))

pub scopes_more : (around first : ℕ) (s t new : Draft) (bs : List NamedBlock) (i : ℕ) (b : NamedBlock) (text : List ℕ) (parent : ℕ) → i < length bs → b ≡ get_or bs i b → text ≡ b.name.now.text → parent ≡ outer_scope around first b.outer
    → t ≡ and_scopes s (map (scope_here around first) (take i bs)) → new ≡ and_scope t (record { name = text; parent = Some parent; instance = false }) → new ≡ and_scopes s (map (scope_here around first) (take (i + 1) bs))
scopes_more around first s t new bs i b text parent h e n p before is =
    let here = scope_here around first b in
    let done = map (scope_here around first) (take i bs) in
    is ∙ ap (λ (x : List ℕ). and_scope t (let q : Scope = record { name = x; parent = Some parent; instance = false } in q)) n
    ∙ ap (λ (k : ℕ). and_scope t (let q : Scope = record { name = b.name.now.text; parent = Some k; instance = false } in q)) p
    ∙ ap (λ y. and_scope y here) before
    ∙ ap (λ xs. let y : Draft = record s { design = record s.design { scopes = xs } } in y) (append_assoc s.design.scopes done (here ∷ []))
    ∙ ap (and_scopes s) (sym (one_more (scope_here around first) bs i b h e))

pub scopes_end : (around first : ℕ) (s t : Draft) (bs : List NamedBlock) (i : ℕ) → length bs ≤ i → t ≡ and_scopes s (map (scope_here around first) (take i bs)) → t ≡ and_scopes s (named_scopes around first (map named bs))
scopes_end around first s t bs i h is = is ∙ ap (λ (xs : List NamedBlock). and_scopes s (map (scope_here around first) xs)) (take_all i bs h) ∙ ap (and_scopes s) (scopes_of around first bs)

before_at : (next : ℕ) (bs : List NamedBlock) (i : ℕ) (b : NamedBlock) → i < length bs → b ≡ get_or bs i b → AreBefore next (map named bs) → IsBefore (next + i) b.outer
before_at next [] i b h e a = absurd (let no : ⊥ = omega (arith, h) in no)
before_at next (x ∷ bs) zero b h e a = subst (λ (y : NamedBlock). IsBefore (next + 0) y.outer) (sym e) (subst (λ n. IsBefore n x.outer) (let k : next ≡ next + 0 = omega arith in k) a.0)
before_at next (x ∷ bs) (suc i) b h e a = subst (λ n. IsBefore n b.outer) (let k : suc next + i ≡ next + suc i = omega arith in k) (before_at (suc next) bs i b (omega (arith, h)) e a.1)

outer_before : (around first n : ℕ) (outer : Option ℕ) → around < first → IsBefore n outer → outer_scope around first outer < first + n
outer_before around first n None h b = omega (arith, h)
outer_before around first n (Some m) h b = omega (arith, b)

taken : (around first : ℕ) (bs : List NamedBlock) (i : ℕ) → i < length bs → length (map (scope_here around first) (take i bs)) ≡ i
taken around first [] i h = absurd (let no : ⊥ = omega (arith, h) in no)
taken around first (b ∷ bs) zero h = refl
taken around first (b ∷ bs) (suc i) h = ap suc (taken around first bs i (omega (arith, h)))

one_below : (n m : ℕ) → m < n → all_below n (option_to_list (Some m)) ≡ true
one_below n m h = ap (λ (b : Bool). b && true) (lt-ltb m n h)

-- the next one stands in one that is there
pub next_within : (around first : ℕ) (s t : Draft) (bs : List NamedBlock) (i : ℕ) (b : NamedBlock) (parent : ℕ) → i < length bs → b ≡ get_or bs i b → first ≡ length s.design.scopes → around < first → AreBefore 0 (map named bs)
    → t ≡ and_scopes s (map (scope_here around first) (take i bs)) → parent ≡ outer_scope around first b.outer → all_below (length t.design.scopes) (option_to_list (Some parent)) ≡ true
next_within around first s t bs i b parent h e f a before is p =
    let done = map (scope_here around first) (take i bs) in
    let o = outer_before around first i b.outer a (subst (λ (n : ℕ). IsBefore n b.outer) (let k : 0 + i ≡ i = omega arith in k) (before_at 0 bs i b h e before)) in
    let l : length t.design.scopes ≡ length s.design.scopes + length done = ap (λ (x : Draft). length x.design.scopes) is ∙ length-append s.design.scopes done in
    let k : length done ≡ i = taken around first bs i h in
    one_below (length t.design.scopes) parent (omega (arith, o, l, k, f, p))

-- ---- variables

pub sum_mapped : {A : Type 0} (f : A → Signal) (xs : List A) → sum_by signal_length (map f xs) ≡ sum_by (λ (x : A). signal_length (f x)) xs
sum_mapped f [] = refl
sum_mapped {A} f (x ∷ xs) = sum_by-cons signal_length (f x) (map f xs) ∙ ap (λ n. signal_length (f x) + n) (sum_mapped f xs) ∙ sym (sum_by-cons (λ (y : A). signal_length (f y)) x xs)

pub numbered_follow : (scopes n b : ℕ) (ss : List Signal) → AreNumberedBelow scopes n b ss → b + sum_by signal_length ss ≤ 2 ^ 20 → Follow scopes n b ss
numbered_follow scopes n b [] c k = tt
numbered_follow scopes n b (s ∷ ss) c k =
    let e = sum_by-cons signal_length s ss in
    (c.0, c.1, c.2, omega (arith, e, k), numbered_follow scopes (n + 1) (b + signal_length s) ss c.3 (omega (arith, e, k)))

-- as they are placed they are the signals
pub same_variables : (cs : List LocalOf) (ss : List LocalSignal) → map placed_local cs ≡ map placed_local_of ss → signals_of cs ≡ map (λ (s : LocalSignal). s.meaning.signal) ss
same_variables cs ss h = sym (of_code cs) ∙ ap (map (λ (p : Placed). p.meaning.signal)) h ∙ of_said ss
  where
    of_code : (cs : List LocalOf) → map (λ (p : Placed). p.meaning.signal) (map placed_local cs) ≡ signals_of cs
    of_code [] = refl
    of_code (c ∷ cs) = ap (λ (r : List Signal). (placed_local c).meaning.signal ∷ r) (of_code cs)

    of_said : (ss : List LocalSignal) → map (λ (p : Placed). p.meaning.signal) (map placed_local_of ss) ≡ map (λ (s : LocalSignal). s.meaning.signal) ss
    of_said [] = refl
    of_said (s ∷ ss) = ap (λ (r : List Signal). s.meaning.signal ∷ r) (of_said ss)

-- behind the scopes
pub follow_behind : (s t : Draft) (xs : List Scope) (first n : ℕ) (ss : List Signal) → first ≡ length s.design.scopes → length xs ≡ n → t ≡ and_scopes s xs → Follow (first + n) (length s.design.signals) (bit_count s.design) ss
    → Follow (length t.design.scopes) (length t.design.signals) (bit_count t.design) ss
follow_behind s t xs first n ss f l is h =
    let m = length-append s.design.scopes xs in
    subst (λ (x : Draft). Follow (length x.design.scopes) (length x.design.signals) (bit_count x.design) ss) (sym is)
    (subst (λ (k : ℕ). Follow k (length s.design.signals) (bit_count s.design) ss) (let e : first + n ≡ length (s.design.scopes ++ xs) = omega (arith, f, l, m) in e) h)

-- ---- frames

pub frames_none : (fs : List Frame) → AreMoreFrames fs fs 0
frames_none fs = record { more = []; is = sym (append-nil fs); count_is = refl; empty = tt }

each_last : (fs : List Frame) (f : Frame) → Each IsEmptyFrame fs → IsEmptyFrame f → Each IsEmptyFrame (fs ++ f ∷ [])
each_last [] f h k = (k, tt)
each_last (g ∷ fs) f h k = (h.0, each_last fs f h.1 k)

pub frames_more : (a b c : List Frame) (n : ℕ) (f : Frame) → AreMoreFrames a b n → IsEmptyFrame f → c ≡ b ++ f ∷ [] → AreMoreFrames a c (n + 1)
frames_more a b c n f h k e = record {
  more = h.more ++ f ∷ [];
  is = e ∙ ap (λ (x : List Frame). x ++ f ∷ []) h.is ∙ append_assoc a h.more (f ∷ []);
  count_is = let l = length-append h.more (f ∷ []) in let m = h.count_is in omega (arith, l, m);
  empty = each_last h.more f h.empty k;
}
