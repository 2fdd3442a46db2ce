-- Named blocks that are scopes, and their variables, one after the other.
use Rattle.std.proofs.Common.{◌≡◌, ℕ, suc, ◌+◌, ◌<◌, ◌≤◌, List, [], ◌∷◌, ◌++◌, map, length, get_or, take, Option, false, refl, sym, ap, ◌∙◌, subst, append_assoc, length-append, add-one, nat_lt, if◌then◌else◌, Some, arith}
use Rattle.std.specs.Prelude.{sum_by}
use Rattle.std.proofs.lemmas.List.{append-nil, map-append, length-map, take_more, take_all}
use Rattle.std.proofs.lemmas.List.Sums.{sum_by-append, sum_by-cons}
use Rattle.vs_design.specs.Expressions.{signal_length}
use Rattle.vs_grammar.specs.Trees as tree
use Rattle.vs_const.specs.declared.faults.Fault.{Fault}
use Rattle.vs_const.specs.declared.names.Role.TheVariants.{InModule}
use Rattle.vs_const.specs.Faults.{fault, least, better}
use Rattle.vs_const.specs.declared.rules.Rule.TheVariants.{TooManyBits}
use Rattle.vs_const.proofs.Least.{least_append}
use Rattle.vs_elaborated.specs.Environments.{Env}
use Rattle.vs_elaborated.specs.Functions as functions
use Rattle.vs_elaborated.specs.Statements.{scope_locals}
use Rattle.vs_elaborated.specs.NamedBlocks as spec
use Rattle.vs_elaborated.specs.Elaborated.{variables_over}
use Rattle.vs_scope.specs.declared.local_signals.Signalling.{Signalling}
use Rattle.vs_scope.specs.declared.locals.Local.{Local}
use Rattle.vs_scope.specs.declared.block_scopes.NamedBlock.{NamedBlock}
use Rattle.vs_scope.specs.Bits.{over}
use Rattle.vs_scope.specs.Signalled.{Placed}
use Rattle.vs_scope.specs.Locals.{local, local_start, placed_local, placed_local_of}
use Rattle.vs_scope.specs.LocalLists.{IsSigned, local_faults}
use Rattle.vs_scope.specs.NamedBlocks.{IsSignedBlocks, behind_blocks, named}
use Rattle.vs_scope.proofs.SoFar.{better_assoc, better_none}
use Rattle.vs_scope.proofs.LocalLists.{faults_both}

-- ---- where a list of blocks stands

pub count_behind : (before new : List NamedBlock) (bs : List spec.NamedBlock) → map named new ≡ map named before ++ bs → length new ≡ length before + length bs
count_behind before new bs h = sym (length-map new named) ∙ ap (λ (xs : List spec.NamedBlock). length xs) h ∙ length-append (map named before) bs ∙ ap (λ (n : ℕ). n + length bs) (length-map before named)

-- those behind a part, where their numbers go on
pub then_named : (before new : List NamedBlock) (bs whole : List spec.NamedBlock) (rest : ℕ → List spec.NamedBlock) → map named new ≡ map named before ++ bs → map named before ++ (bs ++ rest (length before + length bs)) ≡ whole
    → map named new ++ rest (length new) ≡ whole
then_named before new bs whole rest h k =
    ap (λ (xs : List spec.NamedBlock). xs ++ rest (length new)) h ∙ append_assoc (map named before) bs (rest (length new)) ∙ ap (λ (n : ℕ). map named before ++ (bs ++ rest n)) (count_behind before new bs h) ∙ k

-- ---- variables

abbrev of_block : Env → functions.Start → spec.NamedBlock → List functions.LocalSignal
of_block env start b = functions.signals_of env start InModule false b.variables

abbrev next : Env → functions.Start → spec.NamedBlock → functions.Start
next env start b = record (functions.behind_all start (of_block env start b)) { scope = suc start.scope }

signals_more : (env : Env) (start : functions.Start) (bs : List spec.NamedBlock) (b : spec.NamedBlock) → spec.named_signals env start (bs ++ b ∷ []) ≡ spec.named_signals env start bs ++ of_block env (behind_blocks env start bs) b
signals_more env start [] b = append-nil (of_block env start b)
signals_more env start (c ∷ bs) b =
    ap (λ (r : List functions.LocalSignal). of_block env start c ++ r) (signals_more env (next env start c) bs b)
    ∙ sym (append_assoc (of_block env start c) (spec.named_signals env (next env start c) bs) (of_block env (behind_blocks env (next env start c) bs) b))

behind_more : (env : Env) (start : functions.Start) (bs : List spec.NamedBlock) (b : spec.NamedBlock) → behind_blocks env start (bs ++ b ∷ []) ≡ next env (behind_blocks env start bs) b
behind_more env start [] b = refl
behind_more env start (c ∷ bs) b = behind_more env (next env start c) bs b

pub blocks_none : (s : Signalling) (env : Env) → IsSignedBlocks s s env []
blocks_none s env = record { signals = sym (append-nil (map placed_local s.signals.items)); next = refl; fault = sym (better_none s.fault) }

-- one block more, and the scope of the next one
pub blocks_more : (env : Env) (a b c d : Signalling) (bs : List spec.NamedBlock) (x : spec.NamedBlock) → IsSignedBlocks a b env bs → IsSigned b c (of_block env (local_start b.next) x)
    → d.signals.items ≡ c.signals.items → local_start d.next ≡ record (local_start c.next) { scope = suc (local_start c.next).scope } → (local_start c.next).scope ≡ (local_start b.next).scope → d.fault ≡ c.fault → IsSignedBlocks a d env (bs ++ x ∷ [])
blocks_more env a b c d bs x h k same step scope fault =
    let start = local_start a.next in
    let before = spec.named_signals env start bs in
    let more = of_block env (behind_blocks env start bs) x in
    let one : IsSigned b c more = subst (λ (s : functions.Start). IsSigned b c (of_block env s x)) h.next k in
    let joined = signals_more env start bs x in
    record {
      signals =
          ap (map placed_local) same ∙ one.signals ∙ ap (λ (r : List Placed). r ++ map placed_local_of more) h.signals ∙ append_assoc (map placed_local a.signals.items) (map placed_local_of before) (map placed_local_of more)
          ∙ ap (λ (r : List Placed). map placed_local a.signals.items ++ r) (sym (ap (map placed_local_of) joined ∙ map-append placed_local_of before more));
      next =
          step ∙ ap (λ (n : ℕ). record (local_start c.next) { scope = suc n }) (scope ∙ ap (λ (s : functions.Start). s.scope) h.next) ∙ ap (λ (s : functions.Start). record s { scope = suc (behind_blocks env start bs).scope }) (one.next ∙ ap (λ (s : functions.Start). functions.behind_all s more) h.next)
          ∙ sym (behind_more env start bs x);
      fault =
          fault ∙ one.fault ∙ ap (λ (o : Option Fault). better o (least (local_faults more))) h.fault ∙ better_assoc a.fault (least (local_faults before)) (least (local_faults more))
          ∙ ap (better a.fault) (sym (least_append (local_faults before) (local_faults more)) ∙ ap least (sym (ap local_faults joined ∙ faults_both before more)));
    }

scope_kept : (start : functions.Start) (ss : List functions.LocalSignal) → (functions.behind_all start ss).scope ≡ start.scope
scope_kept start [] = refl
scope_kept start (s ∷ ss) = scope_kept (functions.behind start s) ss

-- the first of them, and one more
pub first_blocks : (all : List NamedBlock) (i : ℕ) (b : NamedBlock) → i < length all → b ≡ get_or all i b → map named (take (i + 1) all) ≡ map named (take i all) ++ named b ∷ []
first_blocks all i b h e = ap (map named) (take_more all i b h ∙ ap (λ (x : NamedBlock). take i all ++ x ∷ []) (sym e)) ∙ map-append named (take i all) (b ∷ [])

-- the variables of the first of them, and of one more; then the number of a scope is taken
pub blocks_step : (env : Env) (a b c d : Signalling) (all : List NamedBlock) (i : ℕ) (x : NamedBlock) (n : ℕ) → i < length all → x ≡ get_or all i x → IsSignedBlocks a b env (map named (take i all)) → IsSigned b c (of_block env (local_start b.next) (named x))
    → d.signals.items ≡ c.signals.items → local_start d.next ≡ record (local_start c.next) { scope = n } → n ≡ (local_start c.next).scope + 1 → d.fault ≡ c.fault → IsSignedBlocks a d env (map named (take (i + 1) all))
blocks_step env a b c d all i x n h e before one same next number fault =
    let start = local_start b.next in
    let kept = ap (λ (s : functions.Start). s.scope) one.next ∙ scope_kept start (of_block env start (named x)) in
    let step : local_start d.next ≡ record (local_start c.next) { scope = suc (local_start c.next).scope } =
    next ∙ ap (λ (k : ℕ). (let s : functions.Start = record (local_start c.next) { scope = k } in s)) (number ∙ add-one (local_start c.next).scope) in
    subst (λ (bs : List spec.NamedBlock). IsSignedBlocks a d env bs) (sym (first_blocks all i x h e)) (blocks_more env a b c d (map named (take i all)) (named x) before one same step kept fault)

pub blocks_end : (env : Env) (a b : Signalling) (all : List NamedBlock) (i : ℕ) → length all ≤ i → IsSignedBlocks a b env (map named (take i all)) → IsSignedBlocks a b env (map named all)
blocks_end env a b all i h before = subst (λ (bs : List NamedBlock). IsSignedBlocks a b env (map named bs)) (take_all i all h) before

-- ---- counts

abbrev bits_of : List functions.LocalSignal → ℕ
bits_of ss = sum_by (λ (s : functions.LocalSignal). signal_length s.meaning.signal) ss

signal_behind : (start : functions.Start) (ss : List functions.LocalSignal) → (functions.behind_all start ss).signal ≡ start.signal + length ss
signal_behind start [] = omega arith
signal_behind start (s ∷ ss) = signal_behind (functions.behind start s) ss ∙ omega arith

bit_behind : (start : functions.Start) (ss : List functions.LocalSignal) → (functions.behind_all start ss).bit ≡ start.bit + bits_of ss
bit_behind start [] = omega arith
bit_behind start (s ∷ ss) =
    let e = sum_by-cons (λ (x : functions.LocalSignal). signal_length x.meaning.signal) s ss in
    let r = bit_behind (functions.behind start s) ss in
    omega (arith, e, r)

pub scopes_are : (env : Env) (start : functions.Start) (bs : List spec.NamedBlock) → (behind_blocks env start bs).scope ≡ start.scope + length bs
scopes_are env start [] = omega arith
scopes_are env start (b ∷ bs) = scopes_are env (next env start b) bs ∙ omega arith

pub signals_are : (env : Env) (start : functions.Start) (bs : List spec.NamedBlock) → (behind_blocks env start bs).signal ≡ start.signal + length (spec.named_signals env start bs)
signals_are env start [] = omega arith
signals_are env start (b ∷ bs) =
    let a = signals_are env (next env start b) bs in
    let c = signal_behind start (of_block env start b) in
    let d = length-append (of_block env start b) (spec.named_signals env (next env start b) bs) in
    omega (arith, a, c, d)

pub bits_are : (env : Env) (start : functions.Start) (bs : List spec.NamedBlock) → (behind_blocks env start bs).bit ≡ start.bit + bits_of (spec.named_signals env start bs)
bits_are env start [] = omega arith
bits_are env start (b ∷ bs) =
    let a = bits_are env (next env start b) bs in
    let c = bit_behind start (of_block env start b) in
    let d = sum_by-append (λ (x : functions.LocalSignal). signal_length x.meaning.signal) (of_block env start b) (spec.named_signals env (next env start b) bs) in
    omega (arith, a, c, d)

-- ---- bits

pub over_is : (most total : ℕ) (ss : List functions.LocalSignal) → over most total (map placed_local_of ss) ≡ variables_over most total ss
over_is most total [] = refl
over_is most total (s ∷ ss) =
    let sum = total + (if s.meaning.known then signal_length s.meaning.signal else 0) in
    ap (λ (r : List Fault). if nat_lt most sum then fault TooManyBits s.place else r) (over_is most sum ss)

-- ---- a block with variables, or without

no_local : (vs : List Local) → length vs ≡ 0 → map local vs ≡ []
no_local [] h = refl
no_local (v ∷ vs) h = absurd (let no : ⊥ = omega (arith, h) in no)

pub none_pushed : (list : List NamedBlock) (scope : tree.BlockScope) (parts : tree.Statements) (outer : Option ℕ) (vs : List Local) → length vs ≡ 0 → map named list ≡ map named list ++ spec.block_with scope parts outer (map local vs)
none_pushed list scope parts outer vs h = sym (ap (λ xs. map named list ++ spec.block_with scope parts outer xs) (no_local vs h) ∙ append-nil (map named list))

pub none_within : (scope : tree.BlockScope) (parts : tree.Statements) (outer : Option ℕ) (next : ℕ) (vs : List Local) → length vs ≡ 0 → outer ≡ spec.outer_within (spec.block_with scope parts outer (map local vs)) outer next
none_within scope parts outer next vs h = sym (ap (λ xs. spec.outer_within (spec.block_with scope parts outer xs) outer next) (no_local vs h))

abbrev one_with : tree.BlockScope → tree.Statements → (outer : Option ℕ) → List Local → spec.NamedBlock
one_with scope parts outer vs = record { name = scope.name; outer = outer; locals = scope_locals (Some scope); variables = map local vs; parts = parts }

some_with : (scope : tree.BlockScope) (parts : tree.Statements) (outer : Option ℕ) (vs : List Local) → (length vs ≡ 0 → ⊥) → spec.block_with scope parts outer (map local vs) ≡ one_with scope parts outer vs ∷ []
some_with scope parts outer [] h = absurd (h refl)
some_with scope parts outer (v ∷ vs) h = refl

pub one_pushed : (list new : List NamedBlock) (b : NamedBlock) (scope : tree.BlockScope) (parts : tree.Statements) (outer : Option ℕ) (vs : List Local) → (length vs ≡ 0 → ⊥) → new ≡ list ++ b ∷ [] → named b ≡ one_with scope parts outer vs
    → map named new ≡ map named list ++ spec.block_with scope parts outer (map local vs)
one_pushed list new b scope parts outer vs h e k = ap (map named) e ∙ map-append named list (b ∷ []) ∙ ap (λ x. map named list ++ x ∷ []) k ∙ ap (λ xs. map named list ++ xs) (sym (some_with scope parts outer vs h))

pub one_within : (scope : tree.BlockScope) (parts : tree.Statements) (outer : Option ℕ) (next n : ℕ) (vs : List Local) → (length vs ≡ 0 → ⊥) → n ≡ next → Some n ≡ spec.outer_within (spec.block_with scope parts outer (map local vs)) outer next
one_within scope parts outer next n vs h e = ap Some e ∙ sym (ap (λ bs. spec.outer_within bs outer next) (some_with scope parts outer vs h))
