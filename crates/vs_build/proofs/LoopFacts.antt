-- Loops without a fault: copies of their statements, one for each turn (IEEE 1364-2005, 9.6).
use Rattle.std.proofs.Common.{◌≡◌, ℕ, zero, suc, ◌+◌, ◌<◌, ◌≤◌, Bool, true, false, List, [], ◌∷◌, ◌++◌, length, if◌then◌else◌, Option, Some, None, max, Result, OnOk, refl, sym, ap, ◌∙◌, subst, arith, append_assoc, length-append}
use Rattle.vs_four.specs.Logic.{BitList}
use Rattle.vs_design.specs.Statements as T
use Rattle.vs_design.specs.Designs.{Design}
use Rattle.vs_design.specs.Clocks.{same_name}
use Rattle.vs_grammar.specs.Trees as tree
use Rattle.vs_grammar.specs.Shapes.{IsHead}
use Rattle.vs_grammar.specs.Depths.{head_depth, statement_depth}
use Rattle.vs_const.specs.declared.faults.Fault.{Fault}
use Rattle.vs_const.specs.declared.rules.Rule.TheVariants.{LoopTurns}
use Rattle.vs_const.specs.Faults.{fault}
use Rattle.vs_const.specs.Meanings.{Find, turn_value, turning}
use Rattle.vs_const.specs.Sound.{IsSound, AreSound}
use Rattle.vs_const.specs.Typed.{Typed}
use Rattle.vs_const.specs.Expressions.{constant, is_clean}
use Rattle.vs_const.proofs.Formed.{both_nil}
use Rattle.vs_flat.specs.Trees.{sequence}
use Rattle.vs_elaborated.specs.Numbers.{IsNumbered, AreNumbered}
use Rattle.vs_elaborated.specs.Statements.{Body as Within, TypedStatement, typed_statement, nothing_done, not_there, in_block, given, goes_on, and_turn, turns, most_turns, variable_faults, second_faults, as_copies, loop_turns}
use Rattle.vs_build.specs.Drafts.{Draft, AddsStatement, Adds, EndsInParts}
use Rattle.vs_build.specs.Executable.{IsExecutable, IsNext, copies}
use Rattle.vs_build.proofs.Executed.{adds_none, adds_both, adds_these, adds_at_most, one_statement, ends_in_parts}
use Rattle.vs_build.proofs.Lists.{fair_of}

-- ---- the turns are a sequence

sequence_more : (s : T.Statement) (ss : List T.Statement) (x : T.Statement) → sequence (s ∷ (ss ++ x ∷ [])) ≡ T.Then s (sequence (ss ++ x ∷ []))
sequence_more s [] x = refl
sequence_more s (t ∷ ts) x = refl

pub turns_are : (left : ℕ) (copy : Find → TypedStatement) (head : tree.LoopHead) (find : Find) (v : Option BitList) → (turns left copy head find v).statement ≡ sequence (copies left copy head find v ++ T.Empty ∷ [])
turns_are zero copy head find None = refl
turns_are (suc left) copy head find None = refl
turns_are zero copy head find (Some bits) = refl
turns_are (suc left) copy head find (Some bits) = of (goes_on test) (turns_are left copy head find (given (constant head.next (turning find head.variable.bytes bits))))
  where
    inner : Find
    inner = turning find head.variable.bytes bits

    test : Typed
    test = constant head.test inner

    next : Typed
    next = constant head.next inner

    of : (b : Bool) → (turns left copy head find (given next)).statement ≡ sequence (copies left copy head find (given next) ++ T.Empty ∷ [])
        → (elim b as (λ x. TypedStatement) [ true ↦ and_turn (test.faults ++ next.faults) (copy inner) (turns left copy head find (given next)) | false ↦ not_there test.faults ]).statement
        ≡ sequence ((if b then ((copy inner).statement ∷ copies left copy head find (given next)) else []) ++ T.Empty ∷ [])
    of true e = ap (λ t. T.Then (copy inner).statement t) e ∙ sym (sequence_more (copy inner).statement (copies left copy head find (given next)) T.Empty)
    of false e = refl

-- there is none behind the last one
pub copies_none : (left : ℕ) (copy : Find → TypedStatement) (head : tree.LoopHead) (find : Find) → copies left copy head find None ≡ []
copies_none zero copy head find = refl
copies_none (suc left) copy head find = refl

pub copies_over : (left : ℕ) (copy : Find → TypedStatement) (head : tree.LoopHead) (find : Find) (v : Option BitList) → left ≡ 0 → copies left copy head find v ≡ []
copies_over zero copy head find None e = refl
copies_over zero copy head find (Some bits) e = refl
copies_over (suc left) copy head find v e = cc

pub copies_stop : (left : ℕ) (copy : Find → TypedStatement) (head : tree.LoopHead) (find : Find) (bits : BitList) → goes_on (constant head.test (turning find head.variable.bytes bits)) ≡ false → copies left copy head find (Some bits) ≡ []
copies_stop zero copy head find bits e = refl
copies_stop (suc left) copy head find bits e =
    let inner = turning find head.variable.bytes bits in
    ap (λ b. if b then ((copy inner).statement ∷ copies left copy head find (given (constant head.next inner))) else []) e

copies_step : (left : ℕ) (copy : Find → TypedStatement) (head : tree.LoopHead) (find : Find) (bits : BitList) → goes_on (constant head.test (turning find head.variable.bytes bits)) ≡ true
    → copies (suc left) copy head find (Some bits) ≡ (copy (turning find head.variable.bytes bits)).statement ∷ copies left copy head find (given (constant head.next (turning find head.variable.bytes bits)))
copies_step left copy head find bits e =
    let inner = turning find head.variable.bytes bits in
    ap (λ b. if b then ((copy inner).statement ∷ copies left copy head find (given (constant head.next inner))) else []) e

-- ---- a loop

pub record IsLoop (around : Within) (find : Find) (head : tree.LoopHead) (body : tree.Statement) : Type 0 where
  pub head_is : IsHead head
  pub statement : (typed_statement (tree.For head body) around find).statement ≡ (turns 4096 (λ inner. typed_statement body around inner) head find (given (constant head.first find))).statement
  pub clean : (turns 4096 (λ inner. typed_statement body around inner) head find (given (constant head.first find))).faults ≡ []

not_false : true ≡ false → ⊥
not_false e = cc

pub loop_is : (d : Design) (around : Within) (find : Find) (head : tree.LoopHead) (body : tree.Statement) → IsExecutable d around find (tree.For head body) → IsLoop around find head body
loop_is d around find head body x = let n = of (is_clean fs) refl x.clean in record { head_is = x.shaped.0; statement = n.0; clean = n.1 }
  where
    copy : Find → TypedStatement
    copy = λ inner. typed_statement body around inner

    fs : List Fault
    fs = variable_faults head.variable.place (find head.variable.bytes) ++ second_faults head find

    first : Typed
    first = constant head.first find

    all : TypedStatement
    all = turns most_turns copy head find (given first)

    turned : loop_turns around copy head find first ≡ as_copies all
    turned = ap (λ (u : Bool). if u then as_copies all else nothing_done (fault LoopTurns head.place)) x.around.unrolls

    of : (c : Bool) → is_clean fs ≡ c → (if c then in_block first.faults (loop_turns around copy head find first) else nothing_done fs).faults ≡ []
        → ((if c then in_block first.faults (loop_turns around copy head find first) else nothing_done fs).statement ≡ all.statement) × (all.faults ≡ [])
    of true e h = (ap (λ (t : TypedStatement). t.statement) turned, sym (ap (λ (t : TypedStatement). t.faults) turned) ∙ (both_nil first.faults (loop_turns around copy head find first).faults h).1)
    of false e h = absurd (not_false (sym (ap is_clean h) ∙ e))

-- ---- what names mean in a turn

turn_sound : (d : Design) (find : Find) (integer : List ℕ) (bits : BitList) → length bits ≡ 32 → AreSound d false find → AreSound d false (turning find integer bits)
turn_sound d find integer bits e s = λ name. of name (same_name integer name)
  where
    of : (name : List ℕ) (b : Bool) → IsSound d false (if b then turn_value bits else find name)
    of name true = (record { some = omega (arith, e); most = omega (arith, e); range = sym e }, refl)
    of name false = s name

turn_numbered : (d : Design) (find : Find) (integer : List ℕ) (bits : BitList) → AreNumbered d find → AreNumbered d (turning find integer bits)
turn_numbered d find integer bits n = λ name. of name (same_name integer name)
  where
    of : (name : List ℕ) (b : Bool) → IsNumbered d (if b then turn_value bits else find name)
    of name true = tt
    of name false = n name

pub turn_fair : (d : Design) (around : Within) (find : Find) (head : tree.LoopHead) (body : tree.Statement) (bits : BitList) → length bits ≡ 32 → IsExecutable d around find (tree.For head body) → IsNext head (turning find head.variable.bytes bits)
turn_fair d around find head body bits e x = record { shaped = x.shaped.0.next; fair = fair_of d false (turning find head.variable.bytes bits) (turn_sound d find head.variable.bytes bits e x.sound) }

-- ---- a turn

-- where the loop goes on
turn_clean : (left : ℕ) (copy : Find → TypedStatement) (head : tree.LoopHead) (find : Find) (bits : BitList) → goes_on (constant head.test (turning find head.variable.bytes bits)) ≡ true → (turns (suc left) copy head find (Some bits)).faults ≡ []
    → ((copy (turning find head.variable.bytes bits)).faults ≡ []) × ((turns left copy head find (given (constant head.next (turning find head.variable.bytes bits)))).faults ≡ [])
turn_clean left copy head find bits e h = of (goes_on test) e h
  where
    inner : Find
    inner = turning find head.variable.bytes bits

    test : Typed
    test = constant head.test inner

    next : Typed
    next = constant head.next inner

    rest : TypedStatement
    rest = turns left copy head find (given next)

    of : (b : Bool) → b ≡ true → (elim b as (λ x. TypedStatement) [ true ↦ and_turn (test.faults ++ next.faults) (copy inner) rest | false ↦ not_there test.faults ]).faults ≡ [] → ((copy inner).faults ≡ []) × (rest.faults ≡ [])
    of true q k = both_nil (copy inner).faults rest.faults (both_nil (test.faults ++ next.faults) ((copy inner).faults ++ rest.faults) k).1
    of false q k = cc

-- ---- turn after turn

pub record TurnsBuilt (copy : Find → TypedStatement) (head : tree.LoopHead) (find : Find) (first : Option BitList) (s v : Draft) (m count : ℕ) (value : Option BitList) : Type 0 where
  pub left : ℕ
  pub all : count + left ≡ 4096
  pub made : List T.Statement
  pub many : length made ≡ count
  pub adds : Adds s v [] made m
  pub are : copies 4096 copy head find first ≡ made ++ copies left copy head find value
  pub clean : (turns left copy head find value).faults ≡ []

pub no_turn : (copy : Find → TypedStatement) (head : tree.LoopHead) (find : Find) (first : Option BitList) (s : Draft) (m : ℕ) (value : Option BitList) → value ≡ first → (turns 4096 copy head find first).faults ≡ [] → TurnsBuilt copy head find first s s m 0 value
no_turn copy head find first s m value e h = record {
  left = 4096;
  all = omega arith;
  made = [];
  many = refl;
  adds = adds_none s m;
  are = ap (copies 4096 copy head find) (sym e);
  clean = ap (λ v. (turns 4096 copy head find v).faults) e ∙ h;
}

-- where it goes on the copy can be built
pub turn_copy : (d : Design) (around : Within) (find : Find) (head : tree.LoopHead) (body : tree.Statement) (first : Option BitList) (s v : Draft) (m count : ℕ) (bits : BitList) → length bits ≡ 32 → IsExecutable d around find (tree.For head body)
    → count < 4096 → goes_on (constant head.test (turning find head.variable.bytes bits)) ≡ true → TurnsBuilt (λ inner. typed_statement body around inner) head find first s v m count (Some bits)
    → IsExecutable d around (turning find head.variable.bytes bits) body
turn_copy d around find head body first s v m count bits e x lt go b = of b.left b.all b.clean
  where
    of : (left : ℕ) → count + left ≡ 4096 → (turns left (λ inner. typed_statement body around inner) head find (Some bits)).faults ≡ [] → IsExecutable d around (turning find head.variable.bytes bits) body
    of zero q h = absurd (let no : ⊥ = omega (arith, q, lt) in no)
    of (suc left) q h = record {
      shaped = x.shaped.1;
      around = x.around;
      sound = turn_sound d find head.variable.bytes bits e x.sound;
      numbered = turn_numbered d find head.variable.bytes bits x.numbered;
      clean = (turn_clean left (λ inner. typed_statement body around inner) head find bits go h).0;
      shallow = omega (arith, x.shallow);
    }

pub one_turn : (copy : Find → TypedStatement) (head : tree.LoopHead) (find : Find) (first : Option BitList) (s v w : Draft) (m k count : ℕ) (bits : BitList) (next : Option BitList) → count < 4096 → goes_on (constant head.test (turning find head.variable.bytes bits)) ≡ true
    → TurnsBuilt copy head find first s v m count (Some bits) → AddsStatement v w (copy (turning find head.variable.bytes bits)).statement k → k ≤ m → next ≡ given (constant head.next (turning find head.variable.bytes bits))
    → TurnsBuilt copy head find first s w m (count + 1) next
one_turn copy head find first s v w m k count bits next lt go b a le e = of b.left b.all b.are b.clean
  where
    inner : Find
    inner = turning find head.variable.bytes bits

    x : T.Statement
    x = (copy inner).statement

    of : (left : ℕ) → count + left ≡ 4096 → copies 4096 copy head find first ≡ b.made ++ copies left copy head find (Some bits) → (turns left copy head find (Some bits)).faults ≡ [] → TurnsBuilt copy head find first s w m (count + 1) next
    of zero q r h = absurd (let no : ⊥ = omega (arith, q, lt) in no)
    of (suc left) q r h = record {
      left = left;
      all = omega (arith, q);
      made = b.made ++ x ∷ [];
      many = length-append b.made (x ∷ []) ∙ ap (λ n. n + 1) b.many;
      adds = adds_both s v w [] [] b.made (x ∷ []) m k m b.adds (one_statement v w x k a) (omega arith) le;
      are =
          r ∙ ap (λ xs. b.made ++ xs) (copies_step left copy head find bits go) ∙ sym (append_assoc b.made (x ∷ []) (copies left copy head find (given (constant head.next inner))))
          ∙ ap (λ o. (b.made ++ x ∷ []) ++ copies left copy head find o) (sym e);
      clean = ap (λ o. (turns left copy head find o).faults) e ∙ (turn_clean left copy head find bits go h).1;
    }

none_more : {A : Type 0} (xs : List A) → xs ++ [] ≡ xs
none_more [] = refl
none_more (x ∷ xs) = ap (λ ys. x ∷ ys) (none_more xs)

-- behind the last one
pub built : (copy : Find → TypedStatement) (head : tree.LoopHead) (find : Find) (first : Option BitList) (s v : Draft) (m count : ℕ) (value : Option BitList) (b : TurnsBuilt copy head find first s v m count value) → copies b.left copy head find value ≡ []
    → copies 4096 copy head find first ≡ b.made
built copy head find first s v m count value b e = b.are ∙ ap (λ xs. b.made ++ xs) e ∙ none_more b.made

pub built_adds : (copy : Find → TypedStatement) (head : tree.LoopHead) (find : Find) (first : Option BitList) (s v : Draft) (m count : ℕ) (value : Option BitList) (b : TurnsBuilt copy head find first s v m count value) → copies b.left copy head find value ≡ []
    → Adds s v [] (copies 4096 copy head find first) m
built_adds copy head find first s v m count value b e = adds_these s v [] [] b.made (copies 4096 copy head find first) m refl (sym (built copy head find first s v m count value b e)) b.adds

pub built_count : (copy : Find → TypedStatement) (head : tree.LoopHead) (find : Find) (first : Option BitList) (s v : Draft) (m count : ℕ) (value : Option BitList) (b : TurnsBuilt copy head find first s v m count value) → copies b.left copy head find value ≡ []
    → count ≡ length (copies 4096 copy head find first)
built_count copy head find first s v m count value b e = sym (ap length (built copy head find first s v m count value b e) ∙ b.many)

-- how many they are at most
pub copies_most : (left : ℕ) (copy : Find → TypedStatement) (head : tree.LoopHead) (find : Find) (v : Option BitList) → length (copies left copy head find v) ≤ left
copies_most zero copy head find None = omega arith
copies_most (suc left) copy head find None = omega arith
copies_most zero copy head find (Some bits) = omega arith
copies_most (suc left) copy head find (Some bits) = of (goes_on (constant head.test inner)) (copies_most left copy head find (given (constant head.next (turning find head.variable.bytes bits))))
  where
    inner : Find
    inner = turning find head.variable.bytes bits

    next : Option BitList
    next = given (constant head.next inner)

    of : (b : Bool) → length (copies left copy head find next) ≤ left → length (if b then ((copy inner).statement ∷ copies left copy head find next) else []) ≤ suc left
    of true le = omega (arith, le)
    of false le = omega arith

-- ---- the whole loop

-- its copies, and nothing behind them
pub loop_built : (s v w : Draft) (ss : List T.Statement) (m : ℕ) → Adds s v [] ss m → 1 ≤ m → AddsStatement v w T.Empty 1 → Adds s w [] (ss ++ T.Empty ∷ []) m
loop_built s v w ss m h le g = adds_both s v w [] [] ss (T.Empty ∷ []) m 1 m h (one_statement v w T.Empty 1 g) (omega arith) le

pub loop_ends : (s v w : Draft) (ss : List T.Statement) (m n : ℕ) → Adds s v [] ss m → 1 ≤ m → m ≤ 255 → AddsStatement v w T.Empty 1 → n ≡ length ss → EndsInParts 0 (n + 1) w
loop_ends s v w ss m n h some most g e = ends_in_parts s w [] (ss ++ T.Empty ∷ []) m 0 (n + 1) (loop_built s v w ss m h some g) most refl (length-append ss (T.Empty ∷ []) ∙ ap (λ k. k + 1) (sym e))

pub loop_arm : {U F : Type 0} (r : Result U F) (s v w new : Draft) (around : Within) (find : Find) (head : tree.LoopHead) (body : tree.Statement) (n : ℕ) → IsLoop around find head body
    → Adds s v [] (copies 4096 (λ inner. typed_statement body around inner) head find (given (constant head.first find))) (1 + statement_depth body) → AddsStatement v w T.Empty 1
    → n ≡ length (copies 4096 (λ inner. typed_statement body around inner) head find (given (constant head.first find)))
    → ((q : Draft) (ss : List T.Statement) (m : ℕ) → Adds q w [] ss m → length ss ≡ n + 1 → OnOk r (AddsStatement q new (sequence ss) (1 + m)))
    → OnOk r (AddsStatement s new (typed_statement (tree.For head body) around find).statement (1 + statement_depth (tree.For head body)))
loop_arm r s v w new around find head body n l h g e f =
    let copy : Find → TypedStatement = λ inner. typed_statement body around inner in
    let ss = copies 4096 copy head find (given (constant head.first find)) in
    let m = 1 + max (head_depth head) (statement_depth body) in
    let all = loop_built s v w ss m (adds_at_most s v [] ss (1 + statement_depth body) m h (omega arith)) (omega arith) g in
    let made = f s (ss ++ T.Empty ∷ []) m all (length-append ss (T.Empty ∷ []) ∙ ap (λ k. k + 1) (sym e)) in
    subst (λ t. OnOk r (AddsStatement s new t (1 + m))) (sym (turns_are 4096 copy head find (given (constant head.first find))) ∙ sym l.statement) made
