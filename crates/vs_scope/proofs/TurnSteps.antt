-- The turns of a loop, one after the other.
use Rattle.std.proofs.Common.{◌≡◌, ℕ, zero, suc, ◌+◌, ◌-◌, ◌<◌, ◌==◌, Bool, true, false, ◌||◌, List, [], ◌∷◌, ◌++◌, length, nat_lt, nat_le, Option, Some, None, if◌then◌else◌, refl, sym, ap, ◌∙◌, subst, append_assoc, arith, length-append}
use Rattle.std.specs.List.{list_any}
use Rattle.std.proofs.lemmas.Bool.{eqb-true}
use Rattle.vs_grammar.specs.Trees.{LoopHead}
use Rattle.vs_const.specs.declared.faults.Fault.{Fault}
use Rattle.vs_const.specs.Faults.{fault, least, better}
use Rattle.vs_const.specs.declared.rules.Rule.TheVariants.{DuplicateName, GenerateTurns}
use Rattle.vs_const.specs.Typed.{Numbered, Natural}
use Rattle.vs_const.specs.Expressions.{number}
use Rattle.vs_elaborated.specs.Limits.{the_limits}
use Rattle.vs_elaborated.specs.Environments.{Env, with_turn, named}
use Rattle.vs_elaborated.specs.Loops.{holds, step, Turns, no_turn, and_turn, turns_from}
use Rattle.vs_scope.specs.declared.turns.Turned.{Turned as TurnedOf}
use Rattle.vs_scope.specs.SoFar.{IsFirstSoFar}
use Rattle.vs_scope.specs.Turns.{Turned, ended, taken_turn, turned, IsTurned}
use Rattle.vs_scope.proofs.Steps.{append_none}
use Rattle.vs_scope.proofs.SoFar.{so_far_start, so_far_more, so_far_end}

-- one value, and what follows
abbrev pub after_turn : Turned → (v : ℕ) → (ℕ → Turns) → Turns
after_turn t v rest = elim t.taken [ false ↦ no_turn t.faults t.count | true ↦ and_turn v t.faults (elim t.next [ None ↦ no_turn [] t.count | Some u ↦ rest u ]) ]

-- what is left of a loop, by its next value
abbrev pub rest_of : (left : ℕ) → LoopHead → Bool → (genvar : ℕ) → Env → (seen : List ℕ) → (total : ℕ) → Option ℕ → Turns
rest_of left head is_same genvar env seen total None = no_turn [] total
rest_of left head is_same genvar env seen total (Some u) = turns_from (suc left) the_limits head is_same genvar env seen total u

module _ (head : LoopHead) (is_same : Bool) (genvar : ℕ) (env : Env) where
  abbrev pub inside : ℕ → Env
  inside v = with_turn env (record { genvar = genvar; value = v })

  turns_step : (left : ℕ) (seen : List ℕ) (total v : ℕ)
      → turns_from (suc left) the_limits head is_same genvar env seen total v
      ≡ after_turn (turned (list_any (λ u. u == v) seen) (left == 0) head is_same (inside v) total) v (λ u. turns_from left the_limits head is_same genvar env (v ∷ seen) (total + 1) u)
  turns_step left seen total v = by (list_any (λ u. u == v) seen) (holds test.number) ((left == 0) || nat_lt the_limits.all_turns (total + 1))
    where
      test : Numbered
      test = number head.test (named (inside v))

      next : Natural
      next = step is_same head (inside v)

      by : (a h l : Bool)
          → (elim a as (λ x. Turns) [
            | true ↦ no_turn (fault DuplicateName head.place) total
            | false ↦ elim h as (λ x. Turns) [
              | false ↦ no_turn test.faults total
              | true ↦ elim l as (λ x. Turns) [
                | true ↦ no_turn (test.faults ++ fault GenerateTurns head.place) (total + 1)
                | false ↦ and_turn v (test.faults ++ next.faults) (elim next.number as (λ x. Turns) [ None ↦ no_turn [] (total + 1) | Some u ↦ turns_from left the_limits head is_same genvar env (v ∷ seen) (total + 1) u ])
              ]
            ]
          ])
          ≡ after_turn (elim a as (λ x. Turned) [
            | true ↦ ended (fault DuplicateName head.place) total
            | false ↦ elim h as (λ x. Turned) [
              | false ↦ ended test.faults total
              | true ↦ elim l as (λ x. Turned) [
                | true ↦ ended (test.faults ++ fault GenerateTurns head.place) (total + 1)
                | false ↦ record { taken = true; next = next.number; faults = test.faults ++ next.faults; count = total + 1 }
              ]
            ]
          ]) v (λ u. turns_from left the_limits head is_same genvar env (v ∷ seen) (total + 1) u)
      by true h l = refl
      by false false l = refl
      by false true true = refl
      by false true false = refl

-- what a turn that isn't taken, and one that is, tell
pub record Tells (again is_last : Bool) (total : ℕ) (t : Turned) : Type 0 where
  pub none : t.taken ≡ false → t.next ≡ None
  pub room : t.taken ≡ true → is_last ≡ false
  pub count : t.taken ≡ true → t.count ≡ total + 1

turned_tells : (again is_last : Bool) (head : LoopHead) (is_same : Bool) (seen_there : Env) (total : ℕ) → Tells again is_last total (turned again is_last head is_same seen_there total)
turned_tells again is_last head is_same seen_there total = by again (holds (number head.test (named seen_there)).number) is_last (nat_lt the_limits.all_turns (total + 1))
  where
    test : Numbered
    test = number head.test (named seen_there)

    next : Natural
    next = step is_same head seen_there

    by : (a h l o : Bool)
        → Tells a l total (elim a as (λ x. Turned) [
          | true ↦ ended (fault DuplicateName head.place) total
          | false ↦ elim h as (λ x. Turned) [
            | false ↦ ended test.faults total
            | true ↦ elim (l || o) as (λ x. Turned) [
              | true ↦ ended (test.faults ++ fault GenerateTurns head.place) (total + 1)
              | false ↦ record { taken = true; next = next.number; faults = test.faults ++ next.faults; count = total + 1 }
            ]
          ]
        ])
    by true h l o = record { none = λ e. refl; room = λ e. cc; count = λ e. cc }
    by false false l o = record { none = λ e. refl; room = λ e. cc; count = λ e. cc }
    by false true true o = record { none = λ e. refl; room = λ e. cc; count = λ e. cc }
    by false true false true = record { none = λ e. refl; room = λ e. cc; count = λ e. cc }
    by false true false false = record { none = λ e. cc; room = λ e. refl; count = λ e. refl }

-- the values so far, and those that a set has seen
pub record IsTurning (head : LoopHead) (is_same : Bool) (genvar : ℕ) (env : Env) (all : Turns) (values keys : List ℕ) (found : Option Fault) (count : ℕ) (next : Option ℕ) : Type 0 where
  pub left : ℕ
  pub seen : List ℕ
  pub room : left + length values ≡ 4096
  pub same : (u : ℕ) → list_any (λ x. u == x) keys ≡ list_any (λ x. x == u) seen
  pub values_are : values ++ (rest_of left head is_same genvar env seen count next).values ≡ all.values
  pub first : IsFirstSoFar found (rest_of left head is_same genvar env seen count next).faults all.faults
  pub count_is : (rest_of left head is_same genvar env seen count next).count ≡ all.count

swap_or : (a b c : Bool) → (b || (a || c)) ≡ (a || (b || c))
swap_or true true c = refl
swap_or true false c = refl
swap_or false true c = refl
swap_or false false c = refl

eq_swap : (m n : ℕ) → (m == n) ≡ (n == m)
eq_swap m n = grind arith

any_behind : (u v : ℕ) (keys : List ℕ) → list_any (λ x. u == x) (keys ++ v ∷ []) ≡ ((v == u) || list_any (λ x. u == x) keys)
any_behind u v [] = ap (λ (b : Bool). b || false) (eq_swap u v)
any_behind u v (x ∷ xs) = ap (λ (b : Bool). (u == x) || b) (any_behind u v xs) ∙ swap_or (v == u) (u == x) (list_any (λ x. u == x) xs)

-- one key more, if it is new
pub key_more : (u v : ℕ) (keys : List ℕ) → list_any (λ x. u == x) (if list_any (λ x. v == x) keys then keys else keys ++ v ∷ []) ≡ ((v == u) || list_any (λ x. u == x) keys)
key_more u v keys = by (list_any (λ x. v == x) keys) refl
  where
    there : (b : Bool) → (v == u) ≡ b → list_any (λ x. v == x) keys ≡ true → list_any (λ x. u == x) keys ≡ (b || list_any (λ x. u == x) keys)
    there true e h = subst (λ (w : ℕ). list_any (λ x. w == x) keys ≡ true) (eqb-true v u e) h
    there false e h = refl

    by : (b : Bool) → list_any (λ x. v == x) keys ≡ b → list_any (λ x. u == x) (if b then keys else keys ++ v ∷ []) ≡ ((v == u) || list_any (λ x. u == x) keys)
    by true h = there (v == u) refl h
    by false h = any_behind u v keys

zero_is : (left n : ℕ) → left + n ≡ 4096 → nat_le 4096 n ≡ (left == 0)
zero_is left n h = grind arith

not_zero : (left : ℕ) → (left == 0) ≡ false → (l : ℕ) × (left ≡ suc l)
not_zero zero h = cc
not_zero (suc l) h = (l, refl)

-- the turns that a loop may still take
abbrev pub turns_left : ℕ → Option ℕ → ℕ
turns_left n None = 0
turns_left n (Some v) = 1 + (4096 - n)

-- a turn that is followed by another one was taken, so one fewer is left
pub turn_falls : (values new : List ℕ) (v : ℕ) (c : TurnedOf) (again is_last : Bool) (head : LoopHead) (is_same : Bool) (seen_there : Env) (total : ℕ) → is_last ≡ nat_le 4096 (length values)
    → IsTurned c (turned again is_last head is_same seen_there total) → new ≡ (if c.taken then values ++ v ∷ [] else values) → turns_left (length new) c.next < 1 + (4096 - length values)
turn_falls values new v c again is_last head is_same seen_there total l ct vs = by t.taken refl
  where
    t : Turned
    t = turned again is_last head is_same seen_there total

    tells : Tells again is_last total t
    tells = turned_tells again is_last head is_same seen_there total

    under : (n : ℕ) → nat_le 4096 n ≡ false → n < 4096
    under n h = grind arith

    fewer : (n m : ℕ) (o : Option ℕ) → n < 4096 → m ≡ n + 1 → turns_left m o < 1 + (4096 - n)
    fewer n m None h k = omega arith
    fewer n m (Some u) h k = omega arith

    by : (b : Bool) → t.taken ≡ b → turns_left (length new) c.next < 1 + (4096 - length values)
    by false h = subst (λ (o : Option ℕ). turns_left (length new) o < 1 + (4096 - length values)) (sym (ct.next ∙ tells.none h)) (omega arith)
    by true h =
        let kept : new ≡ values ++ v ∷ [] = vs ∙ ap (λ (b : Bool). if b then values ++ v ∷ [] else values) (ct.taken ∙ h) in
        fewer (length values) (length new) c.next (under (length values) (sym l ∙ tells.room h)) (ap length kept ∙ length-append values (v ∷ []))

module _ (head : LoopHead) (is_same : Bool) (genvar : ℕ) (env : Env) (total first : ℕ) where
  abbrev pub whole : Turns
  whole = turns_from (suc 4096) the_limits head is_same genvar env [] total first

  pub turning_start : IsTurning head is_same genvar env whole [] [] None total (Some first)
  turning_start = record { left = 4096; seen = []; room = refl; same = λ u. refl; values_are = refl; first = so_far_start whole.faults; count_is = refl }

module _ (head : LoopHead) (is_same : Bool) (genvar : ℕ) (env : Env) (all : Turns) where
  abbrev rest_at : (left : ℕ) → List ℕ → ℕ → Option ℕ → Turns
  rest_at left seen count next = rest_of left head is_same genvar env seen count next

  pub turning_more : (values keys new_values new_keys : List ℕ) (found sum : Option Fault) (count v : ℕ) (c : TurnedOf) (again is_last : Bool)
      → IsTurning head is_same genvar env all values keys found count (Some v)
      → again ≡ list_any (λ x. v == x) keys → is_last ≡ nat_le 4096 (length values)
      → IsTurned c (turned again is_last head is_same (inside head is_same genvar env v) count)
      → new_values ≡ (if c.taken then values ++ v ∷ [] else values) → new_keys ≡ (if list_any (λ x. v == x) keys then keys else keys ++ v ∷ []) → sum ≡ better found c.fault
      → IsTurning head is_same genvar env all new_values new_keys sum c.count c.next
  turning_more values keys new_values new_keys found sum count v c again is_last before a l ct vs ks s = by t.taken refl
    where
      t : Turned
      t = turned again is_last head is_same (inside head is_same genvar env v) count

      tells : Tells again is_last count t
      tells = turned_tells again is_last head is_same (inside head is_same genvar env v) count

      left : ℕ
      left = before.left

      seen : List ℕ
      seen = v ∷ before.seen

      same : (u : ℕ) → list_any (λ x. u == x) new_keys ≡ list_any (λ x. x == u) seen
      same u = ap (λ (k : List ℕ). list_any (λ x. u == x) k) ks ∙ key_more u v keys ∙ ap (λ (b : Bool). (v == u) || b) (before.same u)

      step_is : rest_at left before.seen count (Some v) ≡ after_turn t v (λ u. turns_from left the_limits head is_same genvar env seen (count + 1) u)
      step_is =
          turns_step head is_same genvar env left before.seen count v
          ∙ ap (λ (b : Bool). after_turn (turned b (left == 0) head is_same (inside head is_same genvar env v) count) v (λ u. turns_from left the_limits head is_same genvar env seen (count + 1) u)) (sym (a ∙ before.same v))
          ∙ ap (λ (b : Bool). after_turn (turned again b head is_same (inside head is_same genvar env v) count) v (λ u. turns_from left the_limits head is_same genvar env seen (count + 1) u)) (sym (l ∙ zero_is left (length values) before.room))

      by : (b : Bool) → t.taken ≡ b → IsTurning head is_same genvar env all new_values new_keys sum c.count c.next
      by false h =
          let e : rest_at left before.seen count (Some v) ≡ no_turn t.faults t.count =
          step_is ∙ ap (λ (b : Bool). elim b as (λ x. Turns) [ false ↦ no_turn t.faults t.count | true ↦ and_turn v t.faults (elim t.next as (λ x. Turns) [ None ↦ no_turn [] t.count | Some u ↦ turns_from left the_limits head is_same genvar env seen (count + 1) u ]) ]) h in
          let none : c.next ≡ None = ct.next ∙ tells.none h in
          let kept : new_values ≡ values = vs ∙ ap (λ (b : Bool). if b then values ++ v ∷ [] else values) (ct.taken ∙ h) in
          let r : rest_at left seen c.count c.next ≡ no_turn [] c.count = ap (rest_at left seen c.count) none in
          record {
            left = left;
            seen = seen;
            room = ap (λ (x : List ℕ). left + length x) kept ∙ before.room;
            same = same;
            values_are = ap (λ (x : Turns). new_values ++ x.values) r ∙ ap (λ (x : List ℕ). x ++ []) kept ∙ ap (λ (x : Turns). values ++ x.values) (sym e) ∙ before.values_are;
            first = subst (λ (x : Turns). IsFirstSoFar sum x.faults all.faults) (sym r)
                (so_far_more t.faults [] all.faults found c.fault sum (subst (λ (x : List Fault). IsFirstSoFar found x all.faults) (ap (λ (x : Turns). x.faults) e ∙ sym (append_none t.faults)) before.first) ct.fault s);
            count_is = ap (λ (x : Turns). x.count) r ∙ ct.count ∙ ap (λ (x : Turns). x.count) (sym e) ∙ before.count_is;
          }
      by true h =
          let some = not_zero left (sym (zero_is left (length values) before.room) ∙ sym l ∙ tells.room h) in
          let fewer : ℕ = some.0 in
          let next : Turns = rest_at fewer seen c.count c.next in
          let e : rest_at left before.seen count (Some v) ≡ and_turn v t.faults next =
          step_is
          ∙ ap (λ (b : Bool). elim b as (λ x. Turns) [ false ↦ no_turn t.faults t.count | true ↦ and_turn v t.faults (elim t.next as (λ x. Turns) [ None ↦ no_turn [] t.count | Some u ↦ turns_from left the_limits head is_same genvar env seen (count + 1) u ]) ]) h
          ∙ ap (and_turn v t.faults) (onward left fewer t.next t.count c.count c.next some.1 (tells.count h) ct.count ct.next) in
          let kept : new_values ≡ values ++ v ∷ [] = vs ∙ ap (λ (b : Bool). if b then values ++ v ∷ [] else values) (ct.taken ∙ h) in
          record {
            left = fewer;
            seen = seen;
            room = fill fewer left values new_values v some.1 kept before.room;
            same = same;
            values_are = ap (λ (x : List ℕ). x ++ next.values) kept ∙ append_assoc values (v ∷ []) next.values ∙ ap (λ (x : Turns). values ++ x.values) (sym e) ∙ before.values_are;
            first = so_far_more t.faults next.faults all.faults found c.fault sum (subst (λ (x : List Fault). IsFirstSoFar found x all.faults) (ap (λ (x : Turns). x.faults) e) before.first) ct.fault s;
            count_is = ap (λ (x : Turns). x.count) (sym e) ∙ before.count_is;
          }
        where
          onward : (left fewer : ℕ) (tn : Option ℕ) (tc cc' : ℕ) (cn : Option ℕ) → left ≡ suc fewer → tc ≡ count + 1 → cc' ≡ tc → cn ≡ tn
              → (elim tn as (λ x. Turns) [ None ↦ no_turn [] tc | Some u ↦ turns_from left the_limits head is_same genvar env seen (count + 1) u ]) ≡ rest_at fewer seen cc' cn
          onward left fewer None tc cc' cn h k m n = ap (no_turn []) (sym m) ∙ ap (rest_at fewer seen cc') (sym n)
          onward left fewer (Some u) tc cc' cn h k m n =
              ap (λ (x : ℕ). turns_from x the_limits head is_same genvar env seen (count + 1) u) h
              ∙ ap (λ (x : ℕ). turns_from (suc fewer) the_limits head is_same genvar env seen x u) (sym (m ∙ k))
              ∙ ap (rest_at fewer seen cc') (sym n)

          fill : (fewer left : ℕ) (values new : List ℕ) (v : ℕ) → left ≡ suc fewer → new ≡ values ++ v ∷ [] → left + length values ≡ 4096 → fewer + length new ≡ 4096
          fill fewer left values new v h k m = let n : length new ≡ length values + 1 = ap length k ∙ length-append values (v ∷ []) in omega (arith, h, m, n)

  pub turning_end : (values keys : List ℕ) (found : Option Fault) (count : ℕ) → IsTurning head is_same genvar env all values keys found count None
      → (values ≡ all.values) × (found ≡ least all.faults) × (count ≡ all.count)
  turning_end values keys found count h = (sym (append_none values) ∙ h.values_are, so_far_end found all.faults h.first, h.count_is)

-- a turn whose test holds, by whether it is one too many
pub taken_over : (c : TurnedOf) (is_last : Bool) (head : LoopHead) (is_same : Bool) (seen_there : Env) (test : List Fault) (total : ℕ) → (is_last || nat_lt the_limits.all_turns (total + 1)) ≡ true
    → IsTurned c (ended (test ++ fault GenerateTurns head.place) (total + 1)) → IsTurned c (taken_turn is_last head is_same seen_there test total)
taken_over c is_last head is_same seen_there test total over h = by (is_last || nat_lt the_limits.all_turns (total + 1)) over
  where
    next : Natural
    next = step is_same head seen_there

    by : (b : Bool) → b ≡ true → IsTurned c (elim b as (λ x. Turned) [ true ↦ ended (test ++ fault GenerateTurns head.place) (total + 1) | false ↦ record { taken = true; next = next.number; faults = test ++ next.faults; count = total + 1 } ])
    by true e = h
    by false e = cc

pub taken_within : (c : TurnedOf) (is_last : Bool) (head : LoopHead) (is_same : Bool) (seen_there : Env) (test : List Fault) (total : ℕ) → (is_last || nat_lt the_limits.all_turns (total + 1)) ≡ false
    → IsTurned c (record { taken = true; next = (step is_same head seen_there).number; faults = test ++ (step is_same head seen_there).faults; count = total + 1 }) → IsTurned c (taken_turn is_last head is_same seen_there test total)
taken_within c is_last head is_same seen_there test total over h = by (is_last || nat_lt the_limits.all_turns (total + 1)) over
  where
    next : Natural
    next = step is_same head seen_there

    by : (b : Bool) → b ≡ false → IsTurned c (elim b as (λ x. Turned) [ true ↦ ended (test ++ fault GenerateTurns head.place) (total + 1) | false ↦ record { taken = true; next = next.number; faults = test ++ next.faults; count = total + 1 } ])
    by true e = cc
    by false e = h
