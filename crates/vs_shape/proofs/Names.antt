-- What a node names, as facts.
use Rattle.std.proofs.Common.{◌≡◌, ℕ, zero, suc, ◌<◌, ◌≤◌, Bool, true, false, ◌&&◌, nat_lt, List, [], ◌∷◌, length, refl, subst, Option, Some, None, arith}
use Rattle.std.specs.Prelude.{option_map, slice_get}
use Rattle.std.proofs.lemmas.Bool.{ltb-true}
use Rattle.vs_flat.specs.declared.placed.Placed.{Placed}
use Rattle.vs_flat.specs.declared.expressions.Node.{Node}
use Rattle.vs_flat.specs.declared.expressions.Node.TheVariants.{Literal, Name, Bit, Part, Word, WordPart, Unary, Binary, Choice, Join, Local, Call}
use Rattle.vs_flat.specs.Arena.{Arena, node_at, declared_at}
use Rattle.vs_flat.specs.declared.functions.Declared.{Declared}
use Rattle.vs_flat.specs.Lawful.{IsLawful}
use Rattle.vs_flat.specs.Laws.{NodeNames, NodeCalls}
use Rattle.vs_flat.specs.Named.{locals_in, covers_calls, all_below, node_names_below}
use Rattle.vs_shape.specs.Nodes.{EachBelow, HasNames, HasCalls}

pub and_both : (a b : Bool) → (a && b) ≡ true → (a ≡ true) × (b ≡ true)
and_both true b h = (refl, h)
and_both false b h = cc

pub first_below : (n m : ℕ) (ms : List ℕ) → all_below n (m ∷ ms) ≡ true → m < n
first_below n m ms h = ltb-true m n (and_both (nat_lt m n) (all_below n ms) h).0

pub rest_below : (n m : ℕ) (ms : List ℕ) → all_below n (m ∷ ms) ≡ true → all_below n ms ≡ true
rest_below n m ms h = (and_both (nat_lt m n) (all_below n ms) h).1

pub each_below : (n : ℕ) (ms : List ℕ) → all_below n ms ≡ true → EachBelow n ms
each_below n [] h k l = absurd (omega arith)
each_below n (m ∷ ms) h zero l = first_below n m ms h
each_below n (m ∷ ms) h (suc k) l = each_below n ms (rest_below n m ms h) k (omega arith)

has_names : (signals e : ℕ) (n : Node) → node_names_below signals e n ≡ true → HasNames signals e n
has_names signals e (Literal bits signed sized) h = tt
has_names signals e (Name signal) h = first_below signals signal [] (and_both (all_below signals (signal ∷ [])) true h).0
has_names signals e (Bit of range index) h = (first_below e of (index ∷ []) h, first_below e index [] (rest_below e of (index ∷ []) h))
has_names signals e (Part of range base up width) h = (first_below e of (base ∷ []) h, first_below e base [] (rest_below e of (base ∷ []) h))
has_names signals e (Word signal index) h =
    let p = and_both (all_below signals (signal ∷ [])) (all_below e (index ∷ [])) h in
    (first_below signals signal [] p.0, first_below e index [] p.1)
has_names signals e (WordPart signal address range base up width) h =
    let p = and_both (all_below signals (signal ∷ [])) (all_below e (address ∷ base ∷ [])) h in
    (first_below signals signal [] p.0, first_below e address (base ∷ []) p.1, first_below e base [] (rest_below e address (base ∷ []) p.1))
has_names signals e (Unary op a) h = first_below e a [] h
has_names signals e (Binary op a b) h = (first_below e a (b ∷ []) h, first_below e b [] (rest_below e a (b ∷ []) h))
has_names signals e (Choice c p q) h =
    let r = rest_below e c (p ∷ q ∷ []) h in
    (first_below e c (p ∷ q ∷ []) h, first_below e p (q ∷ []) r, first_below e q [] (rest_below e p (q ∷ []) r))
has_names signals e (Join parts) h = each_below e parts h
has_names signals e (Local function signal) h = tt
has_names signals e (Call function arguments) h = each_below e arguments h

has_calls : (a : Arena) (n : Node) → length a.bodies ≤ length a.functions → covers_calls a n ≡ true → HasCalls a n
has_calls a (Local function signal) m h =
    let l : signal < length (locals_in (declared_at a function)) = ltb-true signal (length (locals_in (declared_at a function))) h in
    (there (slice_get a.functions function) refl l, l)
  where
    short : (xs : List Declared) (k : ℕ) (x : Declared) → slice_get xs k ≡ Some x → k < length xs
    short [] k x h = cc
    short (y ∷ xs) zero x h = omega arith
    short (y ∷ xs) (suc k) x h = let l = short xs k x h in omega (arith, l)

    there : (o : Option Declared) → slice_get a.functions function ≡ o → signal < length (locals_in o) → function < length a.functions
    there None e l = absurd (omega arith)
    there (Some d) e l = short a.functions function d e
has_calls a (Call function arguments) m h = let l : function < length a.bodies = ltb-true function (length a.bodies) h in omega (arith, l, m)
has_calls a (Literal bits signed sized) m h = tt
has_calls a (Name signal) m h = tt
has_calls a (Bit of range index) m h = tt
has_calls a (Part of range base up width) m h = tt
has_calls a (Word signal index) m h = tt
has_calls a (WordPart signal address range base up width) m h = tt
has_calls a (Unary op x) m h = tt
has_calls a (Binary op x y) m h = tt
has_calls a (Choice c p q) m h = tt
has_calls a (Join parts) m h = tt

pub calls_of_node : NodeCalls → (a : Arena) → IsLawful a → (e : ℕ) (n : Node) → node_at a e ≡ Some n → HasCalls a n
calls_of_node law a lawful e n at = found (slice_get a.nodes e) refl at
  where
    found : (o : Option (Placed Node)) → slice_get a.nodes e ≡ o → option_map (λ (m : Placed Node). m.item) o ≡ Some n → HasCalls a n
    found None is h = cc
    found (Some m) is h = subst (HasCalls a) (item m h) (has_calls a m.item lawful.names.matched (law a lawful.names e m is))
      where
        item : (m : Placed Node) → Some m.item ≡ Some n → m.item ≡ n
        item m h = cc

pub names_of_node : NodeNames → (a : Arena) → IsLawful a → (e : ℕ) (n : Node) → node_at a e ≡ Some n → HasNames (length a.signals) e n
names_of_node law a lawful e n at = found (slice_get a.nodes e) refl at
  where
    found : (o : Option (Placed Node)) → slice_get a.nodes e ≡ o → option_map (λ (m : Placed Node). m.item) o ≡ Some n → HasNames (length a.signals) e n
    found None is h = cc
    found (Some m) is h = has_names (length a.signals) e n (named m is (item m h))
      where
        item : (m : Placed Node) → Some m.item ≡ Some n → m.item ≡ n
        item m h = cc

        named : (m : Placed Node) → slice_get a.nodes e ≡ Some m → m.item ≡ n → node_names_below (length a.signals) e n ≡ true
        named m is same = subst (λ (x : Node). node_names_below (length a.signals) e x ≡ true) same (law a lawful.names e m is)
