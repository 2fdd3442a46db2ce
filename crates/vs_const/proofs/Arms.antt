-- The arms of the recursion over an expression.
use Rattle.std.proofs.Common.{◌≡◌, ℕ, Bool, true, Result, IfOk, refl, subst}
use Rattle.std.specs.declared.alloc.AllocError.{AllocError}
use Rattle.vs_grammar.specs.Trees as tree
use Rattle.vs_grammar.specs.Trees.{expr_place}
use Rattle.vs_ast.specs.Views as view
use Rattle.vs_ast.specs.declared.expressions.Expr.{Expr}
use Rattle.vs_base.specs.declared.operators.BinaryOp.{BinaryOp}
use Rattle.vs_const.specs.declared.found.Found.{Found}
use Rattle.vs_const.specs.declared.names.Named.{Named}
use Rattle.vs_const.specs.declared.names.Named.TheVariants.{Value, Undefined as UndefinedValue, Signal as SignalNamed, Memory as MemoryNamed, Function as FunctionNamed, Incomplete as IncompleteNamed, Other, Barred as BarredName, Unknown as UnknownName}
use Rattle.vs_const.specs.declared.names.SignalShape.{SignalShape}
use Rattle.vs_const.specs.declared.ranges.Numbered.{Numbered as NumberedOf}
use Rattle.vs_const.specs.Meanings.{SignalMeaning, FunctionMeaning, Meaning, AValue, Undefined, ASignal, AMemory, AFunction, Incomplete, Another, Barred, Unknown, Means, Find, IsFair, IsFairMeaning, steady}
use Rattle.vs_const.specs.Typed.{Typed, noted, binary_typed, number_of}
use Rattle.vs_const.specs.Selects.{base_of, taken, select_typed, slice_taken, moving, bit_typed}
use Rattle.vs_const.specs.Expressions.{typed, selected, number, clog2_typed}
use Rattle.vs_const.specs.Checks.{ChecksNumber}
use Rattle.vs_const.specs.Found.{Finds, Says}

pub binary_arm : (needed : Bool) (find : Find) (op : BinaryOp) (a b x y z : Expr) (place : ℕ) (p q : Found) (r : Result Found AllocError)
    → x ≡ a → y ≡ b → z ≡ a → place ≡ expr_place (view.expr z)
    → Says needed p (typed (view.expr x) find needed) → Says needed q (typed (view.expr y) find needed)
    → ((t u : Typed) → Says needed p t → Says needed q u → IfOk r (λ s. Finds needed s (noted needed place (binary_typed op t u))))
    → IfOk r (λ s. Finds needed s (typed (tree.Binary op (view.expr a) (view.expr b)) find needed))
binary_arm needed find op a b x y z place p q r i j k l h m f =
    let h2 = subst (λ v. Says needed p (typed (view.expr v) find needed)) i h in
    let m2 = subst (λ v. Says needed q (typed (view.expr v) find needed)) j m in
    let l2 = subst (λ v. place ≡ expr_place (view.expr v)) k l in
    subst (λ v. IfOk r (λ s. Finds needed s (noted needed v (binary_typed op (typed (view.expr a) find needed) (typed (view.expr b) find needed))))) l2
    (f (typed (view.expr a) find needed) (typed (view.expr b) find needed) h2 m2)

pub clog2_arm : (needed : Bool) (find : Find) (a : Expr) (place : ℕ) (p s : Found) → place ≡ expr_place (view.expr a)
    → Says true p (typed (view.expr a) find true)
    → ((n : Bool) (t : Typed) → Says true p t → Finds n s (clog2_typed t.good place t))
    → Finds needed s (clog2_typed (typed (view.expr a) find true).good (expr_place (view.expr a)) (typed (view.expr a) find true))
clog2_arm needed find a place p s l h f =
    subst (λ v. Finds needed s (clog2_typed (typed (view.expr a) find true).good v (typed (view.expr a) find true))) l (f needed (typed (view.expr a) find true) h)

placed : (a z : Expr) (p : ℕ) → z ≡ a → p ≡ expr_place (view.expr z) → p ≡ expr_place (view.expr a)
placed a z p k h = subst (λ v. p ≡ expr_place (view.expr v)) k h

pub between_arm : (needed : Bool) (find : Find) (name : tree.Name) (bracket : ℕ) (a b x y z w : Expr) (lp rp : ℕ) (named : Named) (m n : NumberedOf) (r : Result Found AllocError)
    → IsFair find → Means named (find name.bytes)
    → x ≡ a → y ≡ b → z ≡ a → w ≡ b → lp ≡ expr_place (view.expr z) → rp ≡ expr_place (view.expr w)
    → ChecksNumber m (number (view.expr x) (steady find)) → ChecksNumber n (number (view.expr y) (steady find))
    → ((o : Meaning) (t u : Typed) → IsFairMeaning o → Means named o → ChecksNumber m (number_of lp t) → ChecksNumber n (number_of rp u)
    → IfOk r (λ s. Finds needed s (select_typed (base_of needed name.place o) (slice_taken (base_of needed name.place o).range bracket tree.Between lp t rp u))))
    → IfOk r (λ s. Finds needed s (selected (tree.Slice bracket tree.Between (view.expr a) (view.expr b)) name find needed))
between_arm needed find name bracket a b x y z w lp rp named m n r fair e i j k l p q u v f =
    let o = find name.bytes in
    let t = typed (view.expr a) (steady find) true in
    let s = typed (view.expr b) (steady find) true in
    let P : ℕ → ℕ → Type 0 = λ c d. ChecksNumber m (number_of c t) → ChecksNumber n (number_of d s) → IfOk r (λ k. Finds needed k (select_typed (base_of needed name.place o) (slice_taken (base_of needed name.place o).range bracket tree.Between c t d s))) in
    let at_left : P (expr_place (view.expr a)) rp = subst (λ c. P c rp) (placed a z lp k p) (f o t s (fair name.bytes) e) in
    let at_both : P (expr_place (view.expr a)) (expr_place (view.expr b)) = subst (λ d. P (expr_place (view.expr a)) d) (placed b w rp l q) at_left in
    at_both (subst (λ c. ChecksNumber m (number (view.expr c) (steady find))) i u) (subst (λ c. ChecksNumber n (number (view.expr c) (steady find))) j v)

pub moving_arm : (needed up : Bool) (find : Find) (name : tree.Name) (a b x y w : Expr) (rp : ℕ) (named : Named) (c : Found) (n : NumberedOf) (r : Result Found AllocError)
    → IsFair find → Means named (find name.bytes)
    → x ≡ a → y ≡ b → w ≡ b → rp ≡ expr_place (view.expr w)
    → Says needed c (typed (view.expr x) find needed) → ChecksNumber n (number (view.expr y) (steady find))
    → ((o : Meaning) (t u : Typed) → IsFairMeaning o → Means named o → Says needed c t → ChecksNumber n (number_of rp u)
    → IfOk r (λ s. Finds needed s (select_typed (base_of needed name.place o) (moving (base_of needed name.place o).range up t rp u))))
    → IfOk r (λ s. Finds needed s (select_typed (base_of needed name.place (find name.bytes)) (moving (base_of needed name.place (find name.bytes)).range up (typed (view.expr a) find needed) (expr_place (view.expr b)) (typed (view.expr b) (steady find) true))))
moving_arm needed up find name a b x y w rp named c n r fair e i j l q u v f =
    let o = find name.bytes in
    let t = typed (view.expr a) find needed in
    let s = typed (view.expr b) (steady find) true in
    let P : ℕ → Type 0 = λ d. ChecksNumber n (number_of d s) → IfOk r (λ k. Finds needed k (select_typed (base_of needed name.place o) (moving (base_of needed name.place o).range up t d s))) in
    let here : P (expr_place (view.expr b)) = subst P (placed b w rp l q) (f o t s (fair name.bytes) e (subst (λ d. Says needed c (typed (view.expr d) find needed)) i u)) in
    here (subst (λ d. ChecksNumber n (number (view.expr d) (steady find))) j v)

-- what is no memory has bits
pub bit_arm : (needed : Bool) (place : ℕ) (named : Named) (m : Meaning) (at : ℕ) (t : Typed) (r : Result Found AllocError) → ((s : SignalShape) → named ≡ MemoryNamed s → ⊥) → Means named m
    → IfOk r (λ s. Finds needed s (select_typed (base_of needed place m) (taken (base_of needed place m).range true 1 t t.faults)))
    → IfOk r (λ s. Finds needed s (bit_typed needed place m at t))
bit_arm needed place named (AValue v q turns) at t r other h f = f
bit_arm needed place named (Undefined q) at t r other h f = f
bit_arm needed place named (ASignal s) at t r other h f = f
bit_arm needed place named (AFunction g) at t r other h f = f
bit_arm needed place named Incomplete at t r other h f = f
bit_arm needed place named Another at t r other h f = f
bit_arm needed place named (Barred rule) at t r other h f = f
bit_arm needed place named Unknown at t r other h f = f
bit_arm needed place (Value v q turns) (AMemory m) at t r other h f = cc
bit_arm needed place (UndefinedValue q) (AMemory m) at t r other h f = cc
bit_arm needed place (SignalNamed s) (AMemory m) at t r other h f = absurd (differ h.1)
  where
    differ : {k : SignalMeaning} → AMemory m ≡ ASignal k → ⊥
    differ e = cc
bit_arm needed place (MemoryNamed s) (AMemory m) at t r other h f = absurd (other s refl)
bit_arm needed place (FunctionNamed g) (AMemory m) at t r other h f = absurd (differ h.1)
  where
    differ : {k : FunctionMeaning} → AMemory m ≡ AFunction k → ⊥
    differ e = cc
bit_arm needed place IncompleteNamed (AMemory m) at t r other h f = cc
bit_arm needed place Other (AMemory m) at t r other h f = cc
bit_arm needed place (BarredName rule) (AMemory m) at t r other h f = cc
bit_arm needed place UnknownName (AMemory m) at t r other h f = cc
