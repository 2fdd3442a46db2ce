-- The parts of a concatenation, as a list and as a row.
use Rattle.std.proofs.Common.{◌≡◌, ℕ, ◌<◌, ◌≤◌, ◌-◌, suc, zero, List, [], ◌∷◌, Bool, Option, drop, length, get_or, refl, sym, ap, ◌∙◌, subst, arith, drop-cons}
use denote.Param.Weighed.{most, at_most}
use Rattle.vs_ast.proofs.expressions.Expr.TheLaws.{the_size}
use Rattle.vs_grammar.specs.Trees as tree
use Rattle.vs_grammar.specs.Shapes.{IsExpr, AreParts, AreExprs}
use Rattle.vs_ast.specs.declared.expressions.Expr.{Expr, Row_of-Expr, items-the_row-Expr}
use Rattle.vs_ast.specs.Views.{expr, exprs, expr_row}
use Rattle.vs_ast.proofs.Rows.{expr_rows}
use Rattle.vs_const.specs.declared.found.Found.{Found}
use Rattle.vs_const.specs.Meanings.{Find}
use Rattle.vs_const.specs.declared.calls.Arguments.{Arguments as ArgumentsOf}
use Rattle.vs_const.specs.Typed.{Typed, join_typed}
use Rattle.vs_const.specs.Expressions.{unsized_faults, part_typed, TypedItems, no_arguments, and_argument, typed, typed_parts, typed_arguments}
use Rattle.vs_const.specs.Checks.{IsUnsizedAt, Checks, ChecksArguments, item_count}
use Rattle.vs_const.specs.Found.{Finds, Says}

each_shaped : (es : List Expr) (i : ℕ) (d : Expr) → AreExprs (exprs es) → i < length es → IsExpr (expr (get_or es i d))
each_shaped [] i d x h = absurd (omega arith)
each_shaped (a ∷ es) zero d x h = x.0
each_shaped (a ∷ es) (suc i) d x h = each_shaped es i d x.1 (omega arith)

pub some_part : (es : List Expr) → AreParts (exprs es) → 0 < length es
some_part [] x = absurd x
some_part (a ∷ es) x = omega arith

pub part_shaped : (es : List Expr) (i : ℕ) (e : Expr) → AreParts (exprs es) → i < length es → e ≡ get_or es i e → IsExpr (expr e)
part_shaped [] i e x h k = absurd x
part_shaped (a ∷ es) i e x h k = subst (λ z. IsExpr (expr z)) (sym k) (each_shaped (a ∷ es) i e x h)

-- no part is greater than the greatest, so a call on it ends
pub part_at_most : (es : List Expr) (i : ℕ) (e : Expr) → i < length es → e ≡ get_or es i e → the_size e ≤ most the_size es
part_at_most es i e h k = subst (λ z. the_size z ≤ most the_size es) (sym k) (at_most the_size es i e h)

pub row_parts : {m : _} (k : Row_of-Expr m) → AreParts (expr_row k) → AreParts (exprs (items-the_row-Expr m k))
row_parts k x = subst (λ r. AreParts r) (expr_rows k) x

-- from the i-th part on
pub from_part : (es : List Expr) (i : ℕ) (e : Expr) → i < length es → e ≡ get_or es i e → exprs (drop i es) ≡ tree.AndExpr (expr e) (exprs (drop (suc i) es))
from_part es i e h k = ap exprs (drop-cons es i e h) ∙ ap (λ z. tree.AndExpr (expr z) (exprs (drop (suc i) es))) (sym k)

pub none_left : (es : List Expr) (i : ℕ) → length es ≤ i → drop i es ≡ []
none_left [] zero h = refl
none_left [] (suc i) h = refl
none_left (a ∷ es) zero h = absurd (omega arith)
none_left (a ∷ es) (suc i) h = none_left es i (omega arith)

unsized_of : (a b : Expr) (u : Option ℕ) → b ≡ a → IsUnsizedAt u (unsized_faults (expr b)) → IsUnsizedAt u (unsized_faults (expr a))
unsized_of a b u k h = subst (λ z. IsUnsizedAt u (unsized_faults (expr z))) k h

same_part : (es : List Expr) (i : ℕ) (a b : Expr) → i < length es → a ≡ get_or es i a → b ≡ get_or es i b → b ≡ a
same_part [] i a b h j k = absurd (omega arith)
same_part (e ∷ es) zero a b h j k = k ∙ sym j
same_part (e ∷ es) (suc i) a b h j k = same_part es i a b (omega arith) j k

-- the last part alone
pub last_arm : (needed : Bool) (find : Find) (es : List Expr) (a b : Expr) (u : Option ℕ) (p r : Found) → 0 < length es
    → a ≡ get_or es (length es - 1) a → b ≡ get_or es (length es - 1) b → IsUnsizedAt u (unsized_faults (expr b)) → Finds needed p (typed (expr a) find needed)
    → ((n : Bool) (e : tree.Expr) (t : Typed) → IsUnsizedAt u (unsized_faults e) → Finds n p t → Finds n r (part_typed e t))
    → Finds needed r (typed_parts (exprs (drop (length es - 1) es)) find needed)
last_arm needed find es a b u p r some j k h m f =
    let i = length es - 1 in
    let within : i < length es = omega arith in
    let is : exprs (drop i es) ≡ tree.AndExpr (expr a) tree.NoExpr = from_part es i a within j ∙ ap (λ z. tree.AndExpr (expr a) (exprs z)) (none_left es (suc i) (omega arith)) in
    subst (λ z. Finds needed r (typed_parts z find needed)) (sym is) (f needed (expr a) (typed (expr a) find needed) (unsized_of a b u (same_part es i a b within j k) h) m)

-- one part more
pub more_arm : (needed : Bool) (find : Find) (es : List Expr) (i : ℕ) (a b : Expr) (u : Option ℕ) (p whole r : Found) → 0 < i → i < length es
    → a ≡ get_or es (i - 1) a → b ≡ get_or es (i - 1) b → IsUnsizedAt u (unsized_faults (expr b)) → Finds needed p (typed (expr a) find needed)
    → Finds needed whole (typed_parts (exprs (drop i es)) find needed)
    → ((n : Bool) (e : tree.Expr) (t v : Typed) → IsUnsizedAt u (unsized_faults e) → Finds n p t → Finds n whole v → Finds n r (join_typed (part_typed e t) v))
    → Finds needed r (typed_parts (exprs (drop (i - 1) es)) find needed)
more_arm needed find es zero a b u p whole r some within j k h m n f = absurd (omega arith)
more_arm needed find es (suc i) a b u p whole r some within j k h m n f =
    let less : suc i - 1 < length es = omega arith in
    let same : suc (suc i - 1) ≡ suc i = omega arith in
    let d = get_or es (suc i) a in
    let is : exprs (drop (suc i - 1) es) ≡ tree.AndExpr (expr a) (exprs (drop (suc i) es)) = from_part es (suc i - 1) a less j ∙ ap (λ z. tree.AndExpr (expr a) (exprs (drop z es))) same in
    let more = next es (suc i) a within in
    subst (λ z. Finds needed r (typed_parts z find needed)) (sym is)
    (subst (λ z. Finds needed r (typed_parts (tree.AndExpr (expr a) z) find needed)) (sym more)
    (f needed (expr a) (typed (expr a) find needed) (typed_parts (tree.AndExpr (expr d) (exprs (drop (suc (suc i)) es))) find needed) (unsized_of a b u (same_part es (suc i - 1) a b less j k) h) m
    (subst (λ z. Finds needed whole (typed_parts z find needed)) more n)))
  where
    next : (es : List Expr) (i : ℕ) (a : Expr) → i < length es → exprs (drop i es) ≡ tree.AndExpr (expr (get_or es i a)) (exprs (drop (suc i) es))
    next es i a h = ap exprs (drop-cons es i a h)

-- ---- the arguments of a call

pub no_argument_left : (needed : Bool) (find : Find) (es : List Expr) (r : ArgumentsOf) → ((t : TypedItems) → t ≡ no_arguments → ChecksArguments r t) → ChecksArguments r (typed_arguments (exprs (drop (length es) es)) find needed)
no_argument_left needed find es r f = f (typed_arguments (exprs (drop (length es) es)) find needed) (ap (λ z. typed_arguments (exprs z) find needed) (none_left es (length es) (omega arith)))

-- one argument more
pub argument_arm : (needed : Bool) (find : Find) (es : List Expr) (i : ℕ) (a : Expr) (p : Found) (others r : ArgumentsOf) → 0 < i → i ≤ length es
    → a ≡ get_or es (i - 1) a → Says needed p (typed (expr a) find needed) → ChecksArguments others (typed_arguments (exprs (drop i es)) find needed)
    → ((t : Typed) (rest : TypedItems) → Checks p.said t → ChecksArguments others rest → ChecksArguments r (and_argument t rest))
    → ChecksArguments r (typed_arguments (exprs (drop (i - 1) es)) find needed)
argument_arm needed find es zero a p others r some within j m n f = absurd (omega arith)
argument_arm needed find es (suc i) a p others r some within j m n f =
    let less : suc i - 1 < length es = omega arith in
    let same : suc (suc i - 1) ≡ suc i = omega arith in
    let is : exprs (drop (suc i - 1) es) ≡ tree.AndExpr (expr a) (exprs (drop (suc i) es)) = from_part es (suc i - 1) a less j ∙ ap (λ z. tree.AndExpr (expr a) (exprs (drop z es))) same in
    subst (λ z. ChecksArguments r (typed_arguments z find needed)) (sym is) (f (typed (expr a) find needed) (typed_arguments (exprs (drop (suc i) es)) find needed) m.finds.checks n)

count_all : (needed : Bool) (find : Find) (es : List Expr) → item_count (typed_arguments (exprs es) find needed).items ≡ length es
count_all needed find [] = refl
count_all needed find (e ∷ es) = ap suc (count_all needed find es)

length_left : (es : List Expr) (i : ℕ) → length (drop i es) ≤ length es
length_left [] zero = omega arith
length_left [] (suc i) = omega arith
length_left (e ∷ es) zero = omega arith
length_left (e ∷ es) (suc i) = let h = length_left es i in omega (arith, h)

fewer_left : (es : List Expr) (i : ℕ) → 0 < i → 0 < length es → length (drop i es) < length es
fewer_left [] i h k = absurd (omega arith)
fewer_left (e ∷ es) zero h k = absurd (omega arith)
fewer_left (e ∷ es) (suc i) h k = let l = length_left es i in omega (arith, l)

-- those from a later one on are fewer than all
pub argument_count : (needed : Bool) (find : Find) (es : List Expr) (i : ℕ) (c : ArgumentsOf) → 0 < i → 0 < length es → ChecksArguments c (typed_arguments (exprs (drop i es)) find needed) → c.count < length es
argument_count needed find es i c h k n =
    let l = fewer_left es i h k in
    let m : c.count ≡ length (drop i es) = n.count ∙ count_all needed find (drop i es) in
    omega (arith, l, m)
