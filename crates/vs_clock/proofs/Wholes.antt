-- The bit of a target that is the whole of a signal: a concatenation of one part is the same target as that part.
use Rattle.std.specs.List.{prefix_len}
use Rattle.std.proofs.Common.{◌≡◌, ◌≢◌, ℕ, suc, ◌+◌, ◌<◌, Bool, true, not, cond, List, [], ◌∷◌, length, map, take, refl, sym, ap, ◌∙◌, subst, arith}
use Rattle.std.specs.Prelude.{slice_index, Option, None, Some, ◌==◌, option_and_then, if◌then◌else◌}
use Rattle.std.proofs.lemmas.Bool.{ne_eqb}
use Rattle.std.proofs.lemmas.List.Sums.{sum_by-cons}
use Rattle.vs_four.specs.Selects.{Part as Selected}
use Rattle.vs_design.specs.Expressions as E
use Rattle.vs_design.specs.Statements.{Target}
use Rattle.vs_design.specs.Clocks.{name_of}
use Rattle.vs_flat.specs.Targets.{source_of, target_of, both_of}
use Rattle.vs_flat.specs.Trees.{Names, node_tree, first_copy, copy_count, joined}
use Rattle.vs_flat.specs.declared.expressions.Node.{Node}
use Rattle.vs_flat.specs.declared.expressions.Node.TheVariants.{Literal, Name, Bit, Part, Word, WordPart, Unary, Binary, Choice, Join, Local, Call}
use Rattle.vs_shape.specs.Nodes.{HasNames}
use Rattle.vs_reads.proofs.Tests.{by_test}
use Rattle.vs_clock.specs.Ports.{bit_of, whole_bit, target_bit, only_part}

-- ---- a concatenation of several parts is no whole signal

both_none : (x y : Option Target) → option_and_then whole_bit (both_of x y) ≡ None
both_none None y = refl
both_none (Some x) None = refl
both_none (Some x) (Some y) = refl

repeat_other : (count : ℕ) (e : E.Expression) → count ≢ 1 → target_bit (E.Repeat count e) ≡ None
repeat_other count e h = ap (λ (t : Bool). option_and_then whole_bit (if t then target_of e else None)) (ne_eqb count 1 h)

repeat_join : (count : ℕ) (high low : E.Expression) → target_bit (E.Repeat count (E.Join high low)) ≡ None
repeat_join count high low =
    by_test (count == 1)
    (λ p. ap (λ (t : Bool). option_and_then whole_bit (if t then both_of (target_of high) (target_of low) else None)) p ∙ both_none (target_of high) (target_of low))
    (λ p. ap (λ (t : Bool). option_and_then whole_bit (if t then both_of (target_of high) (target_of low) else None)) p)

many_parts : (tree : ℕ → E.Expression) (a b : ℕ) (es : List ℕ) → target_bit (E.Repeat (copy_count (a ∷ b ∷ es)) (joined (map tree (first_copy (a ∷ b ∷ es))))) ≡ None
many_parts tree a b es =
    by_test (b == a)
    (λ p.
    let one : ◌≡◌ {A = ℕ} (cond (b == a) 1 0) 1 = ap (λ (t : Bool). cond t 1 0) p in
    let more = sum_by-cons (λ n. cond (n == a) 1 0) b es in
    repeat_other (copy_count (a ∷ b ∷ es)) (joined (map tree (first_copy (a ∷ b ∷ es)))) (λ is. absurd (omega (arith, one, more, is))))
    (λ p.
    let pass : not (b == a) ≡ true = ap not p in
    let rest : ℕ = prefix_len (λ n. not (n == a)) es in
    let next : 1 + rest ≡ suc rest = omega arith in
    let copy : first_copy (a ∷ b ∷ es) ≡ a ∷ b ∷ take rest es =
    ap (λ (t : Bool). a ∷ take (cond t (1 + rest) 0) (b ∷ es)) pass ∙ ap (λ (k : ℕ). a ∷ take k (b ∷ es)) next in
    ap (λ (parts : List ℕ). target_bit (E.Repeat (copy_count (a ∷ b ∷ es)) (joined (map tree parts)))) copy
    ∙ repeat_join (copy_count (a ∷ b ∷ es)) (tree a) (joined (map tree (b ∷ take rest es))))

selected : (source : E.Source) (part : Selected) (index : E.Expression) → target_bit (E.Select source part index) ≡ None
selected (E.OfSignal signal) part index = refl
selected (E.OfConstant bits) part index = refl

-- ---- nodes

-- what has no only part is the whole of a signal where it is a name
pub no_part : (names : Names) (tree : ℕ → E.Expression) (n : Node) → only_part n ≡ None → target_bit (node_tree names tree n) ≡ bit_of (name_of (node_tree names tree n))
no_part names tree (Literal bits signed sized) h = refl
no_part names tree (Name n) h = refl
no_part names tree (Bit of range index) h = selected (source_of (tree of)) _ (tree index)
no_part names tree (Part of range base up width) h = selected (source_of (tree of)) _ (tree base)
no_part names tree (Word n index) h = refl
no_part names tree (WordPart n address range base up width) h = refl
no_part names tree (Unary op x) h = refl
no_part names tree (Binary op x y) h = refl
no_part names tree (Choice c p q) h = refl
no_part names tree (Join []) h = refl
no_part names tree (Join (part ∷ [])) h = absurd (some_none part h)
  where
    some_none : (k : ℕ) → Some k ≡ None → ⊥
    some_none k e = cc
no_part names tree (Join (a ∷ b ∷ es)) h = many_parts tree a b es
no_part names tree (Local function n) h = refl
no_part names tree (Call function arguments) h = refl

-- and what has one is the target that this is
pub one_part : (names : Names) (tree : ℕ → E.Expression) (n : Node) (part : ℕ) → only_part n ≡ Some part → target_bit (node_tree names tree n) ≡ target_bit (tree part)
one_part names tree (Join (p ∷ [])) part h = ap (λ (k : ℕ). target_bit (tree k)) (same p part h)
  where
    same : (x y : ℕ) → Some x ≡ Some y → x ≡ y
    same x y e = cc
one_part names tree (Join []) part h = cc
one_part names tree (Join (a ∷ b ∷ es)) part h = cc
one_part names tree (Literal bits signed sized) part h = cc
one_part names tree (Name n) part h = cc
one_part names tree (Bit of range index) part h = cc
one_part names tree (Part of range base up width) part h = cc
one_part names tree (Word n index) part h = cc
one_part names tree (WordPart n address range base up width) part h = cc
one_part names tree (Unary op x) part h = cc
one_part names tree (Binary op x y) part h = cc
one_part names tree (Choice c p q) part h = cc
one_part names tree (Local function n) part h = cc
one_part names tree (Call function arguments) part h = cc

-- the only part is one of the parts
part_of : (n : Node) (part : ℕ) → only_part n ≡ Some part → (parts : List ℕ) × (n ≡ Join parts) × (length parts ≡ 1) × (part ≡ slice_index parts 0)
part_of (Join (p ∷ [])) part h = (p ∷ [], refl, refl, sym (same p part h))
  where
    same : (x y : ℕ) → Some x ≡ Some y → x ≡ y
    same x y e = cc
part_of (Join []) part h = cc
part_of (Join (a ∷ b ∷ es)) part h = cc
part_of (Literal bits signed sized) part h = cc
part_of (Name n) part h = cc
part_of (Bit of range index) part h = cc
part_of (Part of range base up width) part h = cc
part_of (Word n index) part h = cc
part_of (WordPart n address range base up width) part h = cc
part_of (Unary op x) part h = cc
part_of (Binary op x y) part h = cc
part_of (Choice c p q) part h = cc
part_of (Local function n) part h = cc
part_of (Call function arguments) part h = cc

pub part_below : (signals e : ℕ) (n : Node) (part : ℕ) → only_part n ≡ Some part → HasNames signals e n → part < e
part_below signals e n part h names =
    let p = part_of n part h in
    let each : HasNames signals e (Join p.0) = subst (HasNames signals e) p.1 names in
    subst (λ (k : ℕ). k < e) (sym p.3) (each 0 (omega (arith, p.2)))
