-- A sequence of statements, as far as the lowering has come.
use Rattle.std.proofs.Common.{◌≡◌, ℕ, List, [], ◌∷◌, sym, subst}
use Rattle.vs_design.specs.Footprints.{statement_bits}
use Rattle.vs_design.specs.Statements.{Statement}
use Rattle.vs_flat.specs.Trees.{sequence}
use Rattle.vs_values.specs.Coded.{Coding}
use Rattle.vs_lower.specs.Stated.{IsStatementReady, AddsStatement, AreInside}
use Rattle.vs_lower.proofs.Apart.{left_among, right_among}
use Rattle.vs_lower.proofs.Sequencing.{IsSoFar, chain, chain_bits, ready_chain, ready_head, ready_rest, one_more, adds_empty, adds_chain}

-- what holds before the statements `rest` of all of them
pub record IsUpTo (count : ℕ) (now later : List ℕ) (old : Coding) (all rest : List Statement) (now1 later1 : List ℕ) (new : Coding) : Type 0 where
  pub ready : IsStatementReady count now1 later1 new (chain rest)
  pub inside : AreInside count (statement_bits (chain rest))
  pub so_far : IsSoFar now later old all rest now1 later1 new

pub none_yet : (count : ℕ) (now later : List ℕ) (code : Coding) (all : List Statement) → IsStatementReady count now later code (sequence all) → AreInside count (statement_bits (sequence all))
    → IsUpTo count now later code all all now later code
none_yet count now later code all r i = record {
  ready = ready_chain count now later code all r;
  inside = subst (AreInside count) (sym (chain_bits all)) i;
  so_far = λ last now2 later2 d. d;
}

pub next_ready : (count : ℕ) (now later : List ℕ) (old : Coding) (all : List Statement) (x : Statement) (rest : List Statement) (now1 later1 : List ℕ) (new : Coding)
    → IsUpTo count now later old all (x ∷ rest) now1 later1 new → IsStatementReady count now1 later1 new x × AreInside count (statement_bits x)
next_ready count now later old all x rest now1 later1 new u =
    (ready_head count now1 later1 new x (chain rest) u.ready, λ b h. u.inside b (left_among (statement_bits x) (statement_bits (chain rest)) (statement_bits (chain (x ∷ rest))) (λ c k. k) b h))

pub next_done : (count : ℕ) (now later : List ℕ) (old : Coding) (all : List Statement) (x : Statement) (rest : List Statement) (now1 later1 now2 later2 : List ℕ) (new last : Coding)
    → IsUpTo count now later old all (x ∷ rest) now1 later1 new → AddsStatement now1 later1 new last x now2 later2
    → IsUpTo count now later old all rest now2 later2 last
next_done count now later old all x rest now1 later1 now2 later2 new last u d = record {
  ready = ready_rest count now1 later1 new last x (chain rest) now2 later2 u.ready d;
  inside = λ b h. u.inside b (right_among (statement_bits x) (statement_bits (chain rest)) (statement_bits (chain (x ∷ rest))) (λ c k. k) b h);
  so_far = one_more now later old new last all x rest now1 later1 now2 later2 u.so_far d;
}

pub all_done : (count : ℕ) (now later : List ℕ) (old : Coding) (all rest : List Statement) (now1 later1 : List ℕ) (new : Coding) → rest ≡ [] → IsUpTo count now later old all rest now1 later1 new
    → AddsStatement now later old new (sequence all) now1 later1
all_done count now later old all rest now1 later1 new e u =
    let v = subst (λ (xs : List Statement). IsUpTo count now later old all xs now1 later1 new) e u in
    adds_chain now later old new all now1 later1 (v.so_far new now1 later1 (adds_empty count now1 later1 new v.ready))
