-- What a statement says as a whole.
use Rattle.std.proofs.Common.{◌≡◌, ℕ, ◌<◌, ◌≤◌, Bool, true, false, nat_lt, if◌then◌else◌, refl, ap, ◌∙◌, arith}
use Rattle.std.proofs.lemmas.Bool.{ltb-true, ltb-false}
use Rattle.vs_grammar.specs.Trees as tree
use Rattle.vs_const.specs.Meanings.{Meaning, Find}
use Rattle.vs_elaborated.specs.Statements.{TypedStatement, typed_statement, unrolled_within}
use Rattle.vs_bodies.specs.declared.statements.BodyKind.{BodyKind}
use Rattle.vs_bodies.specs.declared.said.StatementSaid.{StatementSaid}
use Rattle.vs_bodies.specs.declared.told.Told.{Told}
use Rattle.vs_bodies.specs.Bodies.{body_of}
use Rattle.vs_bodies.specs.Said.{IsSaid}
use Rattle.vs_bodies.specs.Told.{told}

count_is : (w : Told) (t : TypedStatement) → w ≡ told false t → w.count ≡ t.copies
count_is w t e = ap (λ (z : Told). z.count) e

-- what is told is what is said
pub record Repeats (c : StatementSaid) (w : Told) : Type 0 where
  pub fault : c.fault ≡ w.fault
  pub copies : c.copies ≡ w.count
  pub depth : c.depth ≡ w.depth

said_of : (c : StatementSaid) (w : Told) (t : TypedStatement) → Repeats c w → w ≡ told false t → IsSaid c t
said_of c w t r e = record { fault = r.fault ∙ ap (λ (z : Told). z.fault) e; copies = r.copies ∙ ap (λ (z : Told). z.count) e; depth = r.depth ∙ ap (λ (z : Told). z.depth) e }

-- its loops copy no more statements than are left
pub said_unrolled : (most : ℕ) (s : tree.Statement) (kind : BodyKind) (declared : ℕ → Meaning) (find : Find) (c : StatementSaid) (w : Told) → Repeats c w → w ≡ told false (typed_statement s (body_of kind true declared) find) → w.count ≤ most
    → IsSaid c (unrolled_within most s (body_of kind true declared) find)
said_unrolled most s kind declared find c w r e h = by (nat_lt most whole.copies) refl
  where
    whole : TypedStatement
    whole = typed_statement s (body_of kind true declared) find

    by : (b : Bool) → nat_lt most whole.copies ≡ b → IsSaid c (if b then typed_statement s (body_of kind false declared) find else whole)
    by true k = let n = count_is w whole e in let l = ltb-true most whole.copies k in absurd (omega (arith, n, l, h))
    by false k = said_of c w whole r e

-- they copy more
pub said_refused : (most : ℕ) (s : tree.Statement) (kind : BodyKind) (declared : ℕ → Meaning) (find : Find) (c : StatementSaid) (w : Told) → Repeats c w → most < (told false (typed_statement s (body_of kind true declared) find)).count
    → w ≡ told false (typed_statement s (body_of kind false declared) find) → IsSaid c (unrolled_within most s (body_of kind true declared) find)
said_refused most s kind declared find c w r h e = by (nat_lt most whole.copies) refl
  where
    whole : TypedStatement
    whole = typed_statement s (body_of kind true declared) find

    by : (b : Bool) → nat_lt most whole.copies ≡ b → IsSaid c (if b then typed_statement s (body_of kind false declared) find else whole)
    by true k = said_of c w (typed_statement s (body_of kind false declared) find) r e
    by false k = let l = ltb-false most whole.copies k in absurd (omega (arith, l, h))
