-- The default that a case may have.
use Rattle.std.proofs.Common.{ℕ, List, sym, subst, Option, inl, inr}
use Rattle.vs_flat.specs.declared.statements.Arm.{Arm}
use Rattle.vs_flat.specs.Arena.{Arena}
use Rattle.vs_sets.specs.Completing.{IsNext}
use Rattle.vs_block.specs.Parts.{AreArms, IsBranch}

-- a default that a case may have is a branch
pub next_part : (a : Arena) (s : ℕ) (arms : List Arm) (other next : Option ℕ) → IsNext arms other next → AreArms a s arms → IsBranch a s other → IsBranch a s next
next_part a s arms other next (inl e) each branch = subst (IsBranch a s) (sym e) tt
next_part a s arms other next (inr (inl e)) each branch = subst (IsBranch a s) (sym e) branch
next_part a s arms other next (inr (inr i)) each branch = subst (IsBranch a s) (sym i.3) (each i.0 i.1 i.2).statement
