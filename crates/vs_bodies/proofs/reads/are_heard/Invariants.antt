use Rattle.std.proofs.Common.{ℕ, is_some}
use Rattle.vs_maps.specs.Places.{found_at}
use Rattle.vs_maps.specs.PlaceViews.{placed}
use Rattle.vs_bodies.proofs.Mentioned.{AreHeardFrom}
use Rattle.vs_bodies.proofs.reads.are_heard.Given as goal

abbrev pub invariant-loop-m : goal.invariant-loop-m
invariant-loop-m l = AreHeardFrom (λ (n : ℕ). is_some (found_at n (placed l.named))) l.list l.m-index
