use Rattle.std.proofs.Common.{◌≡◌, ◌<◌, ℕ, length}
use Rattle.vs_vcd.specs.Links.{AreLinks, KeepsLinks, LinkBack}
use Rattle.vs_vcd.proofs.links.first_of.Given as goal

abbrev pub invariant-loop-links : goal.invariant-loop-links
invariant-loop-links l = record {
  there : l.n < length l.links;
  count : length l.links ≡ length l.fn.links;
  back : LinkBack l.links;
  kept : KeepsLinks l.fn.links l.links;
  code : (code : ℕ → ℕ) → AreLinks code l.fn.links → code l.n ≡ code l.number;
}

abbrev pub decreases-loop-links : goal.decreases-loop-links
decreases-loop-links l = l.n
