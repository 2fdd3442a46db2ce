use Rattle.std.proofs.Common.{◌≡◌, ◌≤◌, drop, length}
use Rattle.vs_flat.specs.DesignOf.{design_of}
use Rattle.vs_vcd.specs.Links.{AreLinks, LinkBack}
use Rattle.vs_vcd.specs.Shared.{code_by}
use Rattle.vs_vcd.proofs.codes.class_codes.Given as goal

-- the processes from `left` on are taken
abbrev pub invariant-loop-left : goal.invariant-loop-left
invariant-loop-left l = record {
  few : l.left ≤ length l.flat.processes;
  count : length l.links.items ≡ length l.flat.signals;
  back : LinkBack l.links.items;
  links : AreLinks (code_by (drop l.left (design_of l.flat).processes)) l.links.items;
}

abbrev pub decreases-loop-left : goal.decreases-loop-left
decreases-loop-left l = l.left
