use Rattle.vs_bodies.proofs.Declaring.{AreDeclared}
use Rattle.vs_bodies.proofs.blocks.block_of.Given as goal

abbrev pub invariant-loop-v : goal.invariant-loop-v
invariant-loop-v l = AreDeclared l.takes_variables l.v-items l.map l.v-index l.repeated l.untaken
