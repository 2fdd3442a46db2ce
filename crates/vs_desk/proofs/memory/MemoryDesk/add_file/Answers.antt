use Rattle.vs_desk.proofs.memory.MemoryDesk.add_file.Goals as goal

pub invariant_of-self : goal.invariant_of-self
invariant_of-self c = record {
  positive = c.args.self.now.positive;
  held = λ p a is. c.set_file.ensures.kept a.path (c.args.self.now.held p a is);
}
