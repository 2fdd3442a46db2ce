use Rattle.vs_build.proofs.Ended.{idle, all_closed, begun_kept, begun_now, begun_draft}
use Rattle.vs_build.proofs.builder.Builder.begin_function.Goals as goal

pub add_function-requires : goal.add_function-requires
add_function-requires c = all_closed c.self.inside.flat c.self.inside.roots.items c.self.inside.bodies.items (idle c.self.inside.flat c.self.inside.roots.items c.self.inside.bodies.items c.args.self.now c.self.invariant.0 c.self.view_is c.requires.outside c.requires.expressions c.requires.statements)

pub invariant_of-self-2 : goal.invariant_of-self-2
invariant_of-self-2 c =
    let i = idle c.self.inside.flat c.self.inside.roots.items c.self.inside.bodies.items c.args.self.now c.self.invariant.0 c.self.view_is c.requires.outside c.requires.expressions c.requires.statements in
    (begun_kept c.self.inside.flat c.add_function.new.self c.self.inside.roots.items c.self.inside.bodies.items c.args.self.now c.args.header i c.self.view_is c.requires.locals c.requires.formed c.in_ok-add_function.ensures.room c.in_ok-add_function.ensures.ok, begun_now c.self.inside.flat c.add_function.new.self c.self.inside.roots.items c.self.inside.bodies.items c.args.header i c.in_ok-add_function.ensures.ok)

pub returns : goal.returns
returns c =
    let i = idle c.self.inside.flat c.self.inside.roots.items c.self.inside.bodies.items c.args.self.now c.self.invariant.0 c.self.view_is c.requires.outside c.requires.expressions c.requires.statements in
    begun_draft c.self.inside.flat c.add_function.new.self c.self.inside.roots.items c.self.inside.bodies.items c.args.self.now c.args.header i c.self.view_is c.in_ok-add_function.ensures.ok
