-- Parts of a scope that are processes of its own, initial ones among them: all but instances and generate blocks.
use Rattle.vs_ast.specs.Views as view
use Rattle.vs_elaborated.specs.Environments.{Env, named}
use Rattle.vs_build.specs.Writable.{wire_assign, assign_process}
use Rattle.vs_build.specs.Drafts.{Draft, and_process, and_initial}
use Rattle.vs_build.specs.Executable.{barred, block_process, begun, value_assignment}
use Rattle.vs_elab.specs.declared.pending.Part.{Part}
use Rattle.vs_elab.specs.declared.pending.Part.TheVariants.{Wire, Value, Assigned, Always, Initial}
use Rattle.vs_elab.specs.Fine.{IsFineAssign, IsFineBegun, IsFineBlock}

-- one that breaks no rule, where this stands around it
abbrev pub IsFineOwn : Env → Part → Type 0
IsFineOwn env (Wire place name value) = IsFineAssign env (wire_assign (view.name name.now) (view.expr value.now))
IsFineOwn env (Value name value) = IsFineBegun env (value_assignment (view.name name.now) (view.expr value.now))
IsFineOwn env (Assigned place a) = IsFineAssign env (view.assign a.now)
IsFineOwn env (Always b) = IsFineBlock env (view.always_block b.now)
IsFineOwn env (Initial b) = IsFineBegun env (view.initial_block b.now).statement
IsFineOwn env _ = ⊥

-- with the process that it is (6.1, 6.1.1, 6.2.1 and 9.9)
abbrev pub with_own : Draft → Env → Part → Draft
with_own s env (Wire place name value) = and_process s (assign_process place (wire_assign (view.name name.now) (view.expr value.now)) (named env))
with_own s env (Value name value) = and_initial s (view.name name.now).place (begun (value_assignment (view.name name.now) (view.expr value.now)) (named env))
with_own s env (Assigned place a) = and_process s (assign_process place (view.assign a.now) (named env))
with_own s env (Always b) = and_process s (block_process barred (view.always_block b.now) (named env))
with_own s env (Initial b) = and_initial s (view.initial_block b.now).place (begun (view.initial_block b.now).statement (named env))
with_own s env _ = s
