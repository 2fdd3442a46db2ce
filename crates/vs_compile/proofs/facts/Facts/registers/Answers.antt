use Rattle.std.proofs.Common.{Result, Ok, Err}
use Rattle.std.specs.Prelude.{IfOk}
use Rattle.vs_flat.specs.DesignOf.{design_of}
use Rattle.vs_compile.proofs.Laying.{ascending_registers}
use Rattle.vs_compile.proofs.facts.Facts.registers.Goals as goal

if_ok : {V W : Type 0} {P Q : V → Type 0} (r : Result V W) → IfOk r P → ((v : V) → P v → Q v) → IfOk r Q
if_ok (Ok v) h k = k v h
if_ok (Err e) h k = h

pub returns : goal.returns
returns c =
    let k = c.args.self.now in
    if_ok c.registers.result c.registers.ensures
    (λ v is. ascending_registers c.list_law.ensures.few c.list_law.ensures.ascending c.sources_law.ensures (design_of k.arena) k.clocks c.typed-typed.ensures.accepted c.args.count c.requires v.items is)
