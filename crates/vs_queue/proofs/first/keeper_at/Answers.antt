use Rattle.std.proofs.Common.{length, sym, ap, ◌∙◌, arith}
use Rattle.vs_flat.specs.DesignOf.{design_of}
use Rattle.vs_queue.proofs.Inputs.{few_inputs}
use Rattle.vs_queue.proofs.Driving.{inputs_count}
use Rattle.vs_queue.proofs.first.keeper_at.Goals as goal

pub overflow_cast-inputs : goal.overflow_cast-inputs
overflow_cast-inputs c =
    let a = c.args.flat.now in
    let m = ap length c.top_inputs.ensures in
    let n = inputs_count c.trees_law.ensures.inputs a in
    let f = few_inputs (design_of a) (c.lawful_law.ensures.design a c.requires.lawful) in
    omega (arith, m, n, f)

pub overflow_add-result : goal.overflow_add-result
overflow_add-result c =
    let a = c.args.flat.now in
    let p = c.process_count.ensures.most in
    let m = ap length c.top_inputs.ensures in
    let n = inputs_count c.trees_law.ensures.inputs a in
    let f = few_inputs (design_of a) (c.lawful_law.ensures.design a c.requires.lawful) in
    omega (arith, p, m, n, f)

pub overflow_add-result-2 : goal.overflow_add-result-2
overflow_add-result-2 c =
    let a = c.args.flat.now in
    let p = c.process_count.ensures.most in
    let m = ap length c.top_inputs.ensures in
    let n = inputs_count c.trees_law.ensures.inputs a in
    let f = few_inputs (design_of a) (c.lawful_law.ensures.design a c.requires.lawful) in
    let s = c.requires.one in
    let k = c.spare_count.ensures in
    omega (arith, p, m, n, f, s, k)

pub returns : goal.returns
returns c =
    let a = c.args.flat.now in
    let d = design_of a in
    let l = c.lawful_law.ensures.design a c.requires.lawful in
    let few = l.few_processes in
    let processes = c.process_count.ensures.count ∙ sym (c.trees_law.ensures.counts a).processes in
    let m = ap length c.top_inputs.ensures in
    let n = inputs_count c.trees_law.ensures.inputs a in
    let f = few_inputs d l in
    let s = c.requires.one in
    let k = c.spare_count.ensures in
    record { is = omega (arith, processes, m, n, k); most = omega (arith, few, processes, m, n, f, s, k) }
