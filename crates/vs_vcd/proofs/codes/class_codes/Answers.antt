use Rattle.std.proofs.Common.{◌≡◌, ◌<◌, ◌-◌, ℕ, suc, List, drop, length, sym, ap, ◌∙◌, subst, arith}
use Rattle.std.specs.Prelude.{None, Some}
use Rattle.std.proofs.lemmas.List.{with_items_is}
use Rattle.vs_design.specs.Designs.{Process}
use Rattle.vs_flat.specs.DesignOf.{design_of}
use Rattle.vs_vcd.specs.Links.{AreLinks, LinkBack}
use Rattle.vs_vcd.specs.Shared.{code_by}
use Rattle.vs_vcd.proofs.Linking.{links_end, links_more, process_there}
use Rattle.vs_vcd.proofs.codes.class_codes.Goals as goal

pub loop-left-init : goal.loop-left-init
loop-left-init c =
    let ps : List Process = (design_of c.args.flat.now).processes in
    record {
      few = omega (arith, c.process_count-left.ensures.count);
      count = c.in_ok-links.ensures.count ∙ c.signal_count.ensures.count;
      back = c.in_ok-links.ensures.back;
      links = links_end ps c.in_ok-links.links.items c.process_count-left.result (c.process_count-left.ensures.count ∙ sym (c.trees_law.ensures.counts c.args.flat.now).processes) c.in_ok-links.ensures.own;
    }

pub loop-left-preserved-in-Some : goal.loop-left-preserved-in-Some
loop-left-preserved-in-Some c =
    let ps : List Process = (design_of c.args.flat.now).processes in
    let inv = c.loop-left.invariant in
    let left : ℕ = c.loop-left.left in
    let less : left - 1 < length ps = omega (arith, c.loop-left-test.true, inv.few, (c.trees_law.ensures.counts c.args.flat.now).processes) in
    let x = process_there ps (left - 1) less in
    let next : left ≡ suc (left - 1) = omega (arith, c.loop-left-test.true) in
    let code : ℕ → ℕ = code_by (drop left ps) in
    let joined = c.join.ensures.joined code (subst (AreLinks code) (sym c.deref_mut.ensures.value) inv.links) in
    let items_is = with_items_is c.loop-left.links c.join.new.links (omega arith) in
    record {
      few = omega (arith, inv.few);
      count = ap length items_is ∙ c.join.ensures.count ∙ ap length c.deref_mut.ensures.value ∙ inv.count;
      back = subst LinkBack (sym items_is) c.join.ensures.back;
      links = subst (AreLinks (code_by (drop (left - 1) ps))) (sym items_is) (links_more ps c.join.new.links left (left - 1) x.0 (Some (c.in-Some.one, c.in-Some.other)) next x.1 (c.in-Some.ensures.joined x.0 x.1) joined);
    }

pub loop-left-preserved : goal.loop-left-preserved
loop-left-preserved c =
    let ps : List Process = (design_of c.args.flat.now).processes in
    let inv = c.loop-left.invariant in
    let left : ℕ = c.loop-left.left in
    let less : left - 1 < length ps = omega (arith, c.loop-left-test.true, inv.few, (c.trees_law.ensures.counts c.args.flat.now).processes) in
    let x = process_there ps (left - 1) less in
    let next : left ≡ suc (left - 1) = omega (arith, c.loop-left-test.true) in
    record {
      few = omega (arith, inv.few);
      count = inv.count;
      back = inv.back;
      links = links_more ps c.loop-left.links.items left (left - 1) x.0 None next x.1 (c.in_default.ensures.joined x.0 x.1) inv.links;
    }
