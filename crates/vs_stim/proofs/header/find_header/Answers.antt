use Rattle.std.proofs.Common.{rules, false, ◌≡◌, ◌++◌, refl, Bool, Global, Vec, sym, ◌∙◌, subst, arith}
use Rattle.std.proofs.lemmas.Grind.{common_steps}
use Rattle.vs_stim.specs.declared.input.Column.{Column}
use Rattle.vs_stim.specs.declared.input.Expected.{Expected}
use Rattle.vs_stim.specs.Heading.{columns_of_heading}
use Rattle.vs_stim.specs.Fields.{fields}
use Rattle.vs_stim.specs.Header.{lacks_output, header}
use Rattle.vs_stim.specs.Source.{open_at, rest_of, says, vectors_from, Passes, PassesHeader}
use Rattle.vs_stim.proofs.Passed.{header_passed}
use Rattle.vs_stim.proofs.Turns.{skipped_is, fault_skipped, header_found}
use Rattle.vs_stim.proofs.Untold.{none_passed, passed_more, untold_here}
use Rattle.vs_stim.proofs.header.find_header.Goals as goal

pub lines-preserved : goal.lines-preserved
lines-preserved g c =
    let h = c.in_ok-kind.ensures in
    let inv = c.lines.invariant in
    record {
      source = search rules;
      begins = search rules;
      heading = search rules;
      stage = search rules;
      place = search rules;
      register = search rules;
      others = search rules;
      passed = λ t.
          let o = open_at c.lines.source (g.D.Desk.told c.lines.desk) in
          let p = open_at c.read_heading.new.source (g.D.Desk.told c.read_heading.new.desk) in
          let P : Bool → Type 0 = λ b. Passes b o p in
          passed_more _ o p (inv.passed t) inv.begins (h.ends t c.if-last.false) (subst P c.if-last.false (h.passes t))
          (skipped_is (says o) (header c.args.ports.now (fields (says o))) (rw c.in-Skipped.is at (h.says t)));
      reading = grind (arith, common_steps);
      fault = λ t.
          let o = open_at c.lines.source (g.D.Desk.told c.lines.desk) in
          let p = open_at c.read_heading.new.source (g.D.Desk.told c.read_heading.new.desk) in
          let P : Bool → Type 0 = λ b. Passes b o p in
          inv.fault t ∙ fault_skipped c.args.ports.now o p inv.begins (subst P c.if-last.false (h.passes t)) (sym (rw c.in-Skipped.is at (h.says t)));
    }

pub lines-init : goal.lines-init
lines-init g c = record {
  source = search rules;
  begins = search rules;
  heading = search rules;
  stage = search rules;
  place = search rules;
  register = search rules;
  others = search rules;
  passed = λ t. none_passed _;
  reading = λ t. refl;
  fault = λ t. refl;
}

pub returns-in_err-kind-clause-needed : goal.returns-in_err-kind-clause-needed
returns-in_err-kind-clause-needed g c = λ t e.
    let h = c.in_err-kind.ensures in
    let inv = c.lines.invariant in
    let new = c.read_heading.new.source in
    let after = g.D.Desk.told c.read_heading.new.desk in
    let o = open_at c.lines.source (g.D.Desk.told c.lines.desk) in
    let p = open_at new after in
    let rest : rest_of new after ≡ after.contents.left c.args.source.now.place =
    (λ i. h.empty (search rules) i ++ after.contents.left ((h.place ∙ inv.place) i)) in
    untold_here _ o p (after.contents.left c.args.source.now.place) (inv.passed t) inv.begins (h.went t (search rules)) h.source.line h.source.bytes rest

pub returns-in-Given-clause-passes : goal.returns-in-Given-clause-passes
returns-in-Given-clause-passes g c = λ t.
    let h = c.in_ok-kind.ensures in
    let inv = c.lines.invariant in
    let is = c.args.ports.now in
    let columns = columns_of_heading c.read_heading.new.heading in
    let named : lacks_output c.args.ports.now columns ≡ false = sym c.lacks_output.ensures ∙ c.if-lacks_output.false in
    let a = open_at c.args.source.now (g.D.Desk.told c.args.desk.now) in
    let o = open_at c.lines.source (g.D.Desk.told c.lines.desk) in
    let p = open_at c.read_heading.new.source (g.D.Desk.told c.read_heading.new.desk) in
    subst (λ (es : Vec Expected Global). PassesHeader is (record { inputs = c.into_columns.result.inputs.items; expected = es.items }) a p) (sym c.into_columns.ensures.expected)
    (subst (λ (cs : Vec Column Global). PassesHeader is (record { inputs = cs.items; expected = c.read_heading.new.heading.expected.items }) a p) (sym c.into_columns.ensures.inputs)
    (header_passed is columns a o p c.in_ok-kind.last (inv.passed t) inv.begins (h.ends t) (h.passes t) (omega (arith, h.source.bytes)) (sym (rw c.in-Given.is at (h.says t))) named))

pub returns-in-Given-clause-found : goal.returns-in-Given-clause-found
returns-in-Given-clause-found g c = λ t.
    let h = c.in_ok-kind.ensures in
    let inv = c.lines.invariant in
    let columns = columns_of_heading c.read_heading.new.heading in
    let o = open_at c.lines.source (g.D.Desk.told c.lines.desk) in
    let p = open_at c.read_heading.new.source (g.D.Desk.told c.read_heading.new.desk) in
    let named : lacks_output c.args.ports.now columns ≡ false = sym c.lacks_output.ensures ∙ c.if-lacks_output.false in
    inv.reading t
    ∙ header_found c.args.ports.now columns o p c.in_ok-kind.last inv.begins (h.passes t) (omega (arith, h.source.bytes)) (sym (rw c.in-Given.is at (h.says t))) named
    ∙ (λ i. vectors_from (record { inputs = (sym c.into_columns.ensures.inputs i).items; expected = (sym c.into_columns.ensures.expected i).items }) 0 p)
