use Rattle.std.proofs.Common.{◌≡◌, ◌*◌, ℕ, true, false, ◌++◌, length, refl, ap₂, subst, arith}
use Rattle.vs_design.specs.Designs.{Design}
use Rattle.vs_design.specs.Elaborated.{is_formed_process}
use Rattle.vs_design.specs.Footprints.{contains}
use Rattle.vs_design.proofs.Parts.{all_at}
use Rattle.vs_vcd.specs.Scopes.{head_text}
use Rattle.vs_vcd.specs.Texts.{shown_numbers, slot_texts, last_text}
use Rattle.vs_vcd.specs.Shared.{class_code, TextIsParts, CodesAreClasses, UnjoinedIsPlain}
use Rattle.vs_vcd.proofs.Classes.{coding, alike_code, equal_codes, code_has, code_own}
use Rattle.vs_vcd.proofs.Joining.{join_facts, plain_join, plain_shown, one_value}
use Rattle.vs_vcd.proofs.Leading.{places_lead, coded_own, led_own}
use Rattle.vs_vcd.proofs.laws.share_law.Goals as goal

parts : TextIsParts
parts true d half ends = refl
parts false d half ends = refl

pub returns-clause-parts : goal.returns-clause-parts
returns-clause-parts c = parts

pub returns-clause-places : goal.returns-clause-places
returns-clause-places c = places_lead

classes : CodesAreClasses
classes d lawful n shown = record {
  alike = alike_code d n;
  shown = code_has (λ k. contains (shown_numbers d) k ≡ true) d.processes
      (λ p process m k at e.
      let j = join_facts process m k e in
      let plain = plain_join d process m k (all_at (is_formed_process d) d.processes p process lawful.formed at) j in
      (subst (λ i. contains (shown_numbers d) i ≡ true) j.from_number (plain_shown d j.from plain.from), subst (λ i. contains (shown_numbers d) i ≡ true) j.to_number (plain_shown d j.to plain.to)))
      n shown;
  least = λ m alike _.
      let same : class_code d n ≡ class_code d m = equal_codes d n m alike in
      omega (arith, same, (coding d.processes).below m);
}

pub returns-clause-classes : goal.returns-clause-classes
returns-clause-classes c = classes

pub returns-clause-values : goal.returns-clause-values
returns-clause-values c = one_value c.solution_law.ensures

unjoined : UnjoinedIsPlain
unjoined d none half ends =
    let own : (n : ℕ) → class_code d n ≡ n = code_own d.processes none in
    ap₂ (λ (x y : Design). head_text x ++ slot_texts y half ends ++ last_text (length ends * half)) (coded_own (class_code d) d own) (led_own (class_code d) d own)

pub returns-clause-unjoined : goal.returns-clause-unjoined
returns-clause-unjoined c = unjoined
