use Rattle.std.proofs.Common.{◌≡◌, ◌+◌, ◌*◌, ◌%◌, ◌^◌, ◌≤◌, List, length, refl, sym, ap, ◌∙◌, subst, arith}
use Rattle.std.proofs.Math.Nat.{zero-mul}
use Rattle.vs_stim.specs.Wanted.{marked, ReadsWanted}
use Rattle.vs_stim.specs.declared.wanted.Digit.{Digit}
use Rattle.vs_stim.proofs.Marked.{view_length, reads_marked, some_digit, shifted_below, shifted_fits}
use Rattle.vs_stim.proofs.wanted.WantedDigits.read.Goals as goal

pub read-count-requires : goal.read-count-requires
read-count-requires c = omega (arith, c.requires, view_length c.self.inside.bits c.self.inside.any c.args.self.now c.self.view_is)

pub overflow_shl-self : goal.overflow_shl-self
overflow_shl-self c =
    let long = view_length c.self.inside.bits c.self.inside.any c.args.self.now c.self.view_is in
    let some = some_digit (length c.self.inside.bits) c.self.inside.any c.if-self-ne0.true c.self.invariant in
    let few = c.read-count.ensures.few in
    omega (arith, c.requires, long, some, few)

pub invariant_of-self : goal.invariant_of-self
invariant_of-self c =
    let long = view_length c.self.inside.bits c.self.inside.any c.args.self.now c.self.view_is in
    let few = c.read-count.ensures.few in
    let room : length c.self.inside.bits + c.read-count.result ≤ 64 = omega (arith, c.requires, long, few) in
    let below = shifted_below c.self.inside.any (length c.self.inside.bits) c.read-count.result c.self.invariant in
    let fits = shifted_fits c.self.inside.any (length c.self.inside.bits) c.read-count.result c.self.invariant room in
    rw (fits, c.read-count.ensures.count) below

pub returns-then-self-ne0-clause-count : goal.returns-then-self-ne0-clause-count
returns-then-self-ne0-clause-count c =
    let any = c.self.inside.any * 2 ^ c.read-count.result % 18446744073709551616 in
    sym (view_length c.read-count.new.self any (marked c.read-count.new.self any) refl) ∙ c.read-count.ensures.count ∙ ap (λ n. n + c.read-count.result) (view_length c.self.inside.bits c.self.inside.any c.args.self.now c.self.view_is)

pub returns-then-self-ne0-clause-reads : goal.returns-then-self-ne0-clause-reads
returns-then-self-ne0-clause-reads c =
    let long = view_length c.self.inside.bits c.self.inside.any c.args.self.now c.self.view_is in
    let few = c.read-count.ensures.few in
    let room : length c.self.inside.bits + c.read-count.result ≤ 64 = omega (arith, c.requires, long, few) in
    let after = c.self.inside.any * 2 ^ c.read-count.result % 18446744073709551616 in
    let fits = shifted_fits c.self.inside.any (length c.self.inside.bits) c.read-count.result c.self.invariant room in
    subst (λ (high : List Digit). ReadsWanted c.args.bytes.now c.read-count.result high (marked c.read-count.new.self after)) c.self.view_is
    (reads_marked c.args.bytes.now c.read-count.result c.self.inside.bits c.read-count.new.self c.self.inside.any after c.read-count.ensures.reads c.read-count.ensures.count fits)

pub returns-else-self-ne0-clause-count : goal.returns-else-self-ne0-clause-count
returns-else-self-ne0-clause-count c =
    let any = c.self.inside.any in
    sym (view_length c.read-count.new.self any (marked c.read-count.new.self any) refl) ∙ c.read-count.ensures.count ∙ ap (λ n. n + c.read-count.result) (view_length c.self.inside.bits c.self.inside.any c.args.self.now c.self.view_is)

pub returns-else-self-ne0-clause-reads : goal.returns-else-self-ne0-clause-reads
returns-else-self-ne0-clause-reads c =
    let any = c.self.inside.any in
    let none : any ≡ 0 = c.if-self-ne0.false in
    let same : any ≡ any * 2 ^ c.read-count.result = none ∙ sym (ap (λ n. n * 2 ^ c.read-count.result) none ∙ zero-mul (2 ^ c.read-count.result)) in
    subst (λ (high : List Digit). ReadsWanted c.args.bytes.now c.read-count.result high (marked c.read-count.new.self any)) c.self.view_is
    (reads_marked c.args.bytes.now c.read-count.result c.self.inside.bits c.read-count.new.self any any c.read-count.ensures.reads c.read-count.ensures.count same)
