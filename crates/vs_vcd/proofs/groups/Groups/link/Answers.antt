use Rattle.std.proofs.Common.{◌≡◌, ◌+◌, ℕ, length, get_or, set, refl, sym, ap, ◌∙◌, subst, arith}
use Rattle.std.specs.Prelude.{slice_get, Option, Some, None}
use Rattle.std.proofs.lemmas.Option.{slice_get-get_or}
use Rattle.std.proofs.lemmas.Bool.{ne_eqb}
use Rattle.std.proofs.lemmas.List.{get_or_default}
use Rattle.vs_vcd.specs.Groups.{AreLinkedFrom}
use Rattle.vs_vcd.proofs.Grouping.{linked-kept, linked-put}
use Rattle.vs_vcd.proofs.groups.Groups.link.Goals as goal

pub returns-then-group-len : goal.returns-then-group-len
returns-then-group-len c =
    let keys = c.args.keys.now in
    let first = c.args.self.now.first.items in
    let next = c.args.self.now.next.items in
    let key : slice_get keys c.args.number ≡ Some (Some c.in-Some.group) = slice_get-get_or keys c.args.number None c.requires.within ∙ ap Some c.in-Some.is in
    let value : c.index.result.now ≡ get_or first c.in-Some.group None = c.index.ensures ∙ get_or_default first c.in-Some.group c.index.result.now None (omega arith) in
    record {
      linked = subst (λ (v : Option ℕ). AreLinkedFrom c.args.number (length first) keys (set first c.in-Some.group (Some c.args.number)) (set next c.args.number v)) (sym value)
          (linked-put c.args.number (c.args.number + 1) (length first) keys first next c.in-Some.group (omega arith) key (omega arith) c.requires.later);
    }

pub returns-else-group-len : goal.returns-else-group-len
returns-else-group-len c =
    let keys = c.args.keys.now in
    let key : slice_get keys c.args.number ≡ Some (Some c.in-Some.group) = slice_get-get_or keys c.args.number None c.requires.within ∙ ap Some c.in-Some.is in
    record { linked = linked-kept c.args.number (c.args.number + 1) _ keys _ _ (Some c.in-Some.group) (omega arith) key (λ g h. ne_eqb c.in-Some.group g (λ (p : c.in-Some.group ≡ g). omega arith)) c.requires.later }

pub returns-in_default : goal.returns-in_default
returns-in_default c =
    let keys = c.args.keys.now in
    let key : slice_get keys c.args.number ≡ Some None = slice_get-get_or keys c.args.number None c.requires.within ∙ ap Some c.in_default.is in
    record { linked = linked-kept c.args.number (c.args.number + 1) _ keys _ _ None (omega arith) key (λ g h. refl) c.requires.later }
