use Rattle.std.proofs.Common.{◌≡◌, nat_le, Bool, true, false, List, map, length, sym, ◌∙◌}
use Rattle.std.specs.List.{list_all}
use Rattle.std.proofs.lemmas.List.Folds.{list_all-map}
use Rattle.vs_job.specs.Job as spec
use Rattle.vs_job.proofs.defines.are_defines.Goals as goal

all_define : {X : Type 0} (f : X → spec.Text) (xs : List X) (short : Bool) → list_all (λ x. spec.is_define (f x)) xs ≡ true
    → short ≡ nat_le (length (spec.head_of (map f xs))) spec.most_head → short ≡ spec.are_defines (map f xs)
all_define f xs short all h = rw (list_all-map spec.is_define f xs, all) h

one_does_not : {X : Type 0} (f : X → spec.Text) (xs : List X) → list_all (λ x. spec.is_define (f x)) xs ≡ false → false ≡ spec.are_defines (map f xs)
one_does_not f xs none = rw (list_all-map spec.is_define f xs, none)

pub returns-then-define_all : goal.returns-then-define_all
returns-then-define_all c = all_define (λ s. s.now) c.args.values.now c.are_short.result (sym c.define_all.ensures ∙ c.if-define_all.true) c.are_short.ensures

pub returns-else-define_all : goal.returns-else-define_all
returns-else-define_all c = c.if-define_all.false ∙ one_does_not (λ s. s.now) c.args.values.now (sym c.define_all.ensures ∙ c.if-define_all.false)
