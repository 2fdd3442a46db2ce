use Rattle.std.proofs.Common.{◌≡◌, ◌≤◌, [], ◌++◌, ℕ, sym, ap, ◌∙◌, subst}
use Rattle.vs_const.specs.Faults.{least, better}
use Rattle.vs_const.proofs.Least.{least_append}
use Rattle.vs_elaborated.specs.Limits.{the_limits}
use Rattle.vs_elaborated.specs.Surveys.{ports_said, items_said, processes_over}
use Rattle.vs_scope.specs.Contents.{contents_header, contents_items}
use Rattle.vs_scope.specs.Frames.{view_env}
use Rattle.vs_const.specs.Meanings.{Find}
use Rattle.vs_elaborated.specs.Environments.{named}
use Rattle.vs_items.specs.Unheard.{scope_unheard}
use Rattle.vs_items.proofs.BodyFaults.{ports_alike, none_counted, better_first, better_second}
use Rattle.vs_items.proofs.bodies.said_items.Goals as goal

pub returns-clause-said : goal.returns-clause-said
returns-clause-said c = λ source around made a names same.
    let header = contents_header c.args.contents in
    let ports = ports_said around.env header in
    let items = items_said the_limits source around c.args.loops.now (contents_items c.args.contents) made in
    let begun = c.count_header.ensures.counted around.env c.args.total [] (none_counted c.args.most c.args.total c.requires.few) in
    let counted = c.in_ok-count_contents.ensures.counted the_limits source around c.args.loops.now made c.args.total ports.pieces a same begun in
    let most : c.count_contents.new.count.most ≡ c.args.most = c.in_ok-count_contents.ensures.most ∙ c.count_header.ensures.most in
    let over = counted.over ∙ ap (λ (n : ℕ). least (processes_over n c.args.total (ports.pieces ++ items.pieces))) most in
    let first : c.in_ok-first.first ≡ least ports.faults = c.in_ok-first.ensures ∙ ap least (ports_alike (view_env c.args.here.now) around.env (sym names.names) header) in
    let fault : c.first_of-fault.result ≡ least (ports.faults ++ items.faults) =
    c.first_of-fault.ensures ∙ ap (λ x. better x c.in_ok-found.found) first ∙ ap (better (least ports.faults)) (c.in_ok-found.ensures.fault source around made a names same) ∙ sym (least_append ports.faults items.faults) in
    let unheard = scope_unheard (named around.env) c.args.contents in
    let waiting : c.in_ok-unheard.unheard ≡ least unheard = c.in_ok-unheard.ensures ∙ ap (λ (find : Find). least (scope_unheard find c.args.contents)) (sym names.names) in
    let rest : c.first_of.result ≡ least (processes_over c.args.most c.args.total (ports.pieces ++ items.pieces) ++ unheard) =
    c.first_of.ensures ∙ ap (λ x. better x c.in_ok-unheard.unheard) over ∙ ap (better (least (processes_over c.args.most c.args.total (ports.pieces ++ items.pieces)))) waiting ∙ sym (least_append (processes_over c.args.most c.args.total (ports.pieces ++ items.pieces)) unheard) in
    record {
      fault =
          c.first_of-2.ensures ∙ ap (λ x. better x c.first_of.result) fault ∙ ap (better (least (ports.faults ++ items.faults))) rest
          ∙ sym (least_append (ports.faults ++ items.faults) (processes_over c.args.most c.args.total (ports.pieces ++ items.pieces) ++ unheard));
      processes = λ none. counted.total (better_first c.count_contents.new.count.over c.in_ok-unheard.unheard (sym c.first_of.ensures ∙ better_second c.first_of-fault.result c.first_of.result (sym c.first_of-2.ensures ∙ none)));
      few = subst (λ (n : ℕ). c.count_contents.new.count.total ≤ n) most counted.few;
    }
