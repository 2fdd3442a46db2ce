use Rattle.std.proofs.Common.{◌≡◌, ◌∙◌, ℕ, ◌+◌, ◌<◌, ◌^◌, List, length, sym, ap, subst}
use Rattle.std.specs.List.{All, concat}
use Rattle.vs_code.specs.Calls.{Call, call_targets}
use Rattle.vs_values.proofs.Lists.{all_left, all_right}
use Rattle.vs_values.proofs.Renaming.{all_args}
use Rattle.vs_values.proofs.inlining.Renaming.op.Goals as goal

pub args-requires : goal.args-requires
args-requires c =
    let P = λ (slot : ℕ). slot + c.args.self.now.first < 2 ^ 32 + length c.args.self.now.names.items in
    let call = c.args.op.now in
    let is : c.as_slice.result.now ≡ call.args = c.as_slice.ensures ∙ ap (λ (x : Call). x.args) c.op.view_is in
    subst (λ (args : List (List ℕ)). All (λ arg. All P arg) args) (sym is) (all_args P call.args (all_left P (concat call.args) (call_targets call) c.requires))

pub slots-requires : goal.slots-requires
slots-requires c =
    let P = λ (slot : ℕ). slot + c.args.self.now.first < 2 ^ 32 + length c.args.self.now.names.items in
    let call = c.args.op.now in
    let is : c.as_slice-2.result.now ≡ call.to = c.as_slice-2.ensures ∙ ap (λ (x : Call). x.to) c.op.view_is in
    subst (All P) (sym is) (all_left P call.to call.scratch (all_right P (concat call.args) (call_targets call) c.requires))

pub slots-requires-2 : goal.slots-requires-2
slots-requires-2 c =
    let P = λ (slot : ℕ). slot + c.args.self.now.first < 2 ^ 32 + length c.args.self.now.names.items in
    let call = c.args.op.now in
    let is : c.as_slice-3.result.now ≡ call.scratch = c.as_slice-3.ensures ∙ ap (λ (x : Call). x.scratch) c.op.view_is in
    subst (All P) (sym is) (all_right P call.to call.scratch (all_right P (concat call.args) (call_targets call) c.requires))
