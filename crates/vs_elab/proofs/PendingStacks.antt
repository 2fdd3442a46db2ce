-- The stack of what is pending, one part more.
use Rattle.std.proofs.Common.{◌≡◌, ℕ, List, [], ◌∷◌, ◌++◌, map, flat_map, Option, Some, sym, ap, ◌∙◌, append_assoc}
use Rattle.std.specs.Prelude.{option_to_list}
use Rattle.std.proofs.lemmas.List.{map-append, reverse-append}
use Rattle.vs_grammar.specs.Trees as tree
use Rattle.vs_scope.specs.declared.frames.Frame.{Frame}
use Rattle.vs_elab.specs.declared.pending.Part.{Part}
use Rattle.vs_elab.specs.declared.stack.Pending.{Pending}
use Rattle.vs_elab.specs.Stacks as stacks
use Rattle.vs_elab.specs.Pending.{part_pieces, parts_pieces, scope_around, pending_pieces, stack_pieces}
use Rattle.vs_elab.proofs.PendingParts.{part_more}

pub stack_behind : (source : tree.Source) (frames : List Frame) (ps : List Pending) (p : Pending) → stack_pieces source frames (ps ++ p ∷ []) ≡ pending_pieces source frames p ++ stack_pieces source frames ps
stack_behind source frames ps p = ap (flat_map (pending_pieces source frames)) (reverse-append ps (p ∷ []))

-- a part goes from the end of the parts to the stack
pub part_moved : (source : tree.Source) (frames : List Frame) (frame depth left : ℕ) (parts rest : List Part) (r : Option Part) (part : Part) (stack new : List Pending) (whole : List stacks.Pending)
    → parts ≡ rest ++ option_to_list r → r ≡ Some part → new ≡ stack ++ (record { frame = frame; depth = depth; left = left; part = part }) ∷ []
    → map (stacks.pending left) (parts_pieces source (scope_around frames frame depth) parts) ++ stack_pieces source frames stack ≡ whole
    → map (stacks.pending left) (parts_pieces source (scope_around frames frame depth) rest) ++ stack_pieces source frames new ≡ whole
part_moved source frames frame depth left parts rest r part stack new whole e is pushed before =
    let around = scope_around frames frame depth in
    let f = stacks.pending left in
    let one = part_pieces source around part in
    let done = parts_pieces source around rest in
    ap (λ ps. map f done ++ stack_pieces source frames ps) pushed
    ∙ ap (λ qs. map f done ++ qs) (stack_behind source frames stack (record { frame = frame; depth = depth; left = left; part = part }))
    ∙ sym (append_assoc (map f done) (map f one) (stack_pieces source frames stack))
    ∙ ap (λ qs. qs ++ stack_pieces source frames stack) (sym (map-append f done one))
    ∙ ap (λ qs. map f qs ++ stack_pieces source frames stack) (sym (part_more source around rest parts part (e ∙ ap (λ o. rest ++ option_to_list o) is)))
    ∙ before
