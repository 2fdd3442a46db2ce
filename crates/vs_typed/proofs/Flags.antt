-- Flags of processes.
use Rattle.std.proofs.Common.{◌≡◌, ℕ, Bool, List, map, Some, slice_get, slice_index_or, ap, ◌∙◌}
use Rattle.std.proofs.lemmas.List.{get_or-map}
use Rattle.std.proofs.lemmas.Option.{slice_get_within, get_or_from_slice_get}
use Rattle.vs_design.specs.Designs.{Process}

-- the flag of a process of a list of flags, one for each
pub flag_is : (f : Process → Bool) (ps : List Process) (flags : List Bool) (p : ℕ) (x : Process) (r d : Bool) → flags ≡ map f ps → r ≡ slice_index_or flags p d → slice_get ps p ≡ Some x → r ≡ f x
flag_is f ps flags p x r d e i g =
    i ∙ ap (λ fs. slice_index_or fs p d) e ∙ get_or-map f ps p x d (slice_get_within ps p x g) ∙ ap f (get_or_from_slice_get ps p x x g)
