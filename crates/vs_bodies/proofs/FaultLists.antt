-- The first fault of several lists, one after the other, and the memories of which parts of a target are words.
use Rattle.std.proofs.Common.{rules, ◌≡◌, ℕ, ◌+◌, ◌<◌, List, [], ◌∷◌, ◌++◌, length, get_or, take, map, flat_map, Option, Vec, Global, refl, sym, ap, ◌∙◌, add-one}
use Rattle.std.proofs.Math.Seq.{take-suc}
use Rattle.std.proofs.lemmas.List.{append-nil, map-append}
use Rattle.std.proofs.lemmas.Grind.{flat_map-append}
use Rattle.vs_grammar.specs.Trees as tree
use Rattle.vs_ast.specs.declared.statements.Target.{Target, Concatenation, the_lemmas}
use Rattle.vs_ast.specs.Views as view
use Rattle.vs_ast.proofs.Rows.{target_rows}
use Rattle.vs_const.specs.declared.faults.Fault.{Fault}
use Rattle.vs_const.specs.Faults.{least, better}
use Rattle.vs_const.specs.Meanings.{Find}
use Rattle.vs_const.proofs.Least.{least_append}
use Rattle.vs_elaborated.specs.Statements.{target_memories, targets_memories}

map_more : {A B : Type 0} (f : A → B) (xs : List A) (i : ℕ) (x : A) → i < length xs → x ≡ get_or xs i x → map f (take (i + 1) xs) ≡ map f (take i xs) ++ f x ∷ []
map_more f xs i x h e =
    ap (λ k. map f (take k xs)) (add-one i) ∙ ap (map f) (take-suc xs i x h) ∙ map-append f (take i xs) (get_or xs i x ∷ []) ∙ ap (λ y. map f (take i xs) ++ f y ∷ []) (sym e)

-- one list more
pub least_more : {A B : Type 0} (f : A → B) (g : B → List Fault) (xs : List A) (i : ℕ) (x : A) (a b both : Option Fault) → i < length xs → x ≡ get_or xs i x
    → both ≡ better a b → a ≡ least (flat_map g (map f (take i xs))) → b ≡ least (g (f x)) → both ≡ least (flat_map g (map f (take (i + 1) xs)))
least_more f g xs i x a b both h e is before own =
    is ∙ ap (λ z. better z b) before ∙ ap (better (least (flat_map g (map f (take i xs))))) own
    ∙ sym (least_append (flat_map g (map f (take i xs))) (g (f x)))
    ∙ ap (λ z. least (flat_map g (map f (take i xs)) ++ z)) (sym (append-nil (g (f x))))
    ∙ ap least (sym (flat_map-append g (map f (take i xs)) (f x ∷ [])))
    ∙ ap (λ z. least (flat_map g z)) (sym (map_more f xs i x h e))

-- ---- targets

pub concatenation_view : (place : ℕ) (list : Vec Target Global) → view.target (Concatenation place list) ≡ tree.Targeted place (view.targets list.items)
concatenation_view place list = search (rules, target_rows, the_lemmas)

abbrev pub of_target : Find → tree.Target → List Fault
of_target find t = target_memories t find

-- as a list of lists
pub targets_have : (find : Find) (ts : List Target) → targets_memories (view.targets ts) find ≡ flat_map (of_target find) (map view.target ts)
targets_have find [] = refl
targets_have find (t ∷ ts) = ap (λ fs. target_memories (view.target t) find ++ fs) (targets_have find ts)
