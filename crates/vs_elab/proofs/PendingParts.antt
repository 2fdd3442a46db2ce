-- One part more of a scope.
use Rattle.std.proofs.Common.{◌≡◌, ℕ, ◌+◌, ◌<◌, List, [], ◌∷◌, ◌++◌, length, get_or, take, map, Vec, Global, refl, sym, ap, ◌∙◌, append_assoc}
use Rattle.std.proofs.lemmas.List.{append-nil}
use Rattle.std.proofs.lemmas.Grind.{flat_map-append}
use Rattle.vs_grammar.specs.Trees as tree
use Rattle.vs_ast.specs.declared.items.Signals.{Signals}
use Rattle.vs_ast.specs.declared.modules.Header.{Header}
use Rattle.vs_ast.specs.declared.modules.Header.TheVariants as header
use Rattle.vs_ast.specs.Views as view
use Rattle.vs_elaborated.specs.Environments.{Env}
use Rattle.vs_elaborated.specs.Pieces.{Piece, Said, all_said}
use Rattle.vs_elaborated.specs.Instances.{Around}
use Rattle.vs_elaborated.specs.Surveys.{ports_said}
use Rattle.vs_elab.specs.declared.pending.Part.{Part}
use Rattle.vs_elab.specs.Pending.{part_pieces, parts_pieces}
use Rattle.vs_elab.proofs.Sequences.{one_more}

pub part_more : (source : tree.Source) (around : Around) (ps qs : List Part) (p : Part) → qs ≡ ps ++ p ∷ [] → parts_pieces source around qs ≡ parts_pieces source around ps ++ part_pieces source around p
part_more source around ps qs p e =
    ap (parts_pieces source around) e ∙ flat_map-append (part_pieces source around) ps (p ∷ []) ∙ ap (λ xs. parts_pieces source around ps ++ xs) (append-nil (part_pieces source around p))

said_behind : {A : Type 0} (f : A → Said) (xs : List A) (x : A) → (all_said f (xs ++ x ∷ [])).pieces ≡ (all_said f xs).pieces ++ (f x).pieces
said_behind f [] x = append-nil (f x).pieces
said_behind f (y ∷ xs) x = ap (λ r. (f y).pieces ++ r) (said_behind f xs x) ∙ sym (append_assoc (f y).pieces (all_said f xs).pieces (f x).pieces)

-- one more of a list of what says pieces
pub said_more : {A B : Type 0} (f : B → Said) (g : A → B) (xs : List A) (i : ℕ) (x : A) (before done more : List Piece) → i < length xs → x ≡ get_or xs i x
    → done ≡ before ++ (all_said f (map g (take i xs))).pieces → more ≡ done ++ (f (g x)).pieces → more ≡ before ++ (all_said f (map g (take (i + 1) xs))).pieces
said_more f g xs i x before done more h e is pushed =
    pushed ∙ ap (λ r. r ++ (f (g x)).pieces) is ∙ append_assoc before (all_said f (map g (take i xs))).pieces (f (g x)).pieces
    ∙ ap (λ r. before ++ r) (sym (ap (λ ys. (all_said f ys).pieces) (one_more g xs i x h e) ∙ said_behind f (map g (take i xs)) (g x)))

-- a header that declares no ports adds none
pub other_header : (env : Env) (h : Header) → ((ports : Vec Signals Global) → h ≡ header.Declared ports → ⊥) → (before : List Piece) → before ≡ before ++ (ports_said env (view.header h)).pieces
other_header env header.NoPorts none before = sym (append-nil before)
other_header env (header.Plain names) none before = sym (append-nil before)
other_header env (header.Declared ports) none before = absurd (none ports refl)
