-- What constructs make.
use Rattle.std.proofs.Common.{◌≡◌, ◌<◌, ℕ, suc, List, [], ◌∷◌, ◌++◌, map, length, get_or, drop, Option, Some, refl, sym, ap, ◌∙◌, append_assoc, drop-cons, arith}
use Rattle.std.proofs.lemmas.List.{map-append}
use Rattle.vs_const.specs.declared.faults.Fault.{Fault}
use Rattle.vs_elaborated.specs.Generate as generate
use Rattle.vs_elaborated.specs.Loops.{indexed, turn_blocks, turn_names}
use Rattle.vs_scope.specs.declared.made.Nested.{Nested}
use Rattle.vs_scope.specs.declared.made.Block.{Block}
use Rattle.vs_scope.specs.Blocks.{block}
use Rattle.vs_scope.specs.Made.{Kept, nested}

pub same_kept : (a b : List generate.Nested) (m n : List generate.BlockName) (f g : Option Fault) (t u : ℕ) → a ≡ b → m ≡ n → f ≡ g → t ≡ u
    → (let k : Kept = record { blocks = a; names = m; fault = f; turns = t } in k) ≡ record { blocks = b; names = n; fault = g; turns = u }
same_kept a b m n f g t u h i j k = cc

-- a loop's blocks have a name where there is one of them
pub no_turn : (b : generate.BlockName) (values : List ℕ) → length values ≡ 0 → turn_names b values ≡ []
no_turn b [] h = refl
no_turn b (v ∷ vs) h = absurd (let no : ⊥ = omega (arith, h) in no)

pub some_turn : (b : generate.BlockName) (values : List ℕ) → (length values ≡ 0 → ⊥) → turn_names b values ≡ b ∷ []
some_turn b [] h = absurd (h refl)
some_turn b (v ∷ vs) h = refl

-- a turn's block more
pub blocks_more : (b : Block) (genvar : ℕ) (values : List ℕ) (i : ℕ) (done : List Nested) (n : Nested) (whole : List generate.Nested) → i < length values
    → nested n ≡ record { name = indexed (block b).name.name (get_or values i 0); items = (block b).items; turn = Some (record { genvar = genvar; value = get_or values i 0 }) }
    → map nested done ++ turn_blocks (block b) genvar (drop i values) ≡ whole → map nested (done ++ n ∷ []) ++ turn_blocks (block b) genvar (drop (suc i) values) ≡ whole
blocks_more b genvar values i done n whole h e before =
    let rest = turn_blocks (block b) genvar (drop (suc i) values) in
    ap (λ (x : List generate.Nested). x ++ rest) (map-append nested done (n ∷ [])) ∙ append_assoc (map nested done) (nested n ∷ []) rest
    ∙ ap (λ (x : generate.Nested). map nested done ++ (x ∷ rest)) e
    ∙ ap (λ (x : List ℕ). map nested done ++ turn_blocks (block b) genvar x) (sym (drop-cons values i 0 h)) ∙ before
