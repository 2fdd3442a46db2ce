-- One connection more.
use Rattle.std.proofs.Common.{◌≡◌, ℕ, suc, ◌+◌, ◌<◌, List, ◌∷◌, ◌++◌, length, get_or, drop, map, Option, Some, None, option_map, refl, sym, ap, ◌∙◌, append_assoc, drop-cons, add-one}
use Rattle.std.specs.Prelude.{is_some, slice_get}
use Rattle.std.specs.Option.{IfSome}
use Rattle.std.specs.Prelude.{nat_lt}
use Rattle.std.specs.Borrow.{Bor}
use Rattle.std.proofs.lemmas.Bool.{ltb-true, ltb-false}
use Rattle.std.proofs.lemmas.Option.{slice_get_read, slice_get_past}
use Rattle.vs_ast.specs.declared.expressions.Expr.{Expr}
use Rattle.vs_ast.specs.Views as view
use Rattle.vs_elaborated.specs.Environments.{Env}
use Rattle.vs_elaborated.specs.Pieces as pieces
use Rattle.vs_elaborated.specs.Ports as ports
use Rattle.vs_elaborated.specs.Instances.{connected, connected_by_order}

-- what a look-up in a slice gives
pub got_at : {X : Type 0} (r : Option (Bor X)) (xs : List X) (n : ℕ) → is_some r ≡ nat_lt n (length xs) → IfSome r (λ x. x.now ≡ get_or xs n x.now) → option_map (λ (x : Bor X). x.now) r ≡ slice_get xs n
got_at None xs n e h = sym (slice_get_past xs n (ltb-false n (length xs) (sym e)))
got_at (Some x) xs n e h = sym (slice_get_read xs (length xs) n x.now refl (ltb-true n (length xs) (sym e)) h)

-- one part more of those by order
pub order_step : (ps : List ports.Port) (env : Env) (done more whole : List pieces.Connection) (parts : List (Option Expr)) (n : ℕ) (x : Option Expr) (port : Option ports.Port)
    → n < length parts → x ≡ get_or parts n x → port ≡ slice_get ps n
    → more ≡ done ++ (connected port (view.option view.expr x) env).connections
    → done ++ (connected_by_order ps n (map (view.option view.expr) (drop n parts)) env).connections ≡ whole
    → more ++ (connected_by_order ps (n + 1) (map (view.option view.expr) (drop (n + 1) parts)) env).connections ≡ whole
order_step ps env done more whole parts n x port h e found pushed before =
    let rest : List pieces.Connection = (connected_by_order ps (n + 1) (map (view.option view.expr) (drop (n + 1) parts)) env).connections in
    let one : List pieces.Connection = (connected port (view.option view.expr x) env).connections in
    let here : drop n parts ≡ x ∷ drop (n + 1) parts = drop-cons parts n x h ∙ ap (λ y. y ∷ drop (suc n) parts) (sym e) ∙ ap (λ m. x ∷ drop m parts) (sym (add-one n)) in
    ap (λ r. r ++ rest) pushed ∙ append_assoc done one rest
    ∙ ap (λ p. done ++ ((connected p (view.option view.expr x) env).connections ++ rest)) found
    ∙ ap (λ m. done ++ ((connected (slice_get ps n) (view.option view.expr x) env).connections ++ (connected_by_order ps m (map (view.option view.expr) (drop (n + 1) parts)) env).connections)) (add-one n)
    ∙ ap (λ xs. done ++ (connected_by_order ps n (map (view.option view.expr) xs) env).connections) (sym here)
    ∙ before
