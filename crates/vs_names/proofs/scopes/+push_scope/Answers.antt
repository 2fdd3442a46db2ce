use Rattle.std.proofs.Common.{◌≡◌, ℕ, ◌-◌, ◌++◌, [], List, map, Option, None, Some, sym, ap, ◌∙◌, append-nil, arith}
use Rattle.std.specs.Option.{option_map_or}
use Rattle.vs_flat.specs.DesignOf.{scope_of}
use Rattle.vs_excerpt.specs.Escapes.{escaped}
use Rattle.vs_names.specs.Names as spec
use Rattle.vs_names.proofs.Around.{scope_added}
use Rattle.vs_names.proofs.scopes.+push_scope.Goals as goal
use Rattle.vs_names.proofs.scopes.+push_scope.Goals.{in-Some+in_ok-push_scope, in_default}

some_around : (f : ℕ → List ℕ) (old page : List ℕ) (parent : Option ℕ) (p : ℕ) → parent ≡ Some p → page ≡ old ++ f p → page ≡ old ++ option_map_or f parent []
some_around f old page parent p e h = rw e h

none_around : (f : ℕ → List ℕ) (old page : List ℕ) (parent : Option ℕ) → parent ≡ None → page ≡ old → page ≡ old ++ option_map_or f parent []
none_around f old page parent e h = rw e (h ∙ sym (append-nil old))

pub returns : goal.returns
returns t c =
    let s = c.scope-scope.result.now in
    let f = spec.scope_text (c.args.left - 1) (map scope_of c.args.flat.now.scopes) in
    let around : c.match-scope.page ≡ c.args.page.now ++ option_map_or f s.parent [] =
    elim c.match-scope.branch [
      | in-Some+in_ok-push_scope w ↦ some_around f _ _ s.parent w.in-Some.parent w.in-Some.is (w.page-is ∙ w.in_ok-push_scope.ensures)
      | in_default w ↦ none_around f _ _ s.parent w.in_default.is w.page-is
    ] in
    scope_added c.text.result c.args.page.now c.match-scope.page c.escaped.new.self c.text.new.self c.args.left c.args.scope c.args.flat.now.scopes s (omega (arith, c.if-left-eq0.false)) c.scope-scope.ensures
    around (c.in_ok-escaped.ensures ∙ ap (λ (xs : List ℕ). c.match-scope.page ++ escaped xs) c.as_slice.ensures) c.text.ensures
