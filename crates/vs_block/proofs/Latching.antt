-- Functions that may keep a value, by what is found of them.
use Rattle.std.proofs.Common.{◌≡◌, ℕ, zero, suc, ◌+◌, ◌<◌, ◌≤◌, Bool, true, false, ◌&&◌, List, [], ◌∷◌, ◌++◌, take, length, refl, sym, ap, ◌∙◌, arith, append_assoc, Option, Some, if◌then◌else◌}
use Rattle.std.specs.Prelude.{slice_get, is_some}
use Rattle.std.proofs.lemmas.List.{take_more, take_all, append-nil}
use Rattle.std.proofs.lemmas.Option.{slice_get_within, get_or_from_slice_get}
use Rattle.vs_design.specs.Statements as T
use Rattle.vs_design.specs.Fits.{fits_statement}
use Rattle.vs_design.specs.Latches.{latch_bits}
use Rattle.vs_design.specs.Refusals.{least}
use Rattle.vs_design.specs.Rules.{place_where, latching, function_latches}
use Rattle.vs_flat.specs.declared.functions.Body.{Body}
use Rattle.vs_flat.specs.declared.functions.Declared.{Declared}
use Rattle.vs_flat.specs.Arena.{Arena, body_at, declared_at}
use Rattle.vs_flat.specs.DesignOf.{design_of, header_of}
use Rattle.vs_flat.specs.Laws.{EachFunction}
use Rattle.vs_shape.specs.Bodies.{body_of}
use Rattle.vs_block.specs.Functions.{has_some}

-- ---- the functions of the plain design

found_in : {A : Type 0} (xs : List A) (n : ℕ) → n < length xs → (x : A) × (slice_get xs n ≡ Some x)
found_in [] n h = absurd (omega (arith, h))
found_in (x ∷ xs) zero h = (x, refl)
found_in (x ∷ xs) (suc n) h = found_in xs n (omega (arith, h))

same : {A : Type 0} (x y : A) → Some x ≡ Some y → x ≡ y
same x y e = cc

pub statement_is : EachFunction → (a : Arena) → length a.bodies ≤ length a.functions → (f : ℕ) (x : T.Function) (b : Body) → slice_get (design_of a).functions f ≡ Some x → body_at a f ≡ Some b → x.statement ≡ body_of a b.statement
statement_is law a matched f x b is at =
    let inside = slice_get_within a.bodies f b at in
    let d = found_in a.functions f (omega (arith, inside, matched)) in
    let found : T.Function = record { header = header_of d.0.function; statement = body_of a b.statement } in
    ap (λ (y : T.Function). y.statement) (same x found (sym is ∙ law a f d.0 b d.1 at))

pub place_is : EachFunction → (a : Arena) (f : ℕ) (x : T.Function) (d : Declared) → f < length a.bodies → slice_get (design_of a).functions f ≡ Some x → declared_at a f ≡ Some d → d.function.at ≡ x.header.place
place_is law a f x d inside is at =
    let b = found_in a.bodies f inside in
    let found : T.Function = record { header = header_of d.function; statement = body_of a b.0.statement } in
    ap (λ (y : T.Function). y.header.place) (same found x (sym (law a f d b.0 at b.1) ∙ is))

pub function_there : EachFunction → (a : Arena) → length a.bodies ≤ length a.functions → (f : ℕ) → f < length a.bodies → (x : T.Function) × (slice_get (design_of a).functions f ≡ Some x)
function_there law a matched f inside =
    let b = found_in a.bodies f inside in
    let d = found_in a.functions f (omega (arith, inside, matched)) in
    let found : T.Function = record { header = header_of d.0.function; statement = body_of a b.0.statement } in
    (found, law a f d.0 b.0 d.1 b.1)

-- ---- one function

pub some_least : (ns : List ℕ) → is_some (least ns) ≡ has_some ns
some_least [] = refl
some_least (n ∷ ns) = refl

pub latching_some : (x : T.Function) → (fits_statement x.statement && has_some (latch_bits x.statement)) ≡ true → latching x ≡ x.header.place ∷ []
latching_some x h = at (fits_statement x.statement) (latch_bits x.statement) h
  where
    at : (fit : Bool) (bits : List ℕ) → (fit && has_some bits) ≡ true → (if fit then place_where x.header.place bits else []) ≡ x.header.place ∷ []
    at true [] h = cc
    at true (b ∷ bits) h = refl
    at false bits h = cc

pub latching_none : (x : T.Function) → (fits_statement x.statement && has_some (latch_bits x.statement)) ≡ false → latching x ≡ []
latching_none x h = at (fits_statement x.statement) (latch_bits x.statement) h
  where
    at : (fit : Bool) (bits : List ℕ) → (fit && has_some bits) ≡ false → (if fit then place_where x.header.place bits else []) ≡ []
    at true [] h = refl
    at true (b ∷ bits) h = cc
    at false bits h = refl

pub unfit : (x : T.Function) (k : Bool) → k ≡ fits_statement x.statement → k ≡ false → false ≡ (fits_statement x.statement && has_some (latch_bits x.statement))
unfit x k e h = at (fits_statement x.statement) (sym e ∙ h)
  where
    at : (fit : Bool) → fit ≡ false → false ≡ (fit && has_some (latch_bits x.statement))
    at true h = cc
    at false h = refl

pub fit : (x : T.Function) (k r : Bool) → k ≡ fits_statement x.statement → k ≡ true → r ≡ has_some (latch_bits x.statement) → r ≡ (fits_statement x.statement && has_some (latch_bits x.statement))
fit x k r e h is = at (fits_statement x.statement) (sym e ∙ h)
  where
    at : (fit : Bool) → fit ≡ true → r ≡ (fit && has_some (latch_bits x.statement))
    at true h = is
    at false h = cc

-- ---- all functions

more : (fs : List T.Function) (x : T.Function) → function_latches (fs ++ x ∷ []) ≡ function_latches fs ++ latching x
more [] x = append-nil (latching x)
more (f ∷ fs) x = ap (λ ns. latching f ++ ns) (more fs x) ∙ sym (append_assoc (latching f) (function_latches fs) (latching x))

pub latches_step : (fs : List T.Function) (f : ℕ) (x : T.Function) (after : Option ℕ) → slice_get fs f ≡ Some x → after ≡ least (function_latches (take f fs) ++ latching x) → after ≡ least (function_latches (take (f + 1) fs))
latches_step fs f x after is h =
    let next = take_more fs f x (slice_get_within fs f x is) ∙ ap (λ y. take f fs ++ y ∷ []) (get_or_from_slice_get fs f x x is) in
    h ∙ ap least (sym (more (take f fs) x) ∙ ap function_latches (sym next))

pub latches_all : (fs : List T.Function) (f : ℕ) → length fs ≤ f → least (function_latches (take f fs)) ≡ least (function_latches fs)
latches_all fs f h = ap (λ (xs : List T.Function). least (function_latches xs)) (take_all f fs h)
