-- Room for more cases, and what is put there.
use Rattle.std.proofs.Common.{◌≡◌, ◌≢◌, ℕ, zero, suc, ◌+◌, ◌<◌, ◌≤◌, Bool, true, false, ◌==◌, eqb-true, eq-eqb, List, [], ◌∷◌, ◌++◌, length, replicate, get_or, get_or-set_same, get_or-set_other, Option, Some, None, refl, sym, ap, ◌∙◌, subst, arith, length-append}
use Rattle.std.specs.Prelude.{slice_index_or}
use Rattle.std.proofs.Math.ListN.{length-set}
use Rattle.vs_design.specs.Selects.{is_full}
use Rattle.vs_design.specs.Sets.{Set4, known_set}
use Rattle.vs_design.specs.Statements.{CaseKind}
use Rattle.vs_flat.specs.declared.statements.Arm.{Arm}
use Rattle.vs_flat.specs.declared.statements.Statement.{Statement}
use Rattle.vs_flat.specs.declared.statements.Statement.TheVariants as S
use Rattle.vs_flat.specs.Arena.{Arena, statement_at}
use Rattle.vs_flat.specs.DesignOf.{design_of}
use Rattle.vs_sets.specs.Completing.{default_in, other_of}
use Rattle.vs_sets.specs.Nodes.{tree_of}
use Rattle.vs_sets.specs.StatementParts.{arms_of}
use Rattle.vs_sets.specs.Tables.{family_of, known_of}
use Rattle.vs_full.specs.Found.{AreSound, Found, HasRoom, IsAsBefore, IsCaseNoted, IsGrown, grown, put_case}

-- one more at the end changes nothing that is read
pushed : {X : Type 0} (xs : List X) (d : X) (t : ℕ) → get_or (xs ++ d ∷ []) t d ≡ get_or xs t d
pushed [] d zero = refl
pushed [] d (suc t) = past t
  where
    past : (t : ℕ) → get_or [] t d ≡ d
    past zero = refl
    past (suc t) = refl
pushed (x ∷ xs) d zero = refl
pushed (x ∷ xs) d (suc t) = pushed xs d t

pub grown_sound : (a : Arena) (c new : Found) → new ≡ grown c → AreSound a c → AreSound a new
grown_sound a c new e s = subst (AreSound a) (sym e) (record {
  roots = s.roots;
  known = s.known;
  count = s.count;
  both = length-append c.full (false ∷ []) ∙ ap (λ (n : ℕ). n + 1) s.both ∙ sym (length-append c.others (None ∷ []));
  processes = s.processes;
})

pub grown_kept : (a : Arena) (b c new : Found) → new ≡ grown c → IsAsBefore a b c → IsAsBefore a b new
grown_kept a b c new e k = subst (IsAsBefore a b) (sym e) (record {
  lenient = k.lenient;
  longer = (let long = length-append c.others (None ∷ []) in omega (arith, k.longer, long));
  stay = λ t n kind of arms other at. (let m = k.stay t n kind of arms other at in (pushed c.full false t ∙ m.0, pushed c.others None t ∙ m.1));
})

pub grown_longer : (c new : Found) (n : ℕ) → new ≡ grown c → n ≤ length c.others → n + 1 ≤ length new.others
grown_longer c new n e h = let long = ap (λ (f : Found). length f.others) e ∙ length-append c.others (None ∷ []) in omega (arith, h, long)

same_kept : (a : Arena) (c : Found) → IsAsBefore a c c
same_kept a c = record { lenient = refl; longer = omega arith; stay = λ t n. n }

pub nothing_kept : (a : Arena) (c : Found) → IsAsBefore a c c
nothing_kept a c = same_kept a c

-- ---- a case that is noted

same_case : (kind next : CaseKind) (of on : ℕ) (arms bras : List Arm) (other another : Option ℕ) (o : Option Statement) → o ≡ Some (S.Case kind of arms other) → o ≡ Some (S.Case next on bras another) → (P : CaseKind → ℕ → List Arm → Option ℕ → Type 0) → P kind of arms other → P next on bras another
same_case kind next of on arms bras other another o h k P p = go (sym h ∙ k)
  where
    go : Some (S.Case kind of arms other) ≡ Some (S.Case next on bras another) → P next on bras another
    go e =
        let k1 : kind ≡ next = cc in
        let k2 : of ≡ on = cc in
        let k3 : arms ≡ bras = cc in
        let k4 : other ≡ another = cc in
        subst (λ z. P z on bras another) k1 (subst (λ z. P kind z bras another) k2 (subst (λ z. P kind of z another) k3 (subst (λ z. P kind of arms z) k4 p)))

pub case_put : (a : Arena) (c new : Found) (s : ℕ) (kind : CaseKind) (of : ℕ) (arms : List Arm) (other : Option ℕ) (full : Bool) (default : Option ℕ) → new ≡ put_case c s full default → AreSound a c → HasRoom c s → statement_at a s ≡ Some (S.Case kind of arms other)
    → full ≡ is_full (design_of a) kind (tree_of a of) (arms_of a other arms) → default ≡ other_of a kind of arms other → IsGrown a c new (λ f. IsCaseNoted a f s)
case_put a c new s kind of arms other full default made sound room at is then = subst (λ (f : Found). IsGrown a c f (λ f. IsCaseNoted a f s)) (sym made) (record {
  sound = record {
    roots = sound.roots;
    known = sound.known;
    count = sound.count;
    both = length-set c.full s full ∙ sound.both ∙ sym (length-set c.others s default);
    processes = sound.processes;
  };
  kept = record {
    lenient = refl;
    longer = (let long = length-set c.others s default in omega (arith, long));
    stay = λ t n. stay t n;
  };
  noted = here;
})
  where
    now : Found
    now = put_case c s full default

    inside : s < length c.full
    inside = omega (arith, room, sound.both)

    here : IsCaseNoted a now s
    here next on bras another told =
        same_case kind next of on arms bras other another (statement_at a s) at told
        (λ k o xs ot. (slice_index_or now.full s false ≡ is_full (design_of a) k (tree_of a o) (arms_of a ot xs)) × (default_in now.others s ≡ other_of a k o xs ot))
        (get_or-set_same c.full s full false inside ∙ is, get_or-set_same c.others s default None room ∙ then)

    stay : (t : ℕ) → IsCaseNoted a c t → IsCaseNoted a now t
    stay t n = go (t == s) refl
      where
        differ : (x : Bool) → x ≡ false → x ≡ true → ⊥
        differ true h k = cc
        differ false h k = cc

        go : (x : Bool) → (t == s) ≡ x → IsCaseNoted a now t
        go true e = subst (IsCaseNoted a now) (sym (eqb-true t s e)) here
        go false e = λ next on bras another told.
            let apart : t ≢ s = λ q. differ (t == s) e (eq-eqb t s q) in
            let m = n next on bras another told in
            (get_or-set_other c.full s t full false apart ∙ m.0, get_or-set_other c.others s t default None apart ∙ m.1)

-- ---- a table of known bits

abbrev sets : ℕ → Set4 → List Set4
sets n x = replicate n x

set_at : (n : ℕ) (x d : Set4) (b : ℕ) → b < n → get_or (sets n x) b d ≡ x
set_at zero x d b h = absurd (omega (arith, h))
set_at (suc n) x d zero h = refl
set_at (suc n) x d (suc b) h = set_at n x d b (omega (arith, h))

sets_long : (n : ℕ) (x : Set4) → length (sets n x) ≡ n
sets_long zero x = refl
sets_long (suc n) x = ap suc (sets_long n x)

pub all_known : (table : List Set4) (n : ℕ) (x : Set4) → table ≡ replicate n x → x ≡ known_set → known_of table
all_known table n x is known b h = ap (λ (t : List Set4). family_of t b) is ∙ set_at n x _ b (let long = ap (λ (t : List Set4). length t) is ∙ sets_long n x in omega (arith, h, long)) ∙ known

pub all_long : (table : List Set4) (n : ℕ) (x : Set4) → table ≡ replicate n x → length table ≡ n
all_long table n x is = ap (λ (t : List Set4). length t) is ∙ sets_long n x
