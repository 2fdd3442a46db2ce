-- The copy of next values.
use Rattle.std.proofs.Common.{◌≡◌, ◌≢◌, ℕ, zero, suc, ◌^◌, ◌<◌, true, List, [], ◌∷◌, ◌&&◌, ◌==◌, nat_le, map, length, get_or, sym, ap, ◌∙◌, subst, refl, arith, eq-eqb}
use Rattle.std.specs.Prelude.{All}
use Rattle.std.proofs.lemmas.Bool.{both_ways}
use Rattle.std.proofs.lemmas.List.{length-map}
use Rattle.std.proofs.lemmas.List.Elements.{All-nil, All-cons, All-head}
use Rattle.vs_design.specs.Footprints.{contains}
use Rattle.vs_design.specs.Sizes.{register_bits}
use Rattle.vs_design.specs.Cycles.{AreApart}
use Rattle.vs_plane.specs.Kernels.{AreDifferent, AreTargets, IsArgument}
use Rattle.vs_plane.specs.Kernels as K
use Rattle.vs_cone.specs.Lists.{FewAreApart}
use Rattle.vs_cone.specs.Sources.{SourcesOfDesign}
use Rattle.vs_code.specs.Calls.{IsCall}
use Rattle.vs_kern_logic.specs.declared.costs.Kernel.TheVariants.{Copy}
use Rattle.vs_code.specs.declared.kernels.AnyKernel.TheVariants.{Logic}
use Rattle.vs_program.specs.Lowered.{Layout, home}
use Rattle.vs_program.specs.Made.{copy_shadows}
use Rattle.vs_assemble.specs.Copies.{CopyIsCall}
use Rattle.vs_assemble.proofs.Lists.{first_in, rest_in}

at_in : (bs : List ℕ) (n : ℕ) → n < length bs → contains bs (get_or bs n 0) ≡ true
at_in [] n l = absurd (omega arith)
at_in (b ∷ bs) zero l = first_in b bs
at_in (b ∷ bs) (suc n) l = rest_in b bs (get_or bs n 0) (at_in bs n (omega arith))

at_map : (f : ℕ → ℕ) (bs : List ℕ) (n : ℕ) → n < length bs → get_or (map f bs) n 0 ≡ f (get_or bs n 0)
at_map f [] n l = absurd (omega arith)
at_map f (b ∷ bs) zero l = refl
at_map f (b ∷ bs) (suc n) l = at_map f bs n (omega arith)

places : (bs : List ℕ) → AreApart bs → (j k : ℕ) → j < length bs → k < length bs → get_or bs j 0 ≡ get_or bs k 0 → j ≡ k
places [] h j k l m e = absurd (omega arith)
places (b ∷ bs) h zero zero l m e = refl
places (b ∷ bs) h zero (suc k) l m e = absurd (both_ways (contains bs b) h.0 (subst (λ z. contains bs z ≡ true) (sym e) (at_in bs k (omega arith))))
places (b ∷ bs) h (suc j) zero l m e = absurd (both_ways (contains bs b) h.0 (subst (λ z. contains bs z ≡ true) e (at_in bs j (omega arith))))
places (b ∷ bs) h (suc j) (suc k) l m e = ap suc (places bs h.1 j k (omega arith) (omega arith) e)

pub below_all : (count : ℕ) (f : ℕ → ℕ) (bs : List ℕ) → ((b : ℕ) → contains bs b ≡ true → f b < count) → All (λ slot. slot < count) (map f bs)
below_all count f [] h = All-nil (λ slot. slot < count)
below_all count f (b ∷ bs) h = All-cons (λ slot. slot < count) (f b) (map f bs) (h b (first_in b bs)) (below_all count f bs (λ c k. h c (rest_in b bs c k)))

different : (f : ℕ → ℕ) (bs : List ℕ) → AreApart bs → ((b c : ℕ) → contains bs b ≡ true → contains bs c ≡ true → f b ≡ f c → b ≡ c) → AreDifferent (map f bs)
different f bs apart own = record {
  place = λ j k l m e.
      let long : length (map f bs) ≡ length bs = length-map bs f in
      let jl : j < length bs = omega (arith, l, long) in
      let kl : k < length bs = omega (arith, m, long) in
      places bs apart j k jl kl (own (get_or bs j 0) (get_or bs k 0) (at_in bs j jl) (at_in bs k kl) (sym (at_map f bs j jl) ∙ e ∙ at_map f bs k kl));
}

apart_of : (f g : ℕ → ℕ) (bs cs : List ℕ) → ((b c : ℕ) → contains bs b ≡ true → contains cs c ≡ true → f b ≢ g c) → K.AreApart (map f bs) (map g cs)
apart_of f g bs cs ne = record {
  differ = λ j k l m e.
      let lj : length (map f bs) ≡ length bs = length-map bs f in
      let lk : length (map g cs) ≡ length cs = length-map cs g in
      let jl : j < length bs = omega (arith, l, lj) in
      let kl : k < length cs = omega (arith, m, lk) in
      ne (get_or bs j 0) (get_or cs k 0) (at_in bs j jl) (at_in cs k kl) (sym (at_map f bs j jl) ∙ e ∙ at_map g cs k kl);
}

none_apart : (xs : List ℕ) → K.AreApart xs []
none_apart xs = record { differ = λ j k l m e. omega (arith, m) }

none_different : AreDifferent []
none_different = record { place = λ j k l m e. absurd (omega (arith, l)) }

le_true : (n : ℕ) → nat_le 1 (suc n) ≡ true
le_true n = grind arith

fits : (m n : ℕ) → m ≡ n → (nat_le 1 (suc m) && (suc m == suc n)) ≡ true
fits m n e = ap (λ c. c && (suc m == suc n)) (le_true m) ∙ eq-eqb (suc m) (suc n) (ap suc e)

pub copy_is_call : SourcesOfDesign → FewAreApart → CopyIsCall
copy_is_call sources fewer d names a l layout few [] are = All-nil IsCall
copy_is_call sources fewer d names a l layout few (b ∷ bs) are =
    All-cons IsCall _ [] (record {
      lengths = fits (length (map l.shadow bs)) (length (map home bs)) (length-map bs l.shadow ∙ sym (length-map bs home));
      short = All-cons (λ n. n < 2 ^ 32) (length (map l.shadow (b ∷ bs))) (length (map home (b ∷ bs)) ∷ []) (omega (arith, length-map (b ∷ bs) l.shadow, short))
          (All-cons (λ n. n < 2 ^ 32) (length (map home (b ∷ bs))) [] (omega (arith, length-map (b ∷ bs) home, short)) (All-nil (λ n. n < 2 ^ 32)));
      room = omega arith;
      targets = record {
        to_below = below_all (2 ^ 32) home (b ∷ bs) (λ c h. let r = home_below c h in let t = layout.layout.temps_above in omega (arith, r, t, few));
        scratch_below = All-nil (λ slot. slot < 2 ^ 32);
        to_differ = different home (b ∷ bs) are.once (λ c e h k same. omega (arith, same));
        scratch_differ = none_different;
        both_apart = none_apart (map home (b ∷ bs));
      };
      arguments = All-cons (λ arg. IsArgument (2 ^ 32) arg (map home (b ∷ bs)) []) (map l.shadow (b ∷ bs)) [] (record {
        below = below_all (2 ^ 32) l.shadow (b ∷ bs) (λ c h. let r = layout.layout.shadow_below c (has c h) in omega (arith, r, few));
        to_apart = apart_of l.shadow home (b ∷ bs) (b ∷ bs) (λ c e h k same. let r = home_below e k in let s = layout.layout.shadow_above c (has c h) in omega (arith, r, s, same));
        scratch_apart = none_apart (map l.shadow (b ∷ bs));
      }) (All-nil (λ arg. IsArgument (2 ^ 32) arg (map home (b ∷ bs)) []));
    }) (All-nil IsCall)
  where
    has : (c : ℕ) → contains (b ∷ bs) c ≡ true → contains (register_bits d.processes) c ≡ true
    has c h = sym (are.has c) ∙ h

    home_below : (c : ℕ) → contains (b ∷ bs) c ≡ true → home c < home l.bits
    home_below c h = let r = (sources d names a).registers_below c (has c h) in omega (arith, r, layout.bits)

    short : length (b ∷ bs) < 2 ^ 32
    short = let own = fewer (register_bits d.processes) (b ∷ bs) are.once has in omega (arith, own, a.small)

-- of registers the copy is one call
pub one_copy : (l : Layout) (bs : List ℕ) → (bs ≡ [] → ⊥) → All IsCall (copy_shadows l bs)
    → IsCall (record { kernel = Logic Copy; args = map l.shadow bs ∷ []; to = map home bs; scratch = [] })
one_copy l [] some all = absurd (some refl)
one_copy l (b ∷ bs) some all = All-head IsCall (record { kernel = Logic Copy; args = map l.shadow (b ∷ bs) ∷ []; to = map home (b ∷ bs); scratch = [] }) [] all
