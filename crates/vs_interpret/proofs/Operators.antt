-- Operators on the values of their operands, in the contexts that they give them.
use Rattle.std.proofs.Common.{◌≡◌, ℕ, Bool, false, ap, ap₂, ◌∙◌}
use Rattle.vs_four.specs.Logic.{BitList}
use Rattle.vs_net.specs.Network.{State}
use Rattle.vs_design.specs.Expressions.{Expression, UnaryOp, BinaryOp, Way, unary_way, way, width, sign}
use Rattle.vs_design.specs.Values.{value, apply_unary, apply_binary, left_width, right_width, left_sign, right_sign}

pub unary_result : (op : UnaryOp) (a : Expression) (w : ℕ) (s : Bool) (state : State) (lw ow : ℕ) (ls os : Bool) (v result : BitList) → lw ≡ width a → ls ≡ sign a → ow ≡ left_width (unary_way op) w lw 0 → os ≡ left_sign (unary_way op) s ls false
    → v ≡ value a ow os state → result ≡ apply_unary op v → result ≡ apply_unary op (value a (left_width (unary_way op) w (width a) 0) (left_sign (unary_way op) s (sign a) false) state)
unary_result op a w s state lw ow ls os v result long signed width_is sign_is v_is is =
    is ∙ ap (apply_unary op) (v_is ∙ ap₂ (λ n g. value a n g state) (width_is ∙ ap (λ n. left_width (unary_way op) w n 0) long) (sign_is ∙ ap (λ g. left_sign (unary_way op) s g false) signed))

pub binary_result : (op : BinaryOp) (a b : Expression) (w : ℕ) (s : Bool) (state : State) (y : Way) (lw rw_ ow pw : ℕ) (ls rs os ps : Bool) (first second result : BitList) → y ≡ way op → lw ≡ width a → rw_ ≡ width b → ls ≡ sign a → rs ≡ sign b
    → ow ≡ left_width y w lw rw_ → os ≡ left_sign y s ls rs → pw ≡ right_width y w lw rw_ → ps ≡ right_sign y s ls rs → first ≡ value a ow os state → second ≡ value b pw ps state → result ≡ apply_binary op os ps first second
    → result ≡ apply_binary op (left_sign (way op) s (sign a) (sign b)) (right_sign (way op) s (sign a) (sign b)) (value a (left_width (way op) w (width a) (width b)) (left_sign (way op) s (sign a) (sign b)) state) (value b (right_width (way op) w (width a) (width b)) (right_sign (way op) s (sign a) (sign b)) state)
binary_result op a b w s state y lw rw_ ow pw ls rs os ps first second result way_is left_long right_long left_signed right_signed ow_is os_is pw_is ps_is first_is second_is is =
    let ow_at : ow ≡ left_width (way op) w (width a) (width b) = ow_is ∙ ap₂ (left_width y w) left_long right_long ∙ ap (λ x. left_width x w (width a) (width b)) way_is in
    let pw_at : pw ≡ right_width (way op) w (width a) (width b) = pw_is ∙ ap₂ (right_width y w) left_long right_long ∙ ap (λ x. right_width x w (width a) (width b)) way_is in
    let os_at : os ≡ left_sign (way op) s (sign a) (sign b) = os_is ∙ ap₂ (left_sign y s) left_signed right_signed ∙ ap (λ x. left_sign x s (sign a) (sign b)) way_is in
    let ps_at : ps ≡ right_sign (way op) s (sign a) (sign b) = ps_is ∙ ap₂ (right_sign y s) left_signed right_signed ∙ ap (λ x. right_sign x s (sign a) (sign b)) way_is in
    is ∙ ap₂ (λ g j. apply_binary op g j first second) os_at ps_at
    ∙ ap₂ (apply_binary op (left_sign (way op) s (sign a) (sign b)) (right_sign (way op) s (sign a) (sign b))) (first_is ∙ ap₂ (λ n g. value a n g state) ow_at os_at) (second_is ∙ ap₂ (λ n g. value b n g state) pw_at ps_at)
