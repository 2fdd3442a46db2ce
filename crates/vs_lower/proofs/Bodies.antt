-- Statements of their parts, with their weights.
use Rattle.std.proofs.Common.{ℕ, ◌+◌, ◌<◌, ◌≤◌, Bool, List, [], ◌++◌, if◌then◌else◌, ap, refl, arith}
use Rattle.std.specs.List.{All}
use Rattle.vs_four.specs.Logic.{BitList}
use Rattle.vs_net.specs.Network as N
use Rattle.vs_design.specs.Expressions.{Expression, width, sign, items_of}
use Rattle.vs_design.specs.Values.{value, own_value}
use Rattle.vs_design.specs.Statements.{CaseKind, Statement, Empty, Then, If, Case, Arms, Arm, Default, case_width, case_sign}
use Rattle.vs_design.specs.Bodies.{body, arms_body}
use Rattle.vs_design.specs.Footprints.{statement_bits, arms_bits}
use Rattle.vs_design.specs.Races.{blocking_bits, arms_blocking, nonblocking_bits, arms_nonblocking}
use Rattle.vs_design.specs.Sizes.{distinct, weight, statement_weight, arms_weight, items_weight}
use Rattle.vs_code.specs.Calls.{Call}
use Rattle.vs_values.specs.Added.{IsEnv}
use Rattle.vs_values.specs.Valued.{IsValue}
use Rattle.vs_lower.specs.Done.{IsDone, IsCondition, IsStatementDone}
use Rattle.vs_lower.proofs.Joining.{IsMerged, condition_is, done_none, done_then, done_forked, forked_if}
use Rattle.vs_lower.proofs.Arms.{forked_arm}
use Rattle.vs_lower.specs.Cases.{matches_of}
use Rattle.vs_lower.proofs.Matching.{taken_is, done_case, done_within, done_as}

pub empty_done : (now later : List ℕ) (m : ℕ) → IsEnv now m → IsEnv later m → IsStatementDone now later m Empty [] now later m
empty_done now later m e f = done_as now later [] (λ state. []) m _ (body Empty) [] [] 0 0 [] now later m (λ state. refl) (omega arith) (done_none now later m e f)

pub then_done : (now later : List ℕ) (m : ℕ) (first rest : Statement) (c : List Call) (now1 later1 : List ℕ) (n : ℕ) (d : List Call) (now2 later2 : List ℕ) (p : ℕ)
    → IsStatementDone now later m first c now1 later1 n → IsStatementDone now1 later1 n rest d now2 later2 p → IsStatementDone now later m (Then first rest) (c ++ d) now2 later2 p
then_done now later m first rest c now1 later1 n d now2 later2 p a b =
    done_then now later m (body first) (blocking_bits first) (nonblocking_bits first) (statement_weight first) c now1 later1 n (body rest) (blocking_bits rest) (nonblocking_bits rest) (statement_weight rest) d now2 later2 p a b

-- an `if`, with the joins of both environments
pub if_done : (now later : List ℕ) (m : ℕ) (c : Expression) (taken other : Statement) (cc : List Call) (tc : List ℕ) (n : ℕ) (ct : List Call) (now1 later1 : List ℕ) (n1 : ℕ) (co : List Call) (now2 later2 : List ℕ) (n2 : ℕ)
    → (cn : List Call) (now3 : List ℕ) (p more : ℕ) (cl : List Call) (later3 : List ℕ) (q extra : ℕ)
    → IsEnv now m → IsEnv later m → IsValue now m c (width c) (sign c) cc tc n
    → IsStatementDone now later n taken ct now1 later1 n1 → IsStatementDone now later n1 other co now2 later2 n2
    → IsMerged now1 now2 tc n2 cn now3 p more → IsMerged later1 later2 tc p cl later3 q extra
    → more + extra ≤ distinct (statement_bits taken ++ statement_bits other)
    → IsStatementDone now later m (If c taken other) ((((cc ++ ct) ++ co) ++ cn) ++ cl) now3 later3 q
if_done now later m c taken other cc tc n ct now1 later1 n1 co now2 later2 n2 cn now3 p more cl later3 q extra e f v t o a b few =
    done_as now later [] (λ state. []) m _ (body (If c taken other)) (blocking_bits taken ++ blocking_bits other) (nonblocking_bits taken ++ nonblocking_bits other)
    (weight c (width c) + statement_weight taken + statement_weight other + more + extra) (statement_weight (If c taken other)) _ _ _ _ (λ state. refl) (omega (arith, few))
    (done_forked now later [] (λ state. []) m (own_value c) tc (body taken) now1 later1 (body other) now2 later2 (blocking_bits taken ++ blocking_bits other) (nonblocking_bits taken ++ nonblocking_bits other)
    ((cc ++ ct) ++ co) n2 (weight c (width c) + statement_weight taken + statement_weight other) cn now3 p more cl later3 q extra e
    (forked_if now later [] (λ state. []) m (own_value c) cc tc n (weight c (width c)) (body taken) (blocking_bits taken) (nonblocking_bits taken) (statement_weight taken) ct now1 later1 n1
    (body other) (blocking_bits other) (nonblocking_bits other) (statement_weight other) co now2 later2 n2
    e f (λ k d l. absurd (omega arith)) (condition_is now m cc tc n (weight c (width c)) (own_value c) v.values) t o) a b)

-- ---- a case: its default, an arm before what stands behind it, and the whole. `written` is the number of bits that the case writes

pub default_done : (now later tv : List ℕ) (m : ℕ) (kind : CaseKind) (w : ℕ) (s : Bool) (sv : N.State → BitList) (written : ℕ) (st : Statement) (c : List Call) (now1 later1 : List ℕ) (n : ℕ)
    → IsStatementDone now later m st c now1 later1 n
    → IsDone now later tv sv m (λ state. arms_body (Default st) kind w s (sv state) state) (arms_blocking (Default st)) (arms_nonblocking (Default st)) (arms_weight (Default st) w written) c now1 later1 n
default_done now later tv m kind w s sv written st c now1 later1 n o = done_within now later tv sv m (body st) (blocking_bits st) (nonblocking_bits st) (statement_weight st) c now1 later1 n o

pub arm_done : (now later tv : List ℕ) (m : ℕ) (kind : CaseKind) (w : ℕ) (s : Bool) (sv : N.State → BitList) (written : ℕ) (items : List Expression) (st : Statement) (rest : Arms)
    → (cc : List Call) (tc : List ℕ) (n : ℕ) (ct : List Call) (now1 later1 : List ℕ) (n1 : ℕ) (co : List Call) (now2 later2 : List ℕ) (n2 : ℕ)
    → (cn : List Call) (now3 : List ℕ) (p more : ℕ) (cl : List Call) (later3 : List ℕ) (q extra : ℕ)
    → IsEnv now m → IsEnv later m → All (λ slot. slot < m) tv
    → IsCondition now tv sv n2 cc tc n (items_weight (items_of items) w) (λ state. matches_of kind w s (sv state) items state)
    → IsStatementDone now later n st ct now1 later1 n1
    → IsDone now later tv sv m (λ state. arms_body rest kind w s (sv state) state) (arms_blocking rest) (arms_nonblocking rest) (arms_weight rest w written) co now2 later2 n2
    → IsMerged now1 now2 tc n1 cn now3 p more → IsMerged later1 later2 tc p cl later3 q extra → more + extra ≤ written
    → IsDone now later tv sv m (λ state. arms_body (Arm (items_of items) st rest) kind w s (sv state) state) (arms_blocking (Arm (items_of items) st rest)) (arms_nonblocking (Arm (items_of items) st rest)) (arms_weight (Arm (items_of items) st rest) w written)
    ((((co ++ cc) ++ ct) ++ cn) ++ cl) now3 later3 q
arm_done now later tv m kind w s sv written items st rest cc tc n ct now1 later1 n1 co now2 later2 n2 cn now3 p more cl later3 q extra e f low c t o a b few =
    let cond : N.State → BitList = λ state. matches_of kind w s (sv state) items state in
    done_as now later tv sv m _ (λ state. arms_body (Arm (items_of items) st rest) kind w s (sv state) state) (blocking_bits st ++ arms_blocking rest) (nonblocking_bits st ++ arms_nonblocking rest)
    (arms_weight rest w written + items_weight (items_of items) w + statement_weight st + more + extra) (arms_weight (Arm (items_of items) st rest) w written) _ _ _ _
    (λ state. ap (λ (b : Bool). if b then body st state else arms_body rest kind w s (sv state) state) (taken_is kind w s (sv state) items state)) (omega (arith, few))
    (done_forked now later tv sv m cond tc (body st) now1 later1 (λ state. arms_body rest kind w s (sv state) state) now2 later2 (blocking_bits st ++ arms_blocking rest) (nonblocking_bits st ++ arms_nonblocking rest)
    ((co ++ cc) ++ ct) n1 (arms_weight rest w written + items_weight (items_of items) w + statement_weight st) cn now3 p more cl later3 q extra e
    (forked_arm now later tv sv m cond cc tc n (items_weight (items_of items) w) (body st) (blocking_bits st) (nonblocking_bits st) (statement_weight st) ct now1 later1 n1
    (λ state. arms_body rest kind w s (sv state) state) (arms_blocking rest) (arms_nonblocking rest) (arms_weight rest w written) co now2 later2 n2 e f low c t o) a b)

pub case_done : (now later : List ℕ) (m : ℕ) (kind : CaseKind) (subject : Expression) (arms : Arms) (c : List Call) (tv : List ℕ) (n : ℕ) (d : List Call) (now1 later1 : List ℕ) (p : ℕ)
    → IsEnv now m → IsEnv later m → IsValue now m subject (case_width subject arms) (case_sign subject arms) c tv n
    → IsDone now later tv (λ state. value subject (case_width subject arms) (case_sign subject arms) state) n (λ state. arms_body arms kind (case_width subject arms) (case_sign subject arms) (value subject (case_width subject arms) (case_sign subject arms) state) state)
    (arms_blocking arms) (arms_nonblocking arms) (arms_weight arms (case_width subject arms) (distinct (arms_bits arms))) d now1 later1 p
    → IsStatementDone now later m (Case kind subject arms) (c ++ d) now1 later1 p
case_done now later m kind subject arms c tv n d now1 later1 p e f v o =
    done_case now later m (λ state. value subject (case_width subject arms) (case_sign subject arms) state) c tv n (weight subject (case_width subject arms)) _ (arms_blocking arms) (arms_nonblocking arms) (arms_weight arms (case_width subject arms) (distinct (arms_bits arms))) d now1 later1 p e f v.values o
