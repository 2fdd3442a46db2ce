use Rattle.std.proofs.Common.{◌≡◌, ℕ, ◌+◌, ◌-◌, List, [], ◌∷◌, length, get_or, string_bytes, sym, ap, ◌∙◌, arith}
use Rattle.std.proofs.lemmas.List.{length-append}
use Rattle.std.proofs.lemmas.Option.{get_or_from_slice_get}
use Rattle.vs_explainer.proofs.Joins.{next_full, next_joined, start_long}
use Rattle.vs_explainer.proofs.Sights.{only_other}
use Rattle.vs_explainer.proofs.joined.read_next.Goals as goal

pub returns-then-len-ge-MAX_BYTES-clause-joined : goal.returns-then-len-ge-MAX_BYTES-clause-joined
returns-then-len-ge-MAX_BYTES-clause-joined g c = next_full _ _ _ _ _ (omega arith)

pub returns-clause-joined : goal.returns-clause-joined
returns-clause-joined g c =
    let job = c.args.job.now in
    let files = (g.D.Desk.told c.args.desk.now).contents.files in
    let text = c.args.joined.now.text.items in
    let named : string_bytes c.in_ok-path.path ≡ get_or job.others c.args.n [] = c.in_ok-path.ensures.ok ∙ c.as_str.ensures ∙ sym (get_or_from_slice_get job.others c.args.n c.get.result.now [] c.get.ensures) in
    next_joined g.D.Desk.tells job.head (files (get_or job.others c.args.n [])) (files (string_bytes c.in_ok-path.path)) text c.args.joined.now.starts.items _ _ _ _ (omega arith)
    (c.as_slice.ensures.value ∙ c.in_ok-begin_file.ensures.text) c.in_ok-joined.ensures.text (ap files named) c.in_ok-begin_file.ensures.starts
    (ap (λ (xs : List ℕ). length text + 1 - length xs) c.as_bytes.ensures)

pub returns-clause-head : goal.returns-clause-head
returns-clause-head g c =
    let text = c.args.joined.now.text.items in
    let longer = start_long _ _ _ _ c.in_ok-joined.ensures.text in
    let size = ap (λ (xs : List ℕ). length xs) (c.as_slice.ensures.value ∙ c.in_ok-begin_file.ensures.text) ∙ length-append text (10 ∷ []) in
    omega (arith, c.requires.head)

pub returns-clause-only : goal.returns-clause-only
returns-clause-only g c = only_other c.args.n (g.D.Desk.told c.args.desk.now) (g.D.Desk.told c.read_other.new.desk) c.requires.few c.in_ok-joined.ensures.only

pub returns-clause-other : goal.returns-clause-other
returns-clause-other g c = c.in_ok-joined.ensures.only.others

pub returns-in_err-joined-clause-only : goal.returns-in_err-joined-clause-only
returns-in_err-joined-clause-only g c = only_other c.args.n (g.D.Desk.told c.args.desk.now) (g.D.Desk.told c.read_other.new.desk) c.requires.few c.in_err-joined.ensures.only

pub returns-in_err-joined-clause-other : goal.returns-in_err-joined-clause-other
returns-in_err-joined-clause-other g c = c.in_err-joined.ensures.only.others
