use Rattle.std.proofs.Common.{◌≡◌, refl, ◌++◌, ◌∷◌, [], get_or, string_bytes, Err, sym, ap, ◌∙◌, arith}
use Rattle.std.proofs.lemmas.Option.{get_or_from_slice_get}
use Rattle.std.proofs.lemmas.Result.{err_from_is_err_and}
use Rattle.vs_desk.specs.Places.{design_place, other_place}
use Rattle.vs_setup.proofs.Files.{IsFileRead, IsFileUnread, first_unread, more_unread, more_read, between_unread, file_unread, file_read}
use Rattle.vs_setup.proofs.design_text.read_design.Goals as goal

pub returns-in_err-read_file-clause-unread : goal.returns-in_err-read_file-clause-unread
returns-in_err-read_file-clause-unread g c =
    let p = err_from_is_err_and c.from_residual-in_err-read_file.result c.from_residual-in_err-read_file.ensures.1 in
    let job = c.args.job.now in
    let old = g.D.Desk.told c.args.desk.now in
    let new = g.D.Desk.told c.read_file.new.desk in
    let e = c.in_err-read_file.field-0.0 in
    let f = c.in_err-read_file.ensures in
    let unread : IsFileUnread old new design_place (c.new-text.result.items ++ c.as_bytes.result.now) (string_bytes c.in_ok-path.path) e = record {
      long = λ is. f.long (ap Err is);
      memory = λ is. f.memory (ap Err is);
      fault = λ p is. f.fault p (ap Err is);
    } in
    let before : c.new-text.result.items ++ c.as_bytes.result.now ≡ job.head = rw (c.new-text.ensures.items, c.as_bytes.ensures) refl in
    rw (p.1, p.2) (first_unread job old new e (omega (arith, c.requires.head))
    (file_unread old new design_place _ _ job.head job.design e before (c.in_ok-path.ensures.ok ∙ c.as_str.ensures) unread))

pub returns-in_err-path-2-clause-unread : goal.returns-in_err-path-2-clause-unread
returns-in_err-path-2-clause-unread g c =
    let p = err_from_is_err_and c.from_residual-in_err-path-2.result c.from_residual-in_err-path-2.ensures.1 in
    rw (p.1, p.2) (between_unread c.args.job.now (g.D.Desk.told c.args.desk.now) (g.D.Desk.told c.loop-i.desk) c.loop-i.i c.loop-i.text.items (omega arith) c.loop-i.invariant)

pub returns-in_err-read_file-2-clause-unread : goal.returns-in_err-read_file-2-clause-unread
returns-in_err-read_file-2-clause-unread g c =
    let p = err_from_is_err_and c.from_residual-in_err-read_file-2.result c.from_residual-in_err-read_file-2.ensures.1 in
    let job = c.args.job.now in
    let old = g.D.Desk.told c.args.desk.now in
    let mid = g.D.Desk.told c.loop-i.desk in
    let new = g.D.Desk.told c.read_file-in-loop-i.new.desk in
    let k = c.loop-i.i in
    let text = c.loop-i.text.items in
    let e = c.in_err-read_file-2.field-0.0 in
    let f = c.in_err-read_file-2.ensures in
    let unread : IsFileUnread mid new (other_place k) (text ++ 10 ∷ []) (string_bytes c.in_ok-path-2.path) e = record {
      long = λ is. f.long (ap Err is);
      memory = λ is. f.memory (ap Err is);
      fault = λ p is. f.fault p (ap Err is);
    } in
    let named : string_bytes c.in_ok-path-2.path ≡ get_or job.others k [] = c.in_ok-path-2.ensures.ok ∙ c.as_str-in-loop-i.ensures ∙ sym (get_or_from_slice_get job.others k c.get.result.now [] c.get.ensures) in
    rw (p.1, p.2) (more_unread job old mid new k text e c.attach_law.ensures.next c.attach_law.ensures.quiet (omega arith) c.loop-i.invariant
    (file_unread mid new (other_place k) _ _ (text ++ 10 ∷ []) (get_or job.others k []) e refl named unread))

pub loop-i-preserved : goal.loop-i-preserved
loop-i-preserved g c =
    let job = c.args.job.now in
    let old = g.D.Desk.told c.args.desk.now in
    let mid = g.D.Desk.told c.loop-i.desk in
    let new = g.D.Desk.told c.read_file-in-loop-i.new.desk in
    let k = c.loop-i.i in
    let text = c.loop-i.text.items in
    let grown = c.read_file-in-loop-i.new.text.items in
    let f = c.in_ok-read_file-2.ensures in
    let read : IsFileRead mid new (other_place k) (text ++ 10 ∷ []) (string_bytes c.in_ok-path-2.path) grown = record {
      register_is = f.attached;
      behind = f.text;
      short = f.short;
      end = f.end;
      only = f.only;
    } in
    let named : string_bytes c.in_ok-path-2.path ≡ get_or job.others k [] = c.in_ok-path-2.ensures.ok ∙ c.as_str-in-loop-i.ensures ∙ sym (get_or_from_slice_get job.others k c.get.result.now [] c.get.ensures) in
    more_read job old mid new k text grown c.attach_law.ensures.next (omega arith) c.loop-i.invariant
    (file_read mid new (other_place k) _ _ (text ++ 10 ∷ []) (get_or job.others k []) grown refl named read)
