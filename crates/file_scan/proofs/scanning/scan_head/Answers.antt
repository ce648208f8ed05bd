use Rattle.std.proofs.Common.{◌≡◌, ℕ, ◌∙◌, ◌++◌, subst, rules, arith, List, take, inr, length-take}
use Rattle.outer_io.specs.Store.{contents}
use Rattle.sha2.specs.Hashers.{Holds256}
use Rattle.file_scan.proofs.Parts.{front_read}
use Rattle.std.proofs.lemmas.Result.{err_from_is_err_and}
use Rattle.file_scan.proofs.ScanFaults.{ends_kept}
use Rattle.file_scan.proofs.Fronts.{front_passes, front_fails}
use Rattle.file_scan.proofs.scanning.scan_head.Goals as goal

pub returns-in-Ok-clause-told : goal.returns-in-Ok-clause-told
returns-in-Ok-clause-told g c = λ files told.
    let bytes = contents files c.args.name.now in
    let read = (c.in_ok-read_part.ensures.told files told).ok in
    let size = c.requires.told_size files told in
    let front : c.read_part.new.buf ≡ take 64 bytes = read.1.0 ∙ front_read _ 64 bytes (simp length-take (omega arith)) in
    let tests = c.in-Ok.ensures in
    record {
      ok = (read.0, (front_passes c.args.wanted bytes c.read_part.new.buf c.in-Ok.head front tests.long tests.head tests.ok, λ m before. subst (λ (l : List ℕ). Holds256 c.update.new.self (m ++ l)) front (c.update.ensures m before)));
      missing = search rules;
      fault = search rules;
    }

pub returns-in-Err-clause-told : goal.returns-in-Err-clause-told
returns-in-Err-clause-told g c = λ files told.
    let bytes = contents files c.args.name.now in
    let read = (c.in_ok-read_part.ensures.told files told).ok in
    let size = c.requires.told_size files told in
    let front : c.read_part.new.buf ≡ take 64 bytes = read.1.0 ∙ front_read _ 64 bytes (simp length-take (omega arith)) in
    record {
      ok = search rules;
      missing = λ is. absurd (c.in-Err.ensures.faults.not_missing is);
      fault = inr (read.0, front_fails c.args.wanted bytes c.read_part.new.buf c.in-Err.fault front c.in-Err.ensures.err);
    }

pub returns-in_err-read_part-clause-kept : goal.returns-in_err-read_part-clause-kept
returns-in_err-read_part-clause-kept g c =
    let p = err_from_is_err_and c.from_residual.result c.from_residual.ensures.1 in
    rw (p.1, p.2) (ends_kept c.args.wanted _ _ 64 c.in_err-read_part.field-0.0 (simp length-take (omega arith)) c.in_err-read_part.ensures.ended)
