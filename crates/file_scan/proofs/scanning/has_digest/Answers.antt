use Rattle.std.proofs.Common.{arith}
use Rattle.std.proofs.lemmas.Result.{err_from_is_err_and}
use Rattle.file_scan.proofs.ScanFaults.{ends_kept}
use Rattle.file_scan.proofs.scanning.has_digest.Goals as goal

pub returns-in_err-read_part-clause-kept : goal.returns-in_err-read_part-clause-kept
returns-in_err-read_part-clause-kept g c =
    let p = err_from_is_err_and c.from_residual.result c.from_residual.ensures.1 in
    rw (p.1, p.2) (λ wanted. ends_kept wanted _ _ c.args.size c.in_err-read_part.field-0.0 (omega arith) c.in_err-read_part.ensures.ended)
