use Rattle.std.proofs.Common.{rules, arith, length, ◌≤◌}
use Rattle.file_scan.proofs.Parts.{part_read}
use Rattle.file_scan.proofs.file_part.read_part.Goals as goal

pub returns-clause-told : goal.returns-clause-told
returns-clause-told g c = λ files told.
    let read = (c.in_ok-n.ensures.told files told).ok in
    let full : length c.args.buf.now ≤ c.in_ok-n.n = omega arith in
    record {
      ok = (read.0, (part_read _ _ c.args.buf.now c.args.at c.in_ok-n.n read.1.0 full read.1.1, λ within. omega arith));
      missing = search rules;
      fault = search rules;
    }
