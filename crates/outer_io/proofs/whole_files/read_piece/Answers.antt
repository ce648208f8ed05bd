use Rattle.std.proofs.Common.{length}
use Rattle.outer_io.proofs.Reading.{piece_copied}
use Rattle.outer_io.proofs.whole_files.read_piece.Goals as goal

pub returns-in-Ok-clause-told : goal.returns-in-Ok-clause-told
returns-in-Ok-clause-told g c = λ files told.
    let read = c.in-Ok.ensures.told files told in
    record { ok = (read.ok.0, piece_copied _ c.read_at.new.buf c.args.buf.now c.args.at c.in-Ok.n (length c.args.buf.now) read.ok.1.0 read.ok.1.1); missing = read.missing }
