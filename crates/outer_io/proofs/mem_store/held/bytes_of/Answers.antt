use Rattle.std.proofs.Common.{refl, arith}
use Rattle.std.proofs.lemmas.Option.{slice_get_read}
use Rattle.outer_io.proofs.mem_store.held.bytes_of.Goals as goal
use Rattle.outer_io.proofs.Places.{found_first}

pub returns-in-Some-clause-found : goal.returns-in-Some-clause-found
returns-in-Some-clause-found c =
    let first = c.in-Some.ensures.found in
    let below = first.below in
    let here = slice_get_read c.args.files.now _ c.in-Some.i c.index-files-i.result refl (omega arith) c.index-files-i.is in
    let bytes = found_first c.args.files.now c.args.name.now c.in-Some.i c.index-files-i.result first here in
    cc (bytes, c.as_slice-bytes.ensures.value)
