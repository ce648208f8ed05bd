use Rattle.std.proofs.Common.{◌≤◌, ◌-◌, ◌∙◌, length, rules, arith}
use borrow.Rule.Slice.PartMut.{same_len_mid}
use Rattle.outer_io.specs.Store.{OnlyReads}
use Rattle.command_stages.proofs.SeedFiles.{front_more, part_fits}
use Rattle.command_stages.proofs.seed.fill_front.Goals as goal

pub pieces-preserved : goal.pieces-preserved
pieces-preserved g c =
    let state = g.S.Store.state in
    let room = length c.pieces.buffer - c.pieces.filled in
    let keeps : OnlyReads (state c.args.store.now) (state c.read_piece.new.store) = search rules in
    let whole = same_len_mid c.pieces.filled room c.pieces.buffer c.read_piece.new.buf c.read_piece.auto.buf in
    let fits : c.in_ok-n.n ≤ room = part_fits c.in_ok-n.n room _ c.in_ok-n.ensures.count in
    record {
      keeps = keeps;
      within = omega (arith, whole, fits, c.pieces.invariant.within);
      told = λ files told.
          let read = (c.in_ok-n.ensures.told files (c.pieces.invariant.keeps.files ∙ told)).ok in
          front_more files c.args.name.now c.pieces.filled c.in_ok-n.n room _ c.pieces.buffer c.read_piece.new.buf (c.pieces.invariant.told files told) c.pieces.invariant.within
          c.read_piece.auto.buf read.0 read.1;
    }
