use Rattle.std.proofs.Common.{ℕ, ◌*◌, ◌<◌, ap, List}
use Rattle.bfv_params.proofs.Ciphers.{row_written}
use Rattle.bfv_params.specs.Values.{CipherValue}
use Rattle.bfv_params.proofs.cipher.Cipher.set_row.Goals as goal

pub returns : goal.returns
returns g c =
    let s = c.self.inside in
    let less : c.args.i < s.parts * s.level = rw (← c.self.view_is) at c.requires.in_range in
    let with_rows : List (List ℕ) → CipherValue = λ rows. record { set = s.set; room = s.room; level = s.level; parts = s.parts; rows = rows } in
    rw (← c.self.view_is) (ap with_rows (row_written s.parts s.level c.args.i s.rows.items c.args.row.now c.self.invariant.1.count less))
