use Rattle.std.proofs.Common.{◌≡◌, ℕ, ◌+◌, ◌*◌, ◌%◌, ◌<◌, ◌≤◌, ◌∙◌, sym, subst, ap, ap₂, arith, lit<, [], length, slice_index, length-set}
use Rattle.std.proofs.lemmas.Option.{get_or_from_slice_get}
use Rattle.set_table.specs.declared.SetName.{SetName}
use Rattle.ring_law.specs.Rows.{IsReduced}
use Rattle.bfv_params.specs.Kept.{IsCipher}
use Rattle.bfv_params.specs.Moduli.{data_at}
use Rattle.bfv_params.specs.Rows.{ArePartlyWritten}
use Rattle.bfv_params.specs.Values.{CipherValue}
use Rattle.bfv_params.proofs.Ciphers.{within_three}
use Rattle.bfv_params.proofs.Coprimality.{data_length}
use Rattle.bfv_params.proofs.Tables.{degree_of-limit}
use Rattle.bfv_params.proofs.WrittenParts.{ArePartlyWritten-next, place_in_part, turn_in_part}
use Rattle.bfv_params.proofs.cipher.Cipher.set_part.Goals as goal

pub set_row-requires : goal.set_row-requires
set_row-requires g c =
    let n : ℕ = g.row.N in
    let old : CipherValue = c.args.self.now in
    let kept : IsCipher n old.set old.room old.level old.parts old.rows = subst (λ (v : CipherValue). IsCipher n v.set v.room v.level v.parts v.rows) c.self.view_is c.self.invariant.1 in
    let own : c.self.inside.level ≡ old.level = ap (λ (v : CipherValue). v.level) c.self.view_is in
    let before = c.loop-i.invariant in
    let i : ℕ = c.loop-i.i in
    let at : ℕ = c.args.j * c.self.inside.level + i in
    let degree : n ≤ 32768 = subst (λ m. m ≤ 32768) (sym kept.degree) (degree_of-limit old.set) in
    let less : i < old.level = subst (λ m. i < m) own c.loop-i-test.true in
    let place : at < old.parts * old.level = subst (λ m. c.args.j * m + i < old.parts * old.level) (sym own) (place_in_part old.parts c.args.j old.level i c.requires.place less) in
    let turn : at % old.level ≡ i = subst (λ m. (c.args.j * m + i) % old.level ≡ i) (sym own) (turn_in_part c.args.j old.level i less) in
    let counted : i < length (data_at old.set old.level) = subst (λ m. i < m) (data_length old.set old.level (omega (arith, kept.fits, kept.within))) less in
    let row : IsReduced n (slice_index (data_at old.set old.level) i) c.row.result.now =
    subst (IsReduced n (slice_index (data_at old.set old.level) i)) (get_or_from_slice_get c.args.rows.rows.now i c.row.result.now [] c.row.ensures) (c.requires.reduced i counted) in
    let turned : IsReduced n (slice_index (data_at old.set old.level) (at % old.level)) c.row.result.now =
    subst (λ j. IsReduced n (slice_index (data_at old.set old.level) j) c.row.result.now) (sym turn) row in
    let here : at < c.loop-i.self.parts * c.loop-i.self.level = subst (λ m. at < m) (sym (ap₂ (λ (a b : ℕ). a * b) before.parts before.level)) place in
    let In : SetName → ℕ → Type 0 = λ s l. IsReduced n (slice_index (data_at s l) (at % l)) c.row.result.now in
    let fits : In c.loop-i.self.set c.loop-i.self.level = subst (λ s. In s c.loop-i.self.level) (sym before.set) (subst (In old.set) (sym before.level) turned) in
    (lit< tt, (omega (arith, degree), (here, fits)))

pub loop-i-preserved : goal.loop-i-preserved
loop-i-preserved g c =
    let n : ℕ = g.row.N in
    let old : CipherValue = c.args.self.now in
    let kept : IsCipher n old.set old.room old.level old.parts old.rows = subst (λ (v : CipherValue). IsCipher n v.set v.room v.level v.parts v.rows) c.self.view_is c.self.invariant.1 in
    let own : c.self.inside.level ≡ old.level = ap (λ (v : CipherValue). v.level) c.self.view_is in
    let before = c.loop-i.invariant in
    let i : ℕ = c.loop-i.i in
    let start : ℕ = c.args.j * c.self.inside.level in
    let less : i < old.level = subst (λ m. i < m) own c.loop-i-test.true in
    let place : start + i < old.parts * old.level = subst (λ m. c.args.j * m + i < old.parts * old.level) (sym own) (place_in_part old.parts c.args.j old.level i c.requires.place less) in
    let all : start + i < 3 * old.level = within_three old.parts old.level (start + i) kept.count place in
    let changed = ap (λ (x : CipherValue). x.rows) c.set_row.ensures in
    record {
      set = ap (λ (x : CipherValue). x.set) c.set_row.ensures ∙ before.set;
      room = ap (λ (x : CipherValue). x.room) c.set_row.ensures ∙ before.room;
      level = ap (λ (x : CipherValue). x.level) c.set_row.ensures ∙ before.level;
      parts = ap (λ (x : CipherValue). x.parts) c.set_row.ensures ∙ before.parts;
      count = ap (λ (x : CipherValue). length x.rows) c.set_row.ensures ∙ length-set c.loop-i.self.rows (start + i) c.row.result.now ∙ before.count;
      written = subst (ArePartlyWritten start (i + 1) c.args.rows.rows.now old.rows) (sym changed)
          (ArePartlyWritten-next start i c.args.rows.rows.now old.rows c.loop-i.self.rows c.row.result.now (omega (arith, all, before.count)) c.row.ensures before.written);
    }
