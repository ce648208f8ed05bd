use Rattle.std.proofs.Common.{◌≡◌, ℕ, ◌+◌, ◌*◌, ◌%◌, ◌<◌, ◌≤◌, ◌∙◌, sym, subst, ap, arith, lit<, [], length, slice_index, length-set}
use Rattle.std.proofs.lemmas.Option.{get_or_from_slice_get}
use Rattle.set_table.specs.declared.SetName.{SetName}
use Rattle.set_table.specs.Sets.{data_of}
use Rattle.ring_law.specs.Rows.{IsReduced}
use Rattle.bfv_params.specs.Kept.{IsPublic}
use Rattle.bfv_params.specs.Rows.{ArePartlyWritten}
use Rattle.bfv_params.specs.Values.{PublicValue}
use Rattle.bfv_params.proofs.Tables.{degree_of-limit}
use Rattle.bfv_params.proofs.WrittenParts.{ArePartlyWritten-next, place_in_part, turn_in_part}
use Rattle.bfv_params.proofs.public.Public.set_part.Goals as goal

pub set_row-requires : goal.set_row-requires
set_row-requires g c =
    let n : ℕ = g.row.N in
    let old : PublicValue = c.args.self.now in
    let kept : IsPublic n old.set old.rows = subst (λ (v : PublicValue). IsPublic n v.set v.rows) c.self.view_is c.self.invariant in
    let count : ℕ = length (data_of old.set) in
    let own : c.data_count-count.result ≡ count = c.data_count-count.ensures ∙ ap (λ (v : PublicValue). length (data_of v.set)) c.self.view_is in
    let i : ℕ = c.loop-i.i in
    let at : ℕ = c.args.j * c.data_count-count.result + i in
    let degree : n ≤ 32768 = subst (λ m. m ≤ 32768) (sym kept.degree) (degree_of-limit old.set) in
    let less : i < count = subst (λ m. i < m) own c.loop-i-test.true in
    let place : at < 2 * count = subst (λ m. c.args.j * m + i < 2 * count) (sym own) (place_in_part 2 c.args.j count i c.requires.place less) in
    let turn : at % count ≡ i = subst (λ m. (c.args.j * m + i) % count ≡ i) (sym own) (turn_in_part c.args.j count i less) in
    let row : IsReduced n (slice_index (data_of old.set) i) c.row.result.now =
    subst (IsReduced n (slice_index (data_of old.set) i)) (get_or_from_slice_get c.args.rows.rows.now i c.row.result.now [] c.row.ensures) (c.requires.reduced i less) in
    let Fits : SetName → Type 0 = λ s. (at < 2 * length (data_of s)) × IsReduced n (slice_index (data_of s) (at % length (data_of s))) c.row.result.now in
    let fits : Fits c.loop-i.self.set = subst Fits (sym c.loop-i.invariant.set) (place, subst (λ j. IsReduced n (slice_index (data_of old.set) j) c.row.result.now) (sym turn) row) in
    (lit< tt, (omega (arith, degree), fits))

pub loop-i-preserved : goal.loop-i-preserved
loop-i-preserved g c =
    let old : PublicValue = c.args.self.now in
    let count : ℕ = length (data_of old.set) in
    let own : c.data_count-count.result ≡ count = c.data_count-count.ensures ∙ ap (λ (v : PublicValue). length (data_of v.set)) c.self.view_is in
    let i : ℕ = c.loop-i.i in
    let before = c.loop-i.invariant in
    let start : ℕ = c.args.j * c.data_count-count.result in
    let less : i < count = subst (λ m. i < m) own c.loop-i-test.true in
    let place : start + i < 2 * count = subst (λ m. c.args.j * m + i < 2 * count) (sym own) (place_in_part 2 c.args.j count i c.requires.place less) in
    let changed = ap (λ (p : PublicValue). p.rows) c.set_row.ensures in
    record {
      set = ap (λ (p : PublicValue). p.set) c.set_row.ensures ∙ before.set;
      count = ap (λ (p : PublicValue). length p.rows) c.set_row.ensures ∙ length-set c.loop-i.self.rows (start + i) c.row.result.now ∙ before.count;
      written = subst (ArePartlyWritten start (i + 1) c.args.rows.rows.now old.rows) (sym changed)
          (ArePartlyWritten-next start i c.args.rows.rows.now old.rows c.loop-i.self.rows c.row.result.now (omega (arith, place, before.count)) c.row.ensures before.written);
    }
