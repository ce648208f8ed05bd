use Rattle.std.proofs.Common.{◌≡◌, ◌+◌, ◌-◌, ◌*◌, ◌≤◌, ◌∙◌, ℕ, suc, List, ap, arith, below_more, drop, length, lit<, mul-le-mul_right}
use Rattle.std.specs.List.{slice_range}
use Rattle.std.proofs.lemmas.List.{length-drop, length-take-le}
use Rattle.bfv_tensor.specs.Rows.{IsScaledPart, IsSmallPart, part_rows}
use Rattle.bfv_tensor.proofs.WrittenParts.{rest_kept, scaled_kept, small_part}
use Rattle.bfv_tensor.proofs.scaling.write_parts.Goals as goal

pub write_part-requires : goal.write_part-requires
write_part-requires g c =
    let ctx = c.args.ctx.now in
    let count : ℕ = c.rows_of_part-count.result in
    let known = c.rows_of_part-count.ensures in
    let j : ℕ = c.loop-j.j in
    let rows : List (List ℕ) = c.loop-j.rows in
    let kept = c.loop-j.invariant in
    let all : suc j * count ≤ 3 * count = mul-le-mul_right count c.loop-j-test.true in
    let lent : length (slice_range rows (j * count) ((j + 1) * count)) ≡ part_rows ctx =
    length-take-le ((j + 1) * count - j * count) (drop (j * count) rows) (omega (arith, length-drop (j * count) rows, c.loop-j.auto.rows, c.requires.count, known.value)) ∙ omega (arith, known.value) in
    let small : IsSmallPart g.row.N ctx (slice_range rows (j * count) ((j + 1) * count)) =
    small_part g.row.N ctx c.args.rows.now rows j (j * count) ((j + 1) * count) known.within c.loop-j-test.true (ap (λ (m : ℕ). j * m) known.value) (omega (arith, known.value)) kept.rest
    c.requires.small in
    (lit< tt, (omega (arith, known.limit), (lit< tt, (kept.of, (kept.parts, (c.loop-j-test.true, (lent, small)))))))

pub loop-j-preserved : goal.loop-j-preserved
loop-j-preserved g c =
    let n : ℕ = g.row.N in
    let ctx = c.args.ctx.now in
    let count : ℕ = c.rows_of_part-count.result in
    let known = c.rows_of_part-count.ensures in
    let j : ℕ = c.loop-j.j in
    let rows : List (List ℕ) = c.loop-j.rows in
    let kept = c.loop-j.invariant in
    let out = c.write_part.new.out in
    let all : suc j * count ≤ 3 * count = mul-le-mul_right count c.loop-j-test.true in
    let lent : length c.write_part.new.rows ≡ (j + 1) * count - j * count =
    c.write_part.auto.rows ∙ length-take-le ((j + 1) * count - j * count) (drop (j * count) rows) (omega (arith, length-drop (j * count) rows, c.loop-j.auto.rows, c.requires.count, known.value)) in
    record {
      of = c.write_part.ensures.of_context;
      room = c.write_part.ensures.room ∙ kept.room;
      parts = c.write_part.ensures.parts;
      rest = λ i behind. rest_kept rows c.write_part.new.rows (j * count) ((j + 1) * count) i (omega arith) (omega (arith, c.loop-j.auto.rows, c.requires.count, known.value)) lent behind
          ∙ kept.rest i (omega arith);
      done = λ d. below_more (λ p. IsScaledPart n ctx out p (d.part p)) j
          (λ p less. scaled_kept n ctx c.loop-j.out out p j (d.part p) known.within less c.write_part.ensures.others (kept.done d p less))
          (c.write_part.ensures.words
          (small_part n ctx c.args.rows.now rows j (j * count) ((j + 1) * count) known.within c.loop-j-test.true (ap (λ (m : ℕ). j * m) known.value) (omega (arith, known.value)) kept.rest d));
    }
