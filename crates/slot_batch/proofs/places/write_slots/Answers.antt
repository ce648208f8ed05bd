use Rattle.std.proofs.Common.{suc, ◌+◌, ◌-◌, ◌*◌, ◌/◌, ◌<◌, arith, refl, ◌∙◌, slice_index, length-set, mod-lt}
use Rattle.bfv_model.specs.Slots.{slot_place}
use Rattle.slot_batch.proofs.PlaceSteps.{halves, place_below, place_first, place_once, place_second, power_first, power_next}
use Rattle.slot_batch.proofs.Rows.{written_all, written_more}
use Rattle.slot_batch.proofs.places.write_slots.Goals as goal

pub loop-i-init : goal.loop-i-init
loop-i-init g c = record {
  len = c.told-entries;
  in_word = omega arith;
  power = λ log e some. power_first log g.row.N e;
  written = λ log e. record { first = λ j l. absurd (omega arith); second = λ j l. absurd (omega arith) };
}

pub loop-i-preserved : goal.loop-i-preserved
loop-i-preserved g c =
    let n = g.row.N in
    let i = c.loop-i.i in
    let place = c.reversed_digits-place.result in
    record {
      len = length-set _ _ _ ∙ (length-set _ _ _ ∙ c.loop-i.invariant.len);
      in_word = let some : 0 < 2 * n = omega arith in let l = mod-lt (3 * c.loop-i.power) some in omega arith;
      power = λ log e more. power_next log n i c.loop-i.power e more (c.loop-i.invariant.power log e c.loop-i-test.true);
      written = λ log e.
          let is = c.loop-i.invariant.power log e c.loop-i-test.true in
          let digits = c.reversed_digits-place.ensures.digits (suc (suc log)) e in
          written_more (slot_place (suc (suc log))) (λ i. slice_index c.args.values.now i) n (n / 2) i place (n - 1 - place)
          (slice_index c.args.values.now i) (slice_index c.args.values.now (n / 2 + i)) c.loop-i.entries
          (halves log n e) c.loop-i.invariant.len c.loop-i-test.true (λ j l. place_below log n j e) (λ j k. place_once log n j k e)
          (place_first log n i c.loop-i.power place e is digits)
          (place_second log n i c.loop-i.power place e c.loop-i-test.true is digits) refl refl
          (c.loop-i.invariant.written log e);
    }

pub returns : goal.returns
returns g c log i e = written_all (slot_place (suc (suc log))) (λ i. slice_index c.args.values.now i) g.row.N (g.row.N / 2)
    c.loop-i.i c.loop-i.entries (halves log g.row.N e) c.loop-i-test.false (c.loop-i.invariant.written log e) i
