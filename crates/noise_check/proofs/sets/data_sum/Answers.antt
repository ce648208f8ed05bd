use Rattle.std.proofs.Common.{◌+◌, arith, ap, sym, ◌∙◌, drop, slice_index}
use Rattle.std.specs.Prelude.{fold}
use Rattle.std.proofs.lemmas.List.{drop_all}
use Rattle.set_table.specs.Sets.{data_of}
use Rattle.noise_check.proofs.SetNumbers.{fold-drop, sum_from-ge, data_sum_lt}
use Rattle.noise_check.proofs.sets.data_sum.Goals as goal

pub overflow_add-total : goal.overflow_add-total
overflow_add-total c =
    let next = fold-drop ◌+◌ c.loop-i.total (data_of c.args.set) c.loop-i.i (omega arith) in
    let within = sum_from-ge (c.loop-i.total + slice_index (data_of c.args.set) c.loop-i.i) (drop (c.loop-i.i + 1) (data_of c.args.set)) in
    let most = data_sum_lt c.args.set in
    omega arith

pub loop-i-preserved : goal.loop-i-preserved
loop-i-preserved c =
    ap (λ x. fold ◌+◌ (c.loop-i.total + x) (drop (c.loop-i.i + 1) (data_of c.args.set))) c.data_modulus-total.ensures
    ∙ sym (fold-drop ◌+◌ c.loop-i.total (data_of c.args.set) c.loop-i.i (omega arith))
    ∙ c.loop-i.invariant

pub returns : goal.returns
returns c = sym (ap (fold ◌+◌ c.loop-i.total) (drop_all c.loop-i.i (data_of c.args.set) (omega arith))) ∙ c.loop-i.invariant
