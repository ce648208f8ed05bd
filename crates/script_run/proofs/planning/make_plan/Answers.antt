use Rattle.std.proofs.Common.{rules, arith, ◌≡◌, ℕ, ◌+◌, ◌<◌, max, ap, ◌∙◌, length, slice_index, take}
use Rattle.std.proofs.lemmas.Grind.{get_or_default_zero}
use Rattle.script_run.specs.Ends.{taken_count}
use Rattle.script_run.specs.Registers.{input_count}
use Rattle.script_run.proofs.Counting.{most_live_within}
use Rattle.script_run.proofs.Inputs.{inputs_counted}
use Rattle.script_run.proofs.Placing.{placed_all, placed_first, placed_next}
use Rattle.script_run.proofs.planning.make_plan.Goals as goal

pub loop-i-init : goal.loop-i-init
loop-i-init c =
    let ends = c.in_ok-ends.ends.items in
    let taken = c.in_ok-taken.taken.items in
    let first : taken ≡ take c.ciphers-inputs.result ends = search rules in
    placed_first c.args.script.now ends c.in_ok-places.places.items taken c.ciphers-inputs.result c.in_ok-ends.ensures c.ciphers-inputs.ensures c.in_ok-places.ensures.count c.in_ok-places.ensures.each first

pub loop-i-preserved : goal.loop-i-preserved
loop-i-preserved c =
    let script = c.args.script.now in
    let ends = c.in_ok-ends.ends.items in
    let i = c.loop-i.i in
    let below : i < length script.steps = omega (arith, c.loop-i-test.true, c.steps-i-end.ensures.value) in
    let size = c.in_ok-ends.ensures.size in
    let end : c.index.result.now ≡ slice_index ends (input_count script + i)
    = c.index.ensures ∙ get_or_default_zero ends (c.ciphers-inputs.result + i) c.index.result.now (omega (arith, size, below, c.ciphers-inputs.ensures))
    ∙ ap (λ (n : ℕ). slice_index ends (n + i)) c.ciphers-inputs.ensures in
    placed_next script ends c.loop-i.places.items c.loop-i.taken.items c.push.new.self.items c.take_place.new.taken.items i c.loop-i.most c.index.result.now c.in_ok-place.place c.max-most.result c.count_taken.result
    c.in_ok-ends.ensures below c.loop-i.invariant c.in_ok-place.ensures end (search rules) (c.count_taken.ensures ∙ ap (taken_count i) c.deref-in-loop-i.ensures.value) (search rules)

pub overflow_add-count : goal.overflow_add-count
overflow_add-count c =
    let script = c.args.script.now in
    let sound = c.steps-i-end.ensures.sound in
    let counted = inputs_counted script.inputs in
    let few = most_live_within script in
    let ended : c.loop-i.i ≡ length script.steps = omega (arith, c.loop-i-test.false, c.steps-i-end.ensures.value, c.loop-i.auto.i-end) in
    let taken : c.count_taken-2.result ≡ taken_count c.loop-i.i c.loop-i.taken.items = search rules in
    let most = (placed_all script c.in_ok-ends.ends.items c.loop-i.places.items c.loop-i.taken.items c.loop-i.i c.loop-i.most c.max-count.result c.count_taken-2.result c.in_ok-ends.ensures ended c.loop-i.invariant taken (search rules)).1 in
    omega (arith, most, few, counted, sound.few_inputs, sound.few_steps)

pub returns : goal.returns
returns c =
    let script = c.args.script.now in
    let ended : c.loop-i.i ≡ length script.steps = omega (arith, c.loop-i-test.false, c.steps-i-end.ensures.value, c.loop-i.auto.i-end) in
    let taken : c.count_taken-2.result ≡ taken_count c.loop-i.i c.loop-i.taken.items = search rules in
    let all = placed_all script c.in_ok-ends.ends.items c.loop-i.places.items c.loop-i.taken.items c.loop-i.i c.loop-i.most c.max-count.result c.count_taken-2.result c.in_ok-ends.ensures ended c.loop-i.invariant taken (search rules) in
    record { plan = all.0; count = ap (λ (n : ℕ). n + 1) all.1 }
