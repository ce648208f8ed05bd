use Rattle.std.proofs.Common.{◌≡◌, ◌+◌, ◌*◌, ◌≤◌, length, take, All}
use Rattle.script_text.specs.Scripts.{registers}
use Rattle.noise_check.specs.Numbers.{numbers, AllCanonical}
use Rattle.noise_check.specs.RoundedBounds.{rounded_bound}
use Rattle.noise_check.proofs.checking.register_bounds.Given as goal

abbrev pub invariant-loop-i : goal.invariant-loop-i
invariant-loop-i l = record {
  count : length l.bounds.items ≡ length l.inputs + l.i;
  canonical : AllCanonical l.bounds.items;
  small : All (λ bound. bound.e ≤ 500000 + 66 * l.i) l.bounds.items;
  values : numbers l.bounds.items ≡ registers (rounded_bound l.script.set) (numbers l.inputs) (take l.i l.script.steps);
}
