use Rattle.std.proofs.Common.{◌≡◌, ◌++◌, ◌∷◌, decimal, take}
use Rattle.std.specs.List.{flat_map}
use Rattle.script_text.proofs.values.push_numbers.Given as goal

abbrev pub invariant-others : goal.invariant-others
invariant-others l = l.text.items ≡ l.initial.text.items ++ flat_map (λ v. 32 ∷ decimal v) (take l.value-index l.others)
