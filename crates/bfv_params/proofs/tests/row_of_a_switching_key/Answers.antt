use Rattle.std.proofs.Common.{◌≡◌, ap, ◌∙◌, arith}
use Rattle.set_table.specs.declared.SetName.TheVariants.{Toy16}
use Rattle.bfv_params.specs.Values.{ContextValue, SwitchKeyValue}
use Rattle.bfv_params.proofs.tests.row_of_a_switching_key.Goals as goal

pub set_row-requires : goal.set_row-requires
set_row-requires g c =
    let set_is : c.in_ok-key.key.set ≡ Toy16 = ap (λ (k : SwitchKeyValue). k.set) c.in_ok-key.ensures ∙ ap (λ (x : ContextValue). x.set) c.in_ok-ctx.ensures in
    rw set_is (omega arith, (omega arith, (omega arith, λ k less. let word = c.constant_row-row.ensures k less in omega arith)))
