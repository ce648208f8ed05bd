use Rattle.std.proofs.Common.{◌≡◌, ◌^◌, Some, sym, ap, ◌∙◌, subst}
use Rattle.set_table.specs.declared.SetName.{SetName}
use Rattle.set_table.specs.Sets.{degree_of}
use Rattle.set_table.specs.Roots.{root_of}
use Rattle.bfv_params.specs.Transforms.{transform_of}
use Rattle.bfv_params.proofs.Tables.{transform_is}
use Rattle.bfv_params.proofs.transforms.listed_transform.Goals as goal

pub returns-in-Ok : goal.returns-in-Ok
returns-in-Ok g c =
    let t = c.in-Ok.transform in
    let modulus : t.modulus ≡ c.args.modulus.now = c.in-Ok.ensures.modulus in
    let root : root_of c.args.set t.modulus ≡ Some t.root =
    ap (root_of c.args.set) (modulus ∙ sym c.value.ensures.value) ∙ ap (λ (s : SetName). root_of s c.value.result) (sym c.table.ensures.value)
    ∙ sym c.root.ensures.value ∙ c.unwrap-root.ensures ∙ ap Some (sym c.in-Ok.ensures.root) in
    let degree : degree_of c.args.set ≡ 2 ^ t.log_degree = sym c.requires.degree ∙ c.in-Ok.ensures.power in
    subst (λ q. t ≡ transform_of c.args.set q) modulus (transform_is c.args.set t root degree)
