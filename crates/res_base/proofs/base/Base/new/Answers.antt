use Rattle.std.proofs.Common.{◌≡◌, sym, subst}
use Rattle.res_base.specs.Bases.{IsBase}
use Rattle.res_base.proofs.base.Base.new.Goals as goal

pub invariant_of-result : goal.invariant_of-result
invariant_of-result c =
    let copied : c.in-Ok.moduli.items ≡ c.args.moduli.now = c.in-Ok.ensures.items_if_clones_equal (λ x y e. e) in
    let base : IsBase c.args.moduli.now = record {
      not_empty = c.requires.not_empty;
      few = c.requires.few;
      each = c.in_default.ensures.each;
      coprime = c.in_default.ensures.coprime;
    } in
    subst IsBase (sym copied) base
