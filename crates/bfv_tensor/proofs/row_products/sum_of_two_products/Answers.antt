use Rattle.std.proofs.Common.{◌*◌, ◌^◌, ◌≤◌, ℕ, arith, mul-le-mul}
use Rattle.bfv_tensor.proofs.row_products.sum_of_two_products.Goals as goal

pub overflow_add-a : goal.overflow_add-a
overflow_add-a c =
    let below = c.requires.modulus.below in
    let bound : ℕ = 2 ^ 61 in
    let a : c.args.a ≤ bound = omega arith in
    let b : c.args.b ≤ bound = omega arith in
    let d : c.args.c ≤ bound = omega arith in
    let e : c.args.d ≤ bound = omega arith in
    let first : c.args.a * c.args.b ≤ bound * bound = mul-le-mul a b in
    let second : c.args.c * c.args.d ≤ bound * bound = mul-le-mul d e in
    record { fits = omega arith }
