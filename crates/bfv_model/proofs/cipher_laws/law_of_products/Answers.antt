use Rattle.bfv_model.proofs.Multiplication.{Holds-product}
use Rattle.bfv_model.proofs.cipher_laws.law_of_products.Goals as goal

pub returns : goal.returns
returns c = λ n q t M L bound more a0 a1 b0 b1 c0 c1 c2 s m other pos_n pos_q pos_t pos_M room small small_other ternary first second p.
    Holds-product pos_n pos_q pos_t pos_M room small small_other ternary first second p.a0_lifts p.a1_lifts p.b0_lifts p.b1_lifts p.scaled_0 p.scaled_1 p.scaled_2 p.part_0 p.part_1 p.part_2
