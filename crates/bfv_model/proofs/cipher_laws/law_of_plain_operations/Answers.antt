use Rattle.bfv_model.proofs.Noise.{mul_positive}
use Rattle.bfv_model.proofs.LinearOperations.{Holds-add_plain, Holds-sub_plain, Holds-mul_plain, Holds-mul_constant}
use Rattle.bfv_model.proofs.cipher_laws.law_of_plain_operations.Goals as goal

pub returns-clause-sum : goal.returns-clause-sum
returns-clause-sum c n q t bound a0 a1 a2 s m other pos_n pos_q pos_t holds = Holds-add_plain pos_n pos_t (mul_positive t q pos_t pos_q) holds other

pub returns-clause-difference : goal.returns-clause-difference
returns-clause-difference c n q t bound a0 a1 a2 s m other pos_n pos_q pos_t holds = Holds-sub_plain pos_n pos_t (mul_positive t q pos_t pos_q) holds other

pub returns-clause-product : goal.returns-clause-product
returns-clause-product c n q t bound half a0 a1 a2 p s m other pos_n pos_q pos_t holds within same = Holds-mul_plain pos_n pos_t (mul_positive t q pos_t pos_q) holds half p within same

pub returns-clause-multiple : goal.returns-clause-multiple
returns-clause-multiple c n q t bound a0 a1 a2 s factor m pos_n pos_q pos_t holds = Holds-mul_constant pos_n pos_t (mul_positive t q pos_t pos_q) holds factor
