use Rattle.bfv_model.proofs.Noise.{mul_positive}
use Rattle.bfv_model.proofs.LinearOperations.{Holds-add, Holds-sub, Holds-neg}
use Rattle.bfv_model.proofs.cipher_laws.law_of_sums.Goals as goal

pub returns-clause-sum : goal.returns-clause-sum
returns-clause-sum c n q t bound more a0 a1 a2 b0 b1 b2 s m other pos_n pos_q pos_t first second = Holds-add pos_n pos_t (mul_positive t q pos_t pos_q) first second

pub returns-clause-difference : goal.returns-clause-difference
returns-clause-difference c n q t bound more a0 a1 a2 b0 b1 b2 s m other pos_n pos_q pos_t first second = Holds-sub pos_n pos_t (mul_positive t q pos_t pos_q) first second

pub returns-clause-negative : goal.returns-clause-negative
returns-clause-negative c n q t bound a0 a1 a2 s m pos_n pos_q pos_t holds = Holds-neg pos_n pos_t (mul_positive t q pos_t pos_q) holds
