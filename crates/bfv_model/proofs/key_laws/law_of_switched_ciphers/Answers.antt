use Rattle.std.proofs.lemmas.Nat.{pow_pos}
use Rattle.bfv_model.proofs.Noise.{mul_positive}
use Rattle.bfv_model.proofs.SwitchedCiphers.{Holds-relinearised, Holds-turned_odd, Holds-moved}
use Rattle.bfv_model.proofs.key_laws.law_of_switched_ciphers.Goals as goal

pub returns-clause-relinearised : goal.returns-clause-relinearised
returns-clause-relinearised c n q t bound more c0 c1 c2 y0 y1 s m pos_q pos_t holds stands = Holds-relinearised more y0 y1 pos_q (mul_positive t q pos_t pos_q) holds stands

pub returns-clause-turned : goal.returns-clause-turned
returns-clause-turned c log h q t bound c0 c1 s m pos_q pos_t holds = Holds-turned_odd log h (pow_pos log) pos_t (mul_positive t q pos_t pos_q) holds

pub returns-clause-back : goal.returns-clause-back
returns-clause-back c n q t bound more c0 c1 source y0 y1 s m pos_q pos_t holds stands = Holds-moved more y0 y1 pos_q (mul_positive t q pos_t pos_q) holds stands
