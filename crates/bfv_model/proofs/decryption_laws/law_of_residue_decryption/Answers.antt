use Rattle.bfv_model.proofs.Noise.{mul_positive}
use Rattle.bfv_model.proofs.Decryption.{decryption_over_residues}
use Rattle.bfv_model.proofs.decryption_laws.law_of_residue_decryption.Goals as goal

pub returns : goal.returns
returns c = λ n q t bound gamma L x0 x1 x2 s m k x converted y_t y_gamma v pos_q pos_t holds small large below.
    decryption_over_residues gamma L k x converted y_t y_gamma v pos_q (mul_positive t q pos_t pos_q) holds small large below
