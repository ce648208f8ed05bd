use Rattle.ring_law.specs.Residues.{residue}
use Rattle.ring_law.proofs.Congruence.{Congruent-sym}
use Rattle.ring_law.proofs.Residues.{Congruent-residue}
use Rattle.bfv_model.specs.Holds.{phase}
use Rattle.bfv_model.proofs.Ciphers.{CipherHolds-one_modulus}
use Rattle.bfv_model.proofs.Rounding.{decryption_by_rounding}
use Rattle.bfv_model.proofs.decryption_laws.law_of_rounding.Goals as goal

pub returns-clause-rounded : goal.returns-clause-rounded
returns-clause-rounded c n q t x0 x1 x2 s m bound positive room holds k below =
    decryption_by_rounding n q t x0 x1 x2 s m bound positive holds room (λ k. residue q (phase n x0 x1 x2 s k)) k below
    (Congruent-sym q (Congruent-residue q (phase n x0 x1 x2 s k) positive))

pub returns-clause-one_modulus : goal.returns-clause-one_modulus
returns-clause-one_modulus c n q t word s m bound positive plain_positive holds = CipherHolds-one_modulus positive plain_positive holds
