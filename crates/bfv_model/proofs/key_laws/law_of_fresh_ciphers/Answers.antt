use Rattle.ring_law.proofs.Moduli.{PairwiseInvertible-from_coprime}
use Rattle.bfv_model.proofs.DrawnKeys.{drawn_cipher-CipherHolds, drawn_cipher-CipherHolds_under}
use Rattle.bfv_model.proofs.KeyRows.{drawn_public-WordsArePublicKeyOf}
use Rattle.bfv_model.proofs.key_laws.law_of_fresh_ciphers.Goals as goal
use Rattle.std.proofs.Common.{lit<}

pub returns-clause-key : goal.returns-clause-key
returns-clause-key c n moduli s words coprime big = drawn_public-WordsArePublicKeyOf n moduli s words (PairwiseInvertible-from_coprime moduli coprime) big

pub returns-clause-cipher : goal.returns-clause-cipher
returns-clause-cipher c n t key_error size moduli p s m words pos_n pos_t coprime big key =
    drawn_cipher-CipherHolds_under n t key_error size moduli p (key.part 0) (key.part 1) s m words pos_n pos_t (PairwiseInvertible-from_coprime moduli coprime) big (key.represents 0 (lit< tt)) (key.represents 1 (lit< tt)) key.relation

pub returns-clause-ternary : goal.returns-clause-ternary
returns-clause-ternary c n t moduli p s m words pos_n pos_t coprime big key =
    drawn_cipher-CipherHolds n t moduli p (key.part 0) (key.part 1) s m words pos_n pos_t (PairwiseInvertible-from_coprime moduli coprime) big (key.represents 0 (lit< tt)) (key.represents 1 (lit< tt)) key.relation
