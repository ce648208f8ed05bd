use Rattle.ring_law.proofs.Moduli.{PairwiseInvertible-from_coprime, product_positive}
use Rattle.bfv_model.proofs.KeySwitching.{switched_phase}
use Rattle.bfv_model.proofs.key_laws.law_of_key_switching.Goals as goal

pub returns : goal.returns
returns c = λ n P error moduli part source s key0 key1 pos_n pos_P coprime big ternary key.
    switched_phase n P error moduli pos_n pos_P (product_positive moduli big) (PairwiseInvertible-from_coprime moduli coprime) big part source s key0 key1 ternary key
