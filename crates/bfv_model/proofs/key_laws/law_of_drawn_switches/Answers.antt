use Rattle.std.proofs.Common.{◌++◌, ◌∷◌, []}
use Rattle.ring_law.proofs.Moduli.{PairwiseInvertible-from_coprime}
use Rattle.bfv_model.proofs.KeyRows.{drawn_switch-WordsAreSwitchKeyOf}
use Rattle.bfv_model.proofs.SetKeys.{drawn_switch-IsSwitchKeyIn}
use Rattle.bfv_model.proofs.key_laws.law_of_drawn_switches.Goals as goal

pub returns-clause-words : goal.returns-clause-words
returns-clause-words c log P moduli roots source s words coprime big root =
    drawn_switch-WordsAreSwitchKeyOf log P moduli roots source s words (PairwiseInvertible-from_coprime (moduli ++ P ∷ []) coprime) big root

pub returns-clause-in_set : goal.returns-clause-in_set
returns-clause-in_set c = drawn_switch-IsSwitchKeyIn
