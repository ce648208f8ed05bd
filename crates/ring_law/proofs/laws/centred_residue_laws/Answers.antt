use Rattle.ring_law.proofs.Residues.{Congruent-centred_residue, centred_residue_least, centred_residue_tie}
use Rattle.ring_law.proofs.laws.centred_residue_laws.Goals as goal

pub returns-clause-congruent : goal.returns-clause-congruent
returns-clause-congruent c = Congruent-centred_residue

pub returns-clause-least : goal.returns-clause-least
returns-clause-least c = centred_residue_least

pub returns-clause-positive : goal.returns-clause-positive
returns-clause-positive c = centred_residue_tie
