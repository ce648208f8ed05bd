use Rattle.std.proofs.Common.{ℕ, ◌+◌, ◌*◌, ◌^◌, ◌<◌, arith}
use Rattle.ring_law.specs.Residues.{HasInverse}
use Rattle.ring_law.proofs.Inverses.{HasInverse-odd, HasInverse-swap}
use Rattle.ring_law.proofs.TransformEntries.{transform_entry-ring_product, transform_determines, polynomial_of_entries, transform_entry-polynomial_of_entries}
use Rattle.ring_law.proofs.laws.transform_laws.Goals as goal

positive : (h : ℕ) → 0 < 2 * h + 1
positive h = omega arith

unit : (h k : ℕ) → HasInverse (2 * h + 1) (2 ^ k)
unit h k = HasInverse-swap (2 ^ k) (2 * h + 1) (HasInverse-odd h k)

pub returns-clause-of_product : goal.returns-clause-of_product
returns-clause-of_product c = transform_entry-ring_product

pub returns-clause-determines : goal.returns-clause-determines
returns-clause-determines c = λ h k x minus_one a b same. transform_determines (2 * h + 1) k x (positive h) minus_one (unit h k) a b same

pub returns-clause-any : goal.returns-clause-any
returns-clause-any c = λ h k x minus_one word reduced. (
  polynomial_of_entries (2 * h + 1) k x (positive h) minus_one (unit h k) word,
  λ j l. transform_entry-polynomial_of_entries (2 * h + 1) k x (positive h) minus_one (unit h k) word j l (reduced j l),
)
