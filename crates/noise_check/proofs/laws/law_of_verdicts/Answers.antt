use Rattle.noise_check.proofs.VerdictLaws.{accepted_values, accepted_canonical, accepted_within, accepted_quiet, too_noisy_canonical, too_noisy_above, too_noisy_exactly, limit_canonical, limit_value}
use Rattle.noise_check.proofs.laws.law_of_verdicts.Goals as goal

pub returns-clause-accepted_values : goal.returns-clause-accepted_values
returns-clause-accepted_values c = accepted_values

pub returns-clause-accepted_canonical : goal.returns-clause-accepted_canonical
returns-clause-accepted_canonical c = accepted_canonical

pub returns-clause-accepted_within : goal.returns-clause-accepted_within
returns-clause-accepted_within c = accepted_within

pub returns-clause-accepted_quiet : goal.returns-clause-accepted_quiet
returns-clause-accepted_quiet c = accepted_quiet

pub returns-clause-too_noisy_canonical : goal.returns-clause-too_noisy_canonical
returns-clause-too_noisy_canonical c = too_noisy_canonical

pub returns-clause-too_noisy_above : goal.returns-clause-too_noisy_above
returns-clause-too_noisy_above c = too_noisy_above

pub returns-clause-too_noisy_exactly : goal.returns-clause-too_noisy_exactly
returns-clause-too_noisy_exactly c = too_noisy_exactly

pub returns-clause-limit_canonical : goal.returns-clause-limit_canonical
returns-clause-limit_canonical c = limit_canonical

pub returns-clause-limit_value : goal.returns-clause-limit_value
returns-clause-limit_value c = limit_value
