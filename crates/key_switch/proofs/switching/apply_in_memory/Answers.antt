use Rattle.std.proofs.Common.{refl}
use Rattle.key_switch.specs.Memory.{digits_of}
use Rattle.key_switch.proofs.switching.apply_in_memory.Goals as goal

pub returns-clause-words : goal.returns-clause-words
returns-clause-words g c = λ P key polynomial special transforms represents.
    c.apply.ensures.words (digits_of c.args.keys.now.set c.args.keys.now.keys) P key polynomial refl special transforms represents
