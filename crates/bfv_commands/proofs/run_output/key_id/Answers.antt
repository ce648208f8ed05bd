use Rattle.std.proofs.Common.{map, subst}
use Rattle.std.specs.Prelude.{IsSome}
use Rattle.std.specs.String.{string_bytes}
use Rattle.bfv_commands.proofs.RunOutputs.{some_cipher_bound}
use Rattle.bfv_commands.proofs.run_output.key_id.Goals as goal

pub unreachable-requires : goal.unreachable-requires
unreachable-requires c =
    let found = some_cipher_bound c.args.script.now (map string_bytes c.args.words.now) c.args.operands.now c.set-set.ensures.sound c.requires.matched in
    let some = c.first_key_id.ensures.some found.0 found.1.0 found.1.1 in
    let never = subst (λ o. IsSome o) c.in-None.is some in
    absurd (cc)

pub returns : goal.returns
returns c = c.in-Some.ensures.told
