use Rattle.std.proofs.Common.{rules, arith, refl}
use Rattle.script_run.proofs.Counting.{taken_again, taken_anew}
use Rattle.script_run.proofs.planning.take_place.Goals as goal

pub returns-in_ok-push : goal.returns-in_ok-push
returns-in_ok-push c =
    taken_anew c.args.taken.now.items _ c.args.i c.args.end c.free_place-place.result (search rules) (search rules) (search rules) (search rules)
