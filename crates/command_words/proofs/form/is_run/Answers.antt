use Rattle.std.proofs.Common.{rules}
use Rattle.command_words.proofs.Words.{run_words}
use Rattle.command_words.proofs.form.is_run.Goals as goal

pub returns-then-bindings-le997 : goal.returns-then-bindings-le997
returns-then-bindings-le997 c =
    rw (run_words c.args.words.now c.command-item.result c.in-len3-up.len_at_least c.command-item.is) (search rules)
