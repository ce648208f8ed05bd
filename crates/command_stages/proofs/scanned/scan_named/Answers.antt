use Rattle.command_stages.proofs.Scanning.{taken_head}
use Rattle.command_stages.proofs.scanned.scan_named.Goals as goal

pub returns-in-Ok-clause-took : goal.returns-in-Ok-clause-took
returns-in-Ok-clause-took g c = record {
  keeps = c.in-Ok.ensures.keeps;
  ok = taken_head _ c.args.name.now c.args.word c.args.wanted c.in-Ok.head c.in-Ok.ensures.rules.0 c.in-Ok.ensures.rules.1 (λ files told. (c.in-Ok.ensures.told files told).ok);
  err = tt;
}
