use Rattle.std.proofs.Common.{◌≡◌, subst}
use Rattle.command_model.specs.Reading.{seed_file}
use Rattle.command_stages.specs.Stages.{Took}
use Rattle.command_stages.proofs.SeedFiles.{took_seed}
use Rattle.command_stages.proofs.seed.read_seed.Goals as goal

pub returns-in-Ok : goal.returns-in-Ok
returns-in-Ok g c =
    let state = g.S.Store.state in
    subst (λ name. Took name c.args.word seed_file (λ said seed. seed ≡ said) (state c.args.store.now) (state c.fill_front.new.store) c.whole_seed.result) c.name_of.ensures
    (took_seed c.name_of.result.now c.args.word c.in-Ok.have (state c.args.store.now) (state c.fill_front.new.store) c.fill_front.new.buffer c.whole_seed.result c.fill_front.auto.buffer c.in-Ok.ensures.count c.in-Ok.ensures.keeps
    (λ files told. (c.in-Ok.ensures.told files told).ok) c.whole_seed.ensures.ok c.whole_seed.ensures.err)
