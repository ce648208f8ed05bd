use Rattle.std.proofs.Common.{◌∙◌, ap}
use Rattle.rand_core.specs.Stream.{Stream}
use Rattle.set_table.specs.Sets.{data_of}
use Rattle.ring_law.specs.Rows.{listed_polynomial}
use Rattle.bfv_model.specs.Drawn.{drawn_public, stream_word}
use Rattle.command_stages.proofs.SeedFiles.{generator_stream}
use Rattle.key_commands.proofs.public.key_of.Goals as goal

pub returns-clause-words : goal.returns-clause-words
returns-clause-words g c = λ part i k in_part row place.
    c.public-2.ensures.words part i k in_part row place
    ∙ ap (λ (stream : Stream). drawn_public g.row.N (data_of c.args.ctx.now.set) (listed_polynomial c.args.secret.now.small) (stream_word stream) part i k)
    (generator_stream c.args.seed.now c.from_seed-rng.result c.told-seed c.from_seed-rng.ensures)
