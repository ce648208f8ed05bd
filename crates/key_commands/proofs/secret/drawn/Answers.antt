use Rattle.std.proofs.Common.{ap, ◌∙◌}
use Rattle.file_model.specs.Heads.{content_with}
use Rattle.file_model.specs.declared.head.Head.{Head}
use Rattle.cipher_files.specs.Contents.{secret_words}
use Rattle.key_commands.proofs.DrawnContents.{secret_content}
use Rattle.command_stages.proofs.SeedFiles.{generator_stream}
use Rattle.key_commands.proofs.secret.drawn.Goals as goal

pub returns-clause-content : goal.returns-clause-content
returns-clause-content g c =
    ap (λ (head : Head). content_with head (secret_words g.row.N c.secret-id.new.out.small)) c.of_secret.ensures.is
    ∙ secret_content c.args.set g.row.N c.secret-id.result c.secret-id.new.out.small c.args.seed.now _ c.requires
    (generator_stream c.args.seed.now c.from_seed.result c.told-seed c.from_seed.ensures) c.secret-id.ensures.id c.secret-id.ensures.coefficients
