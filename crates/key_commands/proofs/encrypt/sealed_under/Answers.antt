use Rattle.std.proofs.Common.{rules, ◌≡◌, List, ℕ, length, sym, subst}
use Rattle.set_table.specs.Sets.{plain_of, data_of}
use Rattle.ring_law.specs.Rows.{IsReduced, row_polynomial}
use Rattle.bfv_model.specs.Holds.{listed_word}
use Rattle.bfv_model.specs.Slots.{slots_of}
use Rattle.key_commands.proofs.Sealing.{sealing_of, values_reduced}
use Rattle.command_stages.proofs.SeedFiles.{generator_stream}
use Rattle.key_commands.proofs.encrypt.sealed_under.Goals as goal

pub encode-requires : goal.encode-requires
encode-requires g c =
    let same : c.in-Some.listed.now ≡ c.args.values.now = c.in-Some.ensures.cases.same in
    let reduced = values_reduced c.args.ctx.now.set g.row.N c.args.values.now c.in-Some.listed.now c.scratch_rows.ensures.degree c.requires.values same in
    search rules

pub returns-clause-sealing : goal.returns-clause-sealing
returns-clause-sealing g c =
    let set = c.args.ctx.now.set in
    let count = length (data_of set) in
    let same : c.in-Some.listed.now ≡ c.args.values.now = c.in-Some.ensures.cases.same in
    let plain : c.encode.new.row ≡ c.deref.result.now = sym c.deref.ensures in
    sealing_of set g.row.N (listed_word count c.args.public.now.rows) (listed_word count c.encrypt.new.out.rows) c.args.values.now c.in-Some.listed.now
    c.deref.result.now c.args.seed.now _ c.scratch_rows.ensures.degree
    (generator_stream c.args.seed.now c.from_seed-rng.result c.told-seed c.from_seed-rng.ensures)
    same (subst (λ (row : List ℕ). slots_of set (row_polynomial row) ≡ c.in-Some.listed.now) plain c.encode.ensures.slots)
    (subst (IsReduced g.row.N (plain_of set)) plain c.encode.ensures.reduced) c.encrypt.ensures.words
