use Rattle.std.proofs.Common.{◌≡◌, ◌∙◌, ◌*◌, ◌<◌, arith, lit<, sym, ap, subst, ℕ, List, map}
use Rattle.std.specs.Prelude.{OnOk}
use Rattle.outer_io.specs.Store.{with_file}
use Rattle.set_table.specs.Sets.{degree_of}
use Rattle.ring_law.specs.Residues.{residue}
use Rattle.file_model.specs.FileText.{file_text}
use Rattle.bfv_model.proofs.Sets.{degree_lt}
use Rattle.cipher_files.specs.Contents.{secret_words}
use Rattle.file_model.specs.Heads.{content_with}
use Rattle.cipher_files.proofs.Contents.{secret_keeps_rules, secret_polynomial-words, secret_words-residues}
use Rattle.cipher_files.proofs.writing.write_secret.Goals as goal

pub small-requires : goal.small-requires
small-requires g c =
    let below = degree_lt c.args.head.now.set in
    let same = c.requires.degree in
    let size : g.row.N * 1 < 9223372036854775808 = omega arith in
    (lit< tt, size)

pub returns-clause-ok : goal.returns-clause-ok
returns-clause-ok g c =
    let small = c.args.secret.now.small in
    let words : map (residue 3) c.small.result.now ≡ secret_words g.row.N small =
    ap (map (residue 3)) c.small.ensures.value ∙ sym (secret_words-residues g.row.N small c.small.ensures.kept.size) in
    subst (λ (w : List ℕ). OnOk c.write_residues.result ((g.S.Store.state c.write_residues.new.store).files
    ≡ with_file (g.S.Store.state c.args.store.now).files c.args.name.now (file_text (content_with c.args.head.now w)))) words c.write_residues.ensures.ok

pub returns-clause-rules : goal.returns-clause-rules
returns-clause-rules g c =
    secret_keeps_rules c.args.head.now g.row.N c.args.secret.now.small c.requires.rules c.requires.kind
    (c.small.ensures.kept.degree ∙ ap degree_of c.requires.set)

pub returns-clause-meaning : goal.returns-clause-meaning
returns-clause-meaning g c = secret_polynomial-words g.row.N c.args.secret.now.small c.small.ensures.kept.ternary
