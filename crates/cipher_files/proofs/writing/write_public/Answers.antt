use Rattle.std.proofs.Common.{◌≡◌, ◌∙◌, ◌*◌, sym, ap, subst, ℕ, List, length, arith}
use Rattle.std.specs.Prelude.{OnOk}
use Rattle.outer_io.specs.Store.{with_file}
use Rattle.set_table.specs.declared.SetName.{SetName}
use Rattle.set_table.specs.Sets.{data_of, degree_of}
use Rattle.file_model.specs.declared.file_kind.FileKind.{FileKind}
use Rattle.file_model.specs.FileText.{file_text, row_count, row_moduli}
use Rattle.bfv_params.specs.Kept.{IsPublic}
use Rattle.cipher_files.specs.Contents.{part_words}
use Rattle.file_model.specs.Heads.{content_with}
use Rattle.cipher_files.proofs.Contents.{parts_keep_rules}
use Rattle.cipher_files.proofs.writing.write_public.Goals as goal

pub returns-clause-ok : goal.returns-clause-ok
returns-clause-ok g c =
    let head = c.args.head.now in
    let rows = c.args.public.now.rows in
    let kept = subst (λ (set : SetName). IsPublic g.row.N set rows) c.requires.set c.view.ensures.kept in
    let count : length c.view.result.rows.now ≡ 2 * length (data_of head.set) = ap length c.view.ensures.value ∙ kept.size in
    subst (λ (l : List (List ℕ)). OnOk c.write_rows.result ((g.S.Store.state c.write_rows.new.store).files
    ≡ with_file (g.S.Store.state c.args.store.now).files c.args.name.now (file_text (content_with head (part_words g.row.N head.set 2 l)))))
    c.view.ensures.value (c.write_rows.ensures.ok (length (data_of head.set)) 2 count)

pub returns-clause-rules : goal.returns-clause-rules
returns-clause-rules g c =
    let head = c.args.head.now in
    let rows = c.args.public.now.rows in
    let kept = subst (λ (set : SetName). IsPublic g.row.N set rows) c.requires.set c.view.ensures.kept in
    let total : head.words ≡ 2 * length (data_of head.set) * degree_of head.set =
    c.requires.rules.count ∙ ap (λ (k : FileKind). row_count k head.set head.parts * degree_of head.set) c.requires.kind in
    parts_keep_rules head g.row.N 2 rows c.requires.rules kept.degree
    (ap (λ (k : FileKind). row_moduli k head.set) c.requires.kind)
    (ap (λ (d : ℕ). 2 * length (data_of head.set) * d) kept.degree ∙ sym total) (omega (arith, kept.size)) kept.reduced
