use Rattle.std.proofs.Common.{◌≡◌, ◌⊎◌, ◌∙◌, ◌*◌, ◌<◌, ◌≤◌, sym, ap, ap₂, subst, ℕ, List, length, take, arith}
use Rattle.std.proofs.lemmas.List.{take_all}
use Rattle.std.specs.Prelude.{OnOk, slice_range}
use Rattle.outer_io.specs.Store.{with_file}
use Rattle.set_table.specs.declared.SetName.{SetName}
use Rattle.set_table.specs.Sets.{data_of, degree_of}
use Rattle.file_model.specs.declared.file_kind.FileKind.{FileKind}
use Rattle.file_model.specs.FileText.{file_text, row_count, row_moduli}
use Rattle.bfv_model.proofs.Sets.{degree_pos}
use Rattle.bfv_params.specs.Kept.{IsCipher}
use Rattle.bfv_params.specs.Rows.{ReducedInTurn}
use Rattle.cipher_files.specs.Contents.{part_words}
use Rattle.file_model.specs.Heads.{content_with}
use Rattle.cipher_files.proofs.Contents.{at_most_three, length-front, part_words-front, parts_keep_rules}
use Rattle.cipher_files.proofs.writing.write_cipher.Goals as goal

-- the rows of the parts are there
cipher_within : (parts count level size : ℕ) → (parts ≡ 2) ⊎ (parts ≡ 3) → level ≡ count → size ≡ 3 * level → parts * count ≤ size
cipher_within parts count level size is same has = let most = at_most_three parts count is in omega arith

pub returns-clause-ok : goal.returns-clause-ok
returns-clause-ok g c =
    let head = c.args.head.now in
    let rows = c.args.cipher.now.rows in
    let count = length (data_of head.set) in
    let end = head.parts * count in
    let kept = subst (λ (set : SetName). IsCipher g.row.N set c.args.cipher.now.room c.args.cipher.now.level c.args.cipher.now.parts rows) c.requires.set c.view.ensures.kept in
    let some : 0 < g.row.N = subst (λ (d : ℕ). 0 < d) (sym kept.degree) (degree_pos head.set) in
    let ends : c.parts.result * c.data_count.result ≡ end = ap₂ (λ (x y : ℕ). x * y) (c.parts.ensures.value ∙ c.requires.parts) c.data_count.ensures in
    let front : c.rows_from_to.result.rows.now ≡ slice_range rows 0 end =
    c.rows_from_to.ensures ∙ ap₂ (λ (l : List (List ℕ)) (n : ℕ). slice_range l 0 n) c.view.ensures.value ends in
    let size : length c.rows_from_to.result.rows.now ≡ end =
    ap length front ∙ length-front rows end (cipher_within head.parts count c.args.cipher.now.level (length rows) (subst (λ (p : ℕ). (p ≡ 2) ⊎ (p ≡ 3)) c.requires.parts kept.count) c.requires.level kept.size) in
    subst (λ (words : List ℕ). OnOk c.write_rows.result ((g.S.Store.state c.write_rows.new.store).files
    ≡ with_file (g.S.Store.state c.args.store.now).files c.args.name.now (file_text (content_with head words))))
    (ap (part_words g.row.N head.set head.parts) front ∙ part_words-front g.row.N head.set head.parts rows some)
    (c.write_rows.ensures.ok count head.parts size)

pub returns-clause-rules : goal.returns-clause-rules
returns-clause-rules g c =
    let head = c.args.head.now in
    let cipher = c.args.cipher.now in
    let count = length (data_of head.set) in
    let kept = subst (λ (set : SetName). IsCipher g.row.N set cipher.room cipher.level cipher.parts cipher.rows) c.requires.set c.view.ensures.kept in
    let total : head.words ≡ head.parts * count * degree_of head.set =
    c.requires.rules.count ∙ ap (λ (k : FileKind). row_count k head.set head.parts * degree_of head.set) c.requires.kind in
    let reduced : ReducedInTurn g.row.N count (data_of head.set) cipher.rows =
    subst (λ (moduli : List ℕ). ReducedInTurn g.row.N count moduli cipher.rows) (take_all count (data_of head.set) (omega arith))
    (subst (λ (level : ℕ). ReducedInTurn g.row.N level (take level (data_of head.set)) cipher.rows) c.requires.level kept.reduced) in
    parts_keep_rules head g.row.N head.parts cipher.rows c.requires.rules kept.degree
    (ap (λ (k : FileKind). row_moduli k head.set) c.requires.kind)
    (ap (λ (d : ℕ). head.parts * count * d) kept.degree ∙ sym total)
    (cipher_within head.parts count cipher.level (length cipher.rows) (subst (λ (p : ℕ). (p ≡ 2) ⊎ (p ≡ 3)) c.requires.parts kept.count) c.requires.level kept.size) reduced
