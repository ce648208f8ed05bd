use Rattle.std.proofs.Common.{◌≡◌, ◌∙◌, ◌+◌, ◌*◌, ◌<◌, ap, sym, rules, arith, length, length-set, set, zero-add}
use Rattle.std.proofs.lemmas.Result.{err_from_is_err_and}
use Rattle.set_table.specs.declared.SetName.{SetName}
use Rattle.set_table.specs.Sets.{data_of}
use Rattle.outer_io.specs.Store.{contents}
use Rattle.bfv_params.specs.Values.{PublicValue}
use Rattle.file_model.specs.FileText.{row_moduli}
use Rattle.bfv_model.proofs.Sets.{data_count_pos}
use Rattle.file_model.specs.Heads.{content_with}
use Rattle.cipher_files.specs.SecondReading.{HoldsRowsOf}
use Rattle.cipher_files.proofs.FileRows.{file_of_head, first_rows, file_rows, one_more_row, place_inside, row_in_turn, row_read, row_refused, rows_refused}
use Rattle.cipher_files.proofs.Tables.{public_rows}
use Rattle.cipher_files.proofs.reading.read_public.Goals as goal

pub returns-in_err-read_row-clause-held : goal.returns-in_err-read_row-clause-held
returns-in_err-read_row-clause-held g c =
    let p = err_from_is_err_and c.from_residual.result c.from_residual.ensures.1 in
    rw (p.1, p.2) (λ files told.
    let head = c.args.head.now in
    let kind = public_rows head.kind head.set head.parts c.requires.kind in
    let rows = kind.0 in
    let size = ap length c.view.ensures.value ∙ c.view.ensures.kept.size ∙ ap (λ (set : SetName). 2 * length (data_of set)) c.requires.set in
    let bytes = contents files c.args.name.now in
    let refused = c.in_err-read_row.ensures.told files (c.rows.invariant.keeps.files ∙ told) in
    record {
      ok = tt;
      missing = refused.missing;
      fault = rows_refused files c.args.name.now g.row.N c.rows.i c.row_modulus.result c.in_err-read_row.field-0.0 (HoldsRowsOf g.row.N head bytes) refused.fault
          (λ holds. row_in_turn g.row.N _ c.rows.i c.row_modulus.result bytes _ holds (omega arith) c.row_modulus.ensures);
    })

pub returns-in_err-read_row-clause-told : goal.returns-in_err-read_row-clause-told
returns-in_err-read_row-clause-told g c =
    let p = err_from_is_err_and c.from_residual.result c.from_residual.ensures.1 in
    rw (p.1, p.2) (λ files told content there is head_of.
    let head = c.args.head.now in
    let kind = public_rows head.kind head.set head.parts c.requires.kind in
    let rows = kind.0 in
    let size = ap length c.view.ensures.value ∙ c.view.ensures.kept.size ∙ ap (λ (set : SetName). 2 * length (data_of set)) c.requires.set in
    let bytes = contents files c.args.name.now in
    let holds = file_rows bytes (content_with head content.words) g.row.N (file_of_head bytes head content is head_of) c.requires.degree in
    let row = row_in_turn g.row.N _ c.rows.i c.row_modulus.result bytes _ holds (omega arith) c.row_modulus.ensures in
    record { ok = tt; never = row_refused (c.in_err-read_row.ensures.told files (c.rows.invariant.keeps.files ∙ told)) c.in_err-read_row.ensures.only there row })

pub rows-preserved : goal.rows-preserved
rows-preserved g c =
    let rows = c.rows.into.rows in
    let row = c.read_row.new.row in
    let written : c.set_row.new.self.rows ≡ set rows c.rows.i row = ap (λ (v : PublicValue). v.rows) c.set_row.ensures in
    let size = ap length c.view.ensures.value ∙ c.view.ensures.kept.size ∙ ap (λ (set : SetName). 2 * length (data_of set)) c.requires.set in
    let inside : c.rows.i < length rows = omega arith in
    record {
      keeps = search rules;
      set = ap (λ (v : PublicValue). v.set) c.set_row.ensures ∙ c.rows.invariant.set;
      size = ap length written ∙ length-set rows c.rows.i row ∙ c.rows.invariant.size;
      told = λ files told.
          let read = (c.in_ok-read_row.ensures.told files (c.rows.invariant.keeps.files ∙ told)).ok in
          rw written (one_more_row files c.args.name.now g.row.N 0 c.rows.i c.rows.i c.row_modulus.result (row_moduli c.args.head.now.kind c.args.head.now.set) rows row inside
          (c.rows.invariant.told files told) (sym (zero-add c.rows.i)) c.row_modulus.ensures read.0 read.1.0 read.1.1);
    }

pub returns-clause-told : goal.returns-clause-told
returns-clause-told g c = λ files told content there is head_of. record {
  ok = λ j i k part row inner.
      let head = c.args.head.now in
      let count = length (data_of head.set) in
      let kind = public_rows head.kind head.set head.parts c.requires.kind in
      let rows = kind.0 in
      let size = ap length c.view.ensures.value ∙ c.view.ensures.kept.size ∙ ap (λ (set : SetName). 2 * length (data_of set)) c.requires.set in
      let so_far = c.rows.invariant.told files told in
      let below : j * count + i < 2 * count = place_inside count 2 j i part row in
      row_read files c.args.name.now (content_with head content.words) g.row.N 0 c.rows.i (j * count + i) (j * count + i) k _ c.rows.into.rows
      so_far (file_of_head (contents files c.args.name.now) head content is head_of) c.requires.degree (omega arith) (sym (zero-add (j * count + i))) (omega arith) inner;
  never = tt;
}

pub returns-clause-held : goal.returns-clause-held
returns-clause-held g c = λ files told.
    let head = c.args.head.now in
    let count = length (data_of head.set) in
    let kind = public_rows head.kind head.set head.parts c.requires.kind in
    let size = ap length c.view.ensures.value ∙ c.view.ensures.kept.size ∙ ap (λ (set : SetName). 2 * length (data_of set)) c.requires.set in
    let so_far = c.rows.invariant.told files told in
    let some = data_count_pos head.set in
    let all : c.rows.i ≡ 2 * count = omega arith in
    record {
      ok = (so_far.there (omega arith), (λ i below. so_far.held i (omega (arith, kind.0)), λ r k row inner. so_far.words r k (omega arith) inner ∙ first_rows g.row.N (contents files c.args.name.now) r k));
      missing = search rules;
      fault = search rules;
    }
