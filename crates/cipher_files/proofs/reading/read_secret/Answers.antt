use Rattle.std.proofs.Common.{◌≡◌, ◌∙◌, ◌+◌, ◌*◌, ◌%◌, ℕ, List, ap, length, sym, rules, arith}
use Rattle.std.specs.Prelude.{slice_index}
use Rattle.std.proofs.lemmas.Result.{err_from_is_err_and}
use Rattle.outer_io.specs.Store.{contents}
use Rattle.ring_law.specs.Rows.{listed_polynomial}
use Rattle.bfv_params.specs.Values.{SecretValue}
use Rattle.bfv_model.specs.Holds.{ternary_coefficient}
use Rattle.file_model.specs.FileText.{row_count, row_moduli}
use Rattle.file_model.specs.Heads.{content_with}
use Rattle.cipher_files.specs.SecondReading.{HoldsRowsOf}
use Rattle.cipher_files.proofs.FileRows.{file_of_head, file_rows, one_row_held, row_in_turn, row_refused, row_word, rows_refused}
use Rattle.cipher_files.proofs.Tables.{secret_rows}
use Rattle.cipher_files.proofs.reading.read_secret.Goals as goal

pub returns-in_err-read_row-clause-told : goal.returns-in_err-read_row-clause-told
returns-in_err-read_row-clause-told g c =
    let p = err_from_is_err_and c.from_residual.result c.from_residual.ensures.1 in
    rw (p.1, p.2) (λ files told content there is head_of.
    let head = c.args.head.now in
    let kind = secret_rows head.kind head.set head.parts c.requires.kind in
    let rows = kind.0 in
    let bytes = contents files c.args.name.now in
    let holds = file_rows bytes (content_with head content.words) g.row.N (file_of_head bytes head content is head_of) c.requires.degree in
    let row = row_in_turn g.row.N _ 0 3 bytes _ holds (omega arith) (ap (λ (ms : List ℕ). slice_index ms (0 % length ms)) (sym kind.1)) in
    record { ok = tt; never = row_refused (c.in_err-read_row.ensures.told files told) c.in_err-read_row.ensures.only there row })

pub returns-clause-told : goal.returns-clause-told
returns-clause-told g c = λ files told content there is head_of. record {
  ok = λ k inner.
      let head = c.args.head.now in
      let kind = secret_rows head.kind head.set head.parts c.requires.kind in
      let rows = kind.0 in
      let bytes = contents files c.args.name.now in
      let read = (c.in_ok-read_row.ensures.told files told).ok in
      let place : 0 * g.row.N + k ≡ k = omega arith in
      ap (λ (s : SecretValue). listed_polynomial s.small k) c.set.ensures ∙ c.ternary_coefficients.ensures.value k inner
      ∙ ap ternary_coefficient (read.1.1 k inner ∙ row_word bytes (content_with head content.words) g.row.N 0 k (file_of_head bytes head content is head_of) c.requires.degree (omega arith) inner
      ∙ ap (λ (w : ℕ). slice_index content.words w) place);
  never = tt;
}

pub returns-in_err-read_row-clause-held : goal.returns-in_err-read_row-clause-held
returns-in_err-read_row-clause-held g c =
    let p = err_from_is_err_and c.from_residual.result c.from_residual.ensures.1 in
    rw (p.1, p.2) (λ files told.
    let head = c.args.head.now in
    let kind = secret_rows head.kind head.set head.parts c.requires.kind in
    let rows = kind.0 in
    let bytes = contents files c.args.name.now in
    let refused = c.in_err-read_row.ensures.told files told in
    record {
      ok = tt;
      missing = refused.missing;
      fault = rows_refused files c.args.name.now g.row.N 0 3 c.in_err-read_row.field-0.0 (HoldsRowsOf g.row.N head bytes) refused.fault
          (λ holds. row_in_turn g.row.N _ 0 3 bytes _ holds (omega arith) (ap (λ (ms : List ℕ). slice_index ms (0 % length ms)) (sym kind.1)));
    })

pub returns-clause-held : goal.returns-clause-held
returns-clause-held g c = λ files told.
    let head = c.args.head.now in
    let n = g.row.N in
    let kind = secret_rows head.kind head.set head.parts c.requires.kind in
    let bytes = contents files c.args.name.now in
    let read = (c.in_ok-read_row.ensures.told files told).ok in
    record {
      ok = (
        read.0,
        (
          one_row_held n bytes 3 (row_count head.kind head.set head.parts) (row_moduli head.kind head.set) read.1.0 kind.0 kind.1,
          λ k inner. ap (λ (s : SecretValue). listed_polynomial s.small k) c.set.ensures ∙ c.ternary_coefficients.ensures.value k inner
              ∙ ap ternary_coefficient (read.1.1 k inner),
        ),
      );
      missing = search rules;
      fault = search rules;
    }
