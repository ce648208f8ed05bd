use Rattle.std.proofs.Common.{◌≡◌, ◌≢◌, ◌∙◌, ◌+◌, ◌*◌, ◌%◌, ◌<◌, ℕ, [], ap, subst, sym, rules, arith, length, get_or, get_or-set_other, get_or-set_same, below_more, set, refl}
use Rattle.std.specs.Prelude.{slice_index}
use Rattle.set_table.specs.Sets.{data_of, key_of}
use Rattle.ring_law.specs.Rows.{IsReduced}
use Rattle.outer_io.specs.Store.{contents}
use Rattle.file_model.specs.Heads.{content_with}
use Rattle.cipher_files.specs.SecondReading.{HoldsRows}
use Rattle.cipher_files.proofs.FileRows.{file_of_head, reduced_set, file_rows, one_more_row, one_row, place_inside, row_in_turn, row_read, row_refused, rows_refused}
use Rattle.cipher_files.proofs.Tables.{digit_modulus, key_table}
use Rattle.cipher_files.proofs.reading.read_digit.Goals as goal

pub returns-in-Err-clause-held : goal.returns-in-Err-clause-held
returns-in-Err-clause-held g c = λ files told.
    let head = c.args.head.now in
    let set = head.set in
    let count = length (data_of set) + 1 in
    let table = key_table head.kind set c.requires.kind c.requires.rules.set in
    let number = c.args.i * (2 * (c.data_count-count.result + 1)) + c.rows.r in
    let place : number ≡ c.args.i * (2 * count) + c.rows.r = ap (λ (m : ℕ). c.args.i * (2 * (m + 1)) + c.rows.r) c.data_count-count.ensures in
    let modulus : c.row_modulus-modulus.result ≡ slice_index (key_of set) (c.rows.r % length (key_of set)) =
    digit_modulus head.kind set c.args.i c.rows.r number c.row_modulus-modulus.result table place c.row_modulus-modulus.ensures
    ∙ ap (λ (m : ℕ). slice_index (key_of set) (c.rows.r % m)) (sym table.count) in
    let bytes = contents files c.args.name.now in
    let refused = c.in-Err.ensures.told files (c.rows.invariant.keeps.files ∙ told) in
    record {
      ok = tt;
      missing = search rules;
      fault = rows_refused files c.args.name.now g.row.N number c.row_modulus-modulus.result c.in-Err.fault
          (HoldsRows g.row.N bytes (c.args.i * (2 * count)) (2 * count) (key_of set)) refused.fault
          (λ holds. one_row g.row.N (c.args.i * (2 * count)) (2 * count) c.rows.r number c.row_modulus-modulus.result bytes (key_of set) holds (omega arith) place modulus);
    }

pub returns-in-Err-clause-told : goal.returns-in-Err-clause-told
returns-in-Err-clause-told g c = λ files told content there is head_of.
    let head = c.args.head.now in
    let count = length (data_of head.set) + 1 in
    let table = key_table head.kind head.set c.requires.kind c.requires.rules.set in
    let rows = table.rows head.parts in
    let bytes = contents files c.args.name.now in
    let holds = file_rows bytes (content_with head content.words) g.row.N (file_of_head bytes head content is head_of) c.requires.degree in
    let number = c.args.i * (2 * (c.data_count-count.result + 1)) + c.rows.r in
    let place : number ≡ c.args.i * (2 * count) + c.rows.r = ap (λ (m : ℕ). c.args.i * (2 * (m + 1)) + c.rows.r) c.data_count-count.ensures in
    let inside : c.args.i * (2 * count) + c.rows.r < length (data_of head.set) * (2 * count) = place_inside (2 * count) (length (data_of head.set)) c.args.i c.rows.r c.requires.digit (omega arith) in
    let row = row_in_turn g.row.N _ number c.row_modulus-modulus.result bytes _ holds (omega arith) c.row_modulus-modulus.ensures in
    record { ok = tt; never = row_refused (c.in-Err.ensures.told files (c.rows.invariant.keeps.files ∙ told)) c.in-Err.ensures.only there row }

pub rows-preserved : goal.rows-preserved
rows-preserved g c =
    let head = c.args.head.now in
    let moduli = key_of head.set in
    let count = length (data_of head.set) + 1 in
    let n = g.row.N in
    let rows = c.rows.into in
    let r = c.rows.r in
    let row = c.read_row.new.row in
    let inside : r < length rows = omega arith in
    let counted = c.data_count-count.ensures in
    let number = c.args.i * (2 * (c.data_count-count.result + 1)) + r in
    let place : number ≡ c.args.i * (2 * count) + r = ap (λ (m : ℕ). c.args.i * (2 * (m + 1)) + r) counted in
    let modulus = digit_modulus head.kind head.set c.args.i r number c.row_modulus-modulus.result
    (key_table head.kind head.set c.requires.kind c.requires.rules.set) place c.row_modulus-modulus.ensures in
    let table = key_table head.kind head.set c.requires.kind c.requires.rules.set in
    let turn = modulus ∙ ap (λ (m : ℕ). slice_index moduli (r % m)) (sym table.count) in
    record {
      keeps = search rules;
      reduced = below_more (λ j. IsReduced n (slice_index moduli (j % count)) (get_or (set rows r row) j [])) r
          (λ j lt. let other : j ≢ r = omega arith in subst (IsReduced n (slice_index moduli (j % count))) (sym (get_or-set_other rows r j row [] other)) (c.rows.invariant.reduced j lt))
          (subst (IsReduced n (slice_index moduli (r % count))) (sym (get_or-set_same rows r row [] inside)) (subst (λ (q : ℕ). IsReduced n q row) modulus c.in-Ok.ensures.reduced));
      told = λ files told.
          let read = (c.in-Ok.ensures.told files (c.rows.invariant.keeps.files ∙ told)).ok in
          one_more_row files c.args.name.now n (c.args.i * (2 * count)) r number c.row_modulus-modulus.result moduli rows row inside
          (c.rows.invariant.told files told) place turn read.0 read.1.0 read.1.1;
      kept = λ reduced i below.
          reduced_set n count moduli rows row r inside (subst (λ (q : ℕ). IsReduced n q row) modulus c.in-Ok.ensures.reduced) (c.rows.invariant.kept reduced) i below;
    }

pub returns-clause-told : goal.returns-clause-told
returns-clause-told g c = λ files told content there is head_of. record {
  ok = λ j r k part row inner.
      let head = c.args.head.now in
      let count = length (data_of head.set) + 1 in
      let i = c.args.i in
      let rows = (key_table head.kind head.set c.requires.kind c.requires.rules.set).rows head.parts in
      let below : j * count + r < 2 * count = place_inside count 2 j r part row in
      let number = i * (2 * count) + (j * count + r) in
      let inside : number < length (data_of head.set) * (2 * count) = place_inside (2 * count) (length (data_of head.set)) i (j * count + r) c.requires.digit below in
      let place : number ≡ (i * 2 + j) * count + r = omega arith in
      row_read files c.args.name.now (content_with head content.words) g.row.N (i * (2 * count)) c.rows.r (j * count + r) number k _ c.rows.into
      (c.rows.invariant.told files told) (file_of_head (contents files c.args.name.now) head content is head_of) c.requires.degree (omega arith) refl (omega arith) inner
      ∙ ap (λ (w : ℕ). slice_index content.words (w * g.row.N + k)) place;
  never = tt;
}

pub returns-clause-held : goal.returns-clause-held
returns-clause-held g c = λ files told.
    let so_far = c.rows.invariant.told files told in
    record {
      ok = (so_far.there (omega arith), (λ r below. so_far.held r (omega arith), λ r k row inner. so_far.words r k (omega arith) inner));
      missing = search rules;
      fault = search rules;
    }
