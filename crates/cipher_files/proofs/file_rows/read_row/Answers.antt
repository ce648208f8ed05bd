use Rattle.std.proofs.Common.{◌≡◌, ◌∙◌, ◌<◌, ℕ, subst, sym, rules, arith, length, inr}
use Rattle.std.proofs.lemmas.Result.{err_from_is_err_and}
use Rattle.std.specs.Prelude.{slice_index}
use Rattle.outer_io.specs.Store.{contents}
use Rattle.ring_law.specs.Rows.{IsReduced}
use Rattle.cipher_files.specs.SecondReading.{HoldsRow, file_word}
use Rattle.cipher_files.proofs.FileRows.{file_word-place, row_short}
use Rattle.cipher_files.proofs.file_rows.read_row.Goals as goal

pub returns-in_err-read_words-clause-told : goal.returns-in_err-read_words-clause-told
returns-in_err-read_words-clause-told g c = λ files told.
    let p = err_from_is_err_and c.from_residual.result c.from_residual.ensures.1 in
    let read = c.in_err-read_words.ensures.told files told in
    rw (p.1, p.2) (record {
      ok = tt;
      missing = read.missing;
      fault = row_short files c.args.name.now g.row.N c.args.number c.args.modulus (length c.args.row.now) c.in_err-read_words.field-0.0 (omega arith) read.fault;
    })

pub returns-then-not-all_below-clause-told : goal.returns-then-not-all_below-clause-told
returns-then-not-all_below-clause-told g c = λ files told.
    let bytes = contents files c.args.name.now in
    let n = g.row.N in
    let read = (c.in_ok-read_words.ensures.told files told).ok in
    let row = c.read_words.new.out in
    record {
      ok = search rules;
      missing = search rules;
      fault = inr (
        read.0,
        λ (holds : HoldsRow n bytes c.args.number c.args.modulus).
            let below : IsReduced (length row) c.args.modulus row = λ k lt.
            subst (λ (w : ℕ). w < c.args.modulus) (sym (read.1.1 k (omega arith) ∙ file_word-place bytes c.args.number n k)) (holds.reduced k (omega arith)) in
            search (rules, below),
      );
    }

pub returns-clause-told : goal.returns-clause-told
returns-clause-told g c = λ files told.
    let bytes = contents files c.args.name.now in
    let n = g.row.N in
    let read = (c.in_ok-read_words.ensures.told files told).ok in
    let row = c.read_words.new.out in
    let words : (k : ℕ) → k < n → slice_index row k ≡ file_word n bytes c.args.number k = λ k below.
    read.1.1 k (omega arith) ∙ file_word-place bytes c.args.number n k in
    let reduced : IsReduced (length row) c.args.modulus row = search rules in
    let holds : HoldsRow n bytes c.args.number c.args.modulus = record {
      inside = let whole = read.1.0 in omega arith;
      reduced = λ k below. subst (λ (w : ℕ). w < c.args.modulus) (words k below) (reduced k (omega arith));
    } in
    record {
      ok = (read.0, (holds, words));
      missing = search rules;
      fault = search rules;
    }
