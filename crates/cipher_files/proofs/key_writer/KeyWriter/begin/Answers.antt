use Rattle.std.proofs.Common.{◌∙◌, sym, subst, ℕ, List, arith}
use Rattle.cipher_files.specs.Contents.{IsFront}
use Rattle.cipher_files.proofs.Contents.{digit_words-none, front_of_head}
use Rattle.cipher_files.proofs.key_writer.KeyWriter.begin.Goals as goal

pub returns-clause-written : goal.returns-clause-written
returns-clause-written g c = λ word.
    let head = c.args.head.now in
    let begun = c.in_ok-hasher.ensures in
    let after = g.S.Store.state c.begin_file.new.store in
    record {
      name_is = begun.pending;
      bytes = λ files told.
          subst (λ (w : List ℕ). IsFront head w after.written) (sym (digit_words-none head.set word))
          (front_of_head head after.written (begun.written files (sym begun.files ∙ told)));
      reduced = λ i j r k digit part row place. absurd (omega arith);
    }
