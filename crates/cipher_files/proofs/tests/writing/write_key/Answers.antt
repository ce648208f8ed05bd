use Rattle.std.proofs.Common.{◌∙◌, ◌+◌, ap, ℕ}
use Rattle.cipher_files.proofs.tests.writing.write_key.Goals as goal

pub digits-init : goal.digits-init
digits-init g c =
    let begun = c.in_ok-writer.ensures in
    record { head = begun.head; put = begun.none_put; writing = begun.writing }

pub digits-preserved : goal.digits-preserved
digits-preserved g c =
    let so_far = c.digits.invariant in
    let digit = c.in_ok-put_digit.ensures in
    record {
      head = digit.head ∙ so_far.head;
      put = digit.one_more ∙ ap (λ (n : ℕ). n + 1) so_far.put;
      writing = digit.writing;
    }
