use Rattle.std.proofs.Common.{◌≡◌}
use Rattle.cipher_files.specs.Writing.{IsWriting, digits_put, head_of}
use Rattle.cipher_files.proofs.tests.writing.write_key.Given as goal

abbrev pub invariant-digits : goal.invariant-digits
invariant-digits g l = record {
  head : head_of l.writer ≡ l.head;
  put : digits_put l.writer ≡ l._i;
  writing : IsWriting l.writer (g.S.Store.state l.store);
}
