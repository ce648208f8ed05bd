use Rattle.std.proofs.Common.{◌≡◌, ◌+◌, ◌*◌, ◌∙◌, ap, arith, length, ℕ}
use Rattle.std.specs.Prelude.{nat_lt, nat_le, not}
use Rattle.std.proofs.lemmas.Bool.Decides.{nat_tests}
use Rattle.file_model.specs.Bytes.{number_from}
use Rattle.file_model.specs.FileText.{word_modulus}
use Rattle.file_model.proofs.Bytes.{number_from-bytes_from}
use Rattle.file_scan.proofs.words.is_unreduced.Goals as goal

nat_le-not : (a b : ℕ) → nat_le a b ≡ not (nat_lt b a)
nat_le-not a b = grind (arith, nat_tests)

pub returns : goal.returns
returns c = λ bytes is.
    let j = c.args.j in
    let start = c.args.start in
    let place : 64 + 8 * start + 8 * j ≡ 64 + 8 * (start + j) = omega arith in
    let word : c.number_8.result ≡ number_from (64 + 8 * (start + j)) 8 bytes =
    c.number_8.ensures
    ∙ ap (number_from (8 * j) 8) is
    ∙ number_from-bytes_from (64 + 8 * start) 8 (length c.args.piece.now) (8 * j) bytes c.requires.inside
    ∙ ap (λ (x : ℕ). number_from x 8 bytes) place in
    nat_le-not c.word_modulus.result c.number_8.result
    ∙ ap (λ (q : ℕ). not (nat_lt c.number_8.result q)) c.word_modulus.ensures
    ∙ ap (λ (w : ℕ). not (nat_lt w (word_modulus c.args.head.now.kind c.args.head.now.set (start + j)))) word
