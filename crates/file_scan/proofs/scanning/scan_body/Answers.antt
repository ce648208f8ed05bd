use Rattle.std.proofs.Common.{◌≡◌, ◌+◌, ◌*◌, ◌∙◌, sym, subst, rules, arith, length, take, inr}
use Rattle.std.specs.Prelude.{true, false, Some, None}
use Rattle.outer_io.specs.Store.{contents}
use Rattle.sha2.specs.Hashers.{Holds256}
use Rattle.file_model.proofs.Bytes.{take-bytes_from}
use Rattle.file_model.specs.Scan.{digest_fits}
use Rattle.file_scan.proofs.ScanFaults.{some_below}
use Rattle.std.proofs.lemmas.Result.{err_from_is_err_and}
use Rattle.file_scan.proofs.Bodies.{body_length, body_digest, body_words}
use Rattle.file_scan.proofs.scanning.scan_body.Goals as goal

pub returns-then-size-want-clause-told : goal.returns-then-size-want-clause-told
returns-then-size-want-clause-told g c = λ files told.
    let bytes = contents files c.args.name.now in
    record {
      ok = search rules;
      missing = search rules;
      fault = inr (c.requires.there files told, body_length c.args.head.now bytes c.args.size (c.requires.stated files told) (c.requires.told_size files told) (search rules));
    }

pub has_digest-requires-clause-hashed : goal.has_digest-requires-clause-hashed
has_digest-requires-clause-hashed g c = λ files told.
    let bytes = contents files c.args.name.now in
    let before = c.in_ok-unreduced.ensures.keeps.files in
    let words = (c.in_ok-unreduced.ensures.told files (search rules)).ok in
    subst (Holds256 c.scan_words.new.hasher) (sym (take-bytes_from 64 (8 * c.args.head.now.words) bytes))
    (words.1.1 (take 64 bytes) (c.requires.hashed files (search rules)))

pub returns-then-not-branch-clause-told : goal.returns-then-not-branch-clause-told
returns-then-not-branch-clause-told g c = λ files told.
    let bytes = contents files c.args.name.now in
    let head = c.args.head.now in
    let size = c.requires.told_size files told in
    let same : c.args.size ≡ 96 + 8 * head.words = search rules in
    let long : length bytes ≡ 96 + 8 * head.words = omega arith in
    let digest = (c.in_ok-has_digest.ensures.told files (search rules)).ok in
    let other : digest_fits head.words bytes ≡ false = sym digest.1 ∙ c.if-not-branch.true in
    record {
      ok = search rules;
      missing = search rules;
      fault = inr (c.requires.there files told, body_digest head bytes (c.requires.stated files told) long other);
    }

pub returns-in-Some-clause-told : goal.returns-in-Some-clause-told
returns-in-Some-clause-told g c = λ files told.
    let bytes = contents files c.args.name.now in
    let head = c.args.head.now in
    let size = c.requires.told_size files told in
    let same : c.args.size ≡ 96 + 8 * head.words = search rules in
    let long : length bytes ≡ 96 + 8 * head.words = omega arith in
    let words = (c.in_ok-unreduced.ensures.told files (search rules)).ok in
    let digest = (c.in_ok-has_digest.ensures.told files (search rules)).ok in
    let fits : digest_fits head.words bytes ≡ true = sym digest.1 ∙ c.if-not-branch.false in
    record {
      ok = search rules;
      missing = search rules;
      fault = inr (c.requires.there files told, body_words head bytes (Some c.in-Some.word) (c.requires.stated files told) long fits (sym c.in-Some.is ∙ words.1.0));
    }

pub returns-in-None-clause-told : goal.returns-in-None-clause-told
returns-in-None-clause-told g c = λ files told.
    let bytes = contents files c.args.name.now in
    let head = c.args.head.now in
    let size = c.requires.told_size files told in
    let same : c.args.size ≡ 96 + 8 * head.words = search rules in
    let long : length bytes ≡ 96 + 8 * head.words = omega arith in
    let words = (c.in_ok-unreduced.ensures.told files (search rules)).ok in
    let digest = (c.in_ok-has_digest.ensures.told files (search rules)).ok in
    let fits : digest_fits head.words bytes ≡ true = sym digest.1 ∙ c.if-not-branch.false in
    record {
      ok = (c.requires.there files told, body_words head bytes None (c.requires.stated files told) long fits (sym c.in-None.is ∙ words.1.0));
      missing = search rules;
      fault = search rules;
    }

pub returns-in-Some-clause-kept : goal.returns-in-Some-clause-kept
returns-in-Some-clause-kept g c = λ wanted is. record {
  head = c.args.head.now;
  rules = c.requires.rules;
  wanted_is = is;
  below = some_below c.in_ok-unreduced.unreduced c.in-Some.word c.args.head.now.words c.in-Some.is c.in_ok-unreduced.ensures.below;
}

pub returns-in_err-unreduced-clause-kept : goal.returns-in_err-unreduced-clause-kept
returns-in_err-unreduced-clause-kept g c =
    let p = err_from_is_err_and c.from_residual.result c.from_residual.ensures.1 in
    rw (p.1, p.2) (λ wanted is. c.in_err-unreduced.ensures.kept wanted)

pub returns-in_err-has_digest-clause-kept : goal.returns-in_err-has_digest-clause-kept
returns-in_err-has_digest-clause-kept g c =
    let p = err_from_is_err_and c.from_residual-in_err-has_digest.result c.from_residual-in_err-has_digest.ensures.1 in
    rw (p.1, p.2) (λ wanted is. c.in_err-has_digest.ensures.kept wanted)
