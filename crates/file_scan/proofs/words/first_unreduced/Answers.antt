use Rattle.std.proofs.Common.{◌≡◌, ◌∙◌, ◌<◌, sym, ap, arith, ℕ}
use Rattle.std.specs.Prelude.{find}
use Rattle.std.specs.List.{range_with_len}
use Rattle.file_model.specs.Scan as scan
use Rattle.file_model.proofs.Ranges.{find-range_more, find-range_here}
use Rattle.file_scan.proofs.words.first_unreduced.Goals as goal

pub returns-then-is_unreduced-clause-first : goal.returns-then-is_unreduced-clause-first
returns-then-is_unreduced-clause-first c = λ bytes count whole is.
    let inside : c.words.j < count = omega arith in
    sym (find-range_here (scan.is_unreduced c.args.head.now.kind c.args.head.now.set bytes) c.args.start c.words.j count inside (c.words.invariant bytes is) (sym (c.is_unreduced.ensures bytes is) ∙ c.if-is_unreduced.true))

pub words-preserved : goal.words-preserved
words-preserved c = λ bytes is.
    find-range_more (scan.is_unreduced c.args.head.now.kind c.args.head.now.set bytes) c.args.start c.words.j (c.words.invariant bytes is) (sym (c.is_unreduced.ensures bytes is) ∙ c.if-is_unreduced.false)

pub returns-clause-first : goal.returns-clause-first
returns-clause-first c = λ bytes count whole is.
    let all : c.words.j ≡ count = omega arith in
    sym (ap (λ (n : ℕ). find (scan.is_unreduced c.args.head.now.kind c.args.head.now.set bytes) (range_with_len c.args.start n)) (sym all) ∙ c.words.invariant bytes is)
