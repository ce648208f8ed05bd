use Rattle.std.proofs.Common.{◌≡◌, ◌<◌, ◌%◌, ◌-◌, ◌∙◌, ℕ, ℤ, pos, ap, sym, of_z, to_z, w8, arith}
use Rattle.std.specs.Prelude.{true, nat_abs}
use Rattle.std.proofs.lemmas.Int.{to_z-of_z}
use lib.Signed.{lt_z}
use Rattle.rns_poly.proofs.Words.{residue_of_negative}
use Rattle.rns_poly.proofs.one_row.small_residue.Goals as goal

pub returns-then-small-lt0-clause-value : goal.returns-then-small-lt0-clause-value
returns-then-small-lt0-clause-value c =
    let q : ℕ = c.args.m.now in
    let same : to_z w8 (of_z w8 c.args.small) ≡ c.args.small = to_z-of_z w8 c.args.small (record { sfits = c.ranges.small.sfits }) in
    let size : c.from.result ≡ nat_abs c.args.small = c.from.ensures ∙ (c.unsigned_abs.ensures.value ∙ ap nat_abs same) in
    let below : lt_z c.args.small (pos 0) ≡ true = ap (λ (x : ℤ). lt_z x (pos 0)) (sym same) ∙ c.if-small-lt0.true in
    let positive : 0 < q = let less = c.reduce-size.ensures.below in omega arith in
    c.neg.ensures.value
    ∙ ap (λ (a : ℕ). (q - a) % q) (c.reduce-size.ensures.value ∙ ap (λ (a : ℕ). a % q) size)
    ∙ residue_of_negative q c.args.small positive below
