use Rattle.std.proofs.Common.{◌≡◌, ◌+◌, ◌*◌, ◌∙◌, ℕ, List, ap, subst, sym}
use Rattle.std.specs.List.{slice_range}
use Rattle.ring_law.specs.Rows.{Represents}
use Rattle.rns_poly.specs.Rows.{AreReduced}
use Rattle.bfv_params.specs.Moduli.{data_at}
use Rattle.bfv_params.specs.Values.{CipherValue}
use Rattle.bfv_params.proofs.Parts.{cipher_part_reduced, cipher_part_represents}
use Rattle.bfv_params.proofs.cipher.Cipher.part.Goals as goal

pub returns-clause-reduced : goal.returns-clause-reduced
returns-clause-reduced g c =
    let cipher : CipherValue = c.args.self.now in
    let own : ℕ = c.self.inside.level in
    let from : ℕ = c.args.j * own in
    let level : own ≡ cipher.level = ap (λ (x : CipherValue). x.level) c.self.view_is in
    let seen : c.rows_from_to.result.rows.now ≡ slice_range cipher.rows from (from + own) =
    c.rows_from_to.ensures ∙ ap (λ (rows : List (List ℕ)). slice_range rows from (from + own)) c.view.ensures.value in
    subst (AreReduced g.row.N (data_at cipher.set cipher.level)) (sym seen)
    (cipher_part_reduced g.row.N cipher c.view.ensures.kept c.args.j from (from + own) c.requires (ap (λ (l : ℕ). c.args.j * l) level) (ap (λ (l : ℕ). from + l) level))

pub returns-clause-represents : goal.returns-clause-represents
returns-clause-represents g c = λ x represents.
    let cipher : CipherValue = c.args.self.now in
    let own : ℕ = c.self.inside.level in
    let from : ℕ = c.args.j * own in
    let level : own ≡ cipher.level = ap (λ (x : CipherValue). x.level) c.self.view_is in
    let seen : c.rows_from_to.result.rows.now ≡ slice_range cipher.rows from (from + own) =
    c.rows_from_to.ensures ∙ ap (λ (rows : List (List ℕ)). slice_range rows from (from + own)) c.view.ensures.value in
    subst (λ rows. Represents g.row.N (data_at cipher.set cipher.level) rows x) (sym seen)
    (cipher_part_represents g.row.N cipher c.view.ensures.kept c.args.j from (from + own) c.requires (ap (λ (l : ℕ). c.args.j * l) level) (ap (λ (l : ℕ). from + l) level) x represents)
