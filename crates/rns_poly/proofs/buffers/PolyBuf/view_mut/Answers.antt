use Rattle.std.proofs.Common.{rules, ◌∙◌, ℕ, ◌++◌, take, drop, length, ap, sym, refl}
use Rattle.std.proofs.Math.Seq.{take-append_seam}
use Rattle.rns_poly.proofs.buffers.PolyBuf.view_mut.Goals as goal

pub returns : goal.returns
returns g c = (
  (refl, λ w. search rules),
  record {
    writes_back = tt;
    value = search rules;
    same_length = λ w same.
        ap (λ (count : ℕ). take count (w ++ drop (length w) c.args.self.now)) (sym same) ∙ take-append_seam w (drop (length w) c.args.self.now);
  },
)
