use Rattle.std.proofs.Common.{◌≡◌, ℕ, ◌*◌, ◌<◌, ◌≤◌, [], get_or}
use Rattle.bfv_params.specs.Ciphers.{IsCipherOf}
use Rattle.bfv_tensor.specs.Rows.{AreSmallParts, IsScaledPart}
use Rattle.bfv_tensor.proofs.scaling.write_parts.Given as goal

abbrev pub invariant-loop-j : goal.invariant-loop-j
invariant-loop-j g l = record {
  of : IsCipherOf l.ctx l.out;
  room : l.out.room ≡ l.initial.out.room;
  parts : l.out.parts ≡ 3;
  rest : (i : ℕ) → l.j * l.count ≤ i → get_or l.rows i [] ≡ get_or l.initial.rows i [];
  done : (d : AreSmallParts g.row.N l.ctx l.initial.rows) (p : ℕ) → p < l.j → IsScaledPart g.row.N l.ctx l.out p (d.part p);
}
