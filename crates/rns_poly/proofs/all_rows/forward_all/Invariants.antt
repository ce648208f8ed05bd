use Rattle.rns_poly.proofs.TransformedRows.{IsForward, ReplacedTo}
use Rattle.rns_poly.proofs.all_rows.forward_all.Given as goal

abbrev pub invariant-loop-i : goal.invariant-loop-i
invariant-loop-i g l = ReplacedTo g.row.N (IsForward g.row.N) l.transforms l.initial.rows l.rows l.i
