use Rattle.rns_poly.proofs.TransformedRows.{IsInverse, ReplacedTo}
use Rattle.rns_poly.proofs.all_rows.inverse_all.Given as goal

abbrev pub invariant-loop-i : goal.invariant-loop-i
invariant-loop-i g l = ReplacedTo g.row.N (IsInverse g.row.N) l.transforms l.initial.rows l.rows l.i
