use Rattle.std.proofs.Common.{[], get_or, arith}
use Rattle.std.proofs.lemmas.Option.{slice_get_within}
use Rattle.ring_law.specs.Rows.{RowRepresents}
use Rattle.rns_poly.proofs.TransformedRows.{IsInverse, ReplacedTo-next, ReplacedTo-reduced, ReplacedTo-set, of_modulus}
use Rattle.rns_poly.proofs.all_rows.inverse_all.Goals as goal

pub inverse-requires : goal.inverse-requires
inverse-requires g c =
    let reduced = ReplacedTo-next g.row.N (IsInverse g.row.N) c.args.transforms.now c.args.rows.now c.loop-i.rows c.loop-i.i c.index-transforms-i.result
    (omega arith) c.index-transforms-i.is c.requires.rows_reduced c.loop-i.invariant in
    (omega arith, (omega arith, reduced))

pub loop-i-preserved : goal.loop-i-preserved
loop-i-preserved g c =
    ReplacedTo-set g.row.N (IsInverse g.row.N) c.args.transforms.now c.args.rows.now c.loop-i.rows c.loop-i.i c.index-transforms-i.result c.inverse.new.row
    (omega arith) c.index-transforms-i.is c.loop-i.invariant c.inverse.ensures.unique c.inverse.ensures.reduced

pub returns-clause-reduced : goal.returns-clause-reduced
returns-clause-reduced g c =
    ReplacedTo-reduced g.row.N (IsInverse g.row.N) c.args.transforms.now c.args.rows.now c.loop-i.rows c.loop-i.i (omega arith) c.loop-i.invariant

pub returns-clause-represents : goal.returns-clause-represents
returns-clause-represents g c = λ x transforms i k l.
    of_modulus (λ j q. RowRepresents g.row.N q (get_or c.loop-i.rows j []) (x j)) c.args.transforms.now
    (λ j t e. let within = slice_get_within c.args.transforms.now j t e in c.loop-i.invariant.done j (omega arith) t e (x j) (transforms j t e)) i l k
