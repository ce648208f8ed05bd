use Rattle.std.proofs.Common.{[], get_or, arith}
use Rattle.std.proofs.lemmas.Option.{slice_get_within}
use Rattle.ring_law.specs.Rows.{RowRepresents}
use Rattle.rns_poly.proofs.TransformedRows.{IsForward, ReplacedTo-next, ReplacedTo-reduced, ReplacedTo-set, of_transform}
use Rattle.rns_poly.proofs.all_rows.forward_all.Goals as goal

pub forward-requires : goal.forward-requires
forward-requires g c =
    let reduced = ReplacedTo-next g.row.N (IsForward g.row.N) c.args.transforms.now c.args.rows.now c.loop-i.rows c.loop-i.i c.index-transforms-i.result
    (omega arith) c.index-transforms-i.is c.requires.rows_reduced c.loop-i.invariant in
    (omega arith, (omega arith, reduced))

pub loop-i-preserved : goal.loop-i-preserved
loop-i-preserved g c =
    ReplacedTo-set g.row.N (IsForward g.row.N) c.args.transforms.now c.args.rows.now c.loop-i.rows c.loop-i.i c.index-transforms-i.result c.forward.new.row
    (omega arith) c.index-transforms-i.is c.loop-i.invariant c.forward.ensures.transform c.forward.ensures.reduced

pub returns-clause-reduced : goal.returns-clause-reduced
returns-clause-reduced g c =
    ReplacedTo-reduced g.row.N (IsForward g.row.N) c.args.transforms.now c.args.rows.now c.loop-i.rows c.loop-i.i (omega arith) c.loop-i.invariant

pub returns-clause-transforms : goal.returns-clause-transforms
returns-clause-transforms g c = λ x represents i t e.
    let within = slice_get_within c.args.transforms.now i t e in
    c.loop-i.invariant.done i (omega arith) t e (x i)
    (of_transform (λ j q. RowRepresents g.row.N q (get_or c.args.rows.now j []) (x j)) c.args.transforms.now (λ j l k. represents j k l) i t e)
