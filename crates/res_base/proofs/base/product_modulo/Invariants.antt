use Rattle.std.proofs.Common.{◌≡◌, ◌%◌, ◌<◌, take}
use Rattle.ring_law.specs.Moduli.{product}
use Rattle.res_base.proofs.base.product_modulo.Given as goal

abbrev pub invariant-loop-q : goal.invariant-loop-q
invariant-loop-q l = record {
  value : l.so_far ≡ product (take l.q-index l.moduli) % l.m;
  below : l.so_far < l.m;
}
