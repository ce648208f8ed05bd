use Rattle.std.proofs.Common.{◌≡◌, ℕ, ◌+◌, ◌*◌, ◌%◌, ◌<◌, length}
use Rattle.std.specs.List.{SameBelow}
use Rattle.neg_ntt.specs.Roots.{factor_at, factor_of}
use Rattle.neg_ntt.proofs.roots.append_products.Given as goal

abbrev pub invariant-loop-i : goal.invariant-loop-i
invariant-loop-i l = record {
  len : length l.factors.items ≡ length l.fn.factors.items + l.i;
  kept : SameBelow l.fn.factors.items l.factors.items (length l.fn.factors.items);
  products : (j : ℕ) → j < l.i → factor_at l.factors.items (length l.fn.factors.items + j) ≡ factor_of l.m ((factor_at l.fn.factors.items j).w * l.fn.other % l.m);
}
