-- What a transform keeps beside its parameters.
use Rattle.std.specs.Prelude.{ℕ, ◌≡◌, ◌*◌, ◌%◌, List}
use Rattle.word_mod.specs.Moduli.{shoup_of}
use Rattle.word_mod.specs.declared.Factor.{Factor}
use Rattle.neg_ntt.specs.Parameters.{AreParameters, Parameters, inverse_root, layer_root}
use Rattle.neg_ntt.specs.Roots.{ArePowersReversed}

-- the powers of the root, the inverse of n, and that times the root of the last layer back
pub record AreTables (n : ℕ) (t : Parameters) (roots : List Factor) (inverse_degree scaled_root : Factor) : Type 0 where
  pub parameters : AreParameters n t
  pub root_powers : ArePowersReversed t.modulus t.log_degree t.root n roots
  pub inverse_degree_is : inverse_degree.w * n % t.modulus ≡ 1
  pub inverse_degree_shoup : inverse_degree.shoup ≡ shoup_of t.modulus inverse_degree.w
  pub scaled_root_is : scaled_root.w ≡ inverse_degree.w * layer_root (inverse_root n t) t 0 0 % t.modulus
  pub scaled_root_shoup : scaled_root.shoup ≡ shoup_of t.modulus scaled_root.w
