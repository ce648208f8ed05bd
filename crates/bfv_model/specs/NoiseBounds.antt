-- Exact bounds on the noise that operations leave: n is the degree, t the plaintext modulus, L the number of data moduli.
use Rattle.std.specs.Prelude.{ℕ, ◌+◌, ◌*◌, ◌/◌, List, sum}

-- of a fresh cipher, where no error is greater than `error`, that of the key neither, and the secret is ternary
abbrev pub fresh_bound : ℕ → ℕ → ℕ → ℕ
fresh_bound n t error = t * ((2 * n + 1) * error + 1)

-- the same under a public key whose error is at most `key_error` and a secret with coefficients of size at most `size`
abbrev pub fresh_bound_under : ℕ → ℕ → ℕ → ℕ → ℕ → ℕ
fresh_bound_under n t error key_error size = t * (n * key_error + error + n * error * size + 1)

-- of a product of ciphers with these bounds
abbrev pub product_bound : ℕ → ℕ → ℕ → ℕ → ℕ → ℕ
product_bound n t L bound other = n * t * (n / 2 + 3) * (bound + other) + t * L * (1 + n + n * n)

-- of what switching a key adds to the phase, P being the special modulus
abbrev pub switch_bound : ℕ → ℕ → ℕ → List ℕ → ℕ
switch_bound n error P moduli = n * error * sum moduli / P + 1 + n
