-- The roots of the moduli under which rows are transformed. For a set of degree n the root of p is a number whose n-th power is -1
-- modulo p: of x^((p - 1) / (2n)) modulo p, for x = 2, 3, 4 and so on, the first with that power.
use Rattle.std.specs.Prelude.{ℕ, List, [], ◌∷◌, ◌++◌, Option, nat_eq}
use Rattle.std.specs.Map.{lookup}
use Rattle.set_table.specs.declared.SetName.{SetName}
use Rattle.set_table.specs.declared.SetName.TheVariants.{One16, Toy16, S4096, S8192, S16384}
use Rattle.set_table.specs.Sets.{plain_of}

-- the root of the plaintext modulus
abbrev pub plain_root_of : SetName → ℕ
plain_root_of One16 = 136
plain_root_of Toy16 = 136
plain_root_of S4096 = 6561
plain_root_of S8192 = 81
plain_root_of S16384 = 9

-- the ciphertext and auxiliary moduli of a set, each with its root
abbrev pub cipher_roots_of : SetName → List (ℕ × ℕ)
cipher_roots_of One16 =
    (0x7fffffffe90001, 0x18d38cd151ea0c) ∷ (0x7fffffffbf0001, 0x6b952fe8bfe4d) ∷ (0x7ffffffef00001, 0x2902564ad6ce25) ∷ []
cipher_roots_of Toy16 =
    (0x7fffffd8001, 0x27f5751698c) ∷ (0x7fffffc8001, 0x4dd4b8c7bae) ∷ (0xfffffebc001, 0xde7589a195d)
    ∷ (0x7fffffffbf0001, 0x6b952fe8bfe4d) ∷ (0x7ffffffef00001, 0x2902564ad6ce25) ∷ []
cipher_roots_of S4096 =
    (0xffffee001, 0x14aa05dac) ∷ (0xffffc4001, 0x98ced3375) ∷ (0x1ffffe0001, 0xe4c43dbc9)
    ∷ (0x7fffffffbf0001, 0x1db5540f9212fe) ∷ (0x7ffffffef00001, 0x691e2881214e96) ∷ []
cipher_roots_of S8192 =
    (0x7fffffd8001, 0x44dc5f9ed7f) ∷ (0x7fffffc8001, 0x37c875f69e1) ∷ (0xfffffffc001, 0xc154e8b017b)
    ∷ (0xffffff6c001, 0x47f225ad4f7) ∷ (0xfffffebc001, 0xd76fb93868a) ∷ (0x7fffffffbf0001, 0x716beb078b3eb9)
    ∷ (0x7fffffffbd0001, 0x79c074ad307d6a) ∷ (0x7fffffffba0001, 0x14b71e8197469) ∷ (0x7ffffffef00001, 0x6f977d23690b6) ∷ []
cipher_roots_of S16384 =
    (0xfffffffd8001, 0x2cd9a2195246) ∷ (0xfffffffa0001, 0xb53ba2d6a9f8) ∷ (0xfffffff00001, 0x7232b23d32da)
    ∷ (0x1fffffff68001, 0x204a2b25151f) ∷ (0x1fffffff50001, 0x1ab70bea2a381) ∷ (0x1ffffffee8001, 0xae4ad9c2ccf3)
    ∷ (0x1ffffffea0001, 0xced8f0d93cb8) ∷ (0x1ffffffe88001, 0x19144e8a09ea) ∷ (0x1ffffffe48001, 0x103adcf27ae5c)
    ∷ (0x7fffffffbf0001, 0x543d4551b3758b) ∷ (0x7fffffffbd0001, 0x10363023c32356) ∷ (0x7fffffffba0001, 0x168fb3cc02c9e6)
    ∷ (0x7fffffffaa0001, 0x218fcee78318d5) ∷ (0x7fffffffa50001, 0x77d4cda4ca61ec) ∷ (0x7fffffff9f0001, 0x55a8f972d52ea)
    ∷ (0x7fffffff7e0001, 0x4cece2a44cacee) ∷ (0x7ffffffef00001, 0xd8da8faa6cc52) ∷ []

-- all moduli of a set that have a root, each with it
abbrev pub roots_of : SetName → List (ℕ × ℕ)
roots_of set = cipher_roots_of set ++ (plain_of set, plain_root_of set) ∷ []

-- the root of q in a set
abbrev pub root_of : SetName → ℕ → Option ℕ
root_of set q = lookup (nat_eq q) (roots_of set)
