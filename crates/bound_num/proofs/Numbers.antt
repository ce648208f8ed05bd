-- The printed numbers of parameter sets, computed from the definitions.
use Rattle.std.proofs.Common.{◌≡◌, ◌*◌, ◌/◌, refl}
use Rattle.bound_num.specs.Bound.{bound_value, digits_within, bit_length, spacing, up, down}

-- the bounds of fresh ciphers of degrees 16, 4096 and 8192: t * ((2 * n + 1) * 21 + 1) with t = 257, and twice t = 65537
up-fresh_16 : up 178358 ≡ bound_value 178358 0
unfolding up spacing bit_length digits_within bound_value
up-fresh_16 = refl

up-fresh_4096 : up 11275902998 ≡ bound_value 2818975750 2
unfolding up spacing bit_length digits_within bound_value
up-fresh_4096 = refl

up-fresh_8192 : up 22550364182 ≡ bound_value 2818795523 3
unfolding up spacing bit_length digits_within bound_value
up-fresh_8192 = refl

-- a quarter of the modulus: one modulus, and two products of two
down-quarter_one : down (down 36028797017456641 / 4) ≡ bound_value 4294967295 21
unfolding down spacing bit_length digits_within bound_value
down-quarter_one = refl

down-quarter_two : down (down (down 0x7fffffd8001 * 0x7fffffc8001) / 4) ≡ bound_value 4294967104 52
unfolding down spacing bit_length digits_within bound_value
down-quarter_two = refl

down-quarter_4096 : down (down (down 0xffffee001 * 0xffffc4001) / 4) ≡ bound_value 4294947328 38
unfolding down spacing bit_length digits_within bound_value
down-quarter_4096 = refl
