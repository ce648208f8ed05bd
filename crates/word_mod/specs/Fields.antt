-- A modulus is kept with its ratios, which the modulus determines.
use Rattle.std.specs.Prelude.{ℕ, ◌≡◌, ◌+◌, ◌-◌, ◌/◌, ◌^◌}
use Rattle.std.specs.Int.{leading_zeros, w64}
use Rattle.std.proofs.Common.{sym, ap, ◌∙◌}
use Rattle.word_mod.specs.declared.Modulus.TheInside.{Inside}
use Rattle.word_mod.specs.Moduli.{IsModulus}

-- 1 by q in 128 binary places, rounded down
abbrev pub ratio_of : ℕ → ℕ
ratio_of q = (2 ^ 128 - 1) / q

-- one less than the number of binary digits that q has behind its first one
abbrev pub shift_of : ℕ → ℕ
shift_of q = 62 - leading_zeros w64 q

-- 1 by q in as many places more than 64, rounded down: it fits in a word
abbrev pub short_ratio_of : ℕ → ℕ
short_ratio_of q = 2 ^ (64 + shift_of q) / q

-- the fields of the modulus q
abbrev pub fields_of : ℕ → Inside
fields_of q = record { q = q; ratio = ratio_of q; shift = shift_of q; short_ratio = short_ratio_of q }

pub fields_of-q : (a : Inside) → IsModulus a.q × (a.ratio ≡ ratio_of a.q) × (a.shift ≡ shift_of a.q) × (a.short_ratio ≡ short_ratio_of a.q) → fields_of a.q ≡ a
fields_of-q a holds =
    let fields : ℕ → ℕ → ℕ → Inside = λ r s t. record { q = a.q; ratio = r; shift = s; short_ratio = t } in
    ap (λ r. fields r (shift_of a.q) (short_ratio_of a.q)) (sym holds.1) ∙ ap (λ s. fields a.ratio s (short_ratio_of a.q)) (sym holds.2)
    ∙ ap (λ t. fields a.ratio a.shift t) (sym holds.3)
