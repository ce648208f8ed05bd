-- The residues of sums, differences, negatives and products, from those of the numbers.
use Rattle.std.proofs.Common.{◌≡◌, ℕ, suc, ◌+◌, ◌-◌, ◌*◌, ◌%◌, ◌<◌, ◌∙◌, sym, ℤ, pos, negsuc, neg_ℤ, ◌+ℤ◌, ◌*ℤ◌, arith}
use Rattle.std.specs.Prelude.{true, nat_abs}
use Rattle.std.proofs.lemmas.Bool.{ltb-true}
use lib.Signed.{lt_z}
use Rattle.std.proofs.Math.Nat.{add-mod-mod}
use Rattle.ring_law.specs.Residues.{residue}
use Rattle.ring_law.proofs.Residues.{residue-add, residue-mul, residue-neg}

pub sum_word : (q a b : ℕ) (x y : ℤ) → 0 < q → a ≡ residue q x → b ≡ residue q y → (a + b) % q ≡ residue q (x +ℤ y)
sum_word q a b x y h ea eb = rw (ea, eb) (sym (residue-add q x y h))

pub negative_word : (q a : ℕ) (x : ℤ) → 0 < q → a ≡ residue q x → (q - a) % q ≡ residue q (neg_ℤ x)
negative_word q a x h ea = rw ea (sym (residue-neg q x h))

pub difference_word : (q a b : ℕ) (x y : ℤ) → 0 < q → a ≡ residue q x → b ≡ residue q y → (a + (q - b)) % q ≡ residue q (x +ℤ neg_ℤ y)
difference_word q a b x y h ea eb = sym (add-mod-mod a (q - b) q) ∙ sum_word q a ((q - b) % q) x (neg_ℤ y) h ea (negative_word q b y h eb)

pub product_word : (q a b : ℕ) (x y : ℤ) → 0 < q → a ≡ residue q x → b ≡ residue q y → (a * b) % q ≡ residue q (x *ℤ y)
product_word q a b x y h ea eb = rw (ea, eb) (sym (residue-mul q x y h))

-- the residue of a negative number, from its absolute value
pub residue_of_negative : (q : ℕ) (x : ℤ) → 0 < q → lt_z x (pos 0) ≡ true → (q - nat_abs x % q) % q ≡ residue q x
residue_of_negative q (pos a) h l = let less : a < 0 = ltb-true a 0 l in absurd (omega arith)
residue_of_negative q (negsuc a) h l = sym (residue-neg q (pos (suc a)) h)
