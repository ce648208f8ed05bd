-- Numbers in decimal are numbers of scripts, and are read as what they were.
use Rattle.std.proofs.Common.{◌≡◌, ◌<◌, ◌≤◌, ◌==◌, ℕ, zero, suc, ◌+◌, ◌*◌, ◌-◌, List, length, slice_index, Bool, true, false, not, nat_lt, nat_le, ◌&&◌, decimal, refl, ap, arith}
use Rattle.std.proofs.lemmas.Bool.{and_parts}
use Rattle.std.proofs.lemmas.Bool.Decides.{nat_tests}
use Rattle.std.proofs.lemmas.Fmt.{digits_decimal, digits_value-decimal, length-decimal-le, decimal_nonempty, decimal_digit, first_decimal}
use Rattle.std.proofs.lemmas.Str.Parse.{IsNumeralModel, IsDigitsTest, FoldsDigits, numerals_by_fold}
use Rattle.std.specs.Int.{IsInRange}
use Rattle.std.specs.List.{list_all, fold}
use Rattle.std.specs.Char.{is_ascii_digit}
use Rattle.line_text.specs.Names.{written_number, is_number}

-- the number that digits write behind those of another
abbrev number_after : ℕ → List ℕ → ℕ
number_after so_far digits = fold (λ so_far digit. 10 * so_far + (digit - 48)) so_far digits

-- two tests that both hold
pub both : (a b : Bool) → a ≡ true → b ≡ true → (a && b) ≡ true
both true true first second = refl
both true false first second = absurd cc
both false b first second = absurd cc

digit_in_range : (byte : ℕ) → is_ascii_digit byte ≡ true → IsInRange 48 57 byte
digit_in_range byte is = grind (arith, nat_tests)

in_range_digit : (byte : ℕ) → IsInRange 48 57 byte → is_ascii_digit byte ≡ true
in_range_digit byte is = grind (arith, nat_tests)

-- the test for digits, as std's lemmas take it
tells_digits : IsDigitsTest (λ digits. list_all is_ascii_digit digits ≡ true)
tells_digits = record {
  empty = refl;
  parts = λ byte bytes all. let parts = and_parts (is_ascii_digit byte) (list_all is_ascii_digit bytes) all in (digit_in_range byte parts.0, parts.1);
  more = λ byte bytes is all. both (is_ascii_digit byte) (list_all is_ascii_digit bytes) (in_range_digit byte is) all;
}

-- digits read from the left
folds : FoldsDigits number_after
folds = record {
  empty = λ n. refl;
  more = λ n byte bytes is. let same : 10 * n + (byte - 48) ≡ n * 10 + (byte - 48) = omega arith in ap (λ (m : ℕ). number_after m bytes) same;
}

pub numerals : IsNumeralModel (λ digits. list_all is_ascii_digit digits ≡ true) (number_after 0)
numerals = numerals_by_fold (λ digits. list_all is_ascii_digit digits ≡ true) tells_digits number_after folds

-- a number in decimal is read as what it was
pub written_decimal : (k : ℕ) → k < 4294967296 → written_number (decimal k) ≡ k
written_decimal k small = digits_value-decimal numerals k (omega arith)

-- a first digit that isn't 0 may be followed by others
leads : (first size : ℕ) → 48 < first → not ((first == 48) && nat_lt 1 size) ≡ true
leads first size more = grind (arith, nat_tests)

-- 0 stands first only where it stands alone
first_leads : (k : ℕ) → k < 4294967296 → not ((slice_index (decimal k) 0 == 48) && nat_lt 1 (length (decimal k))) ≡ true
first_leads zero small = ap (λ (word : List ℕ). not ((slice_index word 0 == 48) && nat_lt 1 (length word))) (decimal_digit 0 (omega arith))
first_leads (suc k) small = leads (slice_index (decimal (suc k)) 0) (length (decimal (suc k))) (first_decimal (suc k) (omega arith) (omega arith))

-- a number in decimal has at most ten digits
pub few_digits : (k : ℕ) → k < 4294967296 → length (decimal k) ≤ 10
few_digits k small = length-decimal-le 10 k (omega arith) (omega arith) (omega arith)

-- a number in decimal consists of digits
pub digits_only : (k : ℕ) → k < 4294967296 → list_all is_ascii_digit (decimal k) ≡ true
digits_only k small = digits_decimal numerals k (omega arith)

not_empty : (size : ℕ) → 0 < size → nat_lt 0 size ≡ true
not_empty size some = grind (arith, nat_tests)

at_most_ten : (size : ℕ) → size ≤ 10 → nat_le size 10 ≡ true
at_most_ten size few = grind (arith, nat_tests)

-- a number in decimal is a number
pub decimal_is_number : (k : ℕ) → k < 4294967296 → is_number (decimal k) ≡ true
decimal_is_number k small =
    let digits : list_all is_ascii_digit (decimal k) ≡ true = digits_only k small in
    let some : nat_lt 0 (length (decimal k)) ≡ true = not_empty (length (decimal k)) (decimal_nonempty k (omega arith)) in
    let few : nat_le (length (decimal k)) 10 ≡ true = at_most_ten (length (decimal k)) (few_digits k small) in
    both (list_all is_ascii_digit (decimal k) && nat_lt 0 (length (decimal k)) && nat_le (length (decimal k)) 10) (not ((slice_index (decimal k) 0 == 48) && nat_lt 1 (length (decimal k))))
    (both (list_all is_ascii_digit (decimal k) && nat_lt 0 (length (decimal k))) (nat_le (length (decimal k)) 10)
    (both (list_all is_ascii_digit (decimal k)) (nat_lt 0 (length (decimal k))) digits some) few)
    (first_leads k small)
