-- Numbers that words write in decimal.
use Rattle.std.proofs.Common.{◌≡◌, ℕ, ◌≤◌, ◌<◌, ◌^◌, Bool, true, false, ◌&&◌, List, refl, sym, ◌∙◌, ap, arith, ⊎_elim}
use Rattle.std.specs.Prelude.{Some, None, nat_lt, decimal, if◌then◌else◌}
use Rattle.std.specs.Str.{bytes_eq}
use Rattle.std.specs.Io.Iter.{u64_saturate}
use Rattle.std.proofs.lemmas.Bool.{cases_lt, lt-ltb, le-ltb}
use Rattle.std.proofs.lemmas.Fmt.{digits_value-decimal}
use Rattle.std.proofs.lemmas.Slice.Eq.{bytes_eq-Decides}
use Rattle.script_text.proofs.PrintedNumbers.{numerals}
use Rattle.line_text.specs.Names.{written_number}
use Rattle.command_words.specs.Step.{decimal_number}

-- the greatest number below 2^64 writes itself
written_greatest : written_number (decimal 18446744073709551615) ≡ 18446744073709551615
written_greatest = digits_value-decimal numerals 18446744073709551615 (omega arith)

and_yes : (a b : Bool) → b ≡ true → a ≡ a && b
and_yes true true is = refl
and_yes false true is = refl
and_yes a false is = absurd (cc)

and_no : (a b : Bool) → b ≡ false → a && b ≡ false
and_no true false is = refl
and_no false false is = refl
and_no a true is = absurd (cc)

-- a word writes the number that its bytes give, or the greatest one where that is too large, exactly where it is that number in decimal
pub decimal_is : (word : List ℕ) (test : Bool) → bytes_eq (decimal (u64_saturate (written_number word))) word ≡ test
    → (if test then Some (u64_saturate (written_number word)) else None) ≡ decimal_number word
decimal_is word test is = ⊎_elim small large (cases_lt (written_number word) (2 ^ 64))
  where
    number : ℕ
    number = written_number word

    small : written_number word < 2 ^ 64 → (if test then Some (u64_saturate (written_number word)) else None) ≡ decimal_number word
    small below =
        let same : u64_saturate number ≡ number = omega (arith, below) in
        let tested : test ≡ bytes_eq (decimal number) word && nat_lt number (2 ^ 64) =
        sym is ∙ ap (λ (n : ℕ). bytes_eq (decimal n) word) same ∙ and_yes (bytes_eq (decimal number) word) (nat_lt number (2 ^ 64)) (lt-ltb number (2 ^ 64) below) in
        ap (λ (n : ℕ). if test then Some n else None) same ∙ ap (λ (b : Bool). if b then Some number else None) tested

    large : 2 ^ 64 ≤ written_number word → (if test then Some (u64_saturate (written_number word)) else None) ≡ decimal_number word
    large most = ap (λ (b : Bool). if b then Some (u64_saturate number) else None) (apart test is)
        ∙ sym (ap (λ (b : Bool). if b then Some number else None) (and_no (bytes_eq (decimal number) word) (nat_lt number (2 ^ 64)) (le-ltb number (2 ^ 64) most)))
      where
        same : u64_saturate number ≡ 18446744073709551615
        same = omega (arith, most)

        apart : (b : Bool) → bytes_eq (decimal (u64_saturate number)) word ≡ b → b ≡ false
        apart false differs = refl
        apart true equal =
            let is_word : decimal (u64_saturate number) ≡ word = (bytes_eq-Decides (decimal (u64_saturate number)) word).0 equal in
            let greatest : number ≡ 18446744073709551615 = ap written_number (sym is_word) ∙ ap (λ (n : ℕ). written_number (decimal n)) same ∙ written_greatest in
            absurd (omega (arith, greatest, most))
