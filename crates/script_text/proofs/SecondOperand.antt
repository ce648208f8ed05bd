-- A factor or a distance as second operand.
use Rattle.std.proofs.Common.{◌≡◌, ◌<◌, ◌⊎◌, inl, inr, ℕ, List, true, ◌&&◌, nat_le, nat_lt, ◌/◌, Some, sym, ap, ◌∙◌, arith}
use Rattle.std.proofs.lemmas.Bool.{and_parts}
use Rattle.std.proofs.lemmas.Bool.Decides.{nat_tests}
use Rattle.set_table.specs.declared.SetName.{SetName}
use Rattle.set_table.specs.declared.SetName.TheVariants.{One16, Toy16, S4096, S8192, S16384}
use Rattle.set_table.specs.Sets.{degree_of, plain_of}
use Rattle.script_text.specs.declared.keyword.Second.{Second}
use Rattle.script_text.specs.declared.keyword.Second.TheVariants.{Factor, Distance}
use Rattle.line_text.specs.Names.{written_number, is_number, is_number_in}
use Rattle.script_text.specs.Grammar.{Draft, is_second, second_value}

pub below_end : (low end : ℕ) (word : List ℕ) → is_number_in low end word ≡ true → written_number word < end
below_end low end word is =
    let last = (and_parts (is_number word && nat_le low (written_number word)) (nat_lt (written_number word) end) is).1 in
    grind (arith, nat_tests)

pub plain_small : (set : SetName) → plain_of set < 65538
plain_small One16 = omega arith
plain_small Toy16 = omega arith
plain_small S4096 = omega arith
plain_small S8192 = omega arith
plain_small S16384 = omega arith

pub degree_small : (set : SetName) → degree_of set / 2 < 65538
degree_small One16 = omega arith
degree_small Toy16 = omega arith
degree_small S4096 = omega arith
degree_small S8192 = omega arith
degree_small S16384 = omega arith

pub second_small : (set : SetName) (second : Second) (word : List ℕ) → (second ≡ Factor) ⊎ (second ≡ Distance) → is_second set second word ≡ true → written_number word < 65538
unfolding is_second
second_small set second word (inl is) fits =
    let last = below_end 0 (plain_of set) word (ap (λ (s : Second). is_second set s word) (sym is) ∙ fits) in
    let small = plain_small set in
    omega arith
second_small set second word (inr is) fits =
    let last = below_end 1 (degree_of set / 2) word (ap (λ (s : Second). is_second set s word) (sym is) ∙ fits) in
    let small = degree_small set in
    omega arith

pub second_is_number : (draft : Draft) (second : Second) (word : List ℕ) → (second ≡ Factor) ⊎ (second ≡ Distance) → second_value draft second word ≡ Some (written_number word)
unfolding second_value
second_is_number draft second word (inl is) = ap (λ (s : Second). second_value draft s word) is
second_is_number draft second word (inr is) = ap (λ (s : Second). second_value draft s word) is
