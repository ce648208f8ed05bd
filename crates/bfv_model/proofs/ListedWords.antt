-- Ciphers, keys and secrets whose words are listed.
use Rattle.std.proofs.Common.{All, List, arith, length, lit<, mod-lt, mul-le-mul_left, slice_index, subst, sym, ℕ, ℤ, ◌%◌, ◌*◌, ◌+◌, ◌/◌, ◌<◌, ◌∙◌, ◌≡◌, ◌≤◌, ◌⊎◌}
use Rattle.std.proofs.Math.Logic.{⊎_elim}
use Rattle.std.proofs.lemmas.Bool.{cases_lt}
use Rattle.std.proofs.lemmas.List.{get_or_past}
use Rattle.ring_law.specs.Polynomials.{AllWithin}
use Rattle.ring_law.proofs.Values.{get_or-values_below, length-values_below}
use Rattle.bfv_model.specs.Holds.{CipherHolds, listed_words, secret_polynomial, stored_word}
use Rattle.bfv_model.specs.Keys.{WordsArePublicKeyOf}
use Rattle.bfv_model.proofs.DrawnSamples.{ternary_coefficient_within}
use Rattle.bfv_model.proofs.Noise.{Holds-within}

-- they are below the moduli of their rows if the words of each row are
pub listed_words_reduced : (n parts : ℕ) (moduli : List ℕ) (word : ℕ → ℕ → ℕ → ℕ) → 0 < length moduli
    → ((j i k : ℕ) → i < length moduli → word j i k < slice_index moduli i) → (place : ℕ)
    → place < length (listed_words n (length moduli) parts word)
    → slice_index (listed_words n (length moduli) parts word) place < slice_index moduli (place / n % length moduli)
listed_words_reduced n parts moduli word some reduced place within =
    let count = length-values_below (parts * length moduli * n) (λ p. word (p / n / length moduli) (p / n % length moduli) (p % n)) in
    let is = get_or-values_below (parts * length moduli * n) (λ p. word (p / n / length moduli) (p / n % length moduli) (p % n)) place 0
    (subst (λ c. place < c) count within) in
    subst (λ w. w < slice_index moduli (place / n % length moduli)) (sym is)
    (reduced (place / n / length moduli) (place / n % length moduli) (place % n) (mod-lt (place / n) some))

-- a word of a part that isn't listed is 0
pub stored_word-past : (n count parts : ℕ) (word : ℕ → ℕ → ℕ → ℕ) (j i k : ℕ) → parts ≤ j
    → stored_word n count (listed_words n count parts word) j i k ≡ 0
stored_word-past n count parts word j i k past =
    let size = length-values_below (parts * count * n) (λ p. word (p / n / count) (p / n % count) (p % n)) in
    let rows : count * parts ≤ count * j = mul-le-mul_left count past in
    let words : n * (parts * count) ≤ n * (j * count + i) = mul-le-mul_left n (omega arith) in
    get_or_past (listed_words n count parts word) ((j * count + i) * n + k) 0 (omega arith)

-- equal words are a public key of the same secret
pub WordsArePublicKeyOf-equal_words : (n : ℕ) (moduli : List ℕ) (error : ℕ) (word other : ℕ → ℕ → ℕ → ℕ) (s : ℕ → ℤ)
    → ((j i k : ℕ) → j < 2 → i < length moduli → k < n → word j i k ≡ other j i k) → WordsArePublicKeyOf n moduli error other s
    → WordsArePublicKeyOf n moduli error word s
WordsArePublicKeyOf-equal_words n moduli error word other s same key = record {
  part = key.part;
  represents = λ j part i k row place. same j i k part row place ∙ key.represents j part i k row place;
  relation = key.relation;
}

-- equal words hold the same plaintext
pub CipherHolds-equal_words : (n : ℕ) (moduli : List ℕ) (t : ℕ) (word other : ℕ → ℕ → ℕ → ℕ) (s : ℕ → ℤ) (m : ℕ → ℕ) (bound : ℕ)
    → ((j i k : ℕ) → j < 3 → i < length moduli → k < n → word j i k ≡ other j i k) → CipherHolds n moduli t other s m bound
    → CipherHolds n moduli t word s m bound
CipherHolds-equal_words n moduli t word other s m bound same cipher = record {
  part = cipher.part;
  below = cipher.below;
  represents = λ j part i k row place. same j i k part row place ∙ cipher.represents j part i k row place;
  holds = cipher.holds;
}

-- and the same words hold it within a larger bound
pub CipherHolds-within : {n t : ℕ} {moduli : List ℕ} {word : ℕ → ℕ → ℕ → ℕ} {s : ℕ → ℤ} {m : ℕ → ℕ} (bound more : ℕ) → bound ≤ more
    → CipherHolds n moduli t word s m bound → CipherHolds n moduli t word s m more
CipherHolds-within bound more larger cipher = record {
  part = cipher.part;
  below = cipher.below;
  represents = cipher.represents;
  holds = Holds-within bound more larger cipher.holds;
}

-- words below 3 are a ternary secret
pub secret_polynomial_within : (words : List ℕ) (n : ℕ) → All (λ word. word < 3) words → AllWithin n 1 (secret_polynomial words)
secret_polynomial_within words n below k place =
    ⊎_elim (λ (listed : k < length words). ternary_coefficient_within (slice_index words k) (below k 0 listed))
    (λ (past : length words ≤ k).
    ternary_coefficient_within (slice_index words k) (subst (λ word. word < 3) (sym (get_or_past words k 0 past)) (lit< tt)))
    (cases_lt k (length words))
