-- Digits that are made one after the other, from the stream of a seed.
use Rattle.std.proofs.Common.{◌≡◌, ℕ, ◌+◌, ◌*◌, ℤ, List, length, sym, ◌∙◌, ap, subst}
use Rattle.std.specs.Prelude.{Some, IsSome, unwrap_or}
use Rattle.std.proofs.Math.Nat.{suc-mul, zero-mul}
use Rattle.std.proofs.Math.Numerals.{add-one}
use Rattle.rand_core.specs.Stream.{Stream}
use Rattle.set_table.specs.declared.SetName.{SetName}
use Rattle.set_table.specs.Sets.{data_of, log_degree_of, special_of}
use Rattle.rand_words.specs.Words.{after_words}
use Rattle.rand_words.proofs.LaterWords.{word_later}
use Rattle.rand_words.proofs.WordLemmas.{after_words-after_words, after_words-zero}
use Rattle.bfv_model.specs.Drawn.{digit_place, drawn_switch, stream_word}
use Rattle.bfv_model.specs.SwitchKeys.{key_roots_of}
use Rattle.key_switch.specs.Providers.{AreDigitRows}
use Rattle.file_model.specs.DrawnFiles.{drawn_key}
use Rattle.key_commands.proofs.DrawnKeys.{special_is}

-- the words of the first digit are the first ones
pub first_digit : (n : ℕ) (moduli : List ℕ) (first later : Stream) → later ≡ first → later ≡ after_words (digit_place n moduli 0) first
first_digit n moduli first later is =
    is ∙ sym (after_words-zero first) ∙ ap (λ (m : ℕ). after_words m first) (sym (zero-mul (n + 2 * n * (length moduli + 1))))

-- after the words of a digit come those of the next one
pub next_digit : (n : ℕ) (moduli : List ℕ) (i : ℕ) (first later rest : Stream) → later ≡ after_words (digit_place n moduli i) first
    → rest ≡ after_words (n + 2 * n * (length moduli + 1)) later → rest ≡ after_words (digit_place n moduli (i + 1)) first
next_digit n moduli i first later rest is rest_is =
    let count = n + 2 * n * (length moduli + 1) in
    rest_is
    ∙ ap (after_words count) is
    ∙ after_words-after_words (i * count) count first
    ∙ ap (λ (m : ℕ). after_words m first) (sym (ap (λ (m : ℕ). m * count) (add-one i) ∙ suc-mul i count))

-- what is made for a set is the digit of the key that is drawn
pub digit_is : (n : ℕ) (ctx_set set : SetName) (i : ℕ) (rows : List (List ℕ)) (source s : ℕ → ℤ) (first later : Stream) → ctx_set ≡ set → IsSome (special_of set)
    → later ≡ after_words (digit_place n (data_of set) i) first
    → ((P : ℕ) (words : ℕ → ℕ) → special_of ctx_set ≡ Some P → ((place : ℕ) → words (digit_place n (data_of ctx_set) i + place) ≡ stream_word later place)
    → AreDigitRows n (length (data_of ctx_set) + 1) rows (drawn_switch (log_degree_of ctx_set) (data_of ctx_set) P (key_roots_of ctx_set) source s words i))
    → AreDigitRows n (length (data_of set) + 1) rows (drawn_key set source s (λ place. stream_word first place) i)
digit_is n ctx_set set i rows source s first later same some is made =
    of_set (subst (λ (z : SetName). (P : ℕ) (words : ℕ → ℕ) → special_of z ≡ Some P → ((place : ℕ) → words (digit_place n (data_of z) i + place) ≡ stream_word later place)
    → AreDigitRows n (length (data_of z) + 1) rows (drawn_switch (log_degree_of z) (data_of z) P (key_roots_of z) source s words i)) same made)
  where
    of_set : ((P : ℕ) (words : ℕ → ℕ) → special_of set ≡ Some P → ((place : ℕ) → words (digit_place n (data_of set) i + place) ≡ stream_word later place)
        → AreDigitRows n (length (data_of set) + 1) rows (drawn_switch (log_degree_of set) (data_of set) P (key_roots_of set) source s words i))
        → AreDigitRows n (length (data_of set) + 1) rows (drawn_key set source s (λ place. stream_word first place) i)
    of_set made = made (unwrap_or (special_of set) 0) (λ place. stream_word first place) (special_is (special_of set) some)
        (λ place. sym (word_later (digit_place n (data_of set) i) place first later is))
