-- What the tables of kinds and sets say of the rows of a file.
use Rattle.std.proofs.Common.{◌≡◌, ◌⊎◌, ℕ, ◌+◌, ◌*◌, ◌%◌, List, [], ◌∷◌, length, refl, ◌∙◌, ap, arith, inl, inr, ⊎_elim}
use Rattle.std.specs.Prelude.{true, IsTrue, IsSome, ◌==◌, slice_index}
use Rattle.std.proofs.Math.Nat.{mul-add-mod_self_left}
use Rattle.std.proofs.lemmas.Bool.{eqb-true, or_cases}
use Rattle.set_table.specs.declared.SetName.{SetName}
use Rattle.set_table.specs.declared.SetName.TheVariants.{One16, Toy16, S4096, S8192, S16384}
use Rattle.set_table.specs.Sets.{data_of, key_of, special_of}
use Rattle.file_model.specs.declared.file_kind.FileKind.{FileKind}
use Rattle.file_model.specs.declared.file_kind.FileKind.TheVariants as kind
use Rattle.file_model.specs.FileText.{parts_fit, set_fits, row_count, row_moduli}
use Rattle.file_model.specs.declared.head.Wanted.TheVariants as wanted
use Rattle.file_model.specs.Heads.{wants}

-- the rows of each kind
pub secret_rows : (k : FileKind) (set : SetName) (parts : ℕ) → wants wanted.Secret k ≡ true → (row_count k set parts ≡ 1) × (row_moduli k set ≡ 3 ∷ [])
secret_rows kind.Secret set parts is = (refl, refl)
secret_rows kind.PublicKey set parts is = absurd (cc)
secret_rows (kind.SwitchKey key) set parts is = absurd (cc)
secret_rows kind.Cipher set parts is = absurd (cc)

pub public_rows : (k : FileKind) (set : SetName) (parts : ℕ) → wants wanted.Public k ≡ true
    → (row_count k set parts ≡ 2 * length (data_of set)) × (row_moduli k set ≡ data_of set)
public_rows kind.Secret set parts is = absurd (cc)
public_rows kind.PublicKey set parts is = (refl, refl)
public_rows (kind.SwitchKey key) set parts is = absurd (cc)
public_rows kind.Cipher set parts is = absurd (cc)

pub cipher_rows : (k : FileKind) (set : SetName) (parts : ℕ) → wants wanted.Cipher k ≡ true
    → (row_count k set parts ≡ parts * length (data_of set)) × (row_moduli k set ≡ data_of set)
cipher_rows kind.Secret set parts is = absurd (cc)
cipher_rows kind.PublicKey set parts is = absurd (cc)
cipher_rows (kind.SwitchKey key) set parts is = absurd (cc)
cipher_rows kind.Cipher set parts is = (refl, refl)

-- a cipher's head states two or three parts
pub cipher_parts : (k : FileKind) (parts : ℕ) → wants wanted.Cipher k ≡ true → IsTrue (parts_fit k parts) → (parts ≡ 2) ⊎ (parts ≡ 3)
cipher_parts kind.Secret parts is fit = absurd (cc)
cipher_parts kind.PublicKey parts is fit = absurd (cc)
cipher_parts (kind.SwitchKey key) parts is fit = absurd (cc)
cipher_parts kind.Cipher parts is fit =
    ⊎_elim (λ (two : (parts == 2) ≡ true). inl (eqb-true parts 2 two)) (λ (three : (parts == 3) ≡ true). inr (eqb-true parts 3 three))
    (or_cases (parts == 2) (parts == 3) fit)

-- where there is a special modulus, there is one modulus of keys more than data moduli
length-key_of : (set : SetName) → IsSome (special_of set) → length (key_of set) ≡ length (data_of set) + 1
length-key_of One16 some = absurd (cc)
length-key_of Toy16 some = refl
length-key_of S4096 some = refl
length-key_of S8192 some = refl
length-key_of S16384 some = refl

-- the rows of a switching key
pub record KeyTable (k : FileKind) (set : SetName) : Type 0 where
  pub moduli : row_moduli k set ≡ key_of set
  pub count : length (key_of set) ≡ length (data_of set) + 1
  pub rows : (parts : ℕ) → row_count k set parts ≡ 2 * length (data_of set) * (length (data_of set) + 1)

pub key_table : (k : FileKind) (set : SetName) → wants wanted.Key k ≡ true → IsTrue (set_fits k set) → KeyTable k set
key_table kind.Secret set is fits = absurd (cc)
key_table kind.PublicKey set is fits = absurd (cc)
key_table (kind.SwitchKey key) set is fits = record { moduli = refl; count = length-key_of set fits; rows = λ parts. refl }
key_table kind.Cipher set is fits = absurd (cc)

-- a row of a digit is under the modulus of its place in the digit
pub digit_modulus : (k : FileKind) (set : SetName) (i r number q : ℕ) → KeyTable k set → number ≡ i * (2 * (length (data_of set) + 1)) + r
    → q ≡ slice_index (row_moduli k set) (number % length (row_moduli k set)) → q ≡ slice_index (key_of set) (r % (length (data_of set) + 1))
digit_modulus k set i r number q table is modulus =
    let count = length (data_of set) + 1 in
    let place : number ≡ count * (i * 2) + r = omega arith in
    modulus ∙ ap (λ (ms : List ℕ). slice_index ms (number % length ms)) table.moduli
    ∙ ap (λ (m : ℕ). slice_index (key_of set) (number % m)) table.count
    ∙ ap (slice_index (key_of set)) (ap (λ (p : ℕ). p % count) place ∙ mul-add-mod_self_left count (i * 2) r)
