-- Lists of slots while a script is evaluated.
use Rattle.std.specs.Prelude.{◌≡◌, ℕ, ◌+◌, ◌*◌, ◌/◌, ◌%◌, ◌<◌, pos, ◌-ℤ◌, neg_ℤ, Bool, List, length, slice_index, All, IfSome}
use Rattle.std.specs.List.{AllByRecursion}
use Rattle.ring_law.specs.Residues.{residue}
use Rattle.ring_law.specs.Rows.{word_at}
use Rattle.script_text.specs.declared.script.InputKind.{InputKind}
use Rattle.script_text.specs.declared.script.InputKind.TheVariants.{Cipher, Plain}
use Rattle.script_text.specs.declared.script.Input.{Input}
use Rattle.script_text.specs.Scripts.{is_cipher, is_plain, operands_of, plain_operand_of, factor_of}
use Rattle.script_text.specs.declared.script.Op.{Op}
use Rattle.script_text.specs.declared.script.Op.TheVariants.{Add, Sub, Neg, AddPlain, SubPlain, MulPlain, MulConst, Mul, Relin, Turn, Swap}

-- n values below t
abbrev pub AreValues : ℕ → ℕ → List ℕ → Type 0
AreValues n t values = (length values ≡ n) × ((i : ℕ) → i < n → slice_index values i < t)

-- each list has n values below t
abbrev pub AreLists : ℕ → ℕ → List (List ℕ) → Type 0
AreLists n t lists = All (AreValues n t) lists

-- the operands are among so many registers and plain inputs, and a factor is below t
abbrev pub IsWithin : ℕ → ℕ → ℕ → Op → Type 0
IsWithin t plains registers op =
    AllByRecursion (λ register. register < registers) (operands_of op)
    × IfSome (plain_operand_of op) (λ plain. plain < plains)
    × IfSome (factor_of op) (λ factor. factor < t)

-- slot i of what an operation makes
abbrev pub slot_made : ℕ → ℕ → List (List ℕ) → List (List ℕ) → Op → ℕ → ℕ
slot_made half t plains values (Add a b) i = (word_at values a i + word_at values b i) % t
slot_made half t plains values (Sub a b) i = residue t (pos (word_at values a i) -ℤ pos (word_at values b i))
slot_made half t plains values (Neg a) i = residue t (neg_ℤ (pos (word_at values a i)))
slot_made half t plains values (AddPlain a p) i = (word_at values a i + word_at plains p i) % t
slot_made half t plains values (SubPlain a p) i = residue t (pos (word_at values a i) -ℤ pos (word_at plains p i))
slot_made half t plains values (MulPlain a p) i = word_at values a i * word_at plains p i % t
slot_made half t plains values (MulConst a k) i = word_at values a i * k % t
slot_made half t plains values (Mul a b) i = word_at values a i * word_at values b i % t
slot_made half t plains values (Relin a) i = word_at values a i
slot_made half t plains values (Turn a k) i = word_at values a (i / half * half + (i % half + k) % half)
slot_made half t plains values (Swap a) i = word_at values a ((i + half) % (half + half))

-- the inputs of a kind
abbrev pub kind_test : InputKind → Input → Bool
kind_test Cipher = is_cipher
kind_test Plain = is_plain
