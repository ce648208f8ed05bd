-- What a script computes: lists of numbers modulo t, n for each register.
use Rattle.std.specs.Prelude.{ℕ, ◌+◌, ◌*◌, ◌/◌, ◌%◌, pos, ◌-ℤ◌, neg_ℤ, Bool, List, [], map, filter, take, drop, slice_index_or}
use Rattle.std.specs.List.{zip}
use Rattle.set_table.specs.Sets.{degree_of, plain_of}
use Rattle.ring_law.specs.Sums.{values_below}
use Rattle.ring_law.specs.Residues.{residue}
use Rattle.ring_law.specs.Rows.{word_at}
use Rattle.ring_law.specs.Lists.{turned_left, exchanged}
use Rattle.script_text.specs.declared.script.Op.{Op}
use Rattle.script_text.specs.declared.script.Op.TheVariants.{Add, Sub, Neg, AddPlain, SubPlain, MulPlain, MulConst, Mul, Relin, Turn, Swap}
use Rattle.script_text.specs.declared.script.Input.{Input}
use Rattle.script_text.specs.Scripts.{Script, registers, is_cipher, is_plain}

-- the list of an operation's result, by those of the plain inputs and of the registers before it
abbrev pub value_made : ℕ → ℕ → List (List ℕ) → List (List ℕ) → Op → List ℕ
value_made n t plains values (Add a b) = values_below n (λ i. (word_at values a i + word_at values b i) % t)
value_made n t plains values (Sub a b) = values_below n (λ i. residue t (pos (word_at values a i) -ℤ pos (word_at values b i)))
value_made n t plains values (Neg a) = values_below n (λ i. residue t (neg_ℤ (pos (word_at values a i))))
value_made n t plains values (AddPlain a p) = values_below n (λ i. (word_at values a i + word_at plains p i) % t)
value_made n t plains values (SubPlain a p) = values_below n (λ i. residue t (pos (word_at values a i) -ℤ pos (word_at plains p i)))
value_made n t plains values (MulPlain a p) = values_below n (λ i. word_at values a i * word_at plains p i % t)
value_made n t plains values (MulConst a k) = values_below n (λ i. word_at values a i * k % t)
value_made n t plains values (Mul a b) = values_below n (λ i. word_at values a i * word_at values b i % t)
value_made n t plains values (Relin a) = slice_index_or values a []
value_made n t plains values (Turn a k) = turned_left (n / 2) k (slice_index_or values a [])
value_made n t plains values (Swap a) = exchanged (n / 2) (slice_index_or values a [])

-- of lists that belong to the inputs, in order, those of the inputs that pass the test
abbrev pub lists_of : (Input → Bool) → List Input → List (List ℕ) → List (List ℕ)
lists_of test inputs lists = map (λ pair. pair.1) (filter (λ pair. test pair.0) (zip inputs lists))

-- the list of each register, where each input has one of these, in order of declaration
abbrev pub values_of_registers : Script → List (List ℕ) → List (List ℕ)
values_of_registers script lists =
    registers (value_made (degree_of script.set) (plain_of script.set) (lists_of is_plain script.inputs lists)) (lists_of is_cipher script.inputs lists) script.steps

-- the list that a script puts out
abbrev pub value_of : Script → List (List ℕ) → List ℕ
value_of script lists = slice_index_or (values_of_registers script lists) script.output []

-- values one after the other, cut into lists of n
abbrev pub lists_in : ℕ → ℕ → List ℕ → List (List ℕ)
lists_in n count values = values_below count (λ i. take n (drop (n * i) values))
