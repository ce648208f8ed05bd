-- What a provider of switching keys looks like from outside.
use Rattle.std.specs.Prelude.{◌≡◌, ℕ, ◌<◌, ◌≤◌, List, Option, Some, Result, IfErr, IsErrOf, OnOk}
use Rattle.set_table.specs.declared.SetName.{SetName}
use Rattle.set_table.specs.declared.KeyKind.{KeyKind}
use Rattle.outer_io.specs.Store.{Rose}
use Rattle.bfv_model.specs.Holds.{listed_word}
use Rattle.key_switch.specs.declared.provider.KeyFault.{KeyFault}
use Rattle.key_switch.specs.declared.provider.KeyFault.TheVariants.{Missing, Changed}

-- What is known of a provider: its parameter set, the kinds and Galois elements of the keys that it has, a count of faults, and the
-- fault of its last failed `digit`, none at first.
pub record KeysState : Type 0 where
  pub set : SetName
  pub pairs : List (KeyKind × ℕ)
  pub faults : ℕ
  pub last : Option KeyFault

-- the words of all keys: by kind and Galois element of the key, and then by digit, part, row and place
abbrev pub Digits : Type 0
Digits = KeyKind → ℕ → ℕ → ℕ → ℕ → ℕ → ℕ

-- A call changes neither the set nor which keys there are, and the count doesn't fall.
pub record Keeps (old new : KeysState) : Type 0 where
  pub set : new.set ≡ old.set
  pub pairs : new.pairs ≡ old.pairs
  pub faults : old.faults ≤ new.faults

-- A call answers a fault only where the count rose, and the fault is then the provider's last one, which stays at an Ok.
pub record FaultCause {T : Type 0} (old new : KeysState) (result : Result T KeyFault) : Type 0 where
  pub rose : IfErr result (λ _. Rose old.faults new.faults)
  pub last : IfErr result (λ fault. new.last ≡ Some fault)
  pub stays : OnOk result (new.last ≡ old.last)

-- the rows of a digit, with `count` rows in each of its two parts, have these words, by part, row and place
abbrev pub AreDigitRows : ℕ → ℕ → List (List ℕ) → (ℕ → ℕ → ℕ → ℕ) → Type 0
AreDigitRows n count rows words = (part row k : ℕ) → part < 2 → row < count → k < n → listed_word count rows part row k ≡ words part row k

-- the answer is no fault of a file that isn't there or that changed
pub record IsThere {T : Type 0} (result : Result T KeyFault) : Type 0 where
  pub not_missing : IsErrOf result Missing → ⊥
  pub not_changed : IsErrOf result Changed → ⊥
