-- What is asked, beside what ciphers carry, so that results carry their values.
use Rattle.std.specs.Prelude.{ℕ, ◌*◌, ◌-◌, ◌%◌, ◌^◌, ◌≤◌, ℤ, List, slice_index, All}
use Rattle.set_table.specs.declared.SetName.{SetName}
use Rattle.set_table.specs.declared.KeyKind.{KeyKind}
use Rattle.set_table.specs.declared.KeyKind.TheVariants as kind
use Rattle.set_table.specs.Sets.{degree_of}
use Rattle.ring_law.specs.Polynomials.{AllWithin}
use Rattle.bfv_model.specs.SwitchKeys.{IsSwitchKeyIn, key_source}
use Rattle.bfv_params.specs.Contexts.{modulus_in}
use Rattle.bfv_params.specs.Values.{ContextValue}
use Rattle.script_text.specs.declared.script.Op.{Op}
use Rattle.script_text.specs.declared.script.Op.TheVariants.{Mul, Relin, Turn, Swap}
use Rattle.script_text.specs.Scripts.{Script, needs_of}
use Rattle.noise_check.specs.ExactBounds.{exact_bounds}
use Rattle.key_switch.specs.Providers.{Digits}

-- no digits are told, since no provider is there
abbrev pub no_digits : Digits → Type 0
no_digits digits = ⊥

-- digits are told whose key of this kind and Galois element is a switching key for the secret s
abbrev pub TellsKey : (Digits → Type 0) → SetName → (ℕ → ℤ) → KeyKind → ℕ → Type 0
TellsKey told set s kind element = (digits : Digits) × (told digits × IsSwitchKeyIn set (digits kind element) (key_source kind (degree_of set) element s) s)

-- What an operation asks, where the registers before it have these bounds: a linear one asks nothing, a product operands whose noise
-- isn't beyond a quarter of the ciphertext modulus, the others their switching key; and all these a ternary secret.
abbrev pub StepPremise : ℕ → ContextValue → (Digits → Type 0) → (ℕ → ℤ) → List ℕ → Op → Type 0
StepPremise n ctx told s bounds (Mul a b) = AllWithin n 1 s × (4 * slice_index bounds a ≤ modulus_in ctx) × (4 * slice_index bounds b ≤ modulus_in ctx)
StepPremise n ctx told s bounds (Relin a) = AllWithin n 1 s × TellsKey told ctx.set s kind.Relin 0
StepPremise n ctx told s bounds (Turn a k) = AllWithin n 1 s × TellsKey told ctx.set s kind.Turn (3 ^ k % (2 * degree_of ctx.set))
StepPremise n ctx told s bounds (Swap a) = AllWithin n 1 s × TellsKey told ctx.set s kind.Turn (2 * degree_of ctx.set - 1)
StepPremise n ctx told s bounds op = Unit {0}

-- the noise of no register is beyond a quarter of the ciphertext modulus
abbrev pub IsQuiet : ContextValue → Script → List ℕ → Type 0
IsQuiet ctx script bounds = All (λ bound. 4 * bound ≤ modulus_in ctx) (exact_bounds script bounds)

-- What a run asks, where the cipher inputs have these bounds: the secret is ternary, no register is too noisy, and each switching key
-- that the script needs is told.
pub record RunPremise (n : ℕ) (ctx : ContextValue) (told : Digits → Type 0) (s : ℕ → ℤ) (script : Script) (bounds : List ℕ) : Type 0 where
  pub ternary : AllWithin n 1 s
  pub quiet : IsQuiet ctx script bounds
  pub keys : All (λ key. TellsKey told script.set s key.0 key.1) (needs_of script)
