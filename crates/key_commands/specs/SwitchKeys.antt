-- Switching keys that are drawn to a secret. Private contracts alone speak of them.
use Rattle.std.specs.Prelude.{◌≡◌, ℕ, ◌+◌, ◌*◌, ℤ, List, length}
use Rattle.set_table.specs.declared.SetName.{SetName}
use Rattle.set_table.specs.declared.KeyKind.{KeyKind}
use Rattle.set_table.specs.Sets.{data_of}
use Rattle.ring_law.specs.Rows.{listed_polynomial}
use Rattle.rns_poly.specs.Rows.{AreReduced}
use Rattle.rns_poly.specs.Transforms.{AreTransforms}
use Rattle.bfv_model.specs.SwitchKeys.{key_source}
use Rattle.bfv_params.specs.Contexts.{scratch_rows_in, transforms_in}
use Rattle.bfv_params.specs.Values.{ContextValue, SecretValue}
use Rattle.file_model.specs.FileText.{FileContent}
use Rattle.file_model.specs.Heads.{content_with}
use Rattle.file_model.specs.KeyWords.{key_words}
use Rattle.file_model.specs.DrawnFiles.{drawn_key}
use Rattle.file_model.specs.declared.head.Head.{Head}

-- What a key of a set is made in: the transforms of what it switches from, and rows for a digit and for working.
pub record IsRoom (n : ℕ) (set : SetName) (kind : KeyKind) (element : ℕ) (ctx : ContextValue) (secret : SecretValue) (source digit scratch : List (List ℕ)) : Type 0 where
  pub ctx_set : ctx.set ≡ set
  pub level : ctx.level ≡ length (data_of set)
  pub secret_set : secret.set ≡ set
  pub transforms : AreTransforms (transforms_in ctx) source (λ _. key_source kind n element (listed_polynomial secret.small))
  pub reduced : AreReduced n (data_of set) source
  pub source_count : length source ≡ length (data_of set)
  pub digit_count : length digit ≡ 2 * (length (data_of set) + 1)
  pub scratch_count : length scratch ≡ scratch_rows_in ctx

-- the content that a head states, with the words of the key that is drawn to a secret s
abbrev pub content_drawn : ℕ → Head → KeyKind → ℕ → (ℕ → ℤ) → (ℕ → ℕ) → FileContent
content_drawn n head kind element s words = content_with head (key_words head.set (drawn_key head.set (key_source kind n element s) s words))
