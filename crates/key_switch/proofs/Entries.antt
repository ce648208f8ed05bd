-- Rows of transforms, entry by entry.
use Rattle.std.proofs.Common.{◌≡◌, ℕ, ◌^◌, ◌<◌, ◌∙◌, sym, ap, subst, List, length, map, slice_index, ℤ}
use Rattle.std.specs.Option.{option_map}
use Rattle.std.proofs.lemmas.Option.{get_or_from_slice_get, slice_get-get_or, slice_get-map, slice_get_within}
use Rattle.std.proofs.lemmas.List.{get_or-map, length-map}
use Rattle.set_table.specs.declared.SetName.{SetName}
use Rattle.set_table.specs.Sets.{log_degree_of}
use Rattle.ring_law.specs.Rows.{word_at}
use Rattle.ring_law.specs.Transform.{transform_entry}
use Rattle.neg_ntt.specs.Parameters.{Parameters}
use Rattle.rns_poly.specs.Transforms.{AreTransforms}
use Rattle.bfv_params.specs.Transforms.{transform_of}

module _ (set : SetName) (moduli : List ℕ) (rows : List (List ℕ)) (x : ℕ → ℕ → ℤ) where
  -- entry k of row i
  abbrev entry : ℕ → ℕ → ℕ
  entry i k = transform_entry (slice_index moduli i) (log_degree_of set) (transform_of set (slice_index moduli i)).root (x i) k

  pub word_of_transforms : AreTransforms (map (transform_of set) moduli) rows x → (i k : ℕ) → i < length moduli → k < 2 ^ log_degree_of set → word_at rows i k ≡ entry i k
  word_of_transforms transforms i k within below =
      transforms i (transform_of set (slice_index moduli i))
      (slice_get-map (transform_of set) moduli i ∙ ap (option_map (transform_of set)) (slice_get-get_or moduli i 0 within)) k below

  pub transforms_from_words : ((i k : ℕ) → i < length moduli → k < 2 ^ log_degree_of set → word_at rows i k ≡ entry i k) → AreTransforms (map (transform_of set) moduli) rows x
  transforms_from_words words i t is =
      let within : i < length moduli = rw length-map at (slice_get_within (map (transform_of set) moduli) i t is) in
      let same : transform_of set (slice_index moduli i) ≡ t
      = sym (get_or-map (transform_of set) moduli i 0 t within) ∙ get_or_from_slice_get (map (transform_of set) moduli) i t t is in
      subst (λ (u : Parameters). (k : ℕ) → k < 2 ^ u.log_degree → word_at rows i k ≡ transform_entry u.modulus u.log_degree u.root (x i) k) same
      (λ k below. words i k within below)
