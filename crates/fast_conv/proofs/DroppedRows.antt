-- What the rows are after a modulus is dropped.
use Rattle.std.proofs.Common.{◌≡◌, ℕ, refl, ◌+◌, ◌-◌, ◌*◌, ◌/◌, ◌<◌, List, [], ◌∷◌, ◌++◌, length, slice_index, slice_index_or, All, arith, sym, ap, ◌∙◌, subst, mod-lt, ℤ, pos, neg_ℤ, nat_abs, ◌-ℤ◌, ◌*ℤ◌}
use Rattle.std.proofs.lemmas.Int.{ints}
use Rattle.std.proofs.Math.ListN.{get_or-append}
use Rattle.std.proofs.Math.Seq.{get_or-append_seam}
use Rattle.std.proofs.lemmas.List.{get_or-map, length-append, length-map}
use Rattle.word_mod.specs.Moduli.{IsModulus}
use Rattle.ring_law.specs.Residues.{Congruent, centred_residue, residue}
use Rattle.ring_law.specs.Rows.{Represents, word_at}
use Rattle.ring_law.proofs.Congruence.{Congruent-add, Congruent-equal, Congruent-mul, Congruent-refl, Congruent-sym, Congruent-trans}
use Rattle.ring_law.proofs.Residues.{Congruent-residue, centred_residue_small, residue_unique}
use Rattle.ring_law.proofs.RingSolver.{identity2, identity4, minus, ◌⊕◌, ◌⊖◌, ◌⊗◌}
use Rattle.bfv_model.specs.Keys.{dropped_quotient}
use Rattle.bfv_model.proofs.DroppedModulus.{dropped_quotient_row}
use Rattle.fast_conv.specs.Rows.{IsKeptAt, Kept, kept_moduli, kept_word, no_kept, shifted_word}
use Rattle.fast_conv.proofs.Words.{Congruent-negative_word, Congruent-unit, Congruent-word}

-- the residue with one half added is the centred residue with one half added
shifted_centred : (P : ℕ) (x : ℤ) → IsModulus P → centred_residue P x ≡ pos (shifted_word P (residue P x)) -ℤ pos ((P - 1) / 2)
shifted_centred P x is = centred_residue_small P x (pos (shifted_word P (residue P x)) -ℤ pos ((P - 1) / 2))
    (Congruent-trans P (Congruent-residue P x positive) (Congruent-sym P (Congruent-trans P (Congruent-add P (Congruent-word P positive refl) (Congruent-refl P (neg_ℤ (pos ((P - 1) / 2)))))
    (Congruent-equal P (identity2 (λ r h. r ⊕ h ⊕ minus h) (λ r h. r) refl (pos (residue P x)) (pos ((P - 1) / 2)))))))
    (small (shifted_word P (residue P x)) (mod-lt (residue P x + (P - 1) / 2) positive))
  where
    positive : 0 < P
    positive = let three = is.from_three in omega arith

    small : (s : ℕ) → s < P → 2 * nat_abs (pos s -ℤ pos ((P - 1) / 2)) < P
    small s l = let odd = is.odd in from ((P - 1) / 2) (omega arith)
      where
        from : (h : ℕ) → 2 * h + 1 ≡ P → 2 * nat_abs (pos s -ℤ pos h) < P
        from h e = omega (arith, ints)

-- the word of a row that stays
kept_is : (P : ℕ) (x : ℤ) (row : Kept) (word : ℕ) → IsModulus P → IsKeptAt P row → word ≡ residue row.modulus x
    → kept_word row word (shifted_word P (residue P x)) ≡ residue row.modulus (dropped_quotient P x)
kept_is P x row word is at same =
    residue_unique p (dropped_quotient P x) (kept_word row word s) (mod-lt (word * row.inverse + s * row.negative + row.added) positive)
    (Congruent-trans p (Congruent-word p positive refl)
    (Congruent-trans p (Congruent-add p (Congruent-add p (Congruent-refl p (pos word *ℤ pos row.inverse)) (Congruent-mul p (Congruent-refl p (pos s)) (Congruent-negative_word p row.inverse row.negative at.is.inverse at.negative)))
    (Congruent-trans p (Congruent-word p positive at.added) (Congruent-mul p (Congruent-word p positive refl) (Congruent-refl p (pos row.inverse)))))
    (Congruent-trans p (Congruent-equal p (identity4 (λ w s h v. w ⊗ v ⊕ s ⊗ minus v ⊕ h ⊗ v) (λ w s h v. (w ⊖ (s ⊖ h)) ⊗ v) refl (pos word) (pos s) (pos ((P - 1) / 2)) (pos row.inverse)
    ∙ ap (λ r. (pos word -ℤ r) *ℤ pos row.inverse) (sym (shifted_centred P x is))))
    (Congruent-sym p (dropped_quotient_row p P x (pos word) (pos row.inverse) P_positive
    (Congruent-trans p (Congruent-equal p (ap pos same)) (Congruent-sym p (Congruent-residue p x positive))) unit)))))
  where
    p : ℕ
    p = row.modulus

    s : ℕ
    s = shifted_word P (residue P x)

    positive : 0 < row.modulus
    positive = let three = at.is.modulus.from_three in omega arith

    P_positive : 0 < P
    P_positive = let three = is.from_three in omega arith

    unit : Congruent row.modulus (pos row.inverse *ℤ pos P) (pos 1)
    unit = Congruent-trans p (Congruent-equal p (flip (pos row.inverse) (pos P))) (Congruent-unit p row.inverse P positive at.inverse)
      where
        flip : (a b : ℤ) → a *ℤ b ≡ b *ℤ a
        flip a b = omega (arith, ints)

pub rows_drop : (n : ℕ) (P : ℕ) (kept : List Kept) (before after : List (List ℕ)) → IsModulus P → All (IsKeptAt P) kept
    → ((i k : ℕ) → i < length kept → k < n → word_at after i k ≡ kept_word (slice_index_or kept i no_kept) (word_at before i k) (shifted_word P (word_at before (length kept) k)))
    → (x : ℕ → ℤ) → Represents n (kept_moduli kept ++ P ∷ []) before x → Represents n (kept_moduli kept) after (λ k. dropped_quotient P (x k))
rows_drop n P kept before after is each words x represents i k within l =
    words i k inside l
    ∙ ap (λ w. kept_word row (word_at before i k) (shifted_word P w)) last
    ∙ kept_is P (x k) row (word_at before i k) is (each i no_kept inside) (first ∙ ap (λ q. residue q (x k)) same)
    ∙ ap (λ q. residue q (dropped_quotient P (x k))) (sym same)
  where
    row : Kept
    row = slice_index_or kept i no_kept

    size : length (kept_moduli kept) ≡ length kept
    size = length-map kept (λ r. r.modulus)

    inside : i < length kept
    inside = subst (λ n. i < n) size within

    whole : length (kept_moduli kept ++ P ∷ []) ≡ length kept + 1
    whole = length-append (kept_moduli kept) (P ∷ []) ∙ ap (λ n. n + 1) size

    same : slice_index (kept_moduli kept) i ≡ row.modulus
    same = get_or-map (λ r. r.modulus) kept i no_kept 0 inside

    first : word_at before i k ≡ residue (slice_index (kept_moduli kept) i) (x k)
    first = (let here = inside in represents i k (rw whole (omega arith)) l) ∙ ap (λ q. residue q (x k)) (get_or-append (kept_moduli kept) (P ∷ []) 0 i within)

    last : word_at before (length kept) k ≡ residue P (x k)
    last = represents (length kept) k (rw whole (omega arith)) l
        ∙ ap (λ q. residue q (x k)) (ap (λ j. slice_index (kept_moduli kept ++ P ∷ []) j) (sym size) ∙ get_or-append_seam (kept_moduli kept) P [] 0)
