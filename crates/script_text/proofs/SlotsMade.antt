-- What an operation makes, slot by slot.
use Rattle.std.proofs.Common.{◌≡◌, ◌<◌, ℕ, ◌+◌, ◌/◌, List, [], length, get_or, slice_index_or, refl, sym, ap, ◌∙◌, arith}
use Rattle.ring_law.specs.Sums.{values_below}
use Rattle.ring_law.specs.Rows.{word_at}
use Rattle.ring_law.proofs.Values.{values_below-get_or}
use Rattle.ring_law.specs.Lists.{turned_left, exchanged}
use Rattle.script_text.specs.declared.script.Op.{Op}
use Rattle.script_text.specs.declared.script.Op.TheVariants.{Add, Sub, Neg, AddPlain, SubPlain, MulPlain, MulConst, Mul, Relin, Turn, Swap}
use Rattle.script_text.specs.Value.{value_made}
use Rattle.script_text.specs.Evaluating.{AreLists, IsWithin, slot_made}

half_of : (half : ℕ) → (half + half) / 2 ≡ half
half_of half = omega arith

pub value_made-slots : (half t : ℕ) (plains registers : List (List ℕ)) (op : Op) → AreLists (half + half) t registers → IsWithin t (length plains) (length registers) op
    → value_made (half + half) t plains registers op ≡ values_below (half + half) (slot_made half t plains registers op)
unfolding turned_left exchanged
value_made-slots half t plains registers (Add a b) lists within = refl
value_made-slots half t plains registers (Sub a b) lists within = refl
value_made-slots half t plains registers (Neg a) lists within = refl
value_made-slots half t plains registers (AddPlain a p) lists within = refl
value_made-slots half t plains registers (SubPlain a p) lists within = refl
value_made-slots half t plains registers (MulPlain a p) lists within = refl
value_made-slots half t plains registers (MulConst a k) lists within = refl
value_made-slots half t plains registers (Mul a b) lists within = refl
value_made-slots half t plains registers (Relin a) lists within =
    sym (values_below-get_or (half + half) (word_at registers a) (slice_index_or registers a []) 0 (lists a [] within.0.0).0 (λ i below. refl))
value_made-slots half t plains registers (Turn a k) lists within = ap (λ (h : ℕ). turned_left h k (slice_index_or registers a [])) (half_of half)
value_made-slots half t plains registers (Swap a) lists within = ap (λ (h : ℕ). exchanged h (slice_index_or registers a [])) (half_of half)

-- a list whose slots are these
pub list_is_made : (half t : ℕ) (plains registers : List (List ℕ)) (op : Op) (values : List ℕ) → AreLists (half + half) t registers → IsWithin t (length plains) (length registers) op
    → length values ≡ half + half → ((i : ℕ) → i < half + half → get_or values i 0 ≡ slot_made half t plains registers op i) → values ≡ value_made (half + half) t plains registers op
list_is_made half t plains registers op values lists within size same =
    sym (values_below-get_or (half + half) (slot_made half t plains registers op) values 0 size same) ∙ sym (value_made-slots half t plains registers op lists within)
