-- The answer of a comparison as a test.
use Rattle.std.proofs.Common.{◌≡◌, ℕ, ◌<◌, ◌≤◌, ◌⊎◌, inl, inr, nat_lt, ◌==◌, nat_cmp, Ordering, Less, Equal, Greater, sym, ap, ◌∙◌, arith}
use Rattle.std.specs.Cmp.{nat_cmp_is}
use Rattle.std.specs.Ordering.{ordering_index}
use Rattle.std.proofs.lemmas.Bool.{cases_lt, lt-ltb, le-ltb}

pub greater-above : (x y : ℕ) (order : Ordering) → order ≡ nat_cmp x y → (ordering_index order == 2) ≡ nat_lt y x
greater-above x y order is = ap (λ r. ordering_index r == 2) is ∙ by (cases_lt y x) (cases_lt x y)
  where
    by : (y < x) ⊎ (x ≤ y) → (x < y) ⊎ (y ≤ x) → (ordering_index (nat_cmp x y) == 2) ≡ nat_lt y x
    by (inl above) other = ap (λ r. ordering_index r == 2) (sym (nat_cmp_is x y Greater above)) ∙ sym (lt-ltb y x above)
    by (inr most) (inl below) = ap (λ r. ordering_index r == 2) (sym (nat_cmp_is x y Less below)) ∙ sym (le-ltb y x most)
    by (inr most) (inr least) = ap (λ r. ordering_index r == 2) (sym (nat_cmp_is x y Equal (omega arith))) ∙ sym (le-ltb y x most)
