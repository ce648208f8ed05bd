-- The first place at which a test passes.
use Rattle.std.proofs.Common.{◌≡◌, ℕ, ◌<◌, Bool, true, false, cond, nat_lt, sym, ap, subst, arith, List, length, get_or, position, Some, None}
use Rattle.std.proofs.lemmas.Bool.{lt-ltb, le-ltb}
use Rattle.std.proofs.lemmas.List.Sums.{position_or_len_is}

pub position_at : (p : ℕ → Bool) (xs : List ℕ) (i : ℕ) → i < length xs → ((k : ℕ) → k < i → p (get_or xs k 0) ≡ false) →
    p (get_or xs i 0) ≡ true → Some i ≡ position p xs
position_at p xs i within before here =
    subst (λ n. Some i ≡ cond (nat_lt n (length xs)) (Some n) None)
    (sym (position_or_len_is p xs i 0 (omega arith) before (λ _. here)))
    (ap (λ test. cond test (Some i) None) (sym (lt-ltb i (length xs) within)))

pub position_none : (p : ℕ → Bool) (xs : List ℕ) → ((k : ℕ) → k < length xs → p (get_or xs k 0) ≡ false) → None ≡ position p xs
position_none p xs all =
    subst (λ n. None ≡ cond (nat_lt n (length xs)) (Some n) None)
    (sym (position_or_len_is p xs (length xs) 0 (omega arith) all (λ below. absurd (omega arith))))
    (ap (λ test. cond test (Some (length xs)) None) (sym (le-ltb (length xs) (length xs) (omega arith))))
