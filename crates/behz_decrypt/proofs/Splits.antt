-- Rows that were split in two.
use Rattle.std.proofs.Common.{◌≡◌, ℕ, ◌+◌, ◌≤◌, arith, ap, ◌∙◌, List, length, take, drop}
use Rattle.std.proofs.lemmas.List.{length-drop, length-take-le}

-- the lengths of both parts
pub front_length : (k : ℕ) (rows front : List (List ℕ)) → front ≡ take k rows → k ≤ length rows → length front ≡ k
front_length k rows front is within = ap length is ∙ length-take-le k rows within

pub rest_length : (k n : ℕ) (rows rest : List (List ℕ)) → rest ≡ drop k rows → length rows ≡ k + n → length rest ≡ n
rest_length k n rows rest is whole = ap length is ∙ length-drop k rows ∙ omega arith
