-- The stretches of a text are what `windows` gives.
use Rattle.std.proofs.Common.{◌≡◌, ◌<◌, ◌≤◌, ℕ, List, [], ◌∷◌, length, take, drop, refl, arith, Some, None, Bor}
use Rattle.std.proofs.lemmas.Bool.Decides.{nat_tests}
use Rattle.std.proofs.lemmas.Iterator.{YieldsList}
use Rattle.std.proofs.lemmas.Iterator.Splits.{YieldsList-from_shown_while}
use Rattle.std.specs.declared.slice.Windows.{Windows}
use Rattle.std.specs.Slice.Iter.{windows_steps, windows_rest, windows_size}
use Rattle.script_text.specs.Reading.{stretches}

-- a text that is too short has none
stretches_none : (n : ℕ) (text : List ℕ) → length text < n → length (stretches n text) ≡ 0
stretches_none n [] short = refl
stretches_none n (byte ∷ bytes) short = grind (arith, nat_tests)

-- and one that is long enough begins with one
stretches_more : (n : ℕ) (text : List ℕ) → 0 < n → n ≤ length text → stretches n text ≡ take n text ∷ stretches n (drop 1 text)
stretches_more n [] some long = absurd (omega arith)
stretches_more n (byte ∷ bytes) some long = grind (arith, nat_tests)

abbrev stretches_left : Windows ℕ → List (List ℕ)
stretches_left s = stretches (windows_size s) (windows_rest s)

ends : (s t : Windows ℕ) → 0 < windows_size s → windows_steps s None t → length (stretches_left s) ≡ 0
ends s t some step = stretches_none _ _ step.1.0

gives : (s : Windows ℕ) (x : Bor (List ℕ)) (t : Windows ℕ) → 0 < windows_size s → windows_steps s (Some x) t → (0 < windows_size t) × (stretches_left s ≡ x.now ∷ stretches_left t)
gives s x t some step =
    let more : stretches (windows_size s) (windows_rest s) ≡ take (windows_size s) (windows_rest s) ∷ stretches (windows_size s) (drop 1 (windows_rest s)) = stretches_more _ _ some step.1.0 in
    (omega arith, cc)

pub YieldsList-from_windows : {s : Windows ℕ} (n : ℕ) (text : List ℕ) → windows_rest s ≡ text → windows_size s ≡ n → 0 < n → YieldsList windows_steps (λ w. w.now) s (stretches n text)
YieldsList-from_windows {s} n text rest size some = rw (← rest, ← size) (YieldsList-from_shown_while windows_steps (λ w. w.now) stretches_left (λ w. 0 < windows_size w) ends gives s (omega arith))
