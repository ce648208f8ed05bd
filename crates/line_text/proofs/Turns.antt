-- The turns of a loop over the lines of a text, each of which reads one more line.
use Rattle.std.proofs.Common.{◌≡◌, ◌<◌, ℕ, ◌+◌, List, [], ◌∷◌, ◌++◌, length, drop, get_or, Result, Ok, Err, ap, sym, ◌∙◌, arith}
use Rattle.std.proofs.lemmas.List.{drop_more, drop_all}
use Rattle.line_text.specs.Lines.{Line, counted_from}
use Rattle.line_text.proofs.Pieces.{counted_from-cons}

-- what follows from a result without fault
abbrev pub followed : {A B E : Type 0} → Result A E → (A → Result B E) → Result B E
followed (Ok x) next = next x
followed (Err fault) next = Err fault

-- what lines give after what was read before them; lines in two stretches are read one stretch after the other
pub record ReadsOn {A E : Type 0} (read : A → List Line → Result A E) : Type 0 where
  pub none : (so_far : A) → read so_far [] ≡ Ok so_far
  pub append : (so_far : A) (lines others : List Line) → read so_far (lines ++ others) ≡ followed (read so_far lines) (λ next. read next others)

module _ {A E : Type 0} (read : A → List Line → Result A E) (on : ReadsOn read) where
  -- what the lines from one on give, by what that one gives
  line_turn : (so_far : A) (at i : ℕ) (line : List ℕ) (pieces : List (List ℕ)) → (i < length pieces) × (line ≡ get_or pieces i line)
      → read so_far (counted_from at (drop i pieces)) ≡ followed (read so_far (counted_from at (line ∷ []))) (λ next. read next (counted_from (at + 1) (drop (i + 1) pieces)))
  line_turn so_far at i line pieces turn =
      ap (λ (ps : List (List ℕ)). read so_far (counted_from at ps)) (drop_more pieces i line turn.0 ∙ ap (λ (l : List ℕ). l ∷ drop (i + 1) pieces) (sym turn.1))
      ∙ ap (read so_far) (counted_from-cons at line (drop (i + 1) pieces))
      ∙ on.append so_far (counted_from at (line ∷ [])) (counted_from (at + 1) (drop (i + 1) pieces))

  -- a line without fault
  pub line_taken : (all : Result A E) (so_far next : A) (at i : ℕ) (line : List ℕ) (pieces : List (List ℕ)) → (i < length pieces) × (line ≡ get_or pieces i line)
      → all ≡ read so_far (counted_from at (drop i pieces)) → read so_far (counted_from at (line ∷ [])) ≡ Ok next → all ≡ read next (counted_from (at + 1) (drop (i + 1) pieces))
  line_taken all so_far next at i line pieces turn before taken =
      before ∙ line_turn so_far at i line pieces turn ∙ ap (λ (r : Result A E). followed r (λ next. read next (counted_from (at + 1) (drop (i + 1) pieces)))) taken

  -- a line with a fault
  pub line_refused : (all : Result A E) (so_far : A) (fault : E) (at i : ℕ) (line : List ℕ) (pieces : List (List ℕ)) → (i < length pieces) × (line ≡ get_or pieces i line)
      → all ≡ read so_far (counted_from at (drop i pieces)) → read so_far (counted_from at (line ∷ [])) ≡ Err fault → all ≡ Err fault
  line_refused all so_far fault at i line pieces turn before refused =
      before ∙ line_turn so_far at i line pieces turn ∙ ap (λ (r : Result A E). followed r (λ next. read next (counted_from (at + 1) (drop (i + 1) pieces)))) refused

  -- no line is left
  pub lines_end : (so_far : A) (at i : ℕ) (pieces : List (List ℕ)) → length pieces ≡ i → read so_far (counted_from at (drop i pieces)) ≡ Ok so_far
  lines_end so_far at i pieces all = ap (λ (ps : List (List ℕ)). read so_far (counted_from at ps)) (drop_all i pieces (omega arith)) ∙ on.none so_far
