-- A file read in pieces.
use Rattle.std.proofs.Common.{◌≡◌, ◌∙◌, ◌≤◌, ◌-◌, ◌++◌, ℕ, List, length, take, drop, sym, ap, arith, length-take, length-drop}
use Rattle.std.specs.Prelude.{Some, min}
use Rattle.std.proofs.lemmas.List.{take_at}
use Rattle.std.proofs.Math.Seq.{take-add}
use Rattle.outer_io.specs.Store.{Files, file, contents, Piece}

-- the first bytes of a file are read
pub record SoFar (files : Files) (name : List ℕ) (count : ℕ) (read : List ℕ) : Type 0 where
  pub there : file files name ≡ Some (contents files name)
  pub within : count ≤ length (contents files name)
  pub front : read ≡ take (length read) (contents files name)

-- the front of a buffer after a read
front_of_buffer : (bytes buffer old : List ℕ) (at n room : ℕ) → n ≡ min room (length bytes - at) → buffer ≡ take n (drop at bytes) ++ drop n old → take n buffer ≡ take n (drop at bytes)
front_of_buffer bytes buffer old at n room count is = ap (take n) is ∙ take_at (take n (drop at bytes)) (drop n old) n (simp (length-take, length-drop) (omega arith))

-- what a read copies is a piece of the file
pub piece_copied : (bytes buffer old : List ℕ) (at n room : ℕ) → n ≡ min room (length bytes - at) → buffer ≡ take n (drop at bytes) ++ drop n old → Piece bytes at n room buffer
piece_copied bytes buffer old at n room count is = record {
  joined = take-add at n bytes ∙ ap (λ (l : List ℕ). take at bytes ++ l) (sym (front_of_buffer bytes buffer old at n room count is));
  ends = λ none some. omega arith;
  fits = omega arith;
  inside = λ within. omega arith;
}
