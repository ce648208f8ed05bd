use Rattle.std.proofs.Common.{◌≡◌, ◌≢◌, ℕ, ◌<◌, ◌≤◌, [], get_or, slice_index}
use Rattle.ring_law.specs.Residues.{residue}
use Rattle.ring_law.specs.Rows.{word_at}
use Rattle.fast_conv.specs.Rows.{combination, no_output}
use Rattle.fast_conv.proofs.floor.replace_column.Given as goal

abbrev pub invariant-loop-j : goal.invariant-loop-j
invariant-loop-j g l = record {
  set : (j : ℕ) → j < l.j → word_at l.to j l.k ≡ residue (get_or l.outputs j no_output).modulus (combination (get_or l.outputs j no_output) (slice_index l.words) (word_at l.fn.to j l.k));
  rest : (j m : ℕ) → m ≢ l.k → word_at l.to j m ≡ word_at l.fn.to j m;
  later : (j : ℕ) → l.j ≤ j → get_or l.to j [] ≡ get_or l.fn.to j [];
}
