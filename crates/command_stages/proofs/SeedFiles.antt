-- The front of a file, read into a buffer, and the stream of a seed.
use Rattle.std.proofs.Common.{◌≡◌, inr, ℕ, ◌+◌, ◌<◌, ◌≤◌, List, ◌++◌, length, take, refl, sym, ◌∙◌, ap, subst, arith, length-take}
use Rattle.std.specs.Prelude.{Option, Some, min, Result, Ok, Err, IfOk, IfErr}
use Rattle.std.specs.Option.{ForSome}
use Rattle.std.proofs.lemmas.Bool.{lt-ltb, le-ltb}
use Rattle.std.proofs.lemmas.Grind.{common_steps}
use Rattle.std.proofs.lemmas.List.{take_all}
use Rattle.std.proofs.Math.Seq.{take-append-add}
use borrow.Rule.Slice.PartMut.{post_of, put_mid}
use Rattle.outer_io.specs.Store.{Files, StoreState, OnlyReads, Piece, file, contents}
use Rattle.rand_core.specs.Steps.{stream_of, steps_u32}
use Rattle.rand_chacha.specs.ChaCha.{ChaCha, next_word, of_seed}
use Rattle.bfv_model.specs.Drawn.{seed_stream}
use Rattle.command_words.specs.declared.status.Status.{Status}
use Rattle.command_words.specs.declared.status.Status.TheVariants.{ShortSeed}
use Rattle.command_model.specs.Reading.{seed_file, said_by, taken}
use Rattle.command_stages.specs.Stages.{Untaken, Took}
use Rattle.command_stages.proofs.Causes.{caused_by_no_call}

-- the first bytes of a buffer are those of a file, which is there once a byte was read
pub record FrontRead (files : Files) (name : List ℕ) (filled : ℕ) (buffer : List ℕ) : Type 0 where
  pub same : take filled buffer ≡ take filled (contents files name)
  pub inside : filled ≤ length (contents files name)
  pub there : 0 < filled → file files name ≡ Some (contents files name)

-- a text cut within its first part
take_first : (n : ℕ) (x y : List ℕ) → n ≤ length x → take n (x ++ y) ≡ take n x
take_first n x y inside = grind (arith, common_steps)

-- what fits a part of a buffer
pub part_fits : (n k : ℕ) (buffer : List ℕ) → n ≤ length (take k buffer) → n ≤ k
part_fits n k buffer fits = omega (arith, length-take k buffer)

-- more bytes are read behind those that are there
pub front_more : (files : Files) (name : List ℕ) (filled n k room : ℕ) (buffer part : List ℕ) → FrontRead files name filled buffer → filled ≤ length buffer → length part ≡ room
    → file files name ≡ Some (contents files name) → Piece (contents files name) filled n room part → FrontRead files name (filled + n) (put_mid filled k buffer part)
front_more files name filled n k room buffer part front inside long there piece = record {
  same = ap (λ (m : ℕ). take (m + n) (put_mid filled k buffer part)) (sym count)
      ∙ take-append-add (take filled buffer) (part ++ post_of filled k buffer) n
      ∙ ap (λ (l : List ℕ). take filled buffer ++ l) (take_first n part (post_of filled k buffer) fits)
      ∙ ap (λ (l : List ℕ). l ++ take n part) front.same
      ∙ sym piece.joined;
  inside = piece.inside front.inside;
  there = λ _. there;
}
  where
    count : length (take filled buffer) ≡ filled
    count = length-take filled buffer ∙ omega arith

    fits : n ≤ length part
    fits = omega (arith, piece.fits)

-- a file that gives no byte more has ended
pub front_ends : (files : Files) (name : List ℕ) (filled n k room : ℕ) (buffer part : List ℕ) → FrontRead files name filled buffer → filled < length buffer → length part ≡ room
    → 0 < room → n ≡ 0 → file files name ≡ Some (contents files name) → Piece (contents files name) filled n room part
    → (filled ≡ min (length buffer) (length (contents files name))) × (take filled (put_mid filled k buffer part) ≡ take filled (contents files name))
front_ends files name filled n k room buffer part front inside long some none there piece =
    let more = front_more files name filled n k room buffer part front (omega arith) long there piece in
    let ended = piece.ends none some in
    let still : filled + n ≡ filled = omega arith in
    (omega (arith, front.inside), subst (λ (m : ℕ). take m (put_mid filled k buffer part) ≡ take m (contents files name)) still more.same)

-- the generator that a seed makes has the stream of the seed
pub generator_stream : (seed : List ℕ) (generator : ChaCha) → length seed ≡ 32 → generator ≡ of_seed seed → stream_of (steps_u32 (next_word 10)) generator ≡ seed_stream seed
unfolding seed_stream
generator_stream seed generator count is =
    ap (stream_of (steps_u32 (next_word 10))) (is ∙ ap of_seed (sym (take_all 32 seed (at_most count))))
  where
    at_most : length seed ≡ 32 → length seed ≤ 32
    at_most is = omega arith

-- ---- seeds
pub seed_of_long : (word : ℕ) (bytes : List ℕ) → 32 ≤ length bytes → said_by seed_file word bytes ≡ Ok (take 32 bytes)
seed_of_long word bytes long = rw (le-ltb (length bytes) 32 long) refl

pub seed_of_short : (word : ℕ) (bytes : List ℕ) → length bytes < 32 → said_by seed_file word bytes ≡ Err (ShortSeed word (length bytes))
seed_of_short word bytes short = rw (lt-ltb (length bytes) 32 short) refl

-- so many bytes were read into a buffer for a seed
abbrev pub IsFilled : Option Files → List ℕ → ℕ → List ℕ → Type 0
IsFilled told name have buffer = ForSome told (λ files.
    (file files name ≡ Some (contents files name)) × ((have ≡ min 32 (length (contents files name))) × (take have buffer ≡ take have (contents files name))))

pub took_seed : (name : List ℕ) (word have : ℕ) (old new : StoreState) (buffer : List ℕ) (result : Result (List ℕ) Status) → length buffer ≡ 32 → have ≤ 32 → OnlyReads old new
    → IsFilled old.files name have buffer → IfOk result (λ s. (s ≡ buffer) × (have ≡ 32)) → IfErr result (λ s. (s ≡ ShortSeed word have) × (have < 32))
    → Took name word seed_file (λ said seed. seed ≡ said) old new result
took_seed name word have old new buffer (Ok seed) size most keeps filled (seed_is, all) err = record {
  keeps = keeps;
  ok = (
    seed,
    (
      refl,
      record {
        may = (seed, seed_of_long word seed (long seed seed_is) ∙ ap Ok (take_all 32 seed (short seed seed_is)));
        says = λ files told.
            let read = filled files told in
            let enough : 32 ≤ length (contents files name) = omega (arith, read.1.0, all, size) in
            record {
              there = read.0;
              is = seed_of_long word (contents files name) enough ∙ ap Ok
                  (ap (λ (n : ℕ). take n (contents files name)) (sym all) ∙ sym read.1.1 ∙ ap (λ (n : ℕ). take n buffer) all ∙ take_all 32 buffer (omega (arith, size)) ∙ sym seed_is);
              held = tt;
            };
      },
    ),
  );
  err = tt;
}
  where
    long : (seed : List ℕ) → seed ≡ buffer → 32 ≤ length seed
    long seed is = let same = ap length is in omega (arith, same, size)

    short : (seed : List ℕ) → seed ≡ buffer → length seed ≤ 32
    short seed is = let same = ap length is in omega (arith, same, size)
took_seed name word have old new buffer (Err status) size most keeps filled ok (status_is, few) = record {
  keeps = keeps;
  ok = tt;
  err = subst (Untaken name word seed_file old new) (sym status_is) record {
    may = inr (inr (take have buffer, seed_of_short word (take have buffer) (omega (arith, length-take have buffer, size, few)) ∙ ap (λ (n : ℕ). Err (ShortSeed word n)) count));
    told = λ files told.
        let read = filled files told in
        let ends : length (contents files name) ≡ have = omega (arith, read.1.0, few, size) in
        inr (ap (taken seed_file word) read.0 ∙ seed_of_short word (contents files name) (omega (arith, ends, few)) ∙ ap (λ (n : ℕ). Err (ShortSeed word n)) ends);
    caused = caused_by_no_call (λ w. w ≡ word) old new (ShortSeed word have) tt (λ w at. cc) (λ w at whole. absurd (cc));
    reads = λ is. cc;
  };
}
  where
    count : length (take have buffer) ≡ have
    count = length-take have buffer ∙ omega (arith, size, few)
