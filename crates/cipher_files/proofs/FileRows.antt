-- Parts of a file that are read, and the words of its rows.
use Rattle.std.proofs.Common.{◌≡◌, ◌≢◌, ◌⊎◌, ℕ, ◌+◌, ◌-◌, ◌*◌, ◌/◌, ◌%◌, ◌<◌, ◌≤◌, List, [], ◌∷◌, ◌++◌, length, take, get_or, set, refl, sym, ◌∙◌, ap, subst, arith, inl, inr, length-set, get_or-set_same, get_or-set_other, zero-add}
use Rattle.std.specs.Prelude.{Some, None, slice_index, Err}
use Rattle.std.proofs.Math.Logic.{⊎_elim}
use Rattle.std.proofs.Math.Nat.{mul-le-mul_left}
use Rattle.std.proofs.lemmas.Nat.{div-mul-add}
use Rattle.std.proofs.lemmas.Bool.{cases_eq, cases_lt}
use Rattle.std.proofs.lemmas.List.{get_or_past, get_or-take, get_or_append_left, length-take-le}
use Rattle.std.proofs.Math.Seq.{get_or-append_right}
use Rattle.set_table.specs.Sets.{degree_of}
use Rattle.ring_law.specs.Rows.{IsReduced, word_at}
use Rattle.outer_io.specs.Store.{Files, file, contents}
use Rattle.outer_io.specs.declared.faults.Damage.TheVariants.{Field, Length, Digest, NotReduced, Changed}
use Rattle.bfv_params.specs.Rows.{ReducedInTurn, ZeroFrom}
use Rattle.file_model.specs.Bytes.{bytes_from, number_from, words_from}
use Rattle.file_model.specs.FileText.{FileContent, IsFile, row_count, row_moduli}
use Rattle.file_model.specs.Fronts.{stated_count, content_at}
use Rattle.file_model.proofs.Bytes.{number_from-bytes_from}
use Rattle.file_model.proofs.Words.{get_or-words_from, length-words_from}
use Rattle.file_model.proofs.Files.{file_is_read, file_length}
use Rattle.file_model.specs.declared.head.Head.{Head}
use Rattle.file_model.specs.declared.faults.FileFault.{FileFault}
use Rattle.file_model.specs.declared.faults.FileFault.TheVariants.{Missing, Failed, Memory, NotOurs, Version, Kind, Damaged}
use Rattle.file_model.specs.Heads.{content_with, IsHeadOf}
use Rattle.file_model.specs.Reading.{IsStoreFault, IsSecondFault, FileTold}
use Rattle.cipher_files.specs.SecondReading.{file_word, HoldsRow, HoldsRows}

-- the first words are those of a file from a place on
pub record WordsSoFar (files : Files) (name : List ℕ) (at done : ℕ) (out : List ℕ) : Type 0 where
  pub there : 0 < done → file files name ≡ Some (contents files name)
  pub inside : 0 < done → at + 8 * done ≤ length (contents files name)
  pub words : (k : ℕ) → k < done → slice_index out k ≡ number_from (at + 8 * k) 8 (contents files name)

-- a piece behind the first values of a list
values_more : (out new piece : List ℕ) (done count : ℕ) (value : ℕ → ℕ) → take (done + count) new ≡ take done out ++ piece
    → done ≤ length out → ((k : ℕ) → k < done → slice_index out k ≡ value k)
    → ((k : ℕ) → k < count → slice_index piece k ≡ value (done + k)) → (k : ℕ) → k < done + count → slice_index new k ≡ value k
values_more out new piece done count value is within before read k below =
    let first : length (take done out) ≡ done = length-take-le done out within in
    sym (get_or-take (done + count) new k 0 below) ∙ ap (λ (l : List ℕ). get_or l k 0) is
    ∙ ⊎_elim (λ (lt : k < done).
    get_or_append_left (take done out) piece 0 k (omega arith) ∙ get_or-take done out k 0 lt ∙ before k lt)
    (λ (le : done ≤ k).
    let place : k - length (take done out) ≡ k - done = omega arith in
    let here : done + (k - done) ≡ k = omega arith in
    get_or-append_right (take done out) piece k 0 (omega arith) ∙ ap (λ (i : ℕ). get_or piece i 0) place ∙ read (k - done) (omega arith) ∙ ap value here)
    (cases_lt k done)

-- one more piece of words is read
pub one_more_piece : (files : Files) (name : List ℕ) (at done count : ℕ) (buf out new piece : List ℕ) → WordsSoFar files name at done out
    → file files name ≡ Some (contents files name) → take (done + count) new ≡ take done out ++ piece → done ≤ length out
    → at + 8 * done + 8 * count ≤ length (contents files name)
    → buf ≡ bytes_from (at + 8 * done) (8 * count) (contents files name)
    → ((k : ℕ) → k < count → slice_index piece k ≡ number_from (8 * k) 8 buf)
    → WordsSoFar files name at (done + count) new
one_more_piece files name at done count buf out new piece so_far there is within ends read decoded = record {
  there = λ some. there;
  inside = λ some. omega arith;
  words = values_more out new piece done count (λ k. number_from (at + 8 * k) 8 (contents files name)) is within so_far.words (λ k below.
      let place : at + 8 * done + 8 * k ≡ at + 8 * (done + k) = omega arith in
      decoded k below ∙ ap (number_from (8 * k) 8) read
      ∙ number_from-bytes_from (at + 8 * done) 8 (8 * count) (8 * k) (contents files name) (omega arith)
      ∙ ap (λ (p : ℕ). number_from p 8 (contents files name)) place);
}

-- the first rows are those of a file from a row on, below moduli that come in turn
pub record RowsSoFar (files : Files) (name : List ℕ) (n start done : ℕ) (moduli : List ℕ) (rows : List (List ℕ)) : Type 0 where
  pub there : 0 < done → file files name ≡ Some (contents files name)
  pub held : HoldsRows n (contents files name) start done moduli
  pub words : (i k : ℕ) → i < done → k < n → word_at rows i k ≡ file_word n (contents files name) (start + i) k

-- one more row is read
pub one_more_row : (files : Files) (name : List ℕ) (n start done number q : ℕ) (moduli : List ℕ) (rows : List (List ℕ)) (row : List ℕ) → done < length rows
    → RowsSoFar files name n start done moduli rows → number ≡ start + done → q ≡ slice_index moduli (done % length moduli)
    → file files name ≡ Some (contents files name) → HoldsRow n (contents files name) number q
    → ((k : ℕ) → k < n → slice_index row k ≡ file_word n (contents files name) number k)
    → RowsSoFar files name n start (done + 1) moduli (set rows done row)
one_more_row files name n start done number q moduli rows row inside before place modulus there held read = record {
  there = λ some. there;
  held = λ i below.
      ⊎_elim (λ (lt : i < done). before.held i lt)
      (λ (le : done ≤ i).
      let is : i ≡ done = omega arith in
      subst (λ (j : ℕ). HoldsRow n (contents files name) (start + j) (slice_index moduli (j % length moduli))) (sym is)
      (subst (λ (m : ℕ). HoldsRow n (contents files name) m (slice_index moduli (done % length moduli))) place
      (subst (HoldsRow n (contents files name) number) modulus held)))
      (cases_lt i done);
  words = λ i k below inner.
      ⊎_elim (λ (lt : i < done). let other : i ≢ done = omega arith in ap (λ (r : List ℕ). slice_index r k) (get_or-set_other rows done i row [] other) ∙ before.words i k lt inner)
      (λ (le : done ≤ i).
      let is : i ≡ done = omega arith in
      subst (λ (j : ℕ). word_at (set rows done row) j k ≡ file_word n (contents files name) (start + j) k) (sym is)
      (ap (λ (r : List ℕ). slice_index r k) (get_or-set_same rows done row [] inside) ∙ read k inner ∙ ap (λ (j : ℕ). file_word n (contents files name) j k) place))
      (cases_lt i done);
}

-- rows that are zero stay so where one before them is written
pub zero_from-set : (n start i : ℕ) (rows : List (List ℕ)) (row : List ℕ) → i < start → ZeroFrom n start rows → ZeroFrom n start (set rows i row)
zero_from-set n start i rows row before zero j k from below inner =
    let other : j ≢ i = omega arith in
    ap (λ (r : List ℕ). slice_index r k) (get_or-set_other rows i j row [] other) ∙ zero j k from (omega (arith, length-set {A = List ℕ})) inner

-- of the faults of a second reading two are left where the file is neither missing nor changed
pub two_faults : (fault : FileFault) → IsSecondFault fault → (fault ≡ Missing → ⊥) → (fault ≡ Damaged Changed → ⊥) → (fault ≡ Failed) ⊎ (fault ≡ Memory)
two_faults Missing only there same = absurd (there refl)
two_faults Failed only there same = inl refl
two_faults Memory only there same = inr refl
two_faults (Damaged Changed) only there same = absurd (same refl)
two_faults NotOurs only there same = absurd only
two_faults (Version v) only there same = absurd only
two_faults (Kind k) only there same = absurd only
two_faults (Damaged (Field at)) only there same = absurd only
two_faults (Damaged (Length have want)) only there same = absurd only
two_faults (Damaged Digest) only there same = absurd only
two_faults (Damaged (NotReduced i)) only there same = absurd only

-- a row that the file holds isn't answered with `Changed`
pub held_row-unchanged : (files : Files) (name : List ℕ) (n number q : ℕ) (fault : FileFault)
    → IsStoreFault fault ⊎ ((file files name ≡ Some (contents files name)) × (HoldsRow n (contents files name) number q → ⊥))
    → HoldsRow n (contents files name) number q → fault ≡ Damaged Changed → ⊥
held_row-unchanged files name n number q fault told holds is =
    ⊎_elim (λ (s : IsStoreFault fault). subst IsStoreFault is s)
    (λ (b : (file files name ≡ Some (contents files name)) × (HoldsRow n (contents files name) number q → ⊥)). b.1 holds) told

-- where the bytes end before a row does, the file doesn't hold it
pub row_short : (files : Files) (name : List ℕ) (n number q len : ℕ) (fault : FileFault) → len ≡ n
    → IsStoreFault fault ⊎ ((file files name ≡ Some (contents files name)) × (length (contents files name) < 64 + 8 * (number * n) + 8 * len))
    → IsStoreFault fault ⊎ ((file files name ≡ Some (contents files name)) × (HoldsRow n (contents files name) number q → ⊥))
row_short files name n number q len fault same told =
    ⊎_elim (λ (s : IsStoreFault fault). inl s)
    (λ (b : (file files name ≡ Some (contents files name)) × (length (contents files name) < 64 + 8 * (number * n) + 8 * len)).
    let short = b.1 in
    inr (b.0, λ holds. let inside = holds.inside in omega arith)) told

-- a number among the words of a file
pub file_number : (bytes : List ℕ) (c : FileContent) (p : ℕ) → IsFile bytes c → p < length c.words → number_from (64 + 8 * p) 8 bytes ≡ slice_index c.words p
unfolding content_at
file_number bytes c p is below =
    let read : words_from 64 (stated_count bytes) bytes ≡ c.words = ap (λ (x : FileContent). x.words) (file_is_read bytes c is).content in
    let count : stated_count bytes ≡ length c.words = sym (length-words_from 64 (stated_count bytes) bytes) ∙ ap length read in
    sym (get_or-words_from 64 (stated_count bytes) bytes p (omega arith)) ∙ ap (λ (l : List ℕ). get_or l p 0) read

-- a place in a row that is one of so many
pub place_inside : (n rows i k : ℕ) → i < rows → k < n → i * n + k < rows * n
place_inside n rows i k below inner = let room : n * (i + 1) ≤ n * rows = mul-le-mul_left n (omega arith) in omega arith

-- the rows of a file
pub file_rows : (bytes : List ℕ) (c : FileContent) (n : ℕ) → IsFile bytes c → degree_of c.set ≡ n
    → HoldsRows n bytes 0 (row_count c.kind c.set c.parts) (row_moduli c.kind c.set)
file_rows bytes c n is degree i below =
    let rows = row_count c.kind c.set c.parts in
    let moduli = row_moduli c.kind c.set in
    let count : length c.words ≡ rows * n = is.rules.count ∙ ap (λ (d : ℕ). rows * d) degree in
    let room : n * (i + 1) ≤ n * rows = mul-le-mul_left n (omega arith) in
    subst (λ (j : ℕ). HoldsRow n bytes j (slice_index moduli (i % length moduli))) (sym (zero-add i)) (record {
      inside = omega (arith, file_length bytes c is);
      reduced = λ k inner.
          let here : i * n + k < length c.words = omega arith in
          let row : (i * n + k) / degree_of c.set ≡ i = ap (λ (d : ℕ). (i * n + k) / d) degree ∙ div-mul-add i n k inner in
          subst (λ (w : ℕ). w < slice_index moduli (i % length moduli)) (sym (file_number bytes c (i * n + k) is here))
          (subst (λ (r : ℕ). slice_index c.words (i * n + k) < slice_index moduli (r % length moduli)) row (is.rules.reduced (i * n + k) here));
    })

-- a word of a row of a file
pub row_word : (bytes : List ℕ) (c : FileContent) (n i k : ℕ) → IsFile bytes c → degree_of c.set ≡ n → i < row_count c.kind c.set c.parts → k < n
    → file_word n bytes i k ≡ slice_index c.words (i * n + k)
row_word bytes c n i k is degree below inner =
    let rows = row_count c.kind c.set c.parts in
    let count : length c.words ≡ rows * n = is.rules.count ∙ ap (λ (d : ℕ). rows * d) degree in
    file_number bytes c (i * n + k) is (omega (arith, place_inside n rows i k below inner))

-- no word stands behind the last row
pub row_past : (bytes : List ℕ) (c : FileContent) (n i k : ℕ) → IsFile bytes c → degree_of c.set ≡ n → row_count c.kind c.set c.parts ≤ i
    → slice_index c.words (i * n + k) ≡ 0
row_past bytes c n i k is degree past =
    let rows = row_count c.kind c.set c.parts in
    let count : length c.words ≡ rows * n = is.rules.count ∙ ap (λ (d : ℕ). rows * d) degree in
    let room : n * rows ≤ n * i = mul-le-mul_left n past in
    get_or_past c.words (i * n + k) 0 (omega arith)

-- a file of this head is the file of its fields and its own words
pub file_of_head : (bytes : List ℕ) (head : Head) (c : FileContent) → IsFile bytes c → IsHeadOf head c → IsFile bytes (content_with head c.words)
file_of_head bytes head c is head_of = subst (IsFile bytes) head_of.states is

-- a row among those of a file
pub one_row : (n start count i number q : ℕ) (bytes moduli : List ℕ) → HoldsRows n bytes start count moduli → i < count → number ≡ start + i
    → q ≡ slice_index moduli (i % length moduli) → HoldsRow n bytes number q
one_row n start count i number q bytes moduli holds below is modulus =
    subst (HoldsRow n bytes number) (sym modulus) (subst (λ (j : ℕ). HoldsRow n bytes j (slice_index moduli (i % length moduli))) (sym is) (holds i below))

-- where the file holds the row that a reader was refused, this is a fault of the store
pub row_refused : {files : Files} {name : List ℕ} {n number q : ℕ} {fault : FileFault} {P : List ℕ → Unit {0} → Type 0}
    → FileTold {T = Unit {0}} files name (Err fault) P (λ bytes _. HoldsRow n bytes number q → ⊥)
    → IsSecondFault fault → file files name ≡ Some (contents files name) → HoldsRow n (contents files name) number q
    → (fault ≡ Failed) ⊎ (fault ≡ Memory)
row_refused {files} {name} {n} {number} {q} {fault} told only there holds =
    two_faults fault only
    (λ is. let none : file files name ≡ None = told.missing (ap Err is) in absurd (cc))
    (held_row-unchanged files name n number q fault told.fault holds)

-- where a row isn't held that is one of more, these aren't held
pub rows_refused : (files : Files) (name : List ℕ) (n number q : ℕ) (fault : FileFault) (all : Type 0)
    → IsStoreFault fault ⊎ ((file files name ≡ Some (contents files name)) × (HoldsRow n (contents files name) number q → ⊥))
    → (all → HoldsRow n (contents files name) number q)
    → IsStoreFault fault ⊎ ((file files name ≡ Some (contents files name)) × (all → ⊥))
rows_refused files name n number q fault all told one =
    ⊎_elim (λ (s : IsStoreFault fault). inl s)
    (λ (b : (file files name ≡ Some (contents files name)) × (HoldsRow n (contents files name) number q → ⊥)). inr (b.0, λ holds. b.1 (one holds))) told

-- rows that were read have the words of the file
pub row_read : (files : Files) (name : List ℕ) (c : FileContent) (n start done r number k : ℕ) (moduli : List ℕ) (rows : List (List ℕ))
    → RowsSoFar files name n start done moduli rows → IsFile (contents files name) c → degree_of c.set ≡ n → r < done → number ≡ start + r
    → number < row_count c.kind c.set c.parts → k < n → word_at rows r k ≡ slice_index c.words (number * n + k)
row_read files name c n start done r number k moduli rows read is degree below place inside inner =
    read.words r k below inner ∙ ap (λ (j : ℕ). file_word n (contents files name) j k) (sym place)
    ∙ row_word (contents files name) c n number k is degree inside inner

-- a word of a row by its place among the bytes
pub file_word-place : (bytes : List ℕ) (number n k : ℕ) → number_from (64 + 8 * (number * n) + 8 * k) 8 bytes ≡ file_word n bytes number k
file_word-place bytes number n k =
    let place : 64 + 8 * (number * n) + 8 * k ≡ 64 + 8 * (number * n + k) = omega arith in
    ap (λ (p : ℕ). number_from p 8 bytes) place

-- the same of a row of a whole file
pub row_in_turn : (n rows i q : ℕ) (bytes moduli : List ℕ) → HoldsRows n bytes 0 rows moduli → i < rows
    → q ≡ slice_index moduli (i % length moduli) → HoldsRow n bytes i q
row_in_turn n rows i q bytes moduli holds below modulus = one_row n 0 rows i i q bytes moduli holds below (sym (zero-add i)) modulus

-- one row is all that there are
pub one_row_held : (n : ℕ) (bytes : List ℕ) (q count : ℕ) (moduli : List ℕ) → HoldsRow n bytes 0 q → count ≡ 1 → moduli ≡ q ∷ []
    → HoldsRows n bytes 0 count moduli
one_row_held n bytes q count moduli held one is i below =
    let first : i ≡ 0 = omega arith in
    subst (λ (j : ℕ). HoldsRow n bytes (0 + j) (slice_index moduli (j % length moduli))) (sym first)
    (subst (λ (ms : List ℕ). HoldsRow n bytes 0 (slice_index ms (0 % length ms))) (sym is) held)

-- counted from the first row
pub first_rows : (n : ℕ) (bytes : List ℕ) (r k : ℕ) → file_word n bytes (0 + r) k ≡ file_word n bytes r k
first_rows n bytes r k = ap (λ (j : ℕ). file_word n bytes j k) (zero-add r)

-- two or three parts have a row
pub some_rows : (parts count : ℕ) → (parts ≡ 2) ⊎ (parts ≡ 3) → 0 < count → 0 < parts * count
some_rows parts count two_or_three some =
    ⊎_elim (λ (two : parts ≡ 2). let e = ap (λ (p : ℕ). p * count) two in omega arith)
    (λ (three : parts ≡ 3). let e = ap (λ (p : ℕ). p * count) three in omega arith) two_or_three

-- rows that are reduced stay so where a reduced one is written among them
pub reduced_set : (n count : ℕ) (moduli : List ℕ) (rows : List (List ℕ)) (row : List ℕ) (r : ℕ) → r < length rows
    → IsReduced n (slice_index moduli (r % count)) row → ReducedInTurn n count moduli rows → ReducedInTurn n count moduli (set rows r row)
reduced_set n count moduli rows row r inside is before i below =
    ⊎_elim (λ (same : i ≡ r).
    subst (λ (j : ℕ). IsReduced n (slice_index moduli (j % count)) (get_or (set rows r row) j [])) (sym same)
    (subst (IsReduced n (slice_index moduli (r % count))) (sym (get_or-set_same rows r row [] inside)) is))
    (λ (other : i ≢ r).
    subst (IsReduced n (slice_index moduli (i % count))) (sym (get_or-set_other rows r i row [] other))
    (before i (omega (arith, length-set {A = List ℕ}))))
    (cases_eq i r)
