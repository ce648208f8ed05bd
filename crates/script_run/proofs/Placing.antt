-- Plans, register by register.
use Rattle.std.proofs.Common.{arith, ◌≡◌, ◌≢◌, ◌⊎◌, ℕ, zero, suc, ◌+◌, ◌<◌, ◌≤◌, max, refl, sym, ap, subst, ◌∙◌, ⊎_elim, inl, List, [], ◌∷◌, ◌++◌, length, take, slice_index, fold}
use Rattle.std.proofs.lemmas.Bool.{cases_eq, cases_lt}
use Rattle.std.proofs.lemmas.List.{get_or_push, get_or_append_left, length_push, length-take, get_or-take}
use Rattle.ring_law.specs.Sums.{values_below}
use Rattle.script_text.specs.Scripts.{Script}
use Rattle.script_run.specs.Ends.{AreEnds, IsTaken, taken_count}
use Rattle.script_run.specs.Registers.{IsPlan, Live, input_count, live_count, most_live}
use Rattle.script_run.proofs.Live.{live_before}
use Rattle.script_run.proofs.Counting.{all_taken, count_more, live_counted, most_next}

-- The registers before step i have places, which are taken until the ends of those that are live.
pub record PlacedBefore (script : Script) (ends places taken : List ℕ) (i most : ℕ) : Type 0 where
  pub size : length places ≡ input_count script + i
  pub own : (r : ℕ) → r < input_count script → slice_index places r ≡ r
  pub within : (r : ℕ) → r < length places → slice_index places r < length taken
  pub apart : (j r : ℕ) → j < i → Live script j r → slice_index places r ≢ slice_index places (input_count script + j)
  pub sits : (r : ℕ) → Live script i r → slice_index ends r ≤ slice_index taken (slice_index places r)
  pub counts : (j : ℕ) → i ≤ j → taken_count j taken ≡ taken_count j (take (input_count script + i) ends)
  pub greatest : most ≡ fold max 0 (values_below i (live_count script))
  pub room : length taken ≤ max most (taken_count i taken) + 1

pub placed_first : (script : Script) (ends places taken : List ℕ) (inputs : ℕ) → AreEnds script ends → inputs ≡ input_count script → length places ≡ inputs → ((r : ℕ) → r < inputs → slice_index places r ≡ r)
    → taken ≡ take inputs ends → PlacedBefore script ends places taken 0 0
placed_first script ends places taken inputs are is size own first =
    let all = are.size in
    let count : length taken ≡ inputs = (let short = ap length first ∙ length-take inputs ends in omega (arith, short, all, is)) in
    let same : inputs ≡ input_count script + 0 = omega (arith, is) in
    let end : (p : ℕ) → p < length taken → slice_index taken p ≡ slice_index ends p = λ p below. ap (λ (xs : List ℕ). slice_index xs p) first ∙ get_or-take inputs ends p 0 (omega (arith, below, count)) in
    record {
      size = size ∙ same;
      own = λ r below. own r (omega (arith, below, is));
      within = λ r below. let here = own r (omega (arith, below, size)) in omega (arith, here, below, count, size);
      apart = λ j r below live. absurd (omega (arith, below));
      sits = λ r live.
          let defined = live.defined in
          let here = own r (omega (arith, defined, is)) in
          let there = ap (slice_index taken) here ∙ end r (omega (arith, defined, is, count)) in
          omega (arith, there);
      counts = λ j later. ap (taken_count j) (first ∙ ap (λ (n : ℕ). take n ends) same);
      greatest = refl;
      room = (
          let every : taken_count 0 taken ≡ length taken = all_taken taken 0 (λ p below.
          let defined : p < input_count script + 0 = omega (arith, below, count, is) in
          let live : 0 < slice_index ends p = (are.live 0 p (omega arith) defined).0 (record { defined = defined; needed = inl refl }) in
          let there = end p below in
          omega (arith, live, there)) in
          omega (arith, every)
          );
    }

-- a register that is live before step i isn't in a place that is free before it
apart_from_free : (script : Script) (ends places taken : List ℕ) (i most until place : ℕ) (new : List ℕ) → AreEnds script ends → i ≤ length script.steps → PlacedBefore script ends places taken i most → IsTaken taken new i until place
    → (r : ℕ) → Live script i r → slice_index places r ≢ place
apart_from_free script ends places taken i most until place new are within placed took r live same =
    let end : i < slice_index ends r = (are.live i r within live.defined).0 live in
    let sits = placed.sits r live in
    let free = took.free in
    let there = ap (slice_index taken) same in
    omega (arith, end, sits, free, there)

pub placed_next : (script : Script) (ends places taken next new : List ℕ) (i most until place more count : ℕ) → AreEnds script ends → i < length script.steps → PlacedBefore script ends places taken i most
    → IsTaken taken new i until place → until ≡ slice_index ends (input_count script + i) → next ≡ places ++ place ∷ [] → count ≡ taken_count i taken → more ≡ max most count → PlacedBefore script ends next new (i + 1) more
placed_next script ends places taken next new i most until place more count are below placed took end pushed counted greater =
    let size = placed.size in
    let longer = ap length pushed ∙ length_push places place in
    let all = are.size in
    record {
      size = omega (arith, size, longer);
      own = λ r input. before r (omega (arith, size, input)) ∙ placed.own r input;
      within = λ r there. ⊎_elim
          (λ old. let is = before r old in let inside = placed.within r old in let grown = took.more in omega (arith, is, inside, grown))
          (λ last. let is = at_end r (omega (arith, there, last, longer)) in let inside = took.inside in omega (arith, is, inside))
          (cases_lt r (length places));
      apart = λ j r earlier live same.
          let defined = live.defined in
          ⊎_elim
          (λ old. placed.apart j r old live (sym (before r (omega (arith, defined, old, size))) ∙ same ∙ before (input_count script + j) (omega (arith, old, size))))
          (λ last.
          let now : j ≡ i = omega (arith, earlier, last) in
          apart r (subst (λ (k : ℕ). Live script k r) now live)
          (sym (before r (omega (arith, defined, now, size))) ∙ same ∙ at_end (input_count script + j) (omega (arith, now, size))))
          (cases_lt j i);
      sits = λ r live. sits r (subst (λ (k : ℕ). Live script k r) one_more live);
      counts = λ j later.
          let grown = took.later j (omega (arith, later)) in
          let old = placed.counts j (omega (arith, later)) in
          let added = count_more ends (input_count script + i) j (omega (arith, all, below)) in
          let last : taken_count j (until ∷ []) ≡ taken_count j (slice_index ends (input_count script + i) ∷ []) = ap (λ (e : ℕ). taken_count j (e ∷ [])) end in
          let where_to : input_count script + i + 1 ≡ input_count script + (i + 1) = omega arith in
          grown ∙ (let total : taken_count j taken + taken_count j (until ∷ []) ≡ taken_count j (take (input_count script + i + 1) ends) = omega (arith, old, added, last) in total) ∙ ap (λ (n : ℕ). taken_count j (take n ends)) where_to;
      greatest = greater ∙ ap (max most) (counted ∙ placed.counts i (omega arith) ∙ sym (live_counted script ends i are (omega (arith, below)))) ∙ most_next (live_count script) i most placed.greatest;
      room = (let few = took.few in let room = placed.room in omega (arith, few, room, counted, greater));
    }
  where
    one_more : i + 1 ≡ suc i
    one_more = omega arith

    before : (r : ℕ) → r < length places → slice_index next r ≡ slice_index places r
    before r there = ap (λ (xs : List ℕ). slice_index xs r) pushed ∙ get_or_append_left places (place ∷ []) 0 r there

    at_end : (r : ℕ) → length places ≡ r → slice_index next r ≡ place
    at_end r last = ap (λ (xs : List ℕ). slice_index xs r) pushed ∙ get_or_push places place 0 r last

    apart : (r : ℕ) → Live script i r → slice_index places r ≢ place
    apart r live = apart_from_free script ends places taken i most until place new are (omega (arith, below)) placed took r live

    sits : (r : ℕ) → Live script (suc i) r → slice_index ends r ≤ slice_index new (slice_index next r)
    sits r live =
        let size = placed.size in
        ⊎_elim
        (λ old.
        let defined = old.defined in
        let there : slice_index new (slice_index next r) ≡ slice_index taken (slice_index places r) = ap (slice_index new) (before r (omega (arith, defined, size))) ∙ took.others (slice_index places r) (apart r old) in
        let end = placed.sits r old in
        omega (arith, there, end))
        (λ result.
        let there : slice_index new (slice_index next r) ≡ until = ap (slice_index new) (at_end r (omega (arith, result, size))) ∙ took.here in
        let same : slice_index ends r ≡ until = ap (slice_index ends) result ∙ sym end in
        omega (arith, there, same))
        (live_before script i r live)

-- no two registers that are live at one moment have the same place, if the inputs have their own and no result has that of a register that is live before it
apart_all : (script : Script) (places : List ℕ) → ((r : ℕ) → r < input_count script → slice_index places r ≡ r)
    → ((j r : ℕ) → j < length script.steps → Live script j r → slice_index places r ≢ slice_index places (input_count script + j))
    → (i r other : ℕ) → i ≤ length script.steps → Live script i r → Live script i other → slice_index places r ≡ slice_index places other → r ≡ other
apart_all script places own result zero r other within live live_other same =
    let defined = live.defined in
    let defined_other = live_other.defined in
    sym (own r (omega (arith, defined))) ∙ same ∙ own other (omega (arith, defined_other))
apart_all script places own result (suc i) r other within live live_other same = ⊎_elim
    (λ old. ⊎_elim
    (λ old_other. apart_all script places own result i r other (omega (arith, within)) old old_other same)
    (λ last. absurd (result i r (omega (arith, within)) old (same ∙ ap (slice_index places) last)))
    (live_before script i other live_other))
    (λ first. ⊎_elim
    (λ old_other. absurd (result i other (omega (arith, within)) old_other (sym same ∙ ap (slice_index places) first)))
    (λ last. first ∙ sym last)
    (live_before script i other live_other))
    (live_before script i r live)

-- after the last step they are a plan in one place more than are live at most
pub placed_all : (script : Script) (ends places taken : List ℕ) (i most more count : ℕ) → AreEnds script ends → i ≡ length script.steps → PlacedBefore script ends places taken i most
    → count ≡ taken_count i taken → more ≡ max most count → IsPlan script places (more + 1) × (more ≡ most_live script)
placed_all script ends places taken i most more count are last placed counted greater =
    let size = placed.size in
    let room = placed.room in (
      record {
        size = omega (arith, size, last);
        within = λ r there. let inside = placed.within r there in omega (arith, inside, room, counted, greater);
        apart = apart_all script places placed.own (λ j r below live. placed.apart j r (omega (arith, below, last)) live);
        result = λ j r below live. placed.apart j r (omega (arith, below, last)) live;
      },
      greater ∙ ap (max most) (counted ∙ placed.counts i (omega arith) ∙ sym (live_counted script ends i are (omega (arith, last)))) ∙ most_next (live_count script) i most placed.greatest
          ∙ ap (λ (n : ℕ). fold max 0 (values_below (n + 1) (live_count script))) last,
    )
