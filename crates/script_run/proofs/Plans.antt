-- Plans, and the ciphers at all places.
use Rattle.std.proofs.Common.{arith, ◌≡◌, ◌≢◌, ◌⊎◌, ℕ, zero, suc, ◌+◌, ◌<◌, ◌≤◌, true, sym, ap, subst, ◌∙◌, ⊎_elim, inl, inr, List, ◌++◌, take, drop, length, slice_index}
use Rattle.std.proofs.lemmas.Bool.{cases_eq, cases_lt}
use Rattle.std.proofs.lemmas.List.{take_at}
use Rattle.set_table.specs.declared.SetName.{SetName}
use Rattle.set_table.specs.Sets.{data_of}
use Rattle.script_text.specs.Scripts.{Script}
use Rattle.bfv_params.specs.Contexts.{scratch_rows_in}
use Rattle.bfv_params.specs.Values.{CipherValue, ContextValue}
use Rattle.bfv_params.specs.Ciphers.{IsCipherOf}
use Rattle.script_run.specs.Registers.{IsPlan, input_count}
use Rattle.script_run.specs.Places.{cipher_at}
use Rattle.script_run.specs.Workspaces.{WorkspaceValue, IsWorkspace, MadeFor, SameShape, input_of, whole_context}

-- an input has the place, or none has it
input_at : (inputs : ℕ) (plan : List ℕ) (p : ℕ) → ((r : ℕ) × (r < inputs) × (slice_index plan r ≡ p)) ⊎ ((r : ℕ) → r < inputs → slice_index plan r ≢ p)
input_at zero plan p = inr (λ r below equal. absurd (omega (arith, below)))
input_at (suc inputs) plan p = ⊎_elim
    (λ (r, below, is). inl (r, omega (arith, below), is))
    (λ none. ⊎_elim (λ is. inl (inputs, omega arith, is))
    (λ not. inr (λ r below equal. ⊎_elim (λ before. none r before equal) (λ last. not (ap (slice_index plan) (same inputs r below last) ∙ equal)) (cases_lt r inputs)))
    (cases_eq (slice_index plan inputs) p))
    (input_at inputs plan p)
  where
    same : (inputs r : ℕ) → r < suc inputs → inputs ≤ r → inputs ≡ r
    same inputs r below last = omega arith

of_context : (set : SetName) (ctx : ContextValue) (cipher : CipherValue) → set ≡ ctx.set → ctx.level ≡ length (data_of ctx.set) → IsCipherOf (whole_context set) cipher → IsCipherOf ctx cipher
of_context set ctx cipher same level kept = record { set = kept.set ∙ same; level = kept.level ∙ ap (λ (s : SetName). length (data_of s)) same ∙ sym level }

-- the cipher at each place is of the context, if those of the inputs are
pub places_of_context : (n : ℕ) (space : WorkspaceValue) (scratch : ℕ) (ctx : ContextValue) → IsWorkspace n space scratch → space.set ≡ ctx.set → ctx.level ≡ length (data_of ctx.set)
    → ((r : ℕ) → r < space.inputs → IsCipherOf ctx (input_of space r)) → (p : ℕ) → p < length space.places → IsCipherOf ctx (cipher_at space.places p)
places_of_context n space scratch ctx kept same level inputs p inside = ⊎_elim
    (λ (r, below, is). subst (λ (k : ℕ). IsCipherOf ctx (cipher_at space.places k)) is (inputs r below))
    (λ none. of_context space.set ctx (cipher_at space.places p) same level (kept.others p inside none))
    (input_at space.inputs space.plan p)

-- a cipher of the context of all data moduli
pub of_whole : (ctx : ContextValue) (set : SetName) (cipher : CipherValue) → set ≡ ctx.set → ctx.level ≡ length (data_of ctx.set) → IsCipherOf ctx cipher → IsCipherOf (whole_context set) cipher
of_whole ctx set cipher same level kept = record { set = kept.set ∙ sym same; level = kept.level ∙ level ∙ ap (λ (s : SetName). length (data_of s)) (sym same) }

-- the rows to work in are those that the context asks for
pub scratch_of_context : (n : ℕ) (space : WorkspaceValue) (scratch : ℕ) (ctx : ContextValue) → IsWorkspace n space scratch → space.set ≡ ctx.set → ctx.level ≡ length (data_of ctx.set)
    → scratch ≡ scratch_rows_in ctx
scratch_of_context n space scratch ctx kept same level =
    kept.scratch_rows ∙ ap (λ (s : SetName). scratch_rows_in (whole_context s)) same ∙ ap (λ (k : ℕ). scratch_rows_in record { set = ctx.set; level = k }) (sym level)

-- what a workspace keeps once more, after all its places were written
pub kept_after : (n : ℕ) (space : WorkspaceValue) (scratch rows : ℕ) (ctx : ContextValue) (places : List CipherValue) (place : ℕ) → IsWorkspace n space scratch → space.set ≡ ctx.set → ctx.level ≡ length (data_of ctx.set)
    → length places ≡ length space.places → ((p : ℕ) → p < length places → IsCipherOf ctx (cipher_at places p)) → place < length places → rows ≡ scratch
    → IsWorkspace n (record (space) { places = places; done = true; place = place }) rows
kept_after n space scratch rows ctx places place kept same level count all there size = record {
  degree = kept.degree;
  planned = kept.planned;
  within = λ r planned. subst (λ (k : ℕ). slice_index space.plan r < k) (sym count) (kept.within r planned);
  there = λ _. there;
  others = λ p inside none. of_whole ctx space.set (cipher_at places p) same level (all p inside);
  scratch_rows = size ∙ kept.scratch_rows;
}

-- a workspace whose shape stays is made for the same scripts
pub still_made : (script : Script) (old new : WorkspaceValue) → MadeFor script old → SameShape old new → MadeFor script new
still_made script old new made same = record {
  same_set = same.set ∙ made.same_set;
  plan = subst (λ (p : List ℕ). IsPlan script p (length new.places)) (sym same.plan) (subst (λ (count : ℕ). IsPlan script old.plan count) (sym same.count) made.plan);
  plains = let more = made.plains in let count = same.plain_count in omega arith;
}

-- a list that is written whole
pub written_whole : {A : Type 0} (count : ℕ) (new old : List A) → length new ≡ count → take count (new ++ drop (length new) old) ≡ new
written_whole count new old size = take_at new (drop (length new) old) count size
