use Rattle.std.proofs.Common.{rules, arith, ◌≡◌, ◌<◌, ◌≤◌, ℕ, List, [], ◌∙◌, ap, sym, subst, length, slice_index, slice_index_or, true, take, drop, ◌++◌}
use Rattle.set_table.specs.Sets.{degree_of, plain_of}
use Rattle.ring_law.specs.Rows.{IsReduced}
use Rattle.script_text.specs.Scripts.{plain_inputs}
use Rattle.script_text.specs.Value.{value_of}
use Rattle.noise_check.specs.ExactBounds.{exact_bounds}
use Rattle.bfv_params.specs.Values.{CipherValue}
use Rattle.bfv_params.specs.Ciphers.{IsCipherOf}
use Rattle.script_run.specs.Registers.{IsPlan, input_count}
use Rattle.script_run.specs.Places.{cipher_at}
use Rattle.script_run.specs.Runs.{Carries, InputsCarry}
use Rattle.script_run.specs.Workspaces.{MadeFor, IsWorkspace, WorkspaceValue, input_of}
use Rattle.script_run.proofs.Plans.{kept_after, written_whole, places_of_context, scratch_of_context}
use Rattle.script_run.proofs.workspace.Workspace.execute.Goals as goal

pub run-self-inside-requires : goal.run-self-inside-requires
run-self-inside-requires g c =
    let inside = c.self.inside in
    let ctx = c.args.ctx.now in
    let script = c.args.script.now in
    let space : WorkspaceValue = record { set = inside.set; inputs = inside.inputs; plan = inside.plan.items; places = inside.ciphers.items; plains = inside.plains.items; done = inside.done; place = inside.place } in
    let is : c.args.self.now ≡ space = sym c.self.view_is in
    let made : MadeFor script space = subst (MadeFor script) is c.requires.made in
    let same : space.set ≡ ctx.set = made.same_set ∙ c.requires.same_set in
    let inputs : (r : ℕ) → r < space.inputs → IsCipherOf ctx (input_of space r) = subst (λ (s : WorkspaceValue). (r : ℕ) → r < s.inputs → IsCipherOf ctx (input_of s r)) is c.requires.ciphers in
    let parts : (r : ℕ) → r < input_count script → (input_of space r).parts ≡ 2 = subst (λ (s : WorkspaceValue). (r : ℕ) → r < input_count script → (input_of s r).parts ≡ 2) is c.requires.parts in
    let plains : (p : ℕ) → p < length (plain_inputs script.inputs) → IsReduced g.row.N (plain_of ctx.set) (slice_index_or space.plains p [])
    = subst (λ (s : WorkspaceValue). (p : ℕ) → p < length (plain_inputs script.inputs) → IsReduced g.row.N (plain_of ctx.set) (slice_index_or s.plains p [])) is c.requires.plains in
    let ciphers_are = sym c.deref_mut.ensures.value in
    let plan_is = sym c.deref.ensures.value in
    let plains_are = sym c.deref-2.ensures.value in (
      search rules,
      (
        search rules,
        (
          search rules,
          (
            search rules,
            (
              c.self.invariant.degree ∙ ap degree_of same,
              (
                c.requires.same_set,
                (
                  c.requires.level,
                  (
                    c.requires.keyless,
                    (
                      subst (λ (places : List CipherValue). IsPlan script c.deref.result.now (length places)) ciphers_are
                          (subst (λ (plan : List ℕ). IsPlan script plan (length inside.ciphers.items)) plan_is made.plan),
                      (
                        subst (λ (places : List CipherValue). (p : ℕ) → p < length places → IsCipherOf ctx (cipher_at places p)) ciphers_are
                            (places_of_context g.row.N space (length inside.scratch) ctx c.self.invariant same c.requires.level inputs),
                        (
                          subst (λ (places : List CipherValue). (r : ℕ) → r < input_count script → (cipher_at places (slice_index c.deref.result.now r)).parts ≡ 2) ciphers_are
                              (subst (λ (plan : List ℕ). (r : ℕ) → r < input_count script → (cipher_at inside.ciphers.items (slice_index plan r)).parts ≡ 2) plan_is parts),
                          (
                            subst (λ (lists : List (List ℕ)). length (plain_inputs script.inputs) ≤ length lists) plains_are made.plains,
                            (
                              subst (λ (lists : List (List ℕ)). (p : ℕ) → p < length (plain_inputs script.inputs) → IsReduced g.row.N (plain_of ctx.set) (slice_index_or lists p [])) plains_are plains,
                              scratch_of_context g.row.N space (length inside.scratch) ctx c.self.invariant same c.requires.level,
                            ),
                          ),
                        ),
                      ),
                    ),
                  ),
                ),
              ),
            ),
          ),
        ),
      ),
    )

pub invariant_of-self : goal.invariant_of-self
invariant_of-self g c =
    let inside = c.self.inside in
    let ctx = c.args.ctx.now in
    let script = c.args.script.now in
    let ran = c.run-self-inside in
    let space : WorkspaceValue = record { set = inside.set; inputs = inside.inputs; plan = inside.plan.items; places = inside.ciphers.items; plains = inside.plains.items; done = inside.done; place = inside.place } in
    let made : MadeFor script space = subst (MadeFor script) (sym c.self.view_is) c.requires.made in
    let same : space.set ≡ ctx.set = made.same_set ∙ c.requires.same_set in
    let count : length ran.new.ciphers ≡ length inside.ciphers.items = ran.ensures.count ∙ ap length c.deref_mut.ensures.value in
    let written : take inside.ciphers.len (ran.new.ciphers ++ drop (length ran.new.ciphers) inside.ciphers.items) ≡ ran.new.ciphers = written_whole inside.ciphers.len ran.new.ciphers inside.ciphers.items (search rules) in
    subst (λ (places : List CipherValue). IsWorkspace g.row.N (record (space) { places = places; done = true; place = ran.result }) (length ran.new.scratch)) (sym written)
    (kept_after g.row.N space (length inside.scratch) (length ran.new.scratch) ctx ran.new.ciphers ran.result c.self.invariant same c.requires.level count ran.ensures.places ran.ensures.there ran.ensures.scratch_rows)

pub returns-clause-ciphers : goal.returns-clause-ciphers
returns-clause-ciphers g c =
    let inside = c.self.inside in
    let ran = c.run-self-inside in
    let count : length ran.new.ciphers ≡ length inside.ciphers.items = ran.ensures.count ∙ ap length c.deref_mut.ensures.value in
    let written : take inside.ciphers.len (ran.new.ciphers ++ drop (length ran.new.ciphers) inside.ciphers.items) ≡ ran.new.ciphers = written_whole inside.ciphers.len ran.new.ciphers inside.ciphers.items (search rules) in
    λ r below. subst (λ (places : List CipherValue). IsCipherOf c.args.ctx.now (cipher_at places (slice_index inside.plan.items r))) (sym written)
    (ran.ensures.places (slice_index inside.plan.items r) (subst (λ (k : ℕ). slice_index inside.plan.items r < k) (sym count) (c.self.invariant.within r (omega (arith, below, c.self.invariant.planned)))))

pub returns-clause-of_context : goal.returns-clause-of_context
returns-clause-of_context g c =
    let inside = c.self.inside in
    let ran = c.run-self-inside in
    let written : take inside.ciphers.len (ran.new.ciphers ++ drop (length ran.new.ciphers) inside.ciphers.items) ≡ ran.new.ciphers = written_whole inside.ciphers.len ran.new.ciphers inside.ciphers.items (search rules) in
    subst (λ (places : List CipherValue). IsCipherOf c.args.ctx.now (cipher_at places ran.result)) (sym written) (ran.ensures.places ran.result ran.ensures.there)

pub returns-clause-value : goal.returns-clause-value
returns-clause-value g c =
    let inside = c.self.inside in
    let ctx = c.args.ctx.now in
    let script = c.args.script.now in
    let ran = c.run-self-inside in
    let space : WorkspaceValue = record { set = inside.set; inputs = inside.inputs; plan = inside.plan.items; places = inside.ciphers.items; plains = inside.plains.items; done = inside.done; place = inside.place } in
    let written : take inside.ciphers.len (ran.new.ciphers ++ drop (length ran.new.ciphers) inside.ciphers.items) ≡ ran.new.ciphers = written_whole inside.ciphers.len ran.new.ciphers inside.ciphers.items (search rules) in
    λ s lists bounds carry premise.
    let before : InputsCarry g.row.N ctx s script inside.plan.items inside.ciphers.items inside.plains.items lists bounds
    = subst (λ (w : WorkspaceValue). InputsCarry g.row.N ctx s script w.plan w.places w.plains lists bounds) (sym c.self.view_is) carry in
    let moved : InputsCarry g.row.N ctx s script c.deref.result.now c.deref_mut.result.now c.deref-2.result.now lists bounds
    = subst (λ (plan : List ℕ). InputsCarry g.row.N ctx s script plan c.deref_mut.result.now c.deref-2.result.now lists bounds) (sym c.deref.ensures.value)
    (subst (λ (places : List CipherValue). InputsCarry g.row.N ctx s script inside.plan.items places c.deref-2.result.now lists bounds) (sym c.deref_mut.ensures.value)
    (subst (λ (plains : List (List ℕ)). InputsCarry g.row.N ctx s script inside.plan.items inside.ciphers.items plains lists bounds) (sym c.deref-2.ensures.value) before)) in
    subst (λ (places : List CipherValue). Carries g.row.N ctx s (cipher_at places ran.result) (value_of script lists) (slice_index (exact_bounds script bounds) script.output)) (sym written)
    (let none = ap length c.requires.keyless in
    ran.ensures.carries s lists bounds moved record {
      ternary = premise.ternary;
      quiet = premise.quiet;
      keys = λ i key below. absurd (omega (arith, none, below));
    })
