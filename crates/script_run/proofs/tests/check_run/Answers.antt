use Rattle.std.proofs.Common.{rules, arith, ◌≡◌, ◌<◌, ℕ, [], length, slice_index_or, sym, ap, ◌∙◌, subst}
use Rattle.set_table.specs.declared.SetName.{SetName}
use Rattle.set_table.specs.Sets.{data_of, plain_of}
use Rattle.ring_law.specs.Rows.{IsReduced}
use Rattle.bfv_params.specs.Values.{CipherValue, ContextValue}
use Rattle.script_text.specs.Scripts.{plain_inputs}
use Rattle.script_run.specs.Registers.{input_count}
use Rattle.script_run.proofs.Inputs.{inputs_counted}
use Rattle.script_run.proofs.Plans.{still_made}
use Rattle.script_run.proofs.tests.check_run.Goals as goal

pub fill_input-requires : goal.fill_input-requires
fill_input-requires g c = (
  search rules,
  (
    search rules,
    (
      search rules,
      (
        search rules,
        (
          λ r below. record {
            set = ap (λ (x : CipherValue). x.set) (c.in_ok-space.ensures.inputs r below);
            level = ap (λ (x : CipherValue). x.level) (c.in_ok-space.ensures.inputs r below);
          },
          λ r below. ap (λ (x : CipherValue). x.parts) (c.in_ok-space.ensures.inputs r below),
        ),
      ),
    ),
  ),
)

pub fill_plain_input-requires : goal.fill_plain_input-requires
fill_plain_input-requires g c =
    let script = c.in_ok-script.script in
    let two : c.ciphers.result ≡ 2 = search rules in
    let three : c.inputs.result ≡ 3 = search rules in
    let counted = inputs_counted script.inputs in
    let plains : length c.fill_input-2.new.space.plains ≡ length c.in_ok-space.space.plains = ap length (c.fill_input-2.ensures.plains ∙ c.fill_input.ensures.plains) in (
      search rules,
      (
        search rules,
        (
          search rules,
          (
            omega (arith, counted, two, three, plains, c.ciphers.ensures, c.inputs.ensures.value, c.in_ok-space.ensures.made.plains),
            (
              c.fill_input-2.ensures.of_context,
              c.fill_input-2.ensures.parts,
            ),
          ),
        ),
      ),
    )

pub check_result-requires : goal.check_result-requires
check_result-requires g c =
    let script = c.in_ok-script.script in
    let ctx = c.in_ok-ctx.ctx in
    let two : c.ciphers.result ≡ 2 = search rules in
    let three : c.inputs.result ≡ 3 = search rules in
    let counted = inputs_counted script.inputs in
    let one : length (plain_inputs script.inputs) ≡ 1 = omega (arith, counted, two, three, c.ciphers.ensures, c.inputs.ensures.value) in
    let one_filled = c.fill_input.ensures.shape in
    let two_filled = c.fill_input-2.ensures.shape in
    let filled = c.fill_plain_input.ensures.shape in
    let inputs : c.fill_plain_input.new.space.inputs ≡ input_count script = filled.inputs ∙ two_filled.inputs ∙ one_filled.inputs ∙ c.in_ok-space.ensures.input_count in
    let set_is : ctx.set ≡ c.set-set.result = ap (λ (x : ContextValue). x.set) c.in_ok-ctx.ensures in (
      search rules,
      (
        search rules,
        (
          search rules,
          (
            sym c.set-set.ensures.value ∙ sym set_is,
            (
              ap (λ (x : ContextValue). x.level) c.in_ok-ctx.ensures ∙ ap (λ (s : SetName). length (data_of s)) (sym set_is),
              (
                still_made script _ _ (still_made script _ _ (still_made script _ _ c.in_ok-space.ensures.made one_filled) two_filled) filled,
                (
                  c.check_keyless.ensures,
                  (
                    c.fill_plain_input.ensures.of_context,
                    (
                      λ r below. c.fill_plain_input.ensures.parts r (subst (λ (count : ℕ). r < count) (sym inputs) below),
                      λ p below. subst (λ (j : ℕ). IsReduced g.row.N (plain_of ctx.set) (slice_index_or c.fill_plain_input.new.space.plains j [])) (omega (arith, below, one)) c.fill_plain_input.ensures.reduced,
                    ),
                  ),
                ),
              ),
            ),
          ),
        ),
      ),
    )
