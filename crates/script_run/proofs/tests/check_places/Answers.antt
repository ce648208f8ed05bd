use Rattle.std.proofs.Common.{rules, arith, ◌≡◌, ◌<◌, ℕ, length, sym, ap, ◌∙◌, subst}
use Rattle.set_table.specs.declared.SetName.{SetName}
use Rattle.set_table.specs.Sets.{data_of}
use Rattle.bfv_params.specs.Values.{CipherValue, ContextValue}
use Rattle.script_text.specs.Scripts.{plain_inputs}
use Rattle.script_run.specs.Registers.{input_count}
use Rattle.script_run.proofs.Inputs.{inputs_counted}
use Rattle.script_run.proofs.Plans.{still_made}
use Rattle.script_run.proofs.tests.check_places.Goals as goal

pub fill_input-requires : goal.fill_input-requires
fill_input-requires g c = (
  search rules,
  (
    search rules,
    (
      search rules,
      (
        search rules,
        (
          λ r below. record {
            set = ap (λ (x : CipherValue). x.set) (c.in_ok-space.ensures.inputs r below);
            level = ap (λ (x : CipherValue). x.level) (c.in_ok-space.ensures.inputs r below);
          },
          λ r below. ap (λ (x : CipherValue). x.parts) (c.in_ok-space.ensures.inputs r below),
        ),
      ),
    ),
  ),
)

pub check_result-requires : goal.check_result-requires
check_result-requires g c =
    let script = c.in_ok-script.script in
    let ctx = c.in_ok-ctx.ctx in
    let one : c.ciphers.result ≡ 1 = search rules in
    let all : c.inputs.result ≡ 1 = search rules in
    let counted = inputs_counted script.inputs in
    let none : length (plain_inputs script.inputs) ≡ 0 = omega (arith, counted, one, all, c.ciphers.ensures, c.inputs.ensures.value) in
    let filled = c.fill_input.ensures.shape in
    let inputs : c.fill_input.new.space.inputs ≡ input_count script = filled.inputs ∙ c.in_ok-space.ensures.input_count in
    let set_is : ctx.set ≡ c.set-set.result = ap (λ (x : ContextValue). x.set) c.in_ok-ctx.ensures in (
      search rules,
      (
        search rules,
        (
          search rules,
          (
            sym c.set-set.ensures.value ∙ sym set_is,
            (
              ap (λ (x : ContextValue). x.level) c.in_ok-ctx.ensures ∙ ap (λ (s : SetName). length (data_of s)) (sym set_is),
              (
                still_made script _ _ c.in_ok-space.ensures.made filled,
                (
                  c.check_keyless.ensures,
                  (
                    c.fill_input.ensures.of_context,
                    (
                      λ r below. c.fill_input.ensures.parts r (subst (λ (count : ℕ). r < count) (sym inputs) below),
                      λ p below. absurd (omega (arith, below, none)),
                    ),
                  ),
                ),
              ),
            ),
          ),
        ),
      ),
    )
