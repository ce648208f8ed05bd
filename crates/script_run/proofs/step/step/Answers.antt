use Rattle.std.proofs.Common.{rules, ◌≡◌, ℕ, ◌++◌, ap, ◌∙◌, arith, subst, sym, length, set}
use Rattle.std.proofs.lemmas.List.{get_or_default}
use Rattle.bfv_params.specs.Values.{CipherValue}
use Rattle.bfv_params.specs.Ciphers.{IsCipherOf}
use Rattle.script_run.specs.Places.{no_cipher}
use Rattle.script_run.specs.Premises.{no_digits}
use Rattle.script_run.specs.Steps.{StepDone}
use Rattle.script_run.proofs.SplitPlaces.{apart_from, middle_all, on_operands, others_all, others_inside, others_taken, step_done}
use Rattle.script_run.proofs.step.step.Goals as goal

pub returns-clause-done : goal.returns-clause-done
returns-clause-done g c =
    let split = c.split_at_mut-front in
    let rest = c.split_at_mut-one in
    let middle = rest.result.0.now in
    subst (λ (out : ℕ). StepDone g.row.N c.args.ctx.now no_digits c.args.op c.args.plan.now c.args.plains.now out c.args.ciphers.now (split.result.0.now ++ (set middle 0 c.operate.new.out ++ rest.result.1.now))) split.ensures.front_len
    (step_done g.row.N c.args.ctx.now no_digits c.args.op c.args.plan.now c.args.plains.now c.args.ciphers.now split.result.0.now middle rest.result.1.now c.operate.new.out (search rules) rest.ensures.front_len
    c.operate.ensures.of_context (c.operate.ensures.room ∙ ap (λ (x : CipherValue). x.room) (get_or_default middle 0 c.index-one-0.result no_cipher (omega (arith, rest.ensures.front_len))))
    c.operate.ensures.parts c.operate.ensures.carries
    (on_operands c.args.op _ _ (λ r there. there.1) (apart_from c.args.op c.args.plan.now (length c.args.ciphers.now) c.args.out (length split.result.0.now) (sym split.ensures.front_len) c.requires.there)))

pub operate-requires : goal.operate-requires
operate-requires g c =
    let split = c.split_at_mut-front in
    let rest = c.split_at_mut-one in
    let apart = apart_from c.args.op c.args.plan.now (length c.args.ciphers.now) c.args.out (length split.result.0.now) (sym split.ensures.front_len) c.requires.there in
    let whole : c.args.ciphers.now ≡ split.result.0.now ++ (rest.result.0.now ++ rest.result.1.now) = search rules in (
      search rules,
      (
        search rules,
        (
          search rules,
          (
            search rules,
            (
              c.requires.degree,
              (
                c.requires.level,
                (
                  c.requires.keyless,
                  (
                    c.requires.within,
                    (
                      others_inside c.args.plan.now c.args.ciphers.now split.result.0.now rest.result.0.now rest.result.1.now whole rest.ensures.front_len c.args.op apart,
                      (
                        others_all c.args.plan.now c.args.ciphers.now split.result.0.now rest.result.0.now rest.result.1.now whole rest.ensures.front_len (IsCipherOf c.args.ctx.now) c.args.op c.requires.ciphers apart,
                        (
                          others_taken c.args.plan.now c.args.ciphers.now split.result.0.now rest.result.0.now rest.result.1.now whole rest.ensures.front_len c.args.op c.requires.parts apart,
                          (
                            c.requires.plains,
                            (
                              subst (IsCipherOf c.args.ctx.now) (get_or_default rest.result.0.now 0 no_cipher c.index-one-0.result (omega (arith, rest.ensures.front_len)))
                                  (middle_all c.args.plan.now c.args.ciphers.now split.result.0.now rest.result.0.now rest.result.1.now whole rest.ensures.front_len (IsCipherOf c.args.ctx.now) c.requires.ciphers),
                              (c.requires.scratch_rows),
                            ),
                          ),
                        ),
                      ),
                    ),
                  ),
                ),
              ),
            ),
          ),
        ),
      ),
    )
