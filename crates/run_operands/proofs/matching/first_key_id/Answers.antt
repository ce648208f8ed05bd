use Rattle.std.proofs.Common.{◌≡◌, ⊎_elim, sym, ap, ◌∙◌, arith}
use Rattle.std.specs.Prelude.{Some, slice_get}
use Rattle.std.proofs.lemmas.Bool.{cases_lt}
use Rattle.std.proofs.lemmas.Option.{slice_get_within}
use Rattle.run_operands.specs.declared.bound_files.Operand.TheVariants.{Cipher, Values}
use Rattle.run_operands.proofs.Places.{item_there}
use Rattle.run_operands.proofs.Demanded.{id_at_cipher, id_behind_values, key_id_seen}
use Rattle.run_operands.proofs.matching.first_key_id.Goals as goal

pub returns-in-Cipher-clause-told : goal.returns-in-Cipher-clause-told
returns-in-Cipher-clause-told c = λ planned are.
    let operands = c.args.operands.now in
    let at = item_there operands c.loop-operand.operand-index c.operand-item.result (Cipher c.in-Cipher.head) (omega arith) c.operand-item.is c.in-Cipher.is in
    sym (c.loop-operand.invariant.rest ∙ id_at_cipher operands c.loop-operand.operand-index c.in-Cipher.head at) ∙ key_id_seen operands planned are

pub returns-in-Cipher-clause-seen : goal.returns-in-Cipher-clause-seen
returns-in-Cipher-clause-seen c =
    let operands = c.args.operands.now in
    let at = item_there operands c.loop-operand.operand-index c.operand-item.result (Cipher c.in-Cipher.head) (omega arith) c.operand-item.is c.in-Cipher.is in
    sym (c.loop-operand.invariant.rest ∙ id_at_cipher operands c.loop-operand.operand-index c.in-Cipher.head at)

pub loop-operand-preserved : goal.loop-operand-preserved
loop-operand-preserved c =
    let operands = c.args.operands.now in
    let place = c.loop-operand.operand-index in
    let at : slice_get operands place ≡ Some (Values c.in_default.field-0) =
    item_there operands place c.operand-item.result (Values c.in_default.field-0) (omega arith) c.operand-item.is c.in_default.is in
    record {
      rest = c.loop-operand.invariant.rest ∙ id_behind_values operands place (Values c.in_default.field-0) at (λ head is. cc);
      none = λ p head below here.
          ⊎_elim (λ past. c.loop-operand.invariant.none p head past here)
          (λ last. let same : p ≡ place = omega arith in
          let never : Some (Cipher head) ≡ Some (Values c.in_default.field-0) = sym here ∙ ap (slice_get operands) same ∙ at in cc)
          (cases_lt p place);
    }

pub returns-clause-some : goal.returns-clause-some
returns-clause-some c = λ p head at. absurd (c.loop-operand.invariant.none p head (omega (arith, slice_get_within c.args.operands.now p (Cipher head) at)) at)
