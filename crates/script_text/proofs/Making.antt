-- What holds while a script is made.
use Rattle.std.proofs.Common.{◌≡◌, ◌<◌, ◌≤◌, ◌==◌, ◌/◌, ℕ, List, [], ◌∷◌, length, nat_lt, true, false, ◌&&◌, Option, Some, None, Ok, Err, refl, sym, ap, subst, arith, length-append}
use Rattle.std.specs.Prelude.{is_none, IfSome}
use Rattle.std.specs.List.{list_all, AllByRecursion}
use Rattle.std.proofs.lemmas.Bool.{and_parts}
use Rattle.std.proofs.lemmas.Bool.Decides.{nat_tests}
use Rattle.set_table.specs.declared.SetName.{SetName}
use Rattle.set_table.specs.Sets.{degree_of, plain_of}
use Rattle.line_text.specs.Names.{is_name}
use Rattle.script_text.specs.declared.script.InputKind.{InputKind}
use Rattle.script_text.specs.declared.script.Input.{Input}
use Rattle.script_text.specs.declared.script.Op.{Op}
use Rattle.script_text.specs.declared.script.Step.{Step}
use Rattle.script_text.specs.declared.script.Shape.{Shape}
use Rattle.script_text.specs.declared.maker.Refusal.TheVariants.{Missing}
use Rattle.script_text.specs.Limits.{max_inputs, max_steps}
use Rattle.script_text.specs.Scripts.{IsSound, Fits, plain_inputs, operands_of, plain_operand_of, factor_of, distance_of, parts_taken, shapes_of, shape_at, have_parts, has_shape}
use Rattle.script_text.specs.Grammar.{Draft, is_new, input_added, step_added}
use Rattle.script_text.specs.Making.{begun, register_count, passes, has_operands, has_number, with_output, IsOpen}
use Rattle.script_text.proofs.Registers.{length-shapes_of}
use Rattle.script_text.proofs.Fitting.{taken_from}
use Rattle.script_text.proofs.Sound.{empty_sound}
use Rattle.script_text.proofs.SoundLines.{DraftSound, none_some, empty_list, input_sound, step_sound}

unended_test : (o : Option ℕ) → o ≡ None → is_none o ≡ true
unended_test o none = ap is_none none

-- what is open is sound so far
so_far : (draft : Draft) → IsOpen draft → DraftSound draft
so_far draft open_draft = record {
  names = open_draft.names;
  distinct = open_draft.distinct;
  fit = open_draft.fit;
  output = none_some draft.output _ (unended_test draft.output open_draft.unended);
}

pub open_begun : (set : SetName) → IsOpen (begun set)
open_begun set =
    let sound = empty_sound set in
    record { few_inputs = omega arith; few_steps = omega arith; names = sound.names; distinct = sound.distinct; fit = sound.fit; unended = refl }

pub open_input : (draft : Draft) (at : ℕ) (kind : InputKind) (name : List ℕ) → IsOpen draft → length draft.inputs < max_inputs → (length draft.steps == 0) ≡ true → is_name name ≡ true → is_new draft name ≡ true
    → IsOpen (input_added draft at kind name)
open_input draft at kind name open_draft few none is new =
    let input : Input = record { name = name; kind = kind; line = at } in
    let sound = input_sound draft input (empty_list draft.steps none) (unended_test draft.output open_draft.unended) (so_far draft open_draft) is new in
    let count = length-append draft.inputs (input ∷ []) in
    record {
      few_inputs = omega (arith, few, count);
      few_steps = open_draft.few_steps;
      names = sound.names;
      distinct = sound.distinct;
      fit = sound.fit;
      unended = open_draft.unended;
    }

below : (x n : ℕ) → nat_lt x n ≡ true → x < n
below x n test = grind (arith, nat_tests)

all_below : (n : ℕ) (xs : List ℕ) → list_all (λ x. nat_lt x n) xs ≡ true → AllByRecursion (λ x. x < n) xs
all_below n [] test = tt
all_below n (x ∷ xs) test =
    let both = and_parts (nat_lt x n) (list_all (λ y. nat_lt y n) xs) test in
    (below x n both.0, all_below n xs both.1)

some_below : (n : ℕ) (o : Option ℕ) → passes (λ x. nat_lt x n) o ≡ true → IfSome o (λ x. x < n)
some_below n None test = tt
some_below n (Some x) test = below x n test

some_between : (n : ℕ) (o : Option ℕ) → passes (λ x. nat_lt 0 x && nat_lt x n) o ≡ true → IfSome o (λ x. (0 < x) × (x < n))
some_between n None test = tt
some_between n (Some x) test =
    let both = and_parts (nat_lt 0 x) (nat_lt x n) test in
    (below 0 x both.0, below x n both.1)

some_taken : (shapes : List Shape) (o : Option ℕ) (registers : List ℕ) → have_parts shapes o registers ≡ true → IfSome o (λ n. AllByRecursion (λ register. (shape_at shapes register).parts ≡ n) registers)
some_taken shapes None registers test = tt
some_taken shapes (Some n) registers test = taken_from shapes n registers test

-- an operation that passes the three tests fits
tested_fits : (draft : Draft) (op : Op) → has_operands draft op ≡ true → has_number draft.set op ≡ true → has_shape (shapes_of draft.inputs draft.steps) op ≡ true
    → Fits draft.set (length (plain_inputs draft.inputs)) (shapes_of draft.inputs draft.steps) op
unfolding has_operands has_number has_shape
tested_fits draft op operands number shape =
    let there = and_parts (list_all (λ register. nat_lt register (register_count draft)) (operands_of op)) (passes (λ plain. nat_lt plain (length (plain_inputs draft.inputs))) (plain_operand_of op)) operands in
    let inside = and_parts (passes (λ factor. nat_lt factor (plain_of draft.set)) (factor_of op)) (passes (λ distance. nat_lt 0 distance && nat_lt distance (degree_of draft.set / 2)) (distance_of op)) number in
    record {
      operands = subst (λ (n : ℕ). AllByRecursion (λ register. register < n) (operands_of op)) (sym (length-shapes_of draft.inputs draft.steps)) (all_below (register_count draft) (operands_of op) there.0);
      plain = some_below (length (plain_inputs draft.inputs)) (plain_operand_of op) there.1;
      factor = some_below (plain_of draft.set) (factor_of op) inside.0;
      distance = some_between (degree_of draft.set / 2) (distance_of op) inside.1;
      taken = some_taken (shapes_of draft.inputs draft.steps) (parts_taken op) (operands_of op) shape;
    }

pub open_step : (draft : Draft) (at : ℕ) (name : List ℕ) (op : Op) → IsOpen draft → length draft.steps < max_steps → is_name name ≡ true → is_new draft name ≡ true
    → has_operands draft op ≡ true → has_number draft.set op ≡ true → has_shape (shapes_of draft.inputs draft.steps) op ≡ true → IsOpen (step_added draft at name op)
open_step draft at name op open_draft few is new operands number shape =
    let step : Step = record { name = name; op = op; line = at } in
    let sound = step_sound draft step (unended_test draft.output open_draft.unended) (so_far draft open_draft) is new (tested_fits draft op operands number shape) in
    let count = length-append draft.steps (step ∷ []) in
    record {
      few_inputs = open_draft.few_inputs;
      few_steps = omega (arith, few, count);
      names = sound.names;
      distinct = sound.distinct;
      fit = sound.fit;
      unended = open_draft.unended;
    }

pub open_output : (draft : Draft) (register : ℕ) → IsOpen draft → register < register_count draft
    → IsSound (record { set = draft.set; inputs = draft.inputs; steps = draft.steps; output = register })
open_output draft register open_draft there = record {
  few_inputs = open_draft.few_inputs;
  few_steps = open_draft.few_steps;
  names = open_draft.names;
  distinct = open_draft.distinct;
  fit = open_draft.fit;
  output = there;
}

-- ---- what is answered
lt_true : (x n : ℕ) → x < n → nat_lt x n ≡ true
lt_true x n less = grind (arith, nat_tests)

lt_false : (x n : ℕ) → n ≤ x → nat_lt x n ≡ false
lt_false x n more = grind (arith, nat_tests)

pub output_made : (draft : Draft) (register : ℕ) → register < register_count draft
    → Ok (record { set = draft.set; inputs = draft.inputs; steps = draft.steps; output = register }) ≡ with_output draft register
unfolding with_output
output_made draft register there = rw (lt_true register (register_count draft) there) refl

pub output_missing : (draft : Draft) (register : ℕ) → register_count draft ≤ register → Err Missing ≡ with_output draft register
unfolding with_output
output_missing draft register gone = rw (lt_false register (register_count draft) gone) refl
