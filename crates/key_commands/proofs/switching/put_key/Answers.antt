use Rattle.std.proofs.Common.{◌≡◌, ◌<◌, ℕ, ◌+◌, ◌*◌, ℤ, List, length, rules, sym, ◌∙◌, ap, subst, lit<, arith}
use Rattle.std.specs.Prelude.{IsSome, OnOk, Option}
use Rattle.set_table.specs.declared.SetName.{SetName}
use Rattle.set_table.specs.Sets.{data_of, degree_of, key_of, special_of}
use Rattle.ring_law.specs.Rows.{listed_polynomial}
use Rattle.rns_poly.specs.Rows.{AreReduced}
use Rattle.rns_poly.specs.Transforms.{AreTransforms}
use Rattle.rand_core.specs.Steps.{stream_of, steps_u32}
use Rattle.rand_chacha.specs.ChaCha.{next_word}
use Rattle.rand_words.specs.Words.{after_words}
use Rattle.bfv_model.specs.Drawn.{seed_stream}
use Rattle.bfv_model.specs.Holds.{listed_word}
use Rattle.bfv_model.specs.SwitchKeys.{key_source}
use Rattle.bfv_params.specs.Contexts.{transforms_in}
use Rattle.bfv_params.specs.Rows.{ReducedInTurn}
use Rattle.bfv_params.specs.Values.{SecretValue}
use Rattle.bfv_params.proofs.Tables.{degree_of-limit}
use Rattle.file_model.specs.DrawnFiles.{drawn_key}
use Rattle.file_model.specs.FileText.{KeepsRules, file_text}
use Rattle.file_model.specs.Heads.{content_with}
use Rattle.file_model.specs.KeyWords.{key_words}
use Rattle.file_model.specs.declared.head.Head.{Head}
use Rattle.outer_io.specs.Store.{Files, with_file}
use Rattle.key_switch.specs.Providers.{AreDigitRows}
use Rattle.cipher_files.specs.Writing.{digits_put}
use Rattle.command_model.specs.Plan.{seed_word}
use Rattle.command_stages.proofs.SeedFiles.{generator_stream}
use Rattle.key_commands.proofs.MadeDigits.{digit_is, first_digit, next_digit}
use Rattle.key_commands.proofs.switching.put_key.Goals as goal

pub digits-init : goal.digits-init
digits-init g c =
    let begun = c.in_ok-writer.ensures in
    let source = λ (secret : SecretValue). key_source c.args.draw.now.kind g.row.N c.args.draw.now.element (listed_polynomial secret.small) in
    record {
      keeps = search rules;
      files = begun.files;
      head = begun.head;
      put = begun.none_put;
      writing = begun.writing;
      written = begun.written (drawn_key c.args.head.now.set (source c.args.room.now.secret) (listed_polynomial c.args.room.now.secret.small) (seed_word c.args.draw.now.seed));
      room = c.requires.room;
      secret = search rules;
      stream = first_digit g.row.N (data_of c.args.head.now.set) (seed_stream c.args.draw.now.seed) _
          (generator_stream c.args.draw.now.seed c.from_seed-rng.result (search rules) c.from_seed-rng.ensures);
    }

pub make_digit-requires : goal.make_digit-requires
make_digit-requires g c =
    let room = c.digits.invariant.room in
    let set = sym room.ctx_set in
    let limit = degree_of-limit c.args.head.now.set in
    let level = ap (λ (z : SetName). length (data_of z)) set in (
      lit< tt,
      (
        lit< tt,
        (
          lit< tt,
          (
            omega (arith, limit, c.requires.degree),
            (
              lit< tt,
              (
                room.level ∙ level,
                (
                  subst (λ (z : SetName). IsSome (special_of z)) set c.requires.special,
                  (
                    room.secret_set ∙ set,
                    (
                      subst (λ (n : ℕ). c.digits.i < n) (c.data_count-i-end.ensures ∙ level) c.digits-test.true,
                      (
                        ap length c.view.ensures ∙ room.source_count ∙ level,
                        (
                          subst (λ (z : SetName). AreReduced g.row.N (data_of z) c.view.result.rows.now) set (subst (AreReduced g.row.N (data_of c.args.head.now.set)) (sym c.view.ensures) room.reduced),
                          (ap length c.view_mut.ensures.value ∙ room.digit_count ∙ ap (λ (z : SetName). 2 * (length (data_of z) + 1)) set, room.scratch_count),
                        ),
                      ),
                    ),
                  ),
                ),
              ),
            ),
          ),
        ),
      ),
    )

pub put_digit-requires : goal.put_digit-requires
put_digit-requires g c =
    let so_far = c.digits.invariant in
    let room = so_far.room in
    let head = sym so_far.head in
    let rows = c.view-in-digits.ensures ∙ c.view_mut.ensures.same_length c.make_digit.new.out (c.make_digit.auto.out ∙ ap length c.view_mut.ensures.value) in
    let count = ap length rows ∙ c.make_digit.auto.out ∙ ap length c.view_mut.ensures.value ∙ room.digit_count in
    let below = subst (λ (n : ℕ). n < length (data_of c.args.head.now.set)) (sym so_far.put) (subst (λ (n : ℕ). c.digits.i < n) c.data_count-i-end.ensures c.digits-test.true) in
    let reduced = subst (λ (z : SetName). ReducedInTurn g.row.N (length (data_of z) + 1) (key_of z) c.make_digit.new.out) room.ctx_set c.make_digit.ensures.reduced in (
      lit< tt,
      (
        so_far.writing,
        (
          subst (λ (h : Head). digits_put c.digits.writer < length (data_of h.set)) head below,
          (
            c.requires.degree ∙ ap (λ (h : Head). degree_of h.set) head,
            (
              count ∙ ap (λ (h : Head). 2 * (length (data_of h.set) + 1)) head,
              subst (λ (h : Head). ReducedInTurn g.row.N (length (data_of h.set) + 1) (key_of h.set) c.view-in-digits.result.rows.now) head
                  (subst (ReducedInTurn g.row.N (length (data_of c.args.head.now.set) + 1) (key_of c.args.head.now.set)) (sym rows) reduced),
            ),
          ),
        ),
      ),
    )

pub returns-in_err-put_digit-clause-keeps : goal.returns-in_err-put_digit-clause-keeps
returns-in_err-put_digit-clause-keeps g c =
    let so_far = c.digits.invariant in
    search rules

pub returns-in_err-put_digit-clause-err : goal.returns-in_err-put_digit-clause-err
returns-in_err-put_digit-clause-err g c =
    let so_far = c.digits.invariant in
    search rules

pub digits-preserved : goal.digits-preserved
digits-preserved g c =
    let so_far = c.digits.invariant in
    let room = so_far.room in
    let set = c.args.head.now.set in
    let draw = c.args.draw.now in
    let first = seed_stream draw.seed in
    let written = c.view_mut.ensures.same_length c.make_digit.new.out (c.make_digit.auto.out ∙ ap length c.view_mut.ensures.value) in
    let put = c.in_ok-put_digit.ensures in
    let source = λ (secret : SecretValue). key_source draw.kind g.row.N draw.element (listed_polynomial secret.small) in
    let made = digit_is g.row.N c.digits.room.ctx.set set c.digits.i c.make_digit.new.out (source c.digits.room.secret) (listed_polynomial c.digits.room.secret.small) first _ room.ctx_set
    c.requires.special so_far.stream
    (λ P words special later. c.make_digit.ensures.words P (source c.digits.room.secret) words special
    (subst (λ (rows : List (List ℕ)). AreTransforms (transforms_in c.digits.room.ctx) rows (λ _. source c.digits.room.secret)) (sym c.view.ensures) room.transforms) later) in
    let word = λ (secret : SecretValue). drawn_key set (source secret) (listed_polynomial secret.small) (seed_word draw.seed) in
    let of_secret = subst (λ (secret : SecretValue). AreDigitRows g.row.N (length (data_of set) + 1) c.make_digit.new.out (word secret c.digits.i)) so_far.secret made in
    let viewed = c.view-in-digits.ensures ∙ written in
    let is_digit = subst (λ (h : Head). (part r k : ℕ) → part < 2 → r < length (data_of h.set) + 1 → k < g.row.N
    → listed_word (length (data_of h.set) + 1) c.view-in-digits.result.rows.now part r k ≡ word c.args.room.now.secret (digits_put c.digits.writer) part r k) (sym so_far.head)
    (λ part r k half row place. ap (λ (rows : List (List ℕ)). listed_word (length (data_of set) + 1) rows part r k) viewed
    ∙ of_secret part r k half row place ∙ ap (λ (i : ℕ). word c.args.room.now.secret i part r k) (sym so_far.put)) in
    record {
      keeps = search rules;
      files = put.files ∙ so_far.files;
      head = put.head ∙ so_far.head;
      put = put.one_more ∙ ap (λ (n : ℕ). n + 1) so_far.put;
      writing = put.writing;
      written = put.written c.args.name.now (word c.args.room.now.secret) so_far.written is_digit;
      room = record {
        ctx_set = room.ctx_set;
        level = room.level;
        secret_set = room.secret_set;
        transforms = room.transforms;
        reduced = room.reduced;
        source_count = room.source_count;
        digit_count = ap length written ∙ c.make_digit.auto.out ∙ ap length c.view_mut.ensures.value ∙ room.digit_count;
        scratch_count = c.make_digit.ensures.scratch ∙ room.scratch_count;
      };
      secret = so_far.secret;
      stream = next_digit g.row.N (data_of set) c.digits.i first _ _ so_far.stream
          (c.make_digit.ensures.rest ∙ ap (λ (z : SetName). after_words (g.row.N + 2 * g.row.N * (length (data_of z) + 1)) (stream_of (steps_u32 (next_word 10)) c.digits.rng)) room.ctx_set);
    }

pub finish-requires-clause-writing : goal.finish-requires-clause-writing
finish-requires-clause-writing g c = c.digits.invariant.writing

pub finish-requires-clause-all_put : goal.finish-requires-clause-all_put
finish-requires-clause-all_put g c =
    let so_far = c.digits.invariant in
    let ended : c.digits.i ≡ length (data_of c.args.head.now.set) = omega (arith, c.digits-test.false, c.digits.auto.i-end, c.data_count-i-end.ensures) in
    so_far.put ∙ ended ∙ ap (λ (h : Head). length (data_of h.set)) (sym so_far.head)

pub returns-clause-keeps : goal.returns-clause-keeps
returns-clause-keeps g c =
    let so_far = c.digits.invariant in
    search rules

pub returns-clause-ok : goal.returns-clause-ok
returns-clause-ok g c =
    let so_far = c.digits.invariant in
    let draw = c.args.draw.now in
    let word = λ (s : ℕ → ℤ). drawn_key c.args.head.now.set (key_source draw.kind g.row.N draw.element s) s (seed_word draw.seed) in
    let text = λ (h : Head). file_text (content_with h (key_words h.set (word (listed_polynomial c.args.room.now.secret.small)))) in
    subst (λ (files : Option Files). OnOk c.finish.result ((g.S.Store.state c.finish.new.store).files ≡ with_file files c.args.name.now (text c.args.head.now))) so_far.files
    (subst (λ (h : Head). OnOk c.finish.result ((g.S.Store.state c.finish.new.store).files ≡ with_file (g.S.Store.state c.digits.store).files c.args.name.now (text h))) so_far.head
    (c.finish.ensures.ok c.args.name.now (word (listed_polynomial c.args.room.now.secret.small)) so_far.written))

pub returns-clause-rules : goal.returns-clause-rules
returns-clause-rules g c =
    let so_far = c.digits.invariant in
    let draw = c.args.draw.now in
    let word = λ (s : ℕ → ℤ). drawn_key c.args.head.now.set (key_source draw.kind g.row.N draw.element s) s (seed_word draw.seed) in
    let kept = subst (λ (h : Head). KeepsRules (content_with h (key_words h.set (word (listed_polynomial c.args.room.now.secret.small))))) so_far.head (c.finish.ensures.rules c.args.name.now (word (listed_polynomial c.args.room.now.secret.small)) so_far.written) in
    search rules

pub returns-clause-err : goal.returns-clause-err
returns-clause-err g c =
    let so_far = c.digits.invariant in
    search rules
