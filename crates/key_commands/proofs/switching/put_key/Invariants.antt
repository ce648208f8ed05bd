use Rattle.std.proofs.Common.{◌≡◌}
use Rattle.std.specs.Prelude.{Ok}
use Rattle.rand_core.specs.Steps.{stream_of, steps_u32}
use Rattle.rand_chacha.specs.ChaCha.{next_word}
use Rattle.rand_words.specs.Words.{after_words}
use Rattle.outer_io.specs.Store.{OnlyWrites}
use Rattle.set_table.specs.Sets.{data_of}
use Rattle.ring_law.specs.Rows.{listed_polynomial}
use Rattle.bfv_model.specs.Drawn.{digit_place, seed_stream}
use Rattle.bfv_model.specs.SwitchKeys.{key_source}
use Rattle.file_model.specs.DrawnFiles.{drawn_key}
use Rattle.cipher_files.specs.Writing.{HasWritten, IsWriting, digits_put, head_of}
use Rattle.command_model.specs.Plan.{seed_word}
use Rattle.key_commands.specs.SwitchKeys.{IsRoom}
use Rattle.key_commands.proofs.switching.put_key.Given as goal

abbrev pub invariant-digits : goal.invariant-digits
invariant-digits g l =
    let old = g.S.Store.state l.fn.store in
    let now = g.S.Store.state l.store in
    let n = g.row.N in
    let set = l.head.set in
    let s = listed_polynomial l.fn.room.secret.small in
    record {
      keeps : OnlyWrites {T = Unit {0}} old now (Ok tt);
      files : now.files ≡ old.files;
      head : head_of l.writer ≡ l.head;
      put : digits_put l.writer ≡ l.i;
      writing : IsWriting l.writer now;
      written : HasWritten l.writer now l.name (drawn_key set (key_source l.draw.kind n l.draw.element s) s (seed_word l.draw.seed));
      room : IsRoom n set l.draw.kind l.draw.element l.room.ctx l.room.secret l.room.source l.room.digit l.room.scratch;
      secret : l.room.secret ≡ l.fn.room.secret;
      stream : stream_of (steps_u32 (next_word 10)) l.rng ≡ after_words (digit_place n (data_of set) l.i) (seed_stream l.draw.seed);
    }
