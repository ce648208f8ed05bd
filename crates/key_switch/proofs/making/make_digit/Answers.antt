use Rattle.std.proofs.Common.{◌≡◌, ℕ, ◌+◌, ◌-◌, ◌*◌, ◌%◌, ◌^◌, ◌<◌, ◌∙◌, ap, ap₂, arith, refl, sym, subst, ℤ, pos, List, [], ◌∷◌, ◌++◌, length, length-set, take, get_or, slice_index, slice_set, Some}
use Rattle.std.proofs.Math.Seq.{get_or-append_seam, take-length}
use Rattle.std.proofs.lemmas.List.{get_or_append_left, get_or_default, length-drop, length-take-le}
use Rattle.rand_core.specs.Stream.{Stream}
use Rattle.word_mod.specs.Moduli.{IsModulus}
use Rattle.set_table.specs.Sets.{data_of, key_of, list_of, log_degree_of, special_of}
use Rattle.ring_law.specs.Rows.{IsReduced, listed_polynomial, word_at}
use Rattle.ring_law.specs.Transform.{transform_entry}
use Rattle.ring_law.proofs.Values.{get_or-values_below}
use Rattle.rns_poly.specs.Rows.{AreReduced}
use Rattle.rand_words.specs.Words.{after_words}
use Rattle.rand_words.proofs.LaterWords.{uniform_later}
use Rattle.rand_words.proofs.WordLemmas.{after_words-after_words}
use Rattle.bfv_model.specs.Drawn.{digit_place, drawn_error, error_sample, stream_word, uniform_at}
use Rattle.bfv_params.specs.Contexts.{data_in}
use Rattle.bfv_params.specs.Transforms.{transform_of}
use Rattle.bfv_params.specs.Values.{ContextValue}
use Rattle.bfv_params.proofs.Tables.{degree_of-power}
use Rattle.key_switch.specs.Sums.{key_in}
use Rattle.key_switch.proofs.Entries.{word_of_transforms}
use Rattle.key_switch.proofs.JoinedParts.{ReducedInTurn-joined}
use Rattle.key_switch.proofs.KeyLevels.{all_keys_count, key_is_modulus, keys_are, keys_count, special_modulus}
use Rattle.key_switch.proofs.MadeDigits.{AreDrawn, AreMasked, digit_is_drawn, uniform_from}
use Rattle.key_switch.proofs.OwnWords.{AreReduced-set}
use Rattle.key_switch.proofs.making.make_digit.Goals as goal

-- the moduli of keys where all data moduli are in use
module _ (ctx : ContextValue) (P : ℕ) (special : special_of ctx.set ≡ Some P) (full : ctx.level ≡ length (data_of ctx.set)) where
  data_are : data_in ctx ≡ data_of ctx.set
  data_are = ap (λ l. take l (data_of ctx.set)) full ∙ take-length (data_of ctx.set)

  all_are : key_in ctx ≡ data_of ctx.set ++ P ∷ []
  all_are = keys_are ctx.set ctx.level P special (omega (arith, full)) ∙ ap (λ qs. qs ++ P ∷ []) data_are

  key_of_is : key_of ctx.set ≡ key_in ctx
  key_of_is = ap (λ qs. qs ++ list_of (special_of ctx.set)) (sym data_are)

  count_is : length (key_in ctx) ≡ length (data_of ctx.set) + 1
  count_is = keys_count ctx.set ctx.level P special (omega (arith, full)) ∙ ap (λ l. l + 1) full

  positive : (r : ℕ) → r < length (data_of ctx.set ++ P ∷ []) → 0 < slice_index (data_of ctx.set ++ P ∷ []) r
  positive r within =
      let below : r < ctx.level + 1 = subst (λ m. r < m) (ap length (sym all_are) ∙ keys_count ctx.set ctx.level P special (omega (arith, full))) within in
      let modulus : IsModulus (slice_index (key_in ctx) r) = key_is_modulus ctx.set ctx.level P special (omega (arith, full)) r below in
      subst (λ (qs : List ℕ). 0 < slice_index qs r) all_are (omega (arith, modulus.from_three))

pub returns-clause-words : goal.returns-clause-words
returns-clause-words g c = λ P x words special transforms goes_on.
    let n : ℕ = g.row.N in
    let ctx : ContextValue = c.args.ctx.now in
    let i : ℕ = c.args.i in
    let keys : List ℕ = data_of ctx.set ++ P ∷ [] in
    let log : ℕ = log_degree_of ctx.set in
    let s : ℕ → ℤ = listed_polynomial c.args.secret.now.small in
    let error : ℕ → ℤ = listed_polynomial c.error_row.new.out in
    let named : c.key_moduli-moduli.result.now ≡ keys = c.key_moduli-moduli.ensures ∙ all_are ctx P special c.requires.level in
    let count : length c.key_moduli-moduli.result.now ≡ length (data_of ctx.set) + 1 = ap length c.key_moduli-moduli.ensures ∙ count_is ctx P special c.requires.level in
    let power : n ≡ 2 ^ log = c.data_moduli-degree.ensures.degree ∙ degree_of-power ctx.set in
    let from : ℕ = digit_place (2 ^ log) (data_of ctx.set) i in
    let first : Stream = g.R.Rng.stream c.args.rng.now in
    let on : (place : ℕ) → words (from + place) ≡ stream_word first place
    = subst (λ m. (place : ℕ) → words (digit_place m (data_of ctx.set) i + place) ≡ stream_word first place) power goes_on in
    let mask : List (List ℕ) = c.uniform_rows.new.rows in
    let body : List (List ℕ) = c.mask_error.new.out in
    let Drawn : List ℕ → Type 0 = λ qs. AreDrawn n qs words (from + n) mask in
    let drawn : Drawn keys = subst Drawn named (λ r k within below. c.uniform_rows.ensures.samples r k within below
    ∙ uniform_later n (slice_index c.key_moduli-moduli.result.now r) (2 * (r * n + k)) (n + 2 * (r * n + k)) first (g.R.Rng.stream c.error_row.new.rng) c.error_row.ensures.rest refl
    ∙ uniform_from words (stream_word first) (slice_index c.key_moduli-moduli.result.now r) from (n + 2 * (r * n + k)) on
    ∙ ap (λ place. uniform_at words (slice_index c.key_moduli-moduli.result.now r) place) (grouped from n (2 * (r * n + k)))) in
    let masked : AreMasked n ctx.set keys error s mask body
    = subst (λ (qs : List ℕ). AreMasked n ctx.set qs error s mask body) (all_are ctx P special c.requires.level) c.mask_error.ensures.words in
    let errors : (k : ℕ) → k < n → error k ≡ drawn_error words from k = λ k below.
    ap (λ (es : List ℤ). listed_polynomial es k) c.error_row.ensures.samples ∙ get_or-values_below n (λ z. error_sample (stream_word first z)) k (pos 0) below
    ∙ ap error_sample (sym (on k)) in
    let split_size : length c.split-body.result.0.now ≡ length (data_of ctx.set) + 1
    = ap length c.split-body.ensures.first ∙ length-take-le (length c.key_moduli-moduli.result.now) c.args.out.now (omega (arith, count, c.requires.count)) ∙ count in
    let size : length body ≡ length (data_of ctx.set) + 1 = c.mask_error.auto.out ∙ split_size in
    let in_keys : i < length c.key_moduli-moduli.result.now = omega (arith, count, c.requires.index) in
    let modulus_at : c.index-moduli-i.result ≡ slice_index keys i
    = c.index-moduli-i.is ∙ get_or_default c.key_moduli-moduli.result.now i c.index-moduli-i.result 0 in_keys ∙ ap (λ (qs : List ℕ). slice_index qs i) named in
    let last_at : c.value-special.result ≡ P
    = c.value-special.ensures.value ∙ c.index-moduli-moduli.is
    ∙ get_or_default c.key_moduli-moduli.result.now (length c.key_moduli-moduli.result.now - 1) c.index-moduli-moduli.result 0 (omega (arith, count))
    ∙ ap₂ (λ (qs : List ℕ) m. get_or qs (m - 1) 0) named count ∙ ap (λ m. get_or keys m 0) (less (length (data_of ctx.set))) ∙ get_or-append_seam (data_of ctx.set) P [] 0 in
    let in_data : i < length (data_in ctx) = subst (λ (qs : List ℕ). i < length qs) (sym (data_are ctx P special c.requires.level)) c.requires.index in
    let data_at_i : slice_index (data_in ctx) i ≡ slice_index keys i
    = ap (λ (qs : List ℕ). slice_index qs i) (data_are ctx P special c.requires.level) ∙ sym (get_or_append_left (data_of ctx.set) (P ∷ []) 0 i c.requires.index) in
    let Added : ℕ → ℕ → Type 0 = λ p factor. (k : ℕ) → k < n
    → slice_index c.add_multiple.new.to k ≡ (word_at body i k + factor * word_at c.args.source.rows.now i k) % p in
    let sums : Added (slice_index keys i) P
    = subst (λ p. Added p P) modulus_at (subst (Added c.index-moduli-i.result) last_at c.add_multiple.ensures.sums) in
    let added : (k : ℕ) → k < n → slice_index c.add_multiple.new.to k
    ≡ (word_at body i k + P * transform_entry (slice_index keys i) log (transform_of ctx.set (slice_index keys i)).root x k) % slice_index keys i = λ k below.
    sums k below ∙ ap (λ w. (word_at body i k + P * w) % slice_index keys i)
    (word_of_transforms ctx.set (data_in ctx) c.args.source.rows.now (λ r. x) transforms i k in_data (subst (λ m. k < m) power below)
    ∙ ap (λ p. transform_entry p log (transform_of ctx.set p).root x k) data_at_i) in
    digit_is_drawn n P i ctx.set special power c.requires.index x s error words mask body c.add_multiple.new.to size (positive ctx P special c.requires.level) drawn masked errors added
  where
    grouped : (a b d : ℕ) → a + (b + d) ≡ a + b + d
    grouped a b d = omega arith

    less : (l : ℕ) → l + 1 - 1 ≡ l
    less l = omega arith

pub returns-clause-reduced : goal.returns-clause-reduced
returns-clause-reduced g c =
    let n : ℕ = g.row.N in
    let ctx : ContextValue = c.args.ctx.now in
    let found = special_modulus ctx.set c.requires.special in
    let count : length c.key_moduli-moduli.result.now ≡ length (data_of ctx.set) + 1 = ap length c.key_moduli-moduli.ensures ∙ count_is ctx found.0 found.1 c.requires.level in
    let keys : key_of ctx.set ≡ key_in ctx = key_of_is ctx found.0 found.1 c.requires.level in
    let front_size : length c.split-body.result.0.now ≡ length (data_of ctx.set) + 1
    = ap length c.split-body.ensures.first ∙ length-take-le (length c.key_moduli-moduli.result.now) c.args.out.now (omega (arith, count, c.requires.count)) ∙ count in
    let back_size : length c.split-body.result.1.now ≡ length (data_of ctx.set) + 1
    = ap length c.split-body.ensures.second ∙ length-drop (length c.key_moduli-moduli.result.now) c.args.out.now ∙ omega (arith, count, c.requires.count) in
    let size : length c.mask_error.new.out ≡ length (data_of ctx.set) + 1 = c.mask_error.auto.out ∙ front_size in
    let in_keys : c.args.i < length c.key_moduli-moduli.result.now = omega (arith, count, c.requires.index) in
    let modulus_at : c.index-moduli-i.result ≡ slice_index (key_in ctx) c.args.i
    = c.index-moduli-i.is ∙ get_or_default c.key_moduli-moduli.result.now c.args.i c.index-moduli-i.result 0 in_keys ∙ ap (λ (qs : List ℕ). slice_index qs c.args.i) c.key_moduli-moduli.ensures in
    let row : IsReduced n (slice_index (key_in ctx) c.args.i) c.add_multiple.new.to = subst (λ p. IsReduced n p c.add_multiple.new.to) modulus_at c.add_multiple.ensures.reduced in
    let first : AreReduced n (key_in ctx) (slice_set c.mask_error.new.out c.args.i c.add_multiple.new.to)
    = AreReduced-set n c.args.i (key_in ctx) c.mask_error.new.out c.add_multiple.new.to (omega (arith, size, c.requires.index)) c.mask_error.ensures.reduced row in
    let second : AreReduced n (key_in ctx) c.uniform_rows.new.rows
    = subst (λ (qs : List ℕ). AreReduced n qs c.uniform_rows.new.rows) c.key_moduli-moduli.ensures c.uniform_rows.ensures.reduced in
    ReducedInTurn-joined (length (data_of ctx.set) + 1) (slice_set c.mask_error.new.out c.args.i c.add_multiple.new.to) c.uniform_rows.new.rows
    (length-set c.mask_error.new.out c.args.i c.add_multiple.new.to ∙ size) n (key_of ctx.set) (c.uniform_rows.auto.rows ∙ back_size)
    (all_keys_count ctx.set ctx.level found.0 found.1 (omega (arith, c.requires.level)))
    (subst (λ (qs : List ℕ). AreReduced n qs (slice_set c.mask_error.new.out c.args.i c.add_multiple.new.to)) (sym keys) first)
    (subst (λ (qs : List ℕ). AreReduced n qs c.uniform_rows.new.rows) (sym keys) second)

pub returns-clause-rest : goal.returns-clause-rest
returns-clause-rest g c =
    let n : ℕ = g.row.N in
    let ctx : ContextValue = c.args.ctx.now in
    let found = special_modulus ctx.set c.requires.special in
    let stream : Stream = g.R.Rng.stream c.args.rng.now in
    let moduli : List ℕ = c.key_moduli-moduli.result.now in
    let count : length moduli ≡ length (data_of ctx.set) + 1 = ap length c.key_moduli-moduli.ensures ∙ count_is ctx found.0 found.1 c.requires.level in
    c.uniform_rows.ensures.rest ∙ ap (λ (s : Stream). after_words (2 * n * length moduli) s) c.error_row.ensures.rest
    ∙ after_words-after_words n (2 * n * length moduli) stream ∙ ap (λ (m : ℕ). after_words (n + 2 * n * m) stream) count
