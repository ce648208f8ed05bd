use Rattle.std.proofs.Common.{◌≡◌, ℕ, sym, subst, ◌∙◌, ap, length, List, [], ◌∷◌}
use Rattle.std.specs.Int.{IsGcd}
use Rattle.std.specs.List.{EachIndex}
use Rattle.std.proofs.Common.{slice_index}
use Rattle.set_table.specs.Sets.{aux_of, m_sk, plain_of}
use Rattle.ring_law.specs.Moduli.{product}
use Rattle.fast_conv.specs.Converters.{Conversion, ExactConversion, ScaledConversion}
use Rattle.bfv_params.specs.Moduli.{data_at, wide_of}
use Rattle.bfv_params.proofs.Coprimality.{first_keys, wide_coprime}
use Rattle.bfv_params.proofs.converters.Converters.new.Goals as goal

pub new-requires-2 : goal.new-requires-2
new-requires-2 c =
    let level : ℕ = length c.args.moduli.now.base in
    let Coprime : List ℕ → List ℕ → Type 0 = λ base wide. EachIndex wide (λ j. IsGcd (product base) (slice_index wide j) 1) in
    record {
      coprime = subst (λ base. Coprime base c.deref-2.result.now) (sym c.requires.base_is)
          (subst (Coprime (data_at c.args.set level)) (sym (c.deref-2.ensures.value ∙ c.requires.wide_is)) (wide_coprime c.args.set level c.requires.within));
    }

pub returns : goal.returns
returns c =
    let m = c.args.moduli.now in
    let level : ℕ = length m.base in
    let base : m.base ≡ data_at c.args.set level = c.requires.base_is in
    let conversion : List ℕ → List ℕ → Conversion = λ f t. record { from = f; to = t } in
    let scaled : List ℕ → List ℕ → ℕ → ScaledConversion = λ f t x. record { from = f; to = t; factor = x } in
    let exact : List ℕ → ExactConversion = λ t. record { base = aux_of c.args.set; sk = m_sk; to = t } in
    let last : ℕ → ℕ → List ℕ = λ p r. p ∷ r ∷ [] in
    record {
      lift_is = c.in_ok-new.ensures ∙ ap (λ f. conversion f c.deref.result.now) base ∙ ap (conversion (data_at c.args.set level)) (c.deref.ensures.value ∙ c.requires.wide_is);
      floor_is = c.in_ok-new-2.ensures ∙ ap (λ f. scaled f c.deref-2.result.now c.value.result) base
          ∙ ap (λ t. scaled (data_at c.args.set level) t c.value.result) (c.deref-2.ensures.value ∙ c.requires.wide_is)
          ∙ ap (scaled (data_at c.args.set level) (wide_of c.args.set)) (c.value.ensures.value ∙ c.requires.plain_is);
      back_is = c.in_ok-way_back.ensures
          ∙ ap exact (first_keys c.args.set level c.len.result c.deref-4.result.now (c.deref-4.ensures.value ∙ c.requires.keys_are) (c.len.ensures.value ∙ ap length base));
      plain_is = c.in_ok-new-3.ensures ∙ ap (λ f. conversion f (last m.plain m.gamma)) base
          ∙ ap (λ p. conversion (data_at c.args.set level) (last p m.gamma)) c.requires.plain_is
          ∙ ap (λ r. conversion (data_at c.args.set level) (last (plain_of c.args.set) r)) c.requires.gamma_is;
      special_is = c.in_ok-special_drop.ensures;
    }
