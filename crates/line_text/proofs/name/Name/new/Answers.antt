use Rattle.std.proofs.Common.{◌≡◌, true, Result, Ok, Err, refl}
use Rattle.std.specs.Prelude.{is_ok, MatchResult}
use Rattle.std.proofs.lemmas.Str.{IsUtf8-from_ascii}
use Rattle.line_text.proofs.NameBytes.{name_is_ascii}
use Rattle.line_text.proofs.name.Name.new.Goals as goal

ok_from_match : {A E : Type 0} (r : Result A E) (P : A → Type 0) (Q : E → Type 0) → ((e : E) → Q e → ⊥) → MatchResult r P Q → is_ok r ≡ true
ok_from_match (Ok x) P Q never h = refl
ok_from_match (Err e) P Q never h = absurd (never e h)

pub unwrap-text-requires : goal.unwrap-text-requires
unwrap-text-requires c =
    let utf8 = IsUtf8-from_ascii c.args.word.now (name_is_ascii c.args.word.now c.requires) in
    ok_from_match c.from_utf8.result _ _ (λ e bad. bad.0 utf8) c.from_utf8.ensures.cases
