-- Owners of secrets.
use Rattle.std.proofs.Common.{◌≡◌, ℕ, List, ◌∙◌, ap}
use Rattle.std.specs.Prelude.{true, ◌&&◌, ◌==◌}
use Rattle.std.specs.Str.{bytes_eq}
use Rattle.std.proofs.lemmas.Slice.Eq.{bytes_eq-Decides}
use Rattle.std.proofs.lemmas.Bool.{eqb-true, and_parts}
use Rattle.set_table.specs.declared.SetName.{SetName}
use Rattle.set_table.specs.Sets.{number_of}
use Rattle.file_model.proofs.Sets.{number_of-once}
use Rattle.command_model.specs.Plain.{Owner, same_owner}

abbrev owned : SetName → List ℕ → List ℕ → Owner
owned set key_id secret = record { set = set; key_id = key_id; secret = secret }

-- owners that pass the test of being one are one
pub same_owner_equal : (a b : Owner) → same_owner a b ≡ true → a ≡ b
same_owner_equal a b same =
    let outer = and_parts (number_of a.set == number_of b.set) (bytes_eq a.key_id b.key_id && bytes_eq a.secret b.secret) same in
    let inner = and_parts (bytes_eq a.key_id b.key_id) (bytes_eq a.secret b.secret) outer.1 in
    ap (λ (set : SetName). owned set a.key_id a.secret) (number_of-once a.set b.set (eqb-true (number_of a.set) (number_of b.set) outer.0))
    ∙ ap (λ (key_id : List ℕ). owned b.set key_id a.secret) ((bytes_eq-Decides a.key_id b.key_id).0 inner.0)
    ∙ ap (λ (secret : List ℕ). owned b.set b.key_id secret) ((bytes_eq-Decides a.secret b.secret).0 inner.1)
