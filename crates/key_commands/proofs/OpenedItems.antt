-- The values that `decrypt` writes are those that the plain machine opens.
use Rattle.std.proofs.Common.{◌≡◌, ℕ, List, refl, sym, ◌∙◌, ap, subst}
use Rattle.std.specs.Prelude.{Bool, true, false, if◌then◌else◌, length, Option, Some, None, Ok}
use Rattle.outer_io.specs.Store.{Files, file}
use Rattle.set_table.specs.declared.SetName.{SetName}
use Rattle.set_table.specs.Sets.{degree_of, plain_of, data_of}
use Rattle.ring_law.specs.Rows.{natural_polynomial}
use Rattle.script_text.specs.Values.{printed_values}
use Rattle.bound_num.specs.Bound.{bound_value}
use Rattle.file_model.specs.declared.file_kind.FileKind.{FileKind}
use Rattle.file_model.specs.declared.file_kind.FileKind.TheVariants.{Secret, Cipher}
use Rattle.file_model.specs.FileText.{FileContent, IsFile, bound_fits}
use Rattle.file_model.specs.declared.head.Wanted.TheVariants as wanted
use Rattle.file_model.proofs.Rules.{cipher_bound-room}
use Rattle.bfv_model.specs.Holds.{CipherHolds, stored_word, secret_polynomial}
use Rattle.bfv_model.specs.Slots.{slots_of}
use Rattle.command_words.specs.Line.{word_at}
use Rattle.command_model.specs.Reading.{own_file, taken}
use Rattle.command_model.specs.Plain.{Owner, Item, text, secret_of, sealed, State, Stands, IsItem, IsSecretOf, IsSealed, opened, same_owner}
use Rattle.key_commands.specs.Decrypted.{IsDecryption}
use Rattle.key_commands.proofs.Owners.{same_owner_equal}
use Rattle.key_commands.proofs.MadeItems.{operand_content, belongs_wanted}

-- the bytes that are made of a sealed cipher under its owner's secret are the printed values that it seals
sealed_values : (owner : Owner) (vs : List ℕ) (secret cipher : FileContent) (bytes made : List ℕ) → IsFile bytes cipher → IsSealed owner vs cipher → secret.words ≡ owner.secret
    → IsDecryption secret cipher made → made ≡ printed_values vs
sealed_values owner vs secret cipher bytes made file_of is_sealed same is =
    let set = is_sealed.belongs.of_set in
    let fits : bound_fits cipher.kind cipher.set cipher.mantissa cipher.exponent ≡ true = file_of.rules.bound in
    let room = cipher_bound-room cipher.set cipher.mantissa cipher.exponent (subst (λ (k : FileKind). bound_fits k cipher.set cipher.mantissa cipher.exponent ≡ true) is_sealed.belongs.is_kind fits) in
    let of_set = subst (λ (z : SetName). CipherHolds (degree_of z) (data_of z) (plain_of z) (stored_word (degree_of z) (length (data_of z)) cipher.words)
    (secret_polynomial owner.secret) is_sealed.plaintext (bound_value cipher.mantissa cipher.exponent)) (sym set) is_sealed.holds in
    let holds = subst (λ (s : List ℕ). CipherHolds (degree_of cipher.set) (data_of cipher.set) (plain_of cipher.set) (stored_word (degree_of cipher.set) (length (data_of cipher.set)) cipher.words)
    (secret_polynomial s) is_sealed.plaintext (bound_value cipher.mantissa cipher.exponent)) (sym same) of_set in
    is.right is_sealed.plaintext (bound_value cipher.mantissa cipher.exponent) holds room
    ∙ ap (λ (z : SetName). printed_values (slots_of z (natural_polynomial is_sealed.plaintext))) set
    ∙ ap printed_values (sym is_sealed.slots)

-- what is opened is a text of sealed values, whose owner has the secret
pub record Opened (secret cipher : Option Item) (item : Item) : Type 0 where
  pub owner : Owner
  pub other : Owner
  pub sealed_values : List ℕ
  pub secret_is : secret ≡ Some (secret_of owner)
  pub cipher_is : cipher ≡ Some (sealed other sealed_values)
  pub same : same_owner owner other ≡ true
  pub item_is : item ≡ text (printed_values sealed_values)

opened_is : (secret cipher : Option Item) (item : Item) → opened secret cipher ≡ Some item → Opened secret cipher item
opened_is (Some (secret_of owner)) (Some (sealed other vs)) item is = of_test (same_owner owner other) refl is
  where
    of_test : (test : Bool) → same_owner owner other ≡ test → (if test then Some (text (printed_values vs)) else None) ≡ Some item → Opened (Some (secret_of owner)) (Some (sealed other vs)) item
    of_test true same is = record { owner = owner; other = other; sealed_values = vs; secret_is = refl; cipher_is = refl; same = same; item_is = cc }
    of_test false same is = absurd (cc)
opened_is _ _ item is = absurd (cc)

-- the bytes that `decrypt` writes stand for what the plain machine opens
pub item_opened : (words : List (List ℕ)) (files : Files) (state : State) (secret cipher : FileContent) (bytes : List ℕ) (item : Item) → Stands files state
    → taken (own_file wanted.Secret) 1 (file files (word_at words 1)) ≡ Ok secret → taken (own_file wanted.Cipher) 2 (file files (word_at words 2)) ≡ Ok cipher → IsDecryption secret cipher bytes
    → opened (state (word_at words 1)) (state (word_at words 2)) ≡ Some item → IsItem item bytes
item_opened words files state secret cipher bytes item stands secret_is cipher_is made is =
    let o = opened_is (state (word_at words 1)) (state (word_at words 2)) item is in
    let key = operand_content words files wanted.Secret 1 secret (IsSecretOf o.owner) (λ held s. belongs_wanted wanted.Secret o.owner Secret held refl s.belongs) secret_is
    (stands.each (word_at words 1) (secret_of o.owner) o.secret_is) in
    let source = operand_content words files wanted.Cipher 2 cipher (IsSealed o.other o.sealed_values) (λ held s. belongs_wanted wanted.Cipher o.other Cipher held refl s.belongs) cipher_is
    (stands.each (word_at words 2) (sealed o.other o.sealed_values) o.cipher_is) in
    subst (λ (i : Item). IsItem i bytes) (sym o.item_is)
    (sealed_values o.other o.sealed_values secret cipher source.bytes bytes source.is_file source.is (key.is.words ∙ ap (λ (owner : Owner). owner.secret) (same_owner_equal o.owner o.other o.same)) made)
