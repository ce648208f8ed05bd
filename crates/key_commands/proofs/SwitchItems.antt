-- The switching keys that are written stand for what the plain machine makes.
use Rattle.std.proofs.Common.{◌≡◌, ℕ, List, refl, sym, ap, subst}
use Rattle.std.specs.Prelude.{Option, Some, IsSome, Ok, length}
use Rattle.outer_io.specs.Store.{Files, file}
use Rattle.set_table.specs.declared.SetName.{SetName}
use Rattle.set_table.specs.declared.KeyKind.{KeyKind}
use Rattle.set_table.specs.Sets.{degree_of, key_of, special_of}
use Rattle.bfv_model.specs.Holds.{secret_polynomial}
use Rattle.bfv_model.specs.Keys.{stored_key_word}
use Rattle.bfv_model.specs.SwitchKeys.{IsSwitchKeyIn, key_source}
use Rattle.file_model.specs.declared.file_kind.FileKind.TheVariants.{Secret}
use Rattle.file_model.specs.FileText.{FileContent, IsFile}
use Rattle.file_model.specs.DrawnFiles.{drawn_switch_file}
use Rattle.file_model.specs.declared.head.Wanted.TheVariants as wanted
use Rattle.command_words.specs.Line.{word_at}
use Rattle.command_model.specs.Reading.{own_file, taken}
use Rattle.command_model.specs.Plan.{seed_word}
use Rattle.command_model.specs.Plain.{Owner, Item, secret_of, switch_key_of, State, Stands, IsItem, IsSecretOf, IsSwitchKeyFor, switched}
use Rattle.key_commands.proofs.DrawnKeys.{drawn_key_is}
use Rattle.key_commands.proofs.MadeItems.{belongs_wanted, operand_content, owner_of, owner_of_content}

-- what is made is a switching key, and its source is a secret
record Switched (kind : KeyKind) (element : ℕ → ℕ) (source : Option Item) (item : Item) : Type 0 where
  owner : Owner
  source_is : source ≡ Some (secret_of owner)
  item_is : item ≡ switch_key_of owner kind (element (degree_of owner.set))

switched_is : (kind : KeyKind) (element : ℕ → ℕ) (source : Option Item) (item : Item) → switched kind element source ≡ Some item → Switched kind element source item
switched_is kind element (Some (secret_of owner)) item is = record { owner = owner; source_is = refl; item_is = cc }
switched_is kind element _ item is = absurd (cc)

-- the file that is drawn for an owner's secret is a switching key of it
drawn_file_is_switch_key : (owner : Owner) (kind : KeyKind) (element : ℕ) (secret : FileContent) (words : ℕ → ℕ) → IsSome (special_of secret.set) → IsSecretOf owner secret
    → IsSwitchKeyFor owner kind element (drawn_switch_file kind element secret words)
unfolding drawn_switch_file
drawn_file_is_switch_key owner kind element secret words some of_owner =
    subst (λ (o : Owner). IsSwitchKeyFor o kind element (drawn_switch_file kind element secret words)) (sym same) (of_content (subst (λ (o : Owner). IsSecretOf o secret) same of_owner))
  where
    same : owner ≡ owner_of secret owner.secret
    same = owner_of_content owner Secret secret of_owner.belongs

    of_content : IsSecretOf (owner_of secret owner.secret) secret → IsSwitchKeyFor (owner_of secret owner.secret) kind element (drawn_switch_file kind element secret words)
    of_content is = record {
      belongs = record { is_kind = refl; of_set = refl; of_key = refl; ternary = is.belongs.ternary };
      of_element = refl;
      words = subst (λ (s : List ℕ). IsSwitchKeyIn secret.set (stored_key_word (degree_of secret.set) (length (key_of secret.set)) (drawn_switch_file kind element secret words).words)
          (key_source kind (degree_of secret.set) element (secret_polynomial s)) (secret_polynomial s)) is.words
          (drawn_key_is secret.set (key_source kind (degree_of secret.set) element (secret_polynomial secret.words)) (secret_polynomial secret.words) words some);
    }

-- the file that `relin` or `turn` writes stands for what the plain machine makes
pub item_switched : (words : List (List ℕ)) (files : Files) (state : State) (kind : KeyKind) (element : ℕ → ℕ) (secret : FileContent) (seed bytes : List ℕ) (item : Item) → Stands files state
    → taken (own_file wanted.Secret) 1 (file files (word_at words 1)) ≡ Ok secret → IsSome (special_of secret.set)
    → IsFile bytes (drawn_switch_file kind (element (degree_of secret.set)) secret (seed_word seed)) → switched kind element (state (word_at words 1)) ≡ Some item → IsItem item bytes
item_switched words files state kind element secret seed bytes item stands secret_is some made is =
    let p = switched_is kind element (state (word_at words 1)) item is in
    let source = operand_content words files wanted.Secret 1 secret (IsSecretOf p.owner) (λ held s. belongs_wanted wanted.Secret p.owner Secret held refl s.belongs) secret_is
    (stands.each (word_at words 1) (secret_of p.owner) p.source_is) in
    let content = drawn_switch_file kind (element (degree_of secret.set)) secret (seed_word seed) in
    let degree = ap (λ (set : SetName). element (degree_of set)) source.is.belongs.of_set in
    subst (λ (i : Item). IsItem i bytes) (sym p.item_is)
    (content, (made, subst (λ (e : ℕ). IsSwitchKeyFor p.owner kind e content) degree (drawn_file_is_switch_key p.owner kind (element (degree_of secret.set)) secret (seed_word seed) some source.is)))
