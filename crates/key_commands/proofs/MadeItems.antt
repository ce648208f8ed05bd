-- The files that are made stand for what the plain machine makes: drawn secrets, public keys and sealed values.
use Rattle.std.proofs.Common.{◌≡◌, ℕ, List, take, refl, sym, ◌∙◌, ap, subst, le_refl}
use Rattle.std.specs.Prelude.{Bool, true, false, if◌then◌else◌, nat_lt, length, Option, Some, Result, Ok, Err}
use Rattle.std.proofs.lemmas.List.{take-take}
use Rattle.rand_core.specs.Stream.{Stream}
use Rattle.rand_core.specs.Steps.{stream_of, steps_u32}
use Rattle.rand_chacha.specs.ChaCha.{next_word, of_seed}
use Rattle.outer_io.specs.Store.{Files, file}
use Rattle.set_table.specs.declared.SetName.{SetName}
use Rattle.set_table.specs.Sets.{degree_of, plain_of, data_of}
use Rattle.script_text.specs.declared.faults.ValuePlace.{ValuePlace}
use Rattle.script_text.specs.Reading.{values_of}
use Rattle.file_model.specs.declared.file_kind.FileKind.{FileKind}
use Rattle.file_model.specs.declared.file_kind.FileKind.TheVariants.{Secret, PublicKey}
use Rattle.file_model.specs.FileText.{FileContent, IsFile, file_text}
use Rattle.bfv_model.specs.Drawn.{seed_stream, stream_word, greatest_error}
use Rattle.file_model.specs.DrawnFiles.{drawn_secret_file, drawn_public_file, drawn_cipher_file}
use Rattle.bfv_model.specs.Holds.{stored_word, secret_polynomial}
use Rattle.bfv_model.specs.Keys.{WordsArePublicKeyOf}
use Rattle.file_model.proofs.DrawnFiles.{drawn_secret_file-count, drawn_secret_file-below, drawn_secret_file-KeepsRules, drawn_public_file-KeepsRules, drawn_public_file-IsPublicKey, drawn_cipher_file-KeepsRules, drawn_cipher_file-CipherHolds}
use Rattle.bfv_model.proofs.ListedWords.{secret_polynomial_within}
use Rattle.file_model.specs.Heads.{wants}
use Rattle.file_model.specs.declared.head.Wanted.{Wanted}
use Rattle.file_model.specs.declared.head.Wanted.TheVariants as wanted
use Rattle.file_model.proofs.Laws.{scanned-complete}
use Rattle.command_words.specs.Line.{word_at}
use Rattle.command_words.specs.declared.status.Status.TheVariants.{BadValues, ShortSeed}
use Rattle.command_model.specs.Reading.{own_file, seed_file, values_file, said_by, taken, or_refused, status_of}
use Rattle.command_model.specs.Plan.{seed_word, IsFreshCipher}
use Rattle.command_model.specs.Plain.{Owner, Item, text, secret_of, public_key_of, sealed, State, Stands, IsItem, BelongsTo, IsSecretOf, IsPublicKeyFor, IsSealed, drawn_owner, drawn, published, sealed_if_read, sealed_under}
use Rattle.command_model.proofs.Standing.{text_at}
use Rattle.key_commands.proofs.FreshBounds.{fresh_bound_fits}

-- ---- operands
-- the content of an operand: a file has it, and it is what the file stands for
pub record OperandContent (Is : FileContent → Type 0) (content : FileContent) : Type 0 where
  pub bytes : List ℕ
  pub is_file : IsFile bytes content
  pub is : Is content

-- a content that was taken of a file which stands for something of its kind
pub content_at : (files : Files) (name : List ℕ) (wanted : Wanted) (word : ℕ) (content : FileContent) (Is : FileContent → Type 0)
    → ((held : FileContent) → Is held → wants wanted held.kind ≡ true) → taken (own_file wanted) word (file files name) ≡ Ok content
    → (bytes : List ℕ) × ((file files name ≡ Some bytes) × ((held : FileContent) × (IsFile bytes held × Is held))) → OperandContent Is content
content_at files name wanted word content Is is_wanted is (bytes, (at, (held, (is_file, held_is)))) =
    let scanned_is : said_by (own_file wanted) word bytes ≡ Ok held = ap (or_refused (status_of word)) (scanned-complete wanted bytes held is_file (is_wanted held held_is)) in
    let same : held ≡ content = let both : Ok held ≡ Ok content = sym scanned_is ∙ ap (taken (own_file wanted) word) (sym at) ∙ is in cc in
    record { bytes = bytes; is_file = subst (IsFile bytes) same is_file; is = subst Is same held_is }

-- an operand that was taken, whose file stands for something of its kind
pub operand_content : (words : List (List ℕ)) (files : Files) (wanted : Wanted) (word : ℕ) (content : FileContent) (Is : FileContent → Type 0)
    → ((held : FileContent) → Is held → wants wanted held.kind ≡ true) → taken (own_file wanted) word (file files (word_at words word)) ≡ Ok content
    → (bytes : List ℕ) × ((file files (word_at words word) ≡ Some bytes) × ((held : FileContent) × (IsFile bytes held × Is held))) → OperandContent Is content
operand_content words files wanted word content Is is_wanted is told = content_at files (word_at words word) wanted word content Is is_wanted is told

-- a content that belongs to an owner is of a wanted kind
pub belongs_wanted : (wanted : Wanted) (owner : Owner) (kind : FileKind) (content : FileContent) → wants wanted kind ≡ true → BelongsTo owner kind content
    → wants wanted content.kind ≡ true
belongs_wanted wanted owner kind content fits belongs = ap (wants wanted) belongs.is_kind ∙ fits

-- the owner of a secret, by the set and the key id that a content states
abbrev pub owner_of : FileContent → List ℕ → Owner
owner_of content secret = record { set = content.set; key_id = content.key_id; secret = secret }

-- a content that belongs to an owner states its set and its key id
pub owner_of_content : (owner : Owner) (kind : FileKind) (content : FileContent) → BelongsTo owner kind content → owner ≡ owner_of content owner.secret
owner_of_content owner kind content belongs = sym (ap (λ (set : SetName). record { set = set; key_id = content.key_id; secret = owner.secret }) belongs.of_set
    ∙ ap (λ (id : List ℕ). record { set = owner.set; key_id = id; secret = owner.secret }) belongs.of_key)

-- ---- a drawn secret
-- the seed that was taken from a text has the stream of the text
taken_stream : (word : ℕ) (bytes seed : List ℕ) → said_by seed_file word bytes ≡ Ok seed → seed_stream seed ≡ seed_stream bytes
unfolding seed_stream
taken_stream word bytes seed is = of_test (nat_lt (length bytes) 32) is
  where
    of_test : (short : Bool) → (if short then Err (ShortSeed word (length bytes)) else Ok (take 32 bytes)) ≡ Ok seed → seed_stream seed ≡ seed_stream bytes
    of_test true is = absurd (cc)
    of_test false is =
        let front : take 32 bytes ≡ seed = cc in
        ap (λ (front : List ℕ). stream_of (steps_u32 (next_word 10)) (of_seed front))
        (ap (take 32) (sym front) ∙ take-take 32 32 bytes (le_refl 32))

-- what is drawn is a secret, and its seed is a text
pub record Drawn (set : SetName) (source : Option Item) (item : Item) : Type 0 where
  pub seed : List ℕ
  pub source_is : source ≡ Some (text seed)
  pub item_is : item ≡ secret_of (drawn_owner set seed)

drawn_is : (set : SetName) (source : Option Item) (item : Item) → drawn set source ≡ Some item → Drawn set source item
drawn_is set (Some (text seed)) item is = record { seed = seed; source_is = refl; item_is = cc }
drawn_is set _ item is = absurd (cc)

-- the file of a drawn secret is that of its owner
drawn_file_is_secret : (set : SetName) (seed : List ℕ) → IsSecretOf (drawn_owner set seed) (drawn_secret_file set (seed_word seed))
unfolding drawn_secret_file
drawn_file_is_secret set seed = record {
  belongs = record {
    is_kind = refl;
    of_set = refl;
    of_key = refl;
    ternary = record { count = drawn_secret_file-count set (seed_word seed); below = drawn_secret_file-below set (seed_word seed) };
  };
  words = refl;
}

-- the file that `secret` writes stands for what the plain machine draws
pub item_drawn : (words : List (List ℕ)) (files : Files) (state : State) (set : SetName) (seed bytes : List ℕ) (item : Item) → Stands files state
    → taken seed_file 2 (file files (word_at words 2)) ≡ Ok seed → bytes ≡ file_text (drawn_secret_file set (seed_word seed)) → drawn set (state (word_at words 2)) ≡ Some item → IsItem item bytes
item_drawn words files state set seed bytes item stands seed_is made is =
    let d = drawn_is set (state (word_at words 2)) item is in
    let source = text_at files state (word_at words 2) d.seed stands d.source_is in
    let stream : seed_stream seed ≡ seed_stream d.seed = taken_stream 2 d.seed seed (ap (taken seed_file 2) (sym source) ∙ seed_is) in
    let same : bytes ≡ file_text (drawn_secret_file set (seed_word d.seed)) =
    made ∙ ap (λ (s : Stream). file_text (drawn_secret_file set (λ place. stream_word s place))) stream in
    subst (λ (i : Item). IsItem i bytes) (sym d.item_is)
    (drawn_secret_file set (seed_word d.seed), (record { text = same; rules = drawn_secret_file-KeepsRules set (seed_word d.seed) }, drawn_file_is_secret set d.seed))

-- ---- a public key
-- what is published is a public key, and its source is a secret
pub record Published (source : Option Item) (item : Item) : Type 0 where
  pub owner : Owner
  pub source_is : source ≡ Some (secret_of owner)
  pub item_is : item ≡ public_key_of owner

published_is : (source : Option Item) (item : Item) → published source ≡ Some item → Published source item
published_is (Some (secret_of owner)) item is = record { owner = owner; source_is = refl; item_is = cc }
published_is _ item is = absurd (cc)

-- the file that is drawn for an owner's secret is a public key of it
drawn_file_is_public_key : (owner : Owner) (secret : FileContent) (seed : List ℕ) → IsSecretOf owner secret → IsPublicKeyFor owner (drawn_public_file secret (seed_word seed))
unfolding drawn_public_file
drawn_file_is_public_key owner secret seed of_owner =
    subst (λ (o : Owner). IsPublicKeyFor o (drawn_public_file secret (seed_word seed))) (sym same) (of_content (subst (λ (o : Owner). IsSecretOf o secret) same of_owner))
  where
    same : owner ≡ owner_of secret owner.secret
    same = owner_of_content owner Secret secret of_owner.belongs

    of_content : IsSecretOf (owner_of secret owner.secret) secret → IsPublicKeyFor (owner_of secret owner.secret) (drawn_public_file secret (seed_word seed))
    of_content is = record {
      belongs = record { is_kind = refl; of_set = refl; of_key = refl; ternary = is.belongs.ternary };
      words = subst (λ (s : List ℕ). WordsArePublicKeyOf (degree_of secret.set) (data_of secret.set) greatest_error
          (stored_word (degree_of secret.set) (length (data_of secret.set)) (drawn_public_file secret (seed_word seed)).words) (secret_polynomial s))
          is.words (drawn_public_file-IsPublicKey secret (seed_word seed));
    }

-- the file that `public` writes stands for what the plain machine publishes
pub item_published : (words : List (List ℕ)) (files : Files) (state : State) (secret : FileContent) (seed bytes : List ℕ) (item : Item) → Stands files state
    → taken (own_file wanted.Secret) 1 (file files (word_at words 1)) ≡ Ok secret → bytes ≡ file_text (drawn_public_file secret (seed_word seed)) → published (state (word_at words 1)) ≡ Some item → IsItem item bytes
item_published words files state secret seed bytes item stands secret_is made is =
    let p = published_is (state (word_at words 1)) item is in
    let source = operand_content words files wanted.Secret 1 secret (IsSecretOf p.owner) (λ held s. belongs_wanted wanted.Secret p.owner Secret held refl s.belongs) secret_is
    (stands.each (word_at words 1) (secret_of p.owner) p.source_is) in
    subst (λ (i : Item). IsItem i bytes) (sym p.item_is) (
      drawn_public_file secret (seed_word seed),
      (
        record { text = made; rules = drawn_public_file-KeepsRules secret (seed_word seed) source.is_file.rules.key_id },
        drawn_file_is_public_key p.owner secret seed source.is,
      ),
    )

-- ---- sealed values
-- what is sealed are the values that were read in a text, under the owner of a public key
pub record Sealed (key source : Option Item) (item : Item) : Type 0 where
  pub owner : Owner
  pub bytes : List ℕ
  pub listed : List ℕ
  pub key_is : key ≡ Some (public_key_of owner)
  pub source_is : source ≡ Some (text bytes)
  pub listed_is : values_of bytes (degree_of owner.set) (plain_of owner.set) ≡ Ok listed
  pub item_is : item ≡ sealed owner listed

sealed_is : (key source : Option Item) (item : Item) → sealed_under key source ≡ Some item → Sealed key source item
sealed_is (Some (public_key_of owner)) (Some (text bytes)) item is = of_read (values_of bytes (degree_of owner.set) (plain_of owner.set)) refl is
  where
    of_read : (read : Result (List ℕ) ValuePlace) → values_of bytes (degree_of owner.set) (plain_of owner.set) ≡ read → sealed_if_read owner read ≡ Some item
        → Sealed (Some (public_key_of owner)) (Some (text bytes)) item
    of_read (Ok listed) listed_is is =
        record { owner = owner; bytes = bytes; listed = listed; key_is = refl; source_is = refl; listed_is = listed_is; item_is = cc }
    of_read (Err place) listed_is is = absurd (cc)
sealed_is _ _ item is = absurd (cc)

-- the content of a fresh cipher
abbrev fresh_content : (public : FileContent) (listed seed bytes : List ℕ) → IsFreshCipher public listed seed bytes → FileContent
fresh_content public listed seed bytes fresh = drawn_cipher_file public fresh.plaintext fresh.mantissa fresh.exponent (seed_word seed)

-- under an owner's public key it seals its values
fresh_cipher_is_sealed : (owner : Owner) (public : FileContent) (listed seed bytes : List ℕ) (fresh : IsFreshCipher public listed seed bytes) → IsPublicKeyFor owner public
    → IsSealed owner listed (fresh_content public listed seed bytes fresh)
unfolding drawn_cipher_file
fresh_cipher_is_sealed owner public listed seed bytes fresh of_owner =
    subst (λ (o : Owner). IsSealed o listed (fresh_content public listed seed bytes fresh)) (sym same)
    (of_content (subst (λ (o : Owner). IsPublicKeyFor o public) same of_owner))
  where
    same : owner ≡ owner_of public owner.secret
    same = owner_of_content owner PublicKey public of_owner.belongs

    of_content : IsPublicKeyFor (owner_of public owner.secret) public → IsSealed (owner_of public owner.secret) listed (fresh_content public listed seed bytes fresh)
    of_content is = record {
      belongs = record { is_kind = refl; of_set = refl; of_key = refl; ternary = is.belongs.ternary };
      plaintext = fresh.plaintext;
      slots = sym fresh.slots;
      holds = drawn_cipher_file-CipherHolds public fresh.plaintext fresh.mantissa fresh.exponent (seed_word seed) (secret_polynomial owner.secret) is.words
          (secret_polynomial_within owner.secret (degree_of public.set) is.belongs.ternary.below) fresh.below fresh.bound.above;
    }

-- the values that were read in a text are those that the plain machine reads
same_values : (word : ℕ) (bytes listed read : List ℕ) (public_set owner_set : SetName) → public_set ≡ owner_set → said_by (values_file public_set) word bytes ≡ Ok listed
    → values_of bytes (degree_of owner_set) (plain_of owner_set) ≡ Ok read → listed ≡ read
same_values word bytes listed read public_set owner_set same taken_is read_is =
    let both : Ok listed ≡ Ok read = sym taken_is
    ∙ ap (λ (set : SetName). or_refused (BadValues word) (values_of bytes (degree_of set) (plain_of set))) same ∙ ap (or_refused (BadValues word)) read_is in
    cc

-- the file that `encrypt` writes stands for what the plain machine seals
pub item_sealed : (words : List (List ℕ)) (files : Files) (state : State) (public : FileContent) (listed seed bytes : List ℕ) (item : Item) → Stands files state
    → taken (own_file wanted.Public) 1 (file files (word_at words 1)) ≡ Ok public → taken (values_file public.set) 3 (file files (word_at words 3)) ≡ Ok listed → IsFreshCipher public listed seed bytes
    → sealed_under (state (word_at words 1)) (state (word_at words 3)) ≡ Some item → IsItem item bytes
item_sealed words files state public listed seed bytes item stands public_is listed_is fresh is =
    let s = sealed_is (state (word_at words 1)) (state (word_at words 3)) item is in
    let key = operand_content words files wanted.Public 1 public (IsPublicKeyFor s.owner) (λ held k. belongs_wanted wanted.Public s.owner PublicKey held refl k.belongs) public_is
    (stands.each (word_at words 1) (public_key_of s.owner) s.key_is) in
    let source = text_at files state (word_at words 3) s.bytes stands s.source_is in
    let values : listed ≡ s.listed = same_values 3 s.bytes listed s.listed public.set s.owner.set key.is.belongs.of_set
    (ap (taken (values_file public.set) 3) (sym source) ∙ listed_is) s.listed_is in
    subst (λ (i : Item). IsItem i bytes) (sym s.item_is) (
      fresh_content public listed seed bytes fresh,
      (
        record {
          text = fresh.text;
          rules = drawn_cipher_file-KeepsRules public fresh.plaintext fresh.mantissa fresh.exponent (seed_word seed) key.is_file.rules.key_id
              (fresh_bound_fits public.set fresh.mantissa fresh.exponent fresh.bound);
        },
        subst (λ (vs : List ℕ). IsSealed s.owner vs (fresh_content public listed seed bytes fresh)) values
            (fresh_cipher_is_sealed s.owner public listed seed bytes fresh key.is),
      ),
    )
