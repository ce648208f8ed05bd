-- For each head that keeps the rules there is a file: its words are zeros.
use Rattle.std.proofs.Common.{◌≡◌, ℕ, ◌%◌, ◌/◌, ◌<◌, List, length, slice_index, refl, sym, ◌∙◌, ap, subst}
use Rattle.std.specs.Prelude.{Bool, true, ◌&&◌, nat_lt, replicate}
use Rattle.std.specs.List.{list_all}
use Rattle.std.proofs.lemmas.Bool.{ltb-true}
use Rattle.std.proofs.lemmas.List.{length-replicate, get_or-replicate}
use Rattle.std.proofs.Math.Nat.{mod-lt}
use Rattle.set_table.specs.declared.SetName.{SetName}
use Rattle.set_table.specs.declared.SetName.TheVariants.{One16, Toy16, S4096, S8192, S16384}
use Rattle.set_table.specs.Sets.{degree_of, data_of, key_of}
use Rattle.file_model.specs.declared.file_kind.FileKind.{FileKind}
use Rattle.file_model.specs.declared.file_kind.FileKind.TheVariants.{Secret, PublicKey, SwitchKey, Cipher}
use Rattle.file_model.specs.FileText.{KeepsRules, file_text, row_moduli, word_modulus}
use Rattle.file_model.specs.Heads.{HeadKeepsRules, content_with, wants}
use Rattle.file_model.specs.declared.head.Head.{Head}
use Rattle.file_model.specs.declared.head.Wanted.{Wanted}
use Rattle.file_model.proofs.Laws.{scanned-complete}
use Rattle.file_model.proofs.Rules.{list_all-at}
use Rattle.command_model.specs.Reading.{own_file, or_refused, status_of, MaySay}

-- there are moduli, and each is positive
are_positive : List ℕ → Bool
are_positive moduli = nat_lt 0 (length moduli) && list_all (λ q. nat_lt 0 q) moduli

positive_at : (moduli : List ℕ) (count : Bool) (all : Bool) → nat_lt 0 (length moduli) ≡ count → list_all (λ q. nat_lt 0 q) moduli ≡ all → count && all ≡ true
    → (i : ℕ) → 0 < slice_index moduli (i % length moduli)
positive_at moduli true true some all both i =
    ltb-true 0 (slice_index moduli (i % length moduli)) (list_all-at (λ q. nat_lt 0 q) moduli (i % length moduli) 0 all (mod-lt i (ltb-true 0 (length moduli) some)))
positive_at moduli _ _ some all both i = absurd (cc)

one_of_them : (moduli : List ℕ) → are_positive moduli ≡ true → (i : ℕ) → 0 < slice_index moduli (i % length moduli)
unfolding are_positive
one_of_them moduli all = positive_at moduli (nat_lt 0 (length moduli)) (list_all (λ q. nat_lt 0 q) moduli) refl refl all

data_positive : (set : SetName) → are_positive (data_of set) ≡ true
unfolding are_positive
data_positive One16 = refl
data_positive Toy16 = refl
data_positive S4096 = refl
data_positive S8192 = refl
data_positive S16384 = refl

key_positive : (set : SetName) → are_positive (key_of set) ≡ true
unfolding are_positive
key_positive One16 = refl
key_positive Toy16 = refl
key_positive S4096 = refl
key_positive S8192 = refl
key_positive S16384 = refl

rows_positive : (kind : FileKind) (set : SetName) → are_positive (row_moduli kind set) ≡ true
unfolding are_positive
rows_positive Secret set = refl
rows_positive PublicKey set = data_positive set
rows_positive (SwitchKey kind) set = key_positive set
rows_positive Cipher set = data_positive set

word_modulus_pos : (kind : FileKind) (set : SetName) (i : ℕ) → 0 < word_modulus kind set i
word_modulus_pos kind set i = one_of_them (row_moduli kind set) (rows_positive kind set) (i / degree_of set)

-- zeros are a content
zeros_keep_rules : (head : Head) → HeadKeepsRules head → KeepsRules (content_with head (replicate head.words 0))
zeros_keep_rules head rules = record {
  set = rules.set;
  parts = rules.parts;
  element = rules.element;
  key_id = rules.key_id;
  bound = rules.bound;
  count = length-replicate head.words 0 ∙ rules.count;
  reduced = λ i below. subst (λ (word : ℕ). word < word_modulus head.kind head.set i)
      (sym (get_or-replicate head.words i 0 0 (subst (λ (n : ℕ). i < n) (length-replicate head.words 0) below))) (word_modulus_pos head.kind head.set i);
}

-- and a file may say it
pub head_may : (wanted : Wanted) (word : ℕ) (head : Head) → HeadKeepsRules head → wants wanted head.kind ≡ true
    → MaySay (own_file wanted) word (content_with head (replicate head.words 0))
head_may wanted word head rules wanted_is =
    let content = content_with head (replicate head.words 0) in (
      file_text content,
      ap (or_refused (status_of word)) (scanned-complete wanted (file_text content) content (record { text = refl; rules = zeros_keep_rules head rules }) wanted_is),
    )
