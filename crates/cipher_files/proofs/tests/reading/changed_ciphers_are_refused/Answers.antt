use Rattle.std.proofs.Common.{◌≡◌, ℕ, List, true, length, refl, rules}
use Rattle.set_table.specs.declared.SetName.TheVariants.{Toy16}
use Rattle.bound_num.specs.Bound.{bound_value, down, spacing, bit_length, digits_within}
use Rattle.file_model.specs.declared.file_kind.FileKind.TheVariants.{Cipher}
use Rattle.file_model.specs.FileText.{bound_fits}
use Rattle.bfv_model.specs.Limit.{limit}
use Rattle.file_model.specs.Heads.{HeadKeepsRules}
use Rattle.cipher_files.proofs.tests.reading.changed_ciphers_are_refused.Goals as goal

-- the bound 0 is at most the limit of each set
zero_fits : bound_fits Cipher Toy16 0 0 ≡ true
unfolding bound_value limit down spacing bit_length digits_within
zero_fits = refl

head_kept : (id : List ℕ) → length id ≡ 16 → HeadKeepsRules (record { kind = Cipher; set = Toy16; parts = 2; element = 0; id = id; bound = record { m = 0; e = 0 }; words = 64 })
head_kept id size = record { set = refl; parts = refl; element = refl; key_id = size; bound = zero_fits; count = refl }

pub read_cipher-requires : goal.read_cipher-requires
read_cipher-requires g c = (search rules, (head_kept _ refl, (search rules, (search rules, (search rules, search rules)))))

pub read_cipher-requires-2 : goal.read_cipher-requires-2
read_cipher-requires-2 g c = (search rules, (head_kept _ refl, (search rules, (search rules, (search rules, search rules)))))
