-- What bytes say at the places of a head's fields.
use Rattle.std.specs.Prelude.{ℕ, List, slice_index}
use Rattle.set_table.specs.declared.SetName.{SetName}
use Rattle.file_model.specs.declared.file_kind.FileKind.{FileKind}
use Rattle.file_model.specs.Bytes.{bytes_from, number_from, words_from}
use Rattle.file_model.specs.FileText.{FileContent}
use Rattle.file_model.specs.Heads.{content_with}
use Rattle.file_model.specs.declared.head.Head.{Head}

-- how many words the head states
abbrev pub stated_count : List ℕ → ℕ
stated_count bytes = number_from 40 8 bytes

-- the head that stands at the front of these bytes
abbrev pub head_at : FileKind → SetName → List ℕ → Head
head_at kind set bytes = record {
  kind = kind;
  set = set;
  parts = slice_index bytes 10;
  element = number_from 12 4 bytes;
  id = bytes_from 16 16 bytes;
  bound = record { m = number_from 32 4 bytes; e = number_from 36 4 bytes };
  words = stated_count bytes;
}

-- the content that stands in these bytes: that of the head, with the words behind it
unfoldable pub content_at : FileKind → SetName → List ℕ → FileContent
content_at kind set bytes = content_with (head_at kind set bytes) (words_from 64 (stated_count bytes) bytes)
