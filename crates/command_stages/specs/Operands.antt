-- What is known of the files that a command reads.
use Rattle.std.specs.Prelude.{◌≡◌, ℕ, ◌<◌, List, length, slice_index, Some}
use Rattle.outer_io.specs.Store.{Files, file, contents}
use Rattle.set_table.specs.declared.SetName.{SetName}
use Rattle.set_table.specs.Sets.{degree_of, plain_of}
use Rattle.file_model.specs.FileText.{FileContent, IsFile}
use Rattle.file_model.specs.Heads.{IsHeadOf}
use Rattle.file_model.specs.declared.head.Head.{Head}
use Rattle.command_words.specs.Line.{word_at}

-- the file of this name has this content, and the head states it
pub record HasContentAt (files : Files) (name : List ℕ) (head : Head) (content : FileContent) : Type 0 where
  pub there : file files name ≡ Some (contents files name)
  pub is_file : IsFile (contents files name) content
  pub head_is : IsHeadOf head content

-- the file that a word names has this content, and the head states it
abbrev pub HasContent : List (List ℕ) → Files → ℕ → Head → FileContent → Type 0
HasContent words files word head content = HasContentAt files (word_at words word) head content

-- the values are as many as the slots of a set, and each is below its plaintext modulus
pub record AreValues (set : SetName) (listed : List ℕ) : Type 0 where
  pub count : length listed ≡ degree_of set
  pub below : (i : ℕ) → i < degree_of set → slice_index listed i < plain_of set
