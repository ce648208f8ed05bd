-- Heads of files, and the files that a reader may want.
use Rattle.std.specs.Prelude.{◌≡◌, ℕ, ◌*◌, Bool, true, false, List, length, IsTrue}
use Rattle.file_model.specs.declared.file_kind.FileKind.{FileKind}
use Rattle.file_model.specs.declared.file_kind.FileKind.TheVariants as kind
use Rattle.set_table.specs.declared.SetName.{SetName}
use Rattle.set_table.specs.Sets.{degree_of}
use Rattle.bound_num.specs.declared.Bound.{Bound}
use Rattle.file_model.specs.FileText.{FileContent, set_fits, parts_fit, element_fits, bound_fits, row_count}
use Rattle.file_model.specs.declared.head.Head.{Head}
use Rattle.file_model.specs.declared.head.Wanted.{Wanted}
use Rattle.file_model.specs.declared.head.Wanted.TheVariants.{Secret, Public, Cipher, Key}

-- a file of this kind is wanted
abbrev pub wants : Wanted → FileKind → Bool
wants Secret kind.Secret = true
wants Public kind.PublicKey = true
wants Cipher kind.Cipher = true
wants Key (kind.SwitchKey key) = true
wants _ _ = false

-- the content that a head states, with these words
abbrev pub content_with : Head → List ℕ → FileContent
content_with head words = record {
  kind = head.kind;
  set = head.set;
  parts = head.parts;
  element = head.element;
  key_id = head.id;
  mantissa = head.bound.m;
  exponent = head.bound.e;
  words = words;
}

-- the head of a file of this kind, with as many words as the kind asks for
abbrev pub made_head : FileKind → SetName → ℕ → ℕ → List ℕ → Bound → Head
made_head kind set parts element id bound = record {
  kind = kind;
  set = set;
  parts = parts;
  element = element;
  id = id;
  bound = bound;
  words = row_count kind set parts * degree_of set;
}

-- no bound is stated
abbrev pub no_bound : Bound
no_bound = record { m = 0; e = 0 }

-- the head states this content
pub record IsHeadOf (head : Head) (content : FileContent) : Type 0 where
  pub states : content ≡ content_with head content.words
  pub count : head.words ≡ length content.words

-- each field of a head keeps the rule of its kind
pub record HeadKeepsRules (head : Head) : Type 0 where
  pub set : IsTrue (set_fits head.kind head.set)
  pub parts : IsTrue (parts_fit head.kind head.parts)
  pub element : IsTrue (element_fits head.kind head.set head.element)
  pub key_id : length head.id ≡ 16
  pub bound : IsTrue (bound_fits head.kind head.set head.bound.m head.bound.e)
  pub count : head.words ≡ row_count head.kind head.set head.parts * degree_of head.set
