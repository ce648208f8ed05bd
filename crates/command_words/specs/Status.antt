-- What a status says: its number and its texts.
use Rattle.std.specs.Prelude.{ℕ, Bool, true, false, List, [], ◌++◌, Option, Some, None, codes, decimal}
use Rattle.hex.specs.Hex.{encode_lower}
use Rattle.bound_num.specs.declared.Bound.{Bound}
use Rattle.set_table.specs.Sets.{name_of}
use Rattle.outer_io.specs.declared.faults.Damage.{Damage}
use Rattle.outer_io.specs.declared.faults.Damage.TheVariants.{Field, Length, Digest, NotReduced, Changed}
use Rattle.script_text.specs.declared.faults.ScriptPlace.{ScriptPlace}
use Rattle.script_text.specs.declared.faults.ScriptPlace.TheVariants.{Syntax, Name, Shape}
use Rattle.script_text.specs.declared.faults.ScriptPlace.TheVariants as script
use Rattle.script_text.specs.declared.faults.ValuePlace.{ValuePlace}
use Rattle.script_text.specs.declared.faults.ValuePlace.TheVariants.{BadText, TooLarge, TooMany, TooLong}
use Rattle.command_words.specs.declared.status.BindingFault.TheVariants.{Undeclared, Twice, Unbound}
use Rattle.command_words.specs.declared.status.Status.{Status}
use Rattle.command_words.specs.declared.status.Status.TheVariants.{Done, Usage, Memory, ReadFault, WriteFault, MissingFile, NotOurs, Version, Damaged, WrongKind, SetMismatch, KeyMismatch, BadValues, BadScript, TooNoisy, Binding, NoSpecial, ShortSeed, BadStep, PartsMismatch}

-- the parts of a status: the exit status of the program, what it is called, a number that belongs to that, the number of the
-- word that it keeps, whether this word is told whole or by the file that it names, and what else is to be said
pub record Parts : Type 0 where
  pub code : ℕ
  pub text : List ℕ
  pub number : Option ℕ
  pub word : Option ℕ
  pub whole : Bool
  pub detail : List ℕ

-- a number in decimal behind a text
abbrev pub text_and_number : List ℕ → ℕ → List ℕ
text_and_number text number = text ++ decimal number

-- what is wrong with a text of values, and where
abbrev pub place_text : ValuePlace → List ℕ
place_text (BadText at) = text_and_number (codes " text at ") at
place_text (TooLarge index) = text_and_number (codes " too large at ") index
place_text TooMany = codes " too many"
place_text TooLong = codes " too long"

-- what is wrong with a script, and where
abbrev pub script_place_text : ScriptPlace → List ℕ
script_place_text (Syntax line) = text_and_number (codes ": syntax line ") line
script_place_text (Name line) = text_and_number (codes ": name line ") line
script_place_text (Shape line) = text_and_number (codes ": shape line ") line
script_place_text script.TooLong = codes ": too long"

-- the mantissa and the exponent of a bound behind a text
abbrev pub text_and_bound : List ℕ → Bound → List ℕ
text_and_bound text bound = text_and_number text bound.m ++ text_and_number (codes " ") bound.e

-- a register whose bound is above the limit: the line that defines it, its bound and the limit
abbrev pub excess_text : ℕ → Bound → Bound → List ℕ
excess_text line bound limit =
    text_and_number (codes ": line ") line ++ (text_and_bound (codes " bound ") bound ++ text_and_bound (codes " limit ") limit)

-- what is wrong with the bytes of a file
abbrev pub damage_text : Damage → List ℕ
damage_text (Field at) = text_and_number (codes " field ") at
damage_text (Length have want) = text_and_number (codes " length ") have ++ text_and_number (codes " of ") want
damage_text Digest = codes " digest"
damage_text (NotReduced place) = text_and_number (codes " word ") place
damage_text Changed = codes " changed"

-- what a file has, and what was wanted
abbrev pub mismatch_text : List ℕ → List ℕ → List ℕ
mismatch_text have want = codes " has " ++ have ++ codes ", wanted " ++ want

-- the table of statuses
abbrev pub parts_of : Status → Parts
parts_of Done = record { code = 0; text = codes "done"; number = None; word = None; whole = false; detail = [] }
parts_of Usage = record { code = 2; text = codes "usage"; number = None; word = None; whole = false; detail = [] }
parts_of Memory = record { code = 3; text = codes "memory"; number = None; word = None; whole = false; detail = [] }
parts_of (ReadFault word) = record { code = 4; text = codes "read fault"; number = None; word = Some word; whole = false; detail = [] }
parts_of WriteFault = record { code = 5; text = codes "write fault"; number = None; word = None; whole = false; detail = [] }
parts_of (MissingFile word) = record { code = 6; text = codes "missing file"; number = None; word = Some word; whole = false; detail = [] }
parts_of (NotOurs word) = record { code = 7; text = codes "not ours"; number = None; word = Some word; whole = false; detail = [] }
parts_of (Version word have) = record { code = 8; text = codes "version"; number = Some have; word = Some word; whole = false; detail = [] }
parts_of (Damaged word fault) = record { code = 9; text = codes "damaged"; number = None; word = Some word; whole = false; detail = damage_text fault }
parts_of (WrongKind word have) = record { code = 10; text = codes "wrong kind"; number = Some have; word = Some word; whole = false; detail = [] }
parts_of (SetMismatch word have want) = record {
  code = 11;
  text = codes "set mismatch";
  number = None;
  word = Some word;
  whole = false;
  detail = mismatch_text (name_of have) (name_of want);
}
parts_of (KeyMismatch word have want) = record {
  code = 12;
  text = codes "key mismatch";
  number = None;
  word = Some word;
  whole = false;
  detail = mismatch_text (encode_lower have) (encode_lower want);
}
parts_of (BadValues word fault) = record { code = 13; text = codes "bad values"; number = None; word = Some word; whole = false; detail = place_text fault }
parts_of (BadScript fault) = record { code = 14; text = codes "bad script"; number = None; word = None; whole = false; detail = script_place_text fault }
parts_of (TooNoisy line bound limit) = record { code = 15; text = codes "too noisy"; number = None; word = None; whole = false; detail = excess_text line bound limit }
parts_of (Binding (Undeclared word)) = record { code = 17; text = codes "binding: undeclared"; number = None; word = Some word; whole = true; detail = [] }
parts_of (Binding (Twice word)) = record { code = 17; text = codes "binding: twice"; number = None; word = Some word; whole = true; detail = [] }
parts_of (Binding (Unbound input)) = record {
  code = 17;
  text = codes "binding: unbound input";
  number = None;
  word = None;
  whole = false;
  detail = text_and_number (codes " ") input;
}
parts_of (NoSpecial set) = record { code = 18; text = codes "no special modulus"; number = None; word = None; whole = false; detail = codes ": " ++ name_of set }
parts_of (ShortSeed word have) = record { code = 19; text = codes "short seed"; number = None; word = Some word; whole = false; detail = text_and_number (codes " ") have }
parts_of (BadStep step half) = record { code = 20; text = codes "bad step"; number = None; word = None; whole = false; detail = text_and_number (codes ": ") step }
parts_of (PartsMismatch word have want) = record {
  code = 26;
  text = codes "parts mismatch";
  number = None;
  word = Some word;
  whole = false;
  detail = mismatch_text (decimal have) (decimal want);
}
