-- What files stand for, and after one of them was written.
use Rattle.std.proofs.Common.{◌≡◌, ◌≢◌, ℕ, List, refl, sym, ◌∙◌, ap}
use Rattle.std.specs.Prelude.{Bool, true, false, cond, Option, Some}
use Rattle.std.specs.Str.{bytes_eq}
use Rattle.std.specs.FinMap as map
use Rattle.std.proofs.lemmas.Slice.Eq.{bytes_eq-Decides}
use Rattle.outer_io.specs.Store.{Files, file}
use Rattle.outer_io.proofs.Names.{file_set_same, file_set_other}
use Rattle.command_model.specs.Plain.{Item, text, State, Stands, IsItem, with_item}

-- the file of a name that stands for a text has its bytes
pub text_at : (files : Files) (state : State) (name bytes : List ℕ) → Stands files state → state name ≡ Some (text bytes) → file files name ≡ Some bytes
text_at files state name bytes stands is = let held = stands.each name (text bytes) is in held.1.0 ∙ ap Some held.1.1

item_after : (files : Files) (state : State) (out bytes : List ℕ) (item : Option Item) (name : List ℕ) (i : Item) → Stands files state
    → ((j : Item) → item ≡ Some j → IsItem j bytes) → (b : Bool) → bytes_eq name out ≡ b → cond b item (state name) ≡ Some i
    → (held : List ℕ) × ((file (map.insert files out bytes) name ≡ Some held) × IsItem i held)
item_after files state out bytes item name i stands is true same at =
    let e : name ≡ out = (bytes_eq-Decides name out).0 same in
    (bytes, (ap (λ (n : List ℕ). file (map.insert files out bytes) n) e ∙ file_set_same files out bytes, is i at))
item_after files state out bytes item name i stands is false other at =
    let apart : name ≢ out = λ e. let never : true ≡ false = sym ((bytes_eq-Decides name out).1 e) ∙ other in cc in
    let old = stands.each name i at in
    (old.0, (file_set_other files out bytes name apart ∙ old.1.0, old.1.1))

-- a file is written, and the state has an item there at most
pub stands_with : (files : Files) (state : State) (out bytes : List ℕ) (item : Option Item) → Stands files state → ((i : Item) → item ≡ Some i → IsItem i bytes)
    → Stands (map.insert files out bytes) (with_item state out item)
stands_with files state out bytes item stands is = record { each = λ name i at. item_after files state out bytes item name i stands is (bytes_eq name out) refl at }
