-- What a line without fault demanded.
use Rattle.std.proofs.Common.{◌≡◌, Bool, true, false, Option, Some, None, Result, Ok, Err, refl}
use Rattle.script_text.specs.declared.faults.ScriptPlace.{ScriptPlace}
use Rattle.script_text.specs.Grammar.{demand, demand_some, followed}

pub demand_ok : {A : Type 0} (holds : Bool) (fault : ScriptPlace) (r : Result A ScriptPlace) (x : A) → demand holds fault r ≡ Ok x → (holds ≡ true) × (r ≡ Ok x)
demand_ok true fault r x is = (refl, is)
demand_ok false fault r x is = absurd cc

pub demand_some_ok : {A B : Type 0} (o : Option A) (fault : ScriptPlace) (r : A → Result B ScriptPlace) (x : B) → demand_some o fault r ≡ Ok x → (y : A) × (o ≡ Some y) × (r y ≡ Ok x)
demand_some_ok None fault r x is = absurd cc
demand_some_ok (Some y) fault r x is = (y, refl, is)

pub followed_ok : {A B : Type 0} (r : Result A ScriptPlace) (next : A → Result B ScriptPlace) (x : B) → followed r next ≡ Ok x → (y : A) × (r ≡ Ok y) × (next y ≡ Ok x)
followed_ok (Ok y) next x is = (y, refl, is)
followed_ok (Err e) next x is = absurd cc
