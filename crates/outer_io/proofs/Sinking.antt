-- A text put in pieces.
use Rattle.std.proofs.Common.{◌≡◌, ℕ, ◌+◌, ◌≤◌, List, ◌++◌, length, take, refl, sym, ◌∙◌, ap, arith, append_assoc}
use Rattle.std.specs.Prelude.{Option, Some, None, Result, Ok, Err, min}
use Rattle.std.specs.Option.{option_map}
use Rattle.std.proofs.lemmas.Grind.{common_steps}
use Rattle.std.proofs.lemmas.Result.{IfOk-weaker, IfErr-weaker}
use Rattle.std.proofs.Math.Seq.{take-append-add}
use Rattle.outer_io.specs.declared.faults.SinkFault.{SinkFault}
use Rattle.outer_io.specs.Store.{Rose}
use Rattle.outer_io.specs.Sink.{SinkState, Puts, grown}

-- the front of a joined text, where it ends within its first part
take_front : (n : ℕ) (x y : List ℕ) → take (min n (length x)) (x ++ y) ≡ take n x
take_front n x y = grind (arith, common_steps)

-- a text that grew twice
grown_twice : (t : Option (List ℕ)) (x y : List ℕ) → option_map (λ text. text ++ y) (option_map (λ text. text ++ x) t) ≡ option_map (λ text. text ++ (x ++ y)) t
grown_twice None x y = refl
grown_twice (Some t) x y = ap Some (append_assoc t x y)

-- a count that rose in a call rose in any longer run that ends with it
pub Rose_before : (a b c : ℕ) → a ≤ b → Rose b c → Rose a c
Rose_before a b c le r = grind arith

-- a put that was refused, where more was to come
pub Puts_stop : {T U : Type 0} (old new : SinkState) (x y : List ℕ) (e : SinkFault) → Puts {T = T} old new x (Err e) → Puts {T = U} old new (x ++ y) (Err e)
Puts_stop old new x y e p = record {
  ok = tt;
  err = (min p.err.0 (length x), p.err.1 ∙ ap (λ (l : List ℕ). grown old l) (sym (take_front p.err.0 x y)));
  faults = p.faults;
  failed = λ is. p.failed (cc is);
}

-- a put after another
pub Puts_then : {T U : Type 0} (old mid new : SinkState) (x y : List ℕ) (v : T) (r : Result U SinkFault) → Puts {T = T} old mid x (Ok v) → Puts {T = U} mid new y r → Puts {T = U} old new (x ++ y) r
Puts_then old mid new x y v r p q = record {
  ok = IfOk-weaker r (λ _. new.text ≡ grown mid y) (λ _. new.text ≡ grown old (x ++ y)) (λ _ h. h ∙ ap (option_map (λ (text : List ℕ). text ++ y)) p.ok ∙ grown_twice old.text x y) q.ok;
  err = IfErr-weaker r (λ _. (n : ℕ) × (new.text ≡ grown mid (take n y))) (λ _. (n : ℕ) × (new.text ≡ grown old (take n (x ++ y))))
      (λ _ h. (length x + h.0, h.1 ∙ ap (option_map (λ (text : List ℕ). text ++ take h.0 y)) p.ok ∙ grown_twice old.text x (take h.0 y) ∙ ap (λ (l : List ℕ). grown old l) (sym (take-append-add x y h.0)))) q.err;
  faults = omega (arith, p.faults, q.faults);
  failed = λ is. Rose_before _ _ _ p.faults (q.failed is);
}
