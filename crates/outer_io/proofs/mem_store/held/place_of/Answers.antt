use Rattle.std.proofs.Common.{◌≡◌, ◌≢◌, ℕ, refl, arith, rules, ◌∙◌, ap}
use Rattle.std.specs.Prelude.{Some, slice_get}
use Rattle.std.specs.String.{string_bytes}
use Rattle.std.proofs.lemmas.Option.{slice_get_within, slice_get_read}
use Rattle.std.proofs.lemmas.Slice.Eq.{bytes_eq-Decides}
use borrow.Author.Count.{below_more}
use Rattle.outer_io.specs.declared.mem_store.held.HeldFile.{HeldFile}
use Rattle.outer_io.proofs.mem_store.held.place_of.Goals as goal
use Rattle.outer_io.proofs.Places.{absent}

pub returns-then-eq-clause-found : goal.returns-then-eq-clause-found
returns-then-eq-clause-found c = record {
  below = omega arith;
  named = λ f at. let here = slice_get_read c.args.files.now _ c.loop-i.i c.index-files-i.result refl (omega arith) c.index-files-i.is in
      let same : string_bytes c.index-files-i.result.name ≡ c.args.name.now = search (rules, bytes_eq-Decides) in
      let e : f ≡ c.index-files-i.result = cc (at, here) in ap (λ x. string_bytes x.name) e ∙ same;
  first = c.loop-i.invariant;
}

pub loop-i-preserved : goal.loop-i-preserved
loop-i-preserved c = λ j f below at.
    let other : string_bytes c.index-files-i.result.name ≢ c.args.name.now = search (rules, bytes_eq-Decides) in
    let here = slice_get_read c.args.files.now _ c.loop-i.i c.index-files-i.result refl (omega arith) c.index-files-i.is in
    below_more (λ (k : ℕ). (g : HeldFile) → slice_get c.args.files.now k ≡ Some g → string_bytes g.name ≢ c.args.name.now) c.loop-i.i (λ k l g is. c.loop-i.invariant k g l is)
    (λ g is e. other (ap (λ (x : HeldFile). string_bytes x.name) (let same : c.index-files-i.result ≡ g = cc (is, here) in same) ∙ e)) j below f at

pub returns-clause-none : goal.returns-clause-none
returns-clause-none c = absent c.args.files.now c.args.name.now (λ j f at. c.loop-i.invariant j f (let w = slice_get_within c.args.files.now j f at in omega arith) at)
