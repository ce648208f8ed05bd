use Rattle.std.proofs.Common.{◌≡◌, Option, ℕ, ◌-◌, ◌%◌, ◌^◌, ◌<◌, ◌↔◌, IsSome, IfSome, Contains, sym, subst}
use Rattle.set_table.specs.Roots.{roots_of}
use Rattle.set_table.specs.Sets.{degree_of, transform_moduli_of}
use Rattle.res_base.proofs.Roots.{root_of-power, root_of-below, IsSome-root_of, find-lookup}
use Rattle.res_base.proofs.sets.SetTable.root.Goals as goal

pub returns-clause-value : goal.returns-clause-value
returns-clause-value c = rw (c.find_root.ensures, c.roots.ensures) (find-lookup c.args.q (roots_of c.args.self.now))

pub returns-clause-listed : goal.returns-clause-listed
returns-clause-listed c =
    let Listed : Option ℕ → Type 0 = λ found. IsSome found ↔ Contains (transform_moduli_of c.args.self.now) c.args.q in
    subst Listed (sym (returns-clause-value c)) (IsSome-root_of c.args.self.now c.args.q)

pub returns-clause-power : goal.returns-clause-power
returns-clause-power c =
    let Power : Option ℕ → Type 0 = λ found. IfSome found (λ psi. psi ^ degree_of c.args.self.now % c.args.q ≡ c.args.q - 1) in
    subst Power (sym (returns-clause-value c)) (root_of-power c.args.self.now c.args.q)

pub returns-clause-below : goal.returns-clause-below
returns-clause-below c =
    let Below : Option ℕ → Type 0 = λ found. IfSome found (λ psi. psi < c.args.q) in
    subst Below (sym (returns-clause-value c)) (root_of-below c.args.self.now c.args.q)
