use Rattle.std.proofs.Common.{rules, arith, ◌≡◌, ℕ, ◌+◌, ◌*◌, List, length, map, Contains, ap, subst, sym, ◌∙◌}
use Rattle.set_table.specs.declared.SetName.{SetName}
use Rattle.set_table.specs.Sets.{data_of, key_of}
use Rattle.bfv_params.specs.Rows.{ReducedInTurn}
use Rattle.bfv_params.specs.Values.{SwitchKeyValue}
use Rattle.key_switch.specs.Memory.{MemKeysValue, is_for, pair_of}
use Rattle.key_switch.proofs.HeldKeys.{set_of_found, pair_of_none}
use Rattle.key_switch.proofs.memory.MemKeysKeys.digit.Goals as goal

pub unreachable-requires : goal.unreachable-requires
unreachable-requires g c =
    let held : c.args.self.now.keys ≡ c.deref.result.now = sym (c.deref.ensures.value ∙ ap (λ (m : MemKeysValue). m.keys) c.self.view_is) in
    pair_of_none c.args.kind c.args.element c.deref.result.now c.in_default.ensures
    (subst (λ (keys : List SwitchKeyValue). Contains (map pair_of keys) (c.args.kind, c.args.element)) held c.requires.has)

pub write_digit-requires : goal.write_digit-requires
write_digit-requires g c =
    let of_set : c.in-Some.key.now.set ≡ c.args.self.now.set
    = set_of_found c.args.self.now c.self.inside.set c.self.inside.keys.items c.deref.result.now (is_for c.args.kind c.args.element) c.in-Some.key.now
    c.self.invariant c.self.view_is c.deref.ensures.value c.in-Some.ensures in
    let count : c.data_count.result ≡ length (data_of c.args.self.now.set)
    = c.data_count.ensures ∙ ap (λ (m : MemKeysValue). length (data_of m.set)) c.self.view_is in
    let counts : length (data_of c.args.self.now.set) ≡ length (data_of c.in-Some.key.now.set) = ap (λ (set : SetName). length (data_of set)) (sym of_set) in (
      search rules,
      (
        search rules,
        (
          omega (arith, count, counts),
          (omega (arith, c.requires.index, counts), c.requires.rows ∙ ap (λ (n : ℕ). 2 * (n + 1)) (sym count)),
        ),
      ),
    )

pub returns-clause-below : goal.returns-clause-below
returns-clause-below g c =
    let of_set : c.in-Some.key.now.set ≡ c.args.self.now.set
    = set_of_found c.args.self.now c.self.inside.set c.self.inside.keys.items c.deref.result.now (is_for c.args.kind c.args.element) c.in-Some.key.now
    c.self.invariant c.self.view_is c.deref.ensures.value c.in-Some.ensures in
    let count : c.data_count.result ≡ length (data_of c.args.self.now.set)
    = c.data_count.ensures ∙ ap (λ (m : MemKeysValue). length (data_of m.set)) c.self.view_is in
    subst (λ (n : ℕ). ReducedInTurn g.row.N (n + 1) (key_of c.args.self.now.set) c.write_digit.new.into) count
    (subst (λ (set : SetName). ReducedInTurn g.row.N (c.data_count.result + 1) (key_of set) c.write_digit.new.into) of_set c.write_digit.ensures.below)

pub returns-clause-kept : goal.returns-clause-kept
returns-clause-kept g c = λ _. returns-clause-below g c
