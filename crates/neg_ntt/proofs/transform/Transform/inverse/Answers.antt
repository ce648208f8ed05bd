use Rattle.std.proofs.Common.{◌≡◌, ℕ, suc, ◌+◌, ◌-◌, ◌*◌, ◌%◌, ◌^◌, ◌<◌, length, arith, sym, subst, ap}
use Rattle.neg_ntt.specs.Tables.{AreTables}
use Rattle.neg_ntt.proofs.LayerValues.{AreBlocks}
use Rattle.neg_ntt.proofs.Steps.{AreBlocks-last, AreBlocks-layer_back, AreParameters-minus_one, IsTransform-from_unique, log_from_two, residue-joined}
use Rattle.neg_ntt.proofs.transform.Transform.inverse.Goals as goal

pub loop-s-init : goal.loop-s-init
loop-s-init g c =
    let t = c.args.self.now in
    let tables = subst (λ t. AreTables g.row.N t c.self.inside.roots.items c.self.inside.inverse_degree c.self.inside.scaled_root) c.self.view_is c.self.invariant in
    let log_degree : c.self.inside.log_degree ≡ t.log_degree = ap (λ t. t.log_degree) c.self.view_is in
    record {
      within = omega (arith, log_degree);
      from_one = let two = log_from_two g.row.N t.log_degree tables.parameters.power tables.parameters.from_four in omega (arith, log_degree, two);
      len = c.told-row;
      below = λ i inside. let h = c.requires i (omega (arith, c.told-row)) in omega arith;
      blocks = λ a entries.
          subst (λ s. AreBlocks t.modulus t.root s (2 ^ (t.log_degree - s)) (2 ^ (t.log_degree - s)) a c.args.row.now) (sym log_degree)
          (AreBlocks-last t.modulus t.root t.log_degree a c.args.row.now (omega (arith, tables.parameters.modulus.from_three)) entries);
    }

pub loop-s-preserved : goal.loop-s-preserved
loop-s-preserved g c =
    let t = c.args.self.now in
    let tables = subst (λ t. AreTables g.row.N t c.self.inside.roots.items c.self.inside.inverse_degree c.self.inside.scaled_root) c.self.view_is c.self.invariant in
    let before = c.loop-s.invariant in
    let layers = c.join_twice.ensures.layers in
    let s : ℕ = c.loop-s.s - 2 in
    let last : c.loop-s.s ≡ suc (s + 1) = omega (arith, c.loop-s-test.true) in
    let next : s + 1 < t.log_degree = omega (arith, before.within, last) in
    let first : s < t.log_degree = omega arith in
    let one : s + 1 ≡ suc s = omega arith in
    record {
      within = omega (arith, before.within);
      from_one = omega (arith, c.loop-s-test.true);
      len = omega (arith, before.len);
      below = c.join_twice.ensures.below;
      blocks = λ a entries.
          AreBlocks-layer_back g.row.N t tables.parameters a layers.middle c.join_twice.new.row s first layers.second
          (subst (λ s. AreBlocks t.modulus t.root s (2 ^ (t.log_degree - s)) (2 ^ (t.log_degree - s)) a layers.middle) one
          (AreBlocks-layer_back g.row.N t tables.parameters a c.loop-s.row layers.middle (s + 1) next layers.first
          (subst (λ s. AreBlocks t.modulus t.root s (2 ^ (t.log_degree - s)) (2 ^ (t.log_degree - s)) a c.loop-s.row) last (before.blocks a entries))));
    }

pub returns-then-s-eq2-clause-unique : goal.returns-then-s-eq2-clause-unique
returns-then-s-eq2-clause-unique g c a entries r below =
    let t = c.args.self.now in
    let tables = subst (λ t. AreTables g.row.N t c.self.inside.roots.items c.self.inside.inverse_degree c.self.inside.scaled_root) c.self.view_is c.self.invariant in
    let layers = c.join_last_twice.ensures.layers in
    let two = log_from_two g.row.N t.log_degree tables.parameters.power tables.parameters.from_four in
    let second : 1 < t.log_degree = omega (arith, two) in
    let at_two : c.loop-s.s ≡ suc 1 = omega (arith, c.if-s-eq2.true) in
    let inside : r < length c.join_last_twice.new.row = omega (arith, c.loop-s.invariant.len, below) in
    residue-joined g.row.N t tables.parameters a layers.middle c.join_last_twice.new.row layers.second
    (AreBlocks-layer_back g.row.N t tables.parameters a c.loop-s.row layers.middle 1 second layers.first
    (subst (λ s. AreBlocks t.modulus t.root s (2 ^ (t.log_degree - s)) (2 ^ (t.log_degree - s)) a c.loop-s.row) at_two (c.loop-s.invariant.blocks a entries)))
    r below (c.join_last_twice.ensures.reduced r inside)

pub returns-then-s-eq2-clause-transform : goal.returns-then-s-eq2-clause-transform
returns-then-s-eq2-clause-transform g c =
    let t = c.args.self.now in
    let tables = subst (λ t. AreTables g.row.N t c.self.inside.roots.items c.self.inside.inverse_degree c.self.inside.scaled_root) c.self.view_is c.self.invariant in
    let last = c.join_last_twice.ensures.layers.second in
    IsTransform-from_unique t.modulus t.root t.log_degree last.scale c.args.row.now c.join_last_twice.new.row (omega (arith, tables.parameters.modulus.from_three))
    (AreParameters-minus_one g.row.N t tables.parameters) (subst (λ n. last.scale * n % t.modulus ≡ 1) tables.parameters.power last.is_inverse)
    (λ j below. c.requires j (omega (arith, tables.parameters.power)))
    (λ a entries r below. returns-then-s-eq2-clause-unique g c a entries r (omega (arith, tables.parameters.power)))

pub returns-else-s-eq2-clause-unique : goal.returns-else-s-eq2-clause-unique
returns-else-s-eq2-clause-unique g c a entries r below =
    let t = c.args.self.now in
    let tables = subst (λ t. AreTables g.row.N t c.self.inside.roots.items c.self.inside.inverse_degree c.self.inside.scaled_root) c.self.view_is c.self.invariant in
    let at_one : c.loop-s.s ≡ 1 = omega (arith, c.if-s-eq2.false, c.loop-s-test.false, c.loop-s.invariant.from_one) in
    let inside : r < length c.join_last.new.row = omega (arith, c.loop-s.invariant.len, below) in
    residue-joined g.row.N t tables.parameters a c.loop-s.row c.join_last.new.row c.join_last.ensures.joined
    (subst (λ s. AreBlocks t.modulus t.root s (2 ^ (t.log_degree - s)) (2 ^ (t.log_degree - s)) a c.loop-s.row) at_one (c.loop-s.invariant.blocks a entries))
    r below (c.join_last.ensures.reduced r inside)

pub returns-else-s-eq2-clause-transform : goal.returns-else-s-eq2-clause-transform
returns-else-s-eq2-clause-transform g c =
    let t = c.args.self.now in
    let tables = subst (λ t. AreTables g.row.N t c.self.inside.roots.items c.self.inside.inverse_degree c.self.inside.scaled_root) c.self.view_is c.self.invariant in
    let last = c.join_last.ensures.joined in
    IsTransform-from_unique t.modulus t.root t.log_degree last.scale c.args.row.now c.join_last.new.row (omega (arith, tables.parameters.modulus.from_three))
    (AreParameters-minus_one g.row.N t tables.parameters) (subst (λ n. last.scale * n % t.modulus ≡ 1) tables.parameters.power last.is_inverse)
    (λ j below. c.requires j (omega (arith, tables.parameters.power)))
    (λ a entries r below. returns-else-s-eq2-clause-unique g c a entries r (omega (arith, tables.parameters.power)))
