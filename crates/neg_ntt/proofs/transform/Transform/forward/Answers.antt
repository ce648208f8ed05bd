use Rattle.std.proofs.Common.{◌≡◌, ℕ, ◌+◌, ◌-◌, ◌%◌, ◌^◌, ◌<◌, length, arith, subst, ap, ◌∙◌, get_or}
use Rattle.ring_law.specs.Rows.{RowRepresents, row_polynomial}
use Rattle.neg_ntt.specs.Tables.{AreTables}
use Rattle.neg_ntt.proofs.LayerValues.{AreBlocks}
use Rattle.neg_ntt.proofs.Steps.{AreBlocks-first, AreBlocks-layer, transform_entry-AreBlocks, transform_entry-represented}
use Rattle.neg_ntt.proofs.transform.Transform.forward.Goals as goal

pub loop-s-init : goal.loop-s-init
loop-s-init g c = record {
  within = omega arith;
  len = c.told-row;
  below = λ i inside. let h = c.requires i (omega (arith, c.told-row)) in omega arith;
  blocks = AreBlocks-first c.args.self.now.modulus c.args.self.now.root (2 ^ (c.args.self.now.log_degree - 0)) c.args.row.now;
}

pub loop-s-preserved-then-self-s-eq1 : goal.loop-s-preserved-then-self-s-eq1
loop-s-preserved-then-self-s-eq1 g c =
    let t = c.args.self.now in
    let tables = subst (λ t. AreTables g.row.N t c.self.inside.roots.items c.self.inside.inverse_degree c.self.inside.scaled_root) c.self.view_is c.self.invariant in
    let before = c.loop-s.invariant in
    let layer : c.loop-s.s < t.log_degree = omega (arith, c.loop-s-test.true, ap (λ t. t.log_degree) c.self.view_is) in
    record {
      within = omega arith;
      len = omega (arith, before.len);
      below = c.split_blocks.ensures.below;
      blocks = AreBlocks-layer g.row.N t tables.parameters (row_polynomial c.args.row.now) c.loop-s.row c.split_blocks.new.row c.loop-s.s layer
          c.split_blocks.ensures.pairs before.blocks;
    }

pub loop-s-preserved : goal.loop-s-preserved
loop-s-preserved g c =
    let t = c.args.self.now in
    let tables = subst (λ t. AreTables g.row.N t c.self.inside.roots.items c.self.inside.inverse_degree c.self.inside.scaled_root) c.self.view_is c.self.invariant in
    let before = c.loop-s.invariant in
    let layers = c.split_twice.ensures.layers in
    let s = c.loop-s.s in
    let a = row_polynomial c.args.row.now in
    let log_degree = ap (λ t. t.log_degree) c.self.view_is in
    let next : s + 1 < t.log_degree = omega (arith, c.loop-s-test.true, c.if-self-s-eq1.false, log_degree) in
    let first : s < t.log_degree = omega arith in
    let two : s + 1 + 1 ≡ s + 2 = omega arith in
    record {
      within = omega arith;
      len = omega (arith, before.len);
      below = c.split_twice.ensures.below;
      blocks = subst (λ s. AreBlocks t.modulus t.root s (2 ^ (t.log_degree - s)) 1 a c.split_twice.new.row) two
          (AreBlocks-layer g.row.N t tables.parameters a layers.middle c.split_twice.new.row (s + 1) next layers.second
          (AreBlocks-layer g.row.N t tables.parameters a c.loop-s.row layers.middle s first layers.first before.blocks));
    }

pub returns-clause-transform : goal.returns-clause-transform
returns-clause-transform g c a represents j below =
    let t = c.args.self.now in
    let tables = subst (λ t. AreTables g.row.N t c.self.inside.roots.items c.self.inside.inverse_degree c.self.inside.scaled_root) c.self.view_is c.self.invariant in
    let row = c.loop-s.row in
    let modulus : c.value.result ≡ t.modulus = c.value.ensures.value ∙ ap (λ t. t.modulus) c.self.view_is in
    let last : c.loop-s.s ≡ t.log_degree = omega (arith, c.loop-s-test.false, c.loop-s.invariant.within, ap (λ t. t.log_degree) c.self.view_is) in
    let inside : j < length row = omega (arith, c.loop-s.invariant.len, tables.parameters.power) in
    let blocks = subst (λ s. AreBlocks t.modulus t.root s (2 ^ (t.log_degree - s)) 1 (row_polynomial c.args.row.now) row) last c.loop-s.invariant.blocks in
    c.fold_row.ensures.residues j inside ∙ ap (λ (q : ℕ). get_or row j 0 % q) modulus
    ∙ transform_entry-AreBlocks t.modulus t.root t.log_degree (row_polynomial c.args.row.now) row j (omega (arith, tables.parameters.modulus.from_three)) blocks below
    ∙ transform_entry-represented t.modulus t.log_degree t.root c.args.row.now a j (omega (arith, tables.parameters.modulus.from_three))
    (subst (λ n. RowRepresents n t.modulus c.args.row.now a) tables.parameters.power represents)
