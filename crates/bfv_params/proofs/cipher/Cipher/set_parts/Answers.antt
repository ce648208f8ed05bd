use Rattle.std.proofs.Common.{◌≡◌, ℕ, ◌*◌, ◌<◌, length, get_or, [], sym, ap, ◌∙◌}
use Rattle.std.proofs.lemmas.List.{get_or-take}
use Rattle.bfv_params.proofs.Ciphers.{all_lent, parts_cleared, within_three}
use Rattle.bfv_params.proofs.cipher.Cipher.set_parts.Goals as goal

pub invariant_of-self : goal.invariant_of-self
invariant_of-self g c =
    let s = c.self.inside in
    let old = s.rows.items in
    let new = c.clear_from.new.rows in
    let count : length new ≡ length old = c.clear_from.ensures.count ∙ ap length c.deref_mut.ensures.value in
    let before : (i : ℕ) → i < c.args.parts * s.level → get_or new i [] ≡ get_or old i [] =
    λ i less. rw c.deref_mut.ensures.value at (c.clear_from.ensures.before i less) in
    rw (all_lent s.rows.len old new (sym c.deref_mut.ensures.len ∙ ap length c.deref_mut.ensures.value) count) (
      count ∙ c.self.invariant.0,
      parts_cleared g.row.N s.set s.room s.level s.parts c.args.parts old new c.self.invariant.0 c.self.invariant.1 count before c.clear_from.ensures.zero c.requires,
    )

pub returns-clause-before : goal.returns-clause-before
returns-clause-before g c = λ i less.
    let s = c.self.inside in
    let old = s.rows.items in
    let new = c.clear_from.new.rows in
    let count : length new ≡ length old = c.clear_from.ensures.count ∙ ap length c.deref_mut.ensures.value in
    let less_inside : i < c.args.parts * s.level = rw (← c.self.view_is) at less in
    let seen : i < 3 * s.level = within_three c.args.parts s.level i c.requires less_inside in
    let kept : get_or new i [] ≡ get_or old i [] = rw c.deref_mut.ensures.value at (c.clear_from.ensures.before i less_inside) in
    rw (← c.self.view_is, all_lent s.rows.len old new (sym c.deref_mut.ensures.len ∙ ap length c.deref_mut.ensures.value) count)
    (get_or-take (3 * s.level) new i [] seen ∙ kept ∙ sym (get_or-take (3 * s.level) old i [] seen))

pub returns-clause-kept : goal.returns-clause-kept
returns-clause-kept g c = (invariant_of-self g c).1
