use Rattle.std.proofs.Common.{◌≡◌, ℕ, ◌+◌, ◌*◌, ◌≤◌, ◌∙◌, sym, subst, ap, arith, rules, length, replicate}
use Rattle.std.proofs.lemmas.List.{length-replicate}
use Rattle.set_table.specs.Sets.{aux_of, data_of, plain_of}
use Rattle.ring_law.specs.Rows.{IsReduced}
use Rattle.bfv_params.specs.Values.{CipherValue, ContextValue, PublicValue}
use Rattle.bfv_params.proofs.Tables.{degree_of-limit}
use Rattle.bfv_encrypt.proofs.tests.draw_cipher.Goals as goal

pub encrypt-requires : goal.encrypt-requires
encrypt-requires g c =
    let n : ℕ = g.row.N in
    let ctx : ContextValue = c.in_ok-ctx.ctx in
    let degree : n ≤ 32768 = subst (λ m. m ≤ 32768) (sym c.requires) (degree_of-limit c.args.set) in
    let level : ctx.level ≡ length (data_of ctx.set) = ap (λ (x : ContextValue). x.level) c.in_ok-ctx.ensures ∙ sym (ap (λ (x : ContextValue). length (data_of x.set)) c.in_ok-ctx.ensures) in
    let key : c.fill_key.new.key.set ≡ ctx.set = c.fill_key.ensures ∙ ap (λ (x : PublicValue). x.set) c.in_ok-public.ensures.value in
    let plain : IsReduced n (plain_of ctx.set) c.fill.new.row = subst (λ t. IsReduced n t c.fill.new.row) c.plain_modulus.ensures c.fill.ensures in
    let cipher_set : c.in_ok-cipher.cipher.set ≡ ctx.set = ap (λ (x : CipherValue). x.set) c.in_ok-cipher.ensures.value in
    let cipher_level : c.in_ok-cipher.cipher.level ≡ ctx.level = ap (λ (x : CipherValue). x.level) c.in_ok-cipher.ensures.value in
    let scratch : length c.in_ok-scratch.scratch ≡ 8 * (ctx.level + length (aux_of ctx.set) + 2) =
    ap length c.in_ok-scratch.ensures ∙ length-replicate c.scratch_rows.result (replicate n 0) ∙ c.scratch_rows.ensures.value in
    (search rules, (search rules, (omega (arith, degree), (search rules, (search rules, (level, (key, (plain, (record { set = cipher_set; level = cipher_level }, scratch)))))))))
