use Rattle.std.proofs.Common.{◌≡◌, List, map, Contains, sym, ap, subst, ◌∙◌}
use Rattle.std.proofs.lemmas.Bool.{some_since}
use Rattle.bfv_params.specs.Values.{SwitchKeyValue}
use Rattle.key_switch.specs.Memory.{MemKeysValue, pair_of}
use Rattle.key_switch.proofs.HeldKeys.{shown_by_found, pair_of_found, pair_of_none}
use Rattle.key_switch.proofs.memory.MemKeysKeys.has.Goals as goal

pub returns : goal.returns
returns g c =
    let kind = c.args.kind in
    let element = c.args.element in
    let held : c.deref.result.now ≡ c.args.self.now.keys = c.deref.ensures.value ∙ ap (λ (m : MemKeysValue). m.keys) c.self.view_is in (
      λ true. subst (λ (keys : List SwitchKeyValue). Contains (map pair_of keys) (kind, element)) held
          (shown_by_found c.find_key.result _ _ _ c.find_key.ensures (λ key is. pair_of_found kind element c.deref.result.now _ is) (sym c.is_some.ensures ∙ true)),
      λ among. c.is_some.ensures
          ∙ some_since c.find_key.result _ _ c.find_key.ensures
          (λ none. pair_of_none kind element c.deref.result.now none (subst (λ (keys : List SwitchKeyValue). Contains (map pair_of keys) (kind, element)) (sym held) among)),
    )
