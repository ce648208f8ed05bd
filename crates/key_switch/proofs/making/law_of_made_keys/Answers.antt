use Rattle.std.proofs.Common.{◌∙◌, ◌<◌, subst, sym}
use Rattle.set_table.specs.Sets.{data_of, log_degree_of}
use Rattle.bfv_model.specs.Drawn.{drawn_switch}
use Rattle.bfv_model.specs.SwitchKeys.{IsSwitchKeyIn, key_roots_of}
use Rattle.bfv_model.proofs.SetKeys.{drawn_switch-IsSwitchKeyIn}
use Rattle.bfv_params.proofs.Tables.{degree_of-power}
use Rattle.key_switch.proofs.making.law_of_made_keys.Goals as goal

pub returns : goal.returns
returns c = λ set P source s words word special same.
    let key : IsSwitchKeyIn set (drawn_switch (log_degree_of set) (data_of set) P (key_roots_of set) source s words) source s
    = drawn_switch-IsSwitchKeyIn set P source s words special in record {
      special = key.special;
      is_special = key.is_special;
      words = record {
        part = key.words.part;
        transforms = λ i j r k digit in_key row place.
            same i j r k digit in_key row (subst (λ m. k < m) (sym (degree_of-power set)) place) ∙ key.words.transforms i j r k digit in_key row place;
        relation = key.words.relation;
      };
    }
