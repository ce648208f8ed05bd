-- The report on an accepted script: one JSON value.
use Rattle.std.specs.Prelude.{ℕ, List, [], ◌∷◌, ◌++◌, map, zip, codes}
use Rattle.serde_json.specs.Data.{Data, number, unsigned, string, array, object, member, no_members}
use Rattle.serde_json.specs.View.{items_of}
use Rattle.serde_json.specs.Written.{compact_text}
use Rattle.set_table.specs.Sets.{name_of, data_of}
use Rattle.bound_num.specs.declared.Bound.{Bound}
use Rattle.bfv_model.specs.Limit.{limit}
use Rattle.script_text.specs.Scripts.{Script, Register, registers_of}
use Rattle.noise_check.specs.Numbers.{bound_of}

-- a whole number
abbrev pub natural : ℕ → Data
natural n = number (unsigned n)

-- a register, with the bound on its noise
abbrev pub register_object : Register × Bound → Data
register_object (register, bound) = object
    (member (codes "exp") (natural bound.e)
    (member (codes "line") (natural register.line)
    (member (codes "mant") (natural bound.m)
    (member (codes "name") (string register.name)
    (member (codes "parts") (natural register.shape.parts) no_members)))))

-- the greatest bound that a register may have
abbrev pub limit_object : Bound → Data
limit_object bound = object (member (codes "exp") (natural bound.e) (member (codes "mant") (natural bound.m) no_members))

-- the report on a script whose registers have these bounds
abbrev pub report_of : Script → List Bound → Data
report_of script bounds = object
    (member (codes "bounds") (array (items_of (map register_object (zip (registers_of script) bounds))))
    (member (codes "limit") (limit_object (bound_of (limit (data_of script.set))))
    (member (codes "set") (string (name_of script.set)) no_members)))

-- its text, with no space, and a line feed
abbrev pub report_text : Script → List Bound → List ℕ
report_text script bounds = compact_text (report_of script bounds) ++ 10 ∷ []
