use Rattle.std.proofs.Common.{refl, ◌∙◌, ap, rules, List}
use Rattle.std.specs.String.{string_bytes}
use Rattle.outer_io.proofs.mem_store.held.set_file.Goals as goal
use Rattle.outer_io.specs.declared.mem_store.held.HeldFile.{HeldFile}
use Rattle.outer_io.specs.Held.{files_of, IsFirst}
use Rattle.outer_io.proofs.Places.{set_first, push_new}

pub returns-in-Some-clause-files : goal.returns-in-Some-clause-files
returns-in-Some-clause-files c =
    let first : IsFirst c.args.files.now.items (string_bytes c.args.file.name) c.in-Some.i = rw (← c.as_str.ensures.value, ← c.deref.ensures.value) c.in-Some.ensures.found in
    set_first c.args.files.now.items (string_bytes c.args.file.name) c.in-Some.i c.args.file first refl

pub returns-in-None-clause-files : goal.returns-in-None-clause-files
returns-in-None-clause-files c = ap (λ (fs : List HeldFile). files_of fs) (search rules) ∙ push_new c.args.files.now.items c.args.file (string_bytes c.args.file.name) refl (search rules)
