use Rattle.std.proofs.Common.{◌≡◌, List, ℕ, true, false, ◌≢◌, sym, ap, ◌∙◌}
use Rattle.set_table.specs.declared.SetName.{SetName}
use Rattle.set_table.specs.declared.SetName.TheVariants.{One16, Toy16, S4096, S8192, S16384}
use Rattle.set_table.specs.Sets.{name_of, set_named}
use Rattle.set_table.proofs.Found.{set_named-name_of, no_set_named}
use Rattle.set_table.proofs.SetName.from_text.Goals as goal

-- where the text is a set's name, both sides of `none` are false
named : (text : List ℕ) (set : SetName) → text ≡ name_of set
    → (true ≡ false → (other : SetName) → text ≡ name_of other → ⊥) × (((other : SetName) → text ≢ name_of other) → true ≡ false)
named text set e = (λ differ. absurd (let d : true ≡ false = differ in cc), λ unnamed. absurd (unnamed set e))

pub returns-in-one16-clause-none : goal.returns-in-one16-clause-none
returns-in-one16-clause-none c = named c.args.text.now One16 c.in-one16.is

pub returns-in-toy16-clause-none : goal.returns-in-toy16-clause-none
returns-in-toy16-clause-none c = named c.args.text.now Toy16 c.in-toy16.is

pub returns-in-s4096-clause-none : goal.returns-in-s4096-clause-none
returns-in-s4096-clause-none c = named c.args.text.now S4096 c.in-s4096.is

pub returns-in-s8192-clause-none : goal.returns-in-s8192-clause-none
returns-in-s8192-clause-none c = named c.args.text.now S8192 c.in-s8192.is

pub returns-in-s16384-clause-none : goal.returns-in-s16384-clause-none
returns-in-s16384-clause-none c = named c.args.text.now S16384 c.in-s16384.is

pub returns-in-one16-clause-named : goal.returns-in-one16-clause-named
returns-in-one16-clause-named c = sym (ap set_named c.in-one16.is ∙ set_named-name_of One16)

pub returns-in-toy16-clause-named : goal.returns-in-toy16-clause-named
returns-in-toy16-clause-named c = sym (ap set_named c.in-toy16.is ∙ set_named-name_of Toy16)

pub returns-in-s4096-clause-named : goal.returns-in-s4096-clause-named
returns-in-s4096-clause-named c = sym (ap set_named c.in-s4096.is ∙ set_named-name_of S4096)

pub returns-in-s8192-clause-named : goal.returns-in-s8192-clause-named
returns-in-s8192-clause-named c = sym (ap set_named c.in-s8192.is ∙ set_named-name_of S8192)

pub returns-in-s16384-clause-named : goal.returns-in-s16384-clause-named
returns-in-s16384-clause-named c = sym (ap set_named c.in-s16384.is ∙ set_named-name_of S16384)

pub returns-in_default-clause-named : goal.returns-in_default-clause-named
returns-in_default-clause-named c =
    let d = c.in_default in sym (no_set_named c.args.text.now d.not-one16 d.not-toy16 d.not-s4096 d.not-s8192 d.not-s16384)
