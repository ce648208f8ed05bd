use Rattle.std.proofs.Common.{◌≡◌, ℕ, length, nat_lt, ap, ◌∙◌, arith}
use Rattle.std.specs.Vec.{vec_len}
use Rattle.script_text.specs.Drafts.{draft_seen}
use Rattle.script_text.specs.Making.{register_count}
use Rattle.script_text.proofs.Registers.{length-shapes_of}
use Rattle.script_text.proofs.draft.Draft.has_register.Goals as goal

pub returns : goal.returns
returns c =
    let draft = c.args.self.now in
    let count = length-shapes_of draft.inputs.items draft.steps.items in
    let same = ap length c.requires in
    let whole : vec_len draft.shapes ≡ register_count (draft_seen draft) = omega (arith, draft.shapes.ok.0) in
    ap (λ (n : ℕ). nat_lt c.args.register n) (c.len.ensures ∙ whole)
