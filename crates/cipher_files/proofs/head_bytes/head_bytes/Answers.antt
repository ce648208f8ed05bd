use Rattle.std.proofs.Common.{◌∙◌, ◌≤◌, ◌++◌, ℕ, List, [], ◌∷◌, sym, ap, length, take, arith, replicate}
use Rattle.std.proofs.lemmas.List.{take_all}
use Rattle.byteorder.specs.Endian.{little_bytes}
use Rattle.set_table.specs.Sets.{number_of}
use Rattle.file_model.specs.FileText.{format_name, head_text, number_of_kind}
use Rattle.cipher_files.proofs.Contents.{eight_pieces}
use Rattle.cipher_files.proofs.head_bytes.head_bytes.Goals as goal

pub returns : goal.returns
unfolding head_text
returns c = λ words count.
    let h = c.args.head.now in
    let size : length c.put-8.new.bytes ≤ 64 = omega arith in
    sym (take_all 64 c.put-8.new.bytes size)
    ∙ eight_pieces c.put.new.bytes c.put-2.new.bytes c.put-3.new.bytes c.put-4.new.bytes c.put-5.new.bytes c.put-6.new.bytes c.put-7.new.bytes c.put-8.new.bytes
    format_name (1 ∷ number_of_kind h.kind ∷ number_of h.set ∷ h.parts ∷ 0 ∷ []) (little_bytes 4 h.element) h.id (little_bytes 4 h.bound.m) (little_bytes 4 h.bound.e) (little_bytes 8 (length words)) (replicate 16 0)
    c.put.ensures.front
    (c.put-2.ensures.front ∙ ap (λ (n : ℕ). take 7 c.put.new.bytes ++ (1 ∷ n ∷ c.number-2.result ∷ h.parts ∷ 0 ∷ [])) c.number.ensures
    ∙ ap (λ (n : ℕ). take 7 c.put.new.bytes ++ (1 ∷ number_of_kind h.kind ∷ n ∷ h.parts ∷ 0 ∷ [])) c.number-2.ensures)
    (c.put-3.ensures.front ∙ ap (λ (l : List ℕ). take 12 c.put-2.new.bytes ++ l) c.to_le_bytes.ensures)
    c.put-4.ensures.front
    (c.put-5.ensures.front ∙ ap (λ (l : List ℕ). take 32 c.put-4.new.bytes ++ l) c.to_le_bytes-2.ensures)
    (c.put-6.ensures.front ∙ ap (λ (l : List ℕ). take 36 c.put-5.new.bytes ++ l) c.to_le_bytes-3.ensures)
    (c.put-7.ensures.front ∙ ap (λ (l : List ℕ). take 40 c.put-6.new.bytes ++ l) (c.to_le_bytes-4.ensures ∙ ap (little_bytes 8) (sym count)))
    c.put-8.ensures.front
