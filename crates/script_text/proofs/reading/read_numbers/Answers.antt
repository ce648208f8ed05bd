use Rattle.std.proofs.Common.{◌≡◌, ℕ, List, [], ◌∷◌, refl, ap, length, map, nat_lt, rules, tests}
use Rattle.std.proofs.lemmas.Iterator.{items_from_collect, YieldsList-from_map}
use Rattle.std.proofs.lemmas.Iterator.Consumers.{YieldsList-from_filter, YieldsList-at}
use Rattle.std.proofs.lemmas.Iterator.Splits.{YieldsList-from_slice_split}
use Rattle.std.specs.Io.Iter.{u64_saturate}
use Rattle.line_text.specs.Names.{written_number}
use Rattle.script_text.specs.Reading.{is_blank}
use Rattle.script_text.proofs.reading.read_numbers.Goals as goal

-- two maps in turn are one
map-map : (f : ℕ → ℕ) (g : List ℕ → ℕ) (xs : List (List ℕ)) → map f (map g xs) ≡ map (λ x. f (g x)) xs
map-map f g [] = refl
map-map f g (x ∷ xs) = ap (λ (ys : List ℕ). f (g x) ∷ ys) (map-map f g xs)

pub returns : goal.returns
returns c =
    rw map-map (items_from_collect _ c.collect.ensures.ran
    (YieldsList-from_map _ (λ word. u64_saturate (written_number word))
    (YieldsList-at c.map.ensures.source (YieldsList-from_filter _ (λ word. nat_lt 0 (length word))
    (YieldsList-at c.filter.ensures.source (YieldsList-from_slice_split _ is_blank _ c.split.ensures.rest c.split.ensures.done c.split.ensures.closure (λ x b q k. search (rules, tests))))
    c.filter.ensures.closure (λ x b q k. search (rules, tests))))
    c.map.ensures.closure (λ x r q k. search rules)))
