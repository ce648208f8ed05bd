-- What the stages of a scan keep of their faults.
use Rattle.std.proofs.Common.{◌≡◌, ℕ, ◌+◌, ◌*◌, ◌<◌, ◌≤◌, arith, sym, subst}
use Rattle.std.specs.Prelude.{Option, Some, None, IfSome}
use Rattle.std.specs.Option.{option_or}
use Rattle.outer_io.specs.declared.faults.Damage.TheVariants.{Field, Length, Digest, NotReduced, Changed}
use Rattle.file_model.specs.declared.faults.FileFault.{FileFault}
use Rattle.file_model.specs.declared.faults.FileFault.TheVariants.{Missing, Failed, Memory, NotOurs, Version, Kind, Damaged}
use Rattle.file_model.specs.declared.head.Wanted.{Wanted}
use Rattle.file_scan.specs.Scanning.{EndsWithin}
use Rattle.file_model.specs.ScanFaults.{IsScanFault}

-- where bytes end before so many are there, the two lengths differ
pub ends_kept : (wanted : Wanted) (from to want : ℕ) (fault : FileFault) → to ≤ want → EndsWithin from to want fault → IsScanFault wanted fault
ends_kept wanted from to want Missing within ends = tt
ends_kept wanted from to want Failed within ends = tt
ends_kept wanted from to want Memory within ends = tt
ends_kept wanted from to want NotOurs within ends = absurd ends
ends_kept wanted from to want (Version v) within ends = absurd ends
ends_kept wanted from to want (Kind k) within ends = absurd ends
ends_kept wanted from to want (Damaged (Field at)) within ends = absurd ends
ends_kept wanted from to want (Damaged (Length have asked)) within ends =
    let before = ends.1 in
    let asked_is = ends.2 in
    λ same. omega arith
ends_kept wanted from to want (Damaged Digest) within ends = absurd ends
ends_kept wanted from to want (Damaged (NotReduced i)) within ends = absurd ends
ends_kept wanted from to want (Damaged Changed) within ends = absurd ends

-- the first of two numbers is below where the second piece ends
pub below_or : (done count size : ℕ) (before here both : Option ℕ) → size ≡ 8 * count → IfSome before (λ word. word < done)
    → IfSome here (λ word. 8 * word + 8 ≤ 8 * done + size) → both ≡ option_or before here → IfSome both (λ word. word < done + count)
below_or done count size (Some w) here both whole first second is = subst (λ (o : Option ℕ). IfSome o (λ word. word < done + count)) (sym is) (omega arith)
below_or done count size None (Some w) both whole first second is = subst (λ (o : Option ℕ). IfSome o (λ word. word < done + count)) (sym is) (omega arith)
below_or done count size None None both whole first second is = subst (λ (o : Option ℕ). IfSome o (λ word. word < done + count)) (sym is) tt

-- a number that is there is below what bounds it
pub some_below : (found : Option ℕ) (word most : ℕ) → found ≡ Some word → IfSome found (λ w. w < most) → word < most
some_below found word most is below = subst (λ (o : Option ℕ). IfSome o (λ w. w < most)) is below
