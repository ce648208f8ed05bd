-- One test before further ones.
use Rattle.std.proofs.Common.{◌≡◌, refl}
use Rattle.std.specs.Prelude.{Bool, true, false, Result, Ok, Err}
use Rattle.file_model.specs.FileText.{FileContent}
use Rattle.file_model.specs.Scan.{test}
use Rattle.file_model.specs.declared.faults.FileFault.{FileFault}

-- the further tests where a test is passed, and its fault where it isn't
pub test_yes : (passes : Bool) (fault : FileFault) (further : Result FileContent FileFault) → passes ≡ true → test passes fault further ≡ further
test_yes true fault further is = refl
test_yes false fault further is = absurd (cc)

pub test_no : (passes : Bool) (fault : FileFault) (further : Result FileContent FileFault) → passes ≡ false → test passes fault further ≡ Err fault
test_no true fault further is = absurd (cc)
test_no false fault further is = refl

-- a test that leads to Ok is passed
pub test_ok : (passes : Bool) (fault : FileFault) (further : Result FileContent FileFault) (content : FileContent)
    → test passes fault further ≡ Ok content → (passes ≡ true) × (further ≡ Ok content)
test_ok true fault further content is = (refl, is)
test_ok false fault further content is = absurd (cc)
