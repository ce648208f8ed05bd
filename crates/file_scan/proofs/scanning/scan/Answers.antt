use Rattle.std.proofs.Common.{◌∙◌, rules}
use Rattle.outer_io.specs.Store.{contents}
use Rattle.file_model.specs.Fronts.{content_at}
use Rattle.file_scan.proofs.Fronts.{begins-IsHeadOf}
use Rattle.file_scan.proofs.scanning.scan.Goals as goal

pub returns-in-Ok-clause-told : goal.returns-in-Ok-clause-told
returns-in-Ok-clause-told g c = λ files told.
    let bytes = contents files c.args.name.now in
    let head = c.in_ok-head.head in
    let size = (c.in_ok-size.ensures.told files told).ok.1 in
    let front = (c.in_ok-head.ensures.told files (search rules)).ok in
    let body = (c.in-Ok.ensures.told files (search rules)).ok in
    record {
      ok = (front.0, (content_at head.kind head.set bytes, front.1.0.tests ∙ body.1, begins-IsHeadOf c.args.wanted bytes head front.1.0, size.1));
      missing = search rules;
      fault = search rules;
    }
