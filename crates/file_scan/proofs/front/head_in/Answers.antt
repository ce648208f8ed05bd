use Rattle.file_scan.proofs.front.head_in.Goals as goal

pub returns-in-Some-clause-kept : goal.returns-in-Some-clause-kept
returns-in-Some-clause-kept c = c.fields_in.ensures.kept c.args.wanted
