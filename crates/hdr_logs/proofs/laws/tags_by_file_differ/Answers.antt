use Rattle.hdr_logs.proofs.TagsByFile.{no_at, differ}
use Rattle.hdr_logs.proofs.laws.tags_by_file_differ.Goals as goal

pub returns-clause-names : goal.returns-clause-names
returns-clause-names c = no_at

pub returns-clause-tags : goal.returns-clause-tags
returns-clause-tags c = λ name other tag another. differ name other tag another
